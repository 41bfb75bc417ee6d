-- How far lines lead a file.
use Rattle.std.proofs.Common.{◌≡◌, ◌≢◌, ◌<◌, ◌≤◌, ◌^◌, ◌⊎◌, inl, inr, ℕ, List, [], ◌∷◌, ◌++◌, All, length, refl, sym, ap, ◌∙◌, subst, arith, append-nil, append_assoc, length-append, rules}
use Rattle.std.specs.Prelude.{codes, decimal, map}
use Rattle.std.proofs.lemmas.Bool.{cases_lt}
use Rattle.std.proofs.lemmas.List.{get_or_append_left}
use Rattle.std.proofs.lemmas.List.Concat.{flat_map-append}
use Rattle.std.proofs.lemmas.List.Elements.{All-cons, All-map, All-push, All-from_recursion}
use Rattle.ht_pair.specs.declared.row.Row.{Row}
use Rattle.ht_text.specs.Texts.{HasRowsText, row_text}
use Rattle.ht_text.specs.Files.{row_lines, file_text, IsFile, IsFileText, ended, AreOneLine, LeadsFile}
use Rattle.ht_text.specs.FileLines.{head_line, group_line, count_line, end_line, file_lines, LeadsNoFurther}
use Rattle.ht_text.proofs.Cuts.{IsFree, free_one, free_append}
use Rattle.ht_text.proofs.Numbers.{digits_free}
use Rattle.ht_text.proofs.LineLaws.{goes_on, Excluded, not_whole, not_bare, not_longer}
use Rattle.ht_text.proofs.FileFronts.{number_free, row_one_line}

-- numbers and rows that have a file
pub record HasFile (n r : ℕ) (rows : List Row) : Type 0 where
  pub n_small : n < 10 ^ 4
  pub r_small : r < 10 ^ 4
  pub some : 1 ≤ length rows
  pub few : length rows < 10 ^ 6
  pub have_texts : HasRowsText rows

-- the numbers and rows of a file have one
pub has_file : (bytes : List ℕ) (n r : ℕ) (rows : List Row) → IsFile bytes n r rows → HasFile n r rows
has_file bytes n r rows h = record { n_small = h.n_small; r_small = h.r_small; some = h.some; few = h.few; have_texts = h.have_texts }

-- the lines of rows are lines
pub row_lines_are : (rows : List Row) → row_lines rows ≡ ended (map row_text rows)
row_lines_are [] = refl
row_lines_are (row ∷ rows) = ap (λ t. (row_text row ++ 10 ∷ []) ++ t) (row_lines_are rows)

-- the lines of rows, and the last line
rows_and_end : (rows : List Row) → ended (map row_text rows ++ end_line ∷ []) ≡ row_lines rows ++ codes "end\n"
rows_and_end rows = flat_map-append (λ line. line ++ 10 ∷ []) (map row_text rows) (end_line ∷ []) ∙ ap (λ t. t ++ codes "end\n") (sym (row_lines_are rows))

-- `text_is_lines`, over the parts
regroup : (a n r k rows end : List ℕ)
    → ((((((((a ++ n) ++ codes " ") ++ r) ++ codes "\nrows ") ++ k) ++ codes "\n") ++ rows) ++ end) ≡ a ++ (n ++ (codes " " ++ (r ++ (codes "\nrows " ++ (k ++ (codes "\n" ++ (rows ++ end)))))))
regroup a n r k rows end = simp append_assoc

-- `regroup`, from the second line
regroup_group : (g n s r f rest : List ℕ) → ((((g ++ n) ++ s) ++ r) ++ f) ++ rest ≡ g ++ (n ++ (s ++ (r ++ (f ++ rest))))
regroup_group g n s r f rest = simp append_assoc

-- `regroup`, from the third line
regroup_count : (c k f rest : List ℕ) → ((c ++ k) ++ f) ++ rest ≡ c ++ (k ++ (f ++ rest))
regroup_count c k f rest = simp append_assoc

-- `regroup`, from the lines
regroup_lines : (n r k rest : List ℕ)
    → (head_line ++ codes "\n") ++ (((((codes "group " ++ n) ++ codes " ") ++ r) ++ codes "\n") ++ (((codes "rows " ++ k) ++ codes "\n") ++ rest))
    ≡ codes "ht-element 1\ngroup " ++ (n ++ (codes " " ++ (r ++ (codes "\nrows " ++ (k ++ (codes "\n" ++ rest))))))
regroup_lines n r k rest =
    ap (λ t. (head_line ++ codes "\n") ++ t)
    (regroup_group (codes "group ") n (codes " ") r (codes "\n") (((codes "rows " ++ k) ++ codes "\n") ++ rest)
    ∙ ap (λ t. codes "group " ++ (n ++ (codes " " ++ (r ++ (codes "\n" ++ t))))) (regroup_count (codes "rows ") k (codes "\n") rest))

-- the text of a file is its lines
pub text_is_lines : (n r : ℕ) (rows : List Row) → file_text n r rows ≡ ended (file_lines n r rows)
text_is_lines n r rows =
    regroup (codes "ht-element 1\ngroup ") (decimal n) (decimal r) (decimal (length rows)) (row_lines rows) (codes "end\n")
    ∙ sym (regroup_lines (decimal n) (decimal r) (decimal (length rows)) (row_lines rows ++ codes "end\n"))
    ∙ ap (λ t. (head_line ++ codes "\n") ++ ((group_line n r ++ codes "\n") ++ ((count_line (length rows) ++ codes "\n") ++ t))) (sym (rows_and_end rows))

-- the words of the lines hold no line feed
head_free : IsFree 10 head_line
head_free = All-from_recursion (λ b. b ≢ 10) head_line (search rules)

group_free : IsFree 10 (codes "group ")
group_free = All-from_recursion (λ b. b ≢ 10) (codes "group ") (search rules)

count_free : IsFree 10 (codes "rows ")
count_free = All-from_recursion (λ b. b ≢ 10) (codes "rows ") (search rules)

end_free : IsFree 10 end_line
end_free = All-from_recursion (λ b. b ≢ 10) end_line (search rules)

-- no line of a file holds a line feed
pub lines_free : (n r : ℕ) (rows : List Row) → HasFile n r rows → AreOneLine (file_lines n r rows)
lines_free n r rows h =
    All-cons (IsFree 10) head_line (group_line n r ∷ count_line (length rows) ∷ map row_text rows ++ end_line ∷ []) head_free
    (All-cons (IsFree 10) (group_line n r) (count_line (length rows) ∷ map row_text rows ++ end_line ∷ []) second
    (All-cons (IsFree 10) (count_line (length rows)) (map row_text rows ++ end_line ∷ []) third
    (All-push (IsFree 10) (map row_text rows) end_line (All-map (IsFree 10) row_text rows (λ k d l. row_one_line _ (h.have_texts k d l))) end_free)))
  where
    second : IsFree 10 (group_line n r)
    second =
        free_append 10 ((codes "group " ++ decimal n) ++ 32 ∷ []) (decimal r)
        (free_append 10 (codes "group " ++ decimal n) (32 ∷ []) (free_append 10 (codes "group ") (decimal n) group_free (number_free 10 n h.n_small (omega arith))) (free_one 10 32 (λ e. absurd (omega arith))))
        (number_free 10 r h.r_small (omega arith))

    third : IsFree 10 (count_line (length rows))
    third =
        free_append 10 (codes "rows ") (decimal (length rows)) count_free
        (digits_free 10 6 (decimal (length rows)) (length rows) (omega arith) (record { small = h.few; is = refl }) (λ r. absurd (omega arith)))

-- what holds of all items holds of those of a front
front_all : {X : Type 0} (P : X → Type 0) (xs ys : List X) → All P (xs ++ ys) → All P xs
front_all P xs ys all = λ k d l. subst P (get_or_append_left xs ys d k l) (all k d (omega (arith, length-append xs ys)))

-- lines that some file begins with
pub record Leads (lines : List (List ℕ)) : Type 0 where
  pub n : ℕ
  pub r : ℕ
  pub rows : List Row
  pub files : HasFile n r rows
  pub more : List (List ℕ)
  pub are : file_lines n r rows ≡ lines ++ more

-- none of them holds a line feed
pub leads_one_line : (lines : List (List ℕ)) → Leads lines → AreOneLine lines
leads_one_line lines h = front_all (IsFree 10) lines h.more (subst AreOneLine h.are (lines_free h.n h.r h.rows h.files))

-- a front of such lines are such lines
pub leads_begin : (lines others : List (List ℕ)) → Leads (lines ++ others) → Leads lines
leads_begin lines others h =
    record { n = h.n; r = h.r; rows = h.rows; files = h.files; more = others ++ h.more; are = h.are ∙ append_assoc lines others h.more }

-- bytes that begin with such lines lead some file
file_leads : (bytes : List ℕ) (lines : List (List ℕ)) (rest : List ℕ) → bytes ≡ ended lines ++ rest → Leads lines → LeadsFile bytes (length lines)
file_leads bytes lines rest e h = record {
  lines = lines;
  one_line = leads_one_line lines h;
  number = refl;
  rest = rest;
  are = e;
  more = ended h.more;
  leads = record {
    n = h.n;
    r = h.r;
    rows = h.rows;
    is_file = record {
      n_small = h.files.n_small;
      r_small = h.files.r_small;
      some = h.files.some;
      few = h.files.few;
      have_texts = h.files.have_texts;
      is = inl (sym (flat_map-append (λ line. line ++ 10 ∷ []) lines h.more) ∙ ap (λ t. ended t) (sym h.are) ∙ sym (text_is_lines h.n h.r h.rows));
    };
  };
}

-- the lines of a file go on whole lines at its begin, and are what is behind these, with or without the last line feed
pub record FileGoesOn (lines : List (List ℕ)) (rest : List ℕ) (n r : ℕ) (rows : List Row) : Type 0 where
  pub more : List (List ℕ)
  pub is : file_lines n r rows ≡ lines ++ more
  pub bytes : (rest ≡ ended more ++ []) ⊎ (rest ++ 10 ∷ [] ≡ ended more ++ [])

pub file_goes_on : (lines : List (List ℕ)) (rest : List ℕ) (n r : ℕ) (rows : List Row) → AreOneLine lines → IsFile (ended lines ++ rest) n r rows → FileGoesOn lines rest n r rows
file_goes_on lines rest n r rows free h = elim h.is [
  | inl e ↦
      let on = goes_on lines (file_lines n r rows) rest [] free all (inr refl) (e ∙ whole) in
      record { more = on.more; is = on.is; bytes = inl on.bytes }
  | inr e ↦
      let on = goes_on lines (file_lines n r rows) (rest ++ 10 ∷ []) [] free all (inr refl) (sym (append_assoc (ended lines) rest (10 ∷ [])) ∙ e ∙ whole) in
      record { more = on.more; is = on.is; bytes = inr on.bytes }
]
  where
    all : AreOneLine (file_lines n r rows)
    all = lines_free n r rows (has_file (ended lines ++ rest) n r rows h)

    whole : file_text n r rows ≡ ended (file_lines n r rows) ++ []
    whole = text_is_lines n r rows ∙ sym (append-nil (ended (file_lines n r rows)))

-- behind the lines no file goes on as the rest does
abbrev pub Stops : List (List ℕ) → List ℕ → Type 0
Stops lines rest = (n r : ℕ) (rows : List Row) (more : List (List ℕ)) → HasFile n r rows → file_lines n r rows ≡ lines ++ more → Excluded rest more

-- then the bytes are no file
no_file : (bytes : List ℕ) (lines : List (List ℕ)) (rest : List ℕ) → AreOneLine lines → bytes ≡ ended lines ++ rest → Stops lines rest → ¬ IsFileText bytes
no_file bytes lines rest free e stops h =
    let on = file_goes_on lines rest h.n h.r h.rows free (subst (λ t. IsFile t h.n h.r h.rows) e h.is_file) in
    let out = stops h.n h.r h.rows on.more (has_file bytes h.n h.r h.rows h.is_file) on.is in
    elim on.bytes [ inl b ↦ not_whole rest on.more out b | inr b ↦ not_bare rest on.more out b ]

-- nor do more of their lines lead one
no_more : (bytes : List ℕ) (lines : List (List ℕ)) (rest : List ℕ) (j : ℕ) → AreOneLine lines → bytes ≡ ended lines ++ rest → Stops lines rest → LeadsFile bytes j → ¬ (length lines < j)
no_more bytes lines rest j free e stops h longer =
    let number : length h.lines ≡ j = h.number in
    let on = goes_on lines h.lines rest h.rest free h.one_line (inl (omega arith)) (sym e ∙ h.are) in
    let file = file_goes_on h.lines h.more h.leads.n h.leads.r h.leads.rows h.one_line h.leads.is_file in
    let some : 0 < length on.more = omega (arith, ap length on.is, length-append lines on.more) in
    not_longer rest h.rest on.more file.more some
    (stops h.leads.n h.leads.r h.leads.rows (on.more ++ file.more) (has_file (ended h.lines ++ h.more) h.leads.n h.leads.r h.leads.rows h.leads.is_file)
    (file.is ∙ ap (λ t. t ++ file.more) on.is ∙ append_assoc lines on.more file.more))
    on.bytes

-- so the bytes lead no further than these lines
pub leads_no_further : (bytes : List ℕ) (lines : List (List ℕ)) (rest : List ℕ) → bytes ≡ ended lines ++ rest → Leads lines → Stops lines rest → LeadsNoFurther bytes (length lines)
leads_no_further bytes lines rest e h stops =
    let free = leads_one_line lines h in
    record {
      no_file = no_file bytes lines rest free e stops;
      leads = file_leads bytes lines rest e h;
      greatest = λ j leads. elim (cases_lt (length lines) j) [ inl longer ↦ absurd (no_more bytes lines rest j free e stops leads longer) | inr fewer ↦ fewer ];
    }
