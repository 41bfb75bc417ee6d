-- Where the lines of a file stop.
use Rattle.std.proofs.Common.{◌≡◌, ◌≢◌, ◌<◌, ◌≤◌, ◌^◌, ◌+◌, ◌-◌, ◌⊎◌, inl, inr, ℕ, zero, suc, List, [], ◌∷◌, ◌++◌, length, refl, sym, ap, ◌∙◌, subst, arith, append-nil, append_assoc, length-append}
use Rattle.std.specs.Prelude.{codes, decimal, map}
use Rattle.std.proofs.lemmas.List.{append_cancel_left, length-map, map-append}
use Rattle.std.proofs.lemmas.List.Concat.{flat_map-append}
use Rattle.std.proofs.lemmas.List.Elements.{All-nil, All-cons, All-append, All-push, All-head, All-tail}
use Rattle.ht_word.specs.Words.{root_word}
use Rattle.ht_pair.specs.declared.row.Row.{Row}
use Rattle.ht_text.specs.Texts.{IsDigitLetter, HasText, HasRowText, HasRowsText, row_text}
use Rattle.ht_text.specs.Files.{row_lines, file_text, IsFile, ended}
use Rattle.ht_text.specs.FileLines.{head_line, group_line, count_line, end_line, file_lines, IsGroupFront, IsCountFront, IsFileHead, IsRowFront, IsNoEnd, HasBehindEnd, LeadsNoFurther}
use Rattle.ht_text.proofs.Numbers.{same_decimal}
use Rattle.ht_text.proofs.LineLaws.{item_within, Excluded, excluded_by_first}
use Rattle.ht_text.proofs.FileLaws.{HasFile, row_lines_are, text_is_lines, Leads, leads_begin, leads_no_further}

-- the row from the root 1 to itself
abbrev root_row : Row
root_row = record { from = root_word 1; to = root_word 1 }

root_row_text : HasRowText root_row
root_row_text = record { from = root_text; to = root_text }
  where
    root_text : HasText (root_word 1)
    root_text = record { root_low = omega arith; root_high = omega arith; letters = All-nil IsDigitLetter }

-- some rows that have texts
record Filler (k : ℕ) : Type 0 where
  pub rows : List Row
  pub number : length rows ≡ k
  pub have_texts : HasRowsText rows

filler : (k : ℕ) → Filler k
filler zero = record { rows = []; number = refl; have_texts = All-nil HasRowText }
filler (suc k) =
    let h = filler k in
    let number : length h.rows ≡ k = h.number in
    record { rows = root_row ∷ h.rows; number = omega arith; have_texts = All-cons HasRowText root_row h.rows root_row_text h.have_texts }

-- the first lines of a file of k rows, and lines of rows
abbrev pub front_lines : ℕ → ℕ → ℕ → List Row → List (List ℕ)
front_lines n r k rows = head_line ∷ group_line n r ∷ count_line k ∷ map row_text rows

-- numbers that a file may have
pub record AreNumbers (n r k : ℕ) : Type 0 where
  pub n_small : n < 10 ^ 4
  pub r_small : r < 10 ^ 4
  pub some : 1 ≤ k
  pub few : k < 10 ^ 6

-- such lines lead a file where they aren't too many
pub front_leads : (n r k : ℕ) (rows : List Row) → AreNumbers n r k → HasRowsText rows → length rows ≤ k → Leads (front_lines n r k rows)
front_leads n r k rows h have within =
    let fill = filler (k - length rows) in
    let behind : length fill.rows ≡ k - length rows = fill.number in
    let whole : length (rows ++ fill.rows) ≡ k = omega (arith, length-append rows fill.rows) in
    let some : 1 ≤ k = h.some in
    let few : k < 10 ^ 6 = h.few in
    record {
      n = n;
      r = r;
      rows = rows ++ fill.rows;
      files = record { n_small = h.n_small; r_small = h.r_small; some = omega arith; few = omega arith; have_texts = All-append HasRowText rows fill.rows have fill.have_texts };
      more = map row_text fill.rows ++ end_line ∷ [];
      are =
          ap (λ j. head_line ∷ group_line n r ∷ count_line j ∷ map row_text (rows ++ fill.rows) ++ end_line ∷ []) whole
          ∙ ap (λ t. head_line ∷ group_line n r ∷ count_line k ∷ t ++ end_line ∷ []) (map-append row_text rows fill.rows)
          ∙ ap (λ t. head_line ∷ group_line n r ∷ count_line k ∷ t) (append_assoc (map row_text rows) (map row_text fill.rows) (end_line ∷ []));
    }

-- all lines of a file lead one
pub end_leads : (n r k : ℕ) (rows : List Row) → AreNumbers n r k → HasRowsText rows → length rows ≡ k → Leads (front_lines n r k rows ++ end_line ∷ [])
end_leads n r k rows h have whole = record {
  n = n;
  r = r;
  rows = rows;
  files = record { n_small = h.n_small; r_small = h.r_small; some = subst (λ j. 1 ≤ j) (sym whole) h.some; few = subst (λ j. j < 10 ^ 6) (sym whole) h.few; have_texts = have };
  more = [];
  are = ap (λ j. head_line ∷ group_line n r ∷ count_line j ∷ map row_text rows ++ end_line ∷ []) whole ∙ sym (append-nil (head_line ∷ group_line n r ∷ count_line k ∷ map row_text rows ++ end_line ∷ []));
}

-- the numbers 0, 0 and 1
small_numbers : AreNumbers 0 0 1
small_numbers = record { n_small = omega arith; r_small = omega arith; some = omega arith; few = omega arith }

-- no list that ends with an item is empty
some_lines : (lines : List (List ℕ)) (last : List ℕ) → lines ++ last ∷ [] ≢ []
some_lines lines last e = item_within lines [] last e

-- without the first line there is none
pub stop_at_head : (bytes : List ℕ) → ((rest : List ℕ) → bytes ≢ codes "ht-element 1\n" ++ rest) → LeadsNoFurther bytes 0
stop_at_head bytes none =
    leads_no_further bytes [] bytes refl (leads_begin [] (front_lines 0 0 1 []) (front_leads 0 0 1 [] small_numbers (All-nil HasRowText) (omega arith)))
    (λ n r rows more h e. subst (Excluded bytes) e (λ behind. none behind))

-- without a second line there is one
pub stop_at_group : (bytes text : List ℕ) → bytes ≡ codes "ht-element 1\n" ++ text → ((n r : ℕ) (rest : List ℕ) → ¬ IsGroupFront text n r rest) → LeadsNoFurther bytes 1
stop_at_group bytes text e none =
    leads_no_further bytes (head_line ∷ []) text e
    (leads_begin (head_line ∷ []) (group_line 0 0 ∷ count_line 1 ∷ []) (front_leads 0 0 1 [] small_numbers (All-nil HasRowText) (omega arith)))
    (λ n r rows more h are.
    let behind : group_line n r ∷ count_line (length rows) ∷ map row_text rows ++ end_line ∷ [] ≡ more = cc in
    subst (Excluded text) behind (λ rest is. none n r rest (record { n_small = h.n_small; r_small = h.r_small; is = is })))

-- without a third line there are two
pub stop_at_count : (bytes text rest : List ℕ) (n r : ℕ) → bytes ≡ codes "ht-element 1\n" ++ text → IsGroupFront text n r rest → ((k : ℕ) (behind : List ℕ) → ¬ IsCountFront rest k behind)
    → LeadsNoFurther bytes 2
stop_at_count bytes text rest n r e g none =
    leads_no_further bytes (head_line ∷ group_line n r ∷ []) rest
    (e ∙ ap (λ t. codes "ht-element 1\n" ++ t) (g.is ∙ sym (append_assoc (group_line n r) (10 ∷ []) rest) ∙ ap (λ t. t ++ rest) (sym (append-nil (group_line n r ++ 10 ∷ [])))))
    (leads_begin (head_line ∷ group_line n r ∷ []) (count_line 1 ∷ [])
    (front_leads n r 1 [] (record { n_small = g.n_small; r_small = g.r_small; some = omega arith; few = omega arith }) (All-nil HasRowText) (omega arith)))
    (λ m s rows more h are.
    let behind : count_line (length rows) ∷ map row_text rows ++ end_line ∷ [] ≡ more = cc in
    subst (Excluded rest) behind
    (excluded_by_first rest (count_line (length rows)) (map row_text rows ++ end_line ∷ []) (some_lines (map row_text rows) end_line)
    (λ after is. none (length rows) after (record { some = h.some; few = h.few; is = is }))))

-- the numbers of a head
pub head_numbers : (bytes : List ℕ) (n r k : ℕ) (text : List ℕ) → IsFileHead bytes n r k text → AreNumbers n r k
head_numbers bytes n r k text h = record { n_small = h.n_small; r_small = h.r_small; some = h.some; few = h.few }

-- the rows of lines that were read, and the rest of the bytes
pub record HasReadLines (text : List ℕ) (rows : List Row) (rest : List ℕ) : Type 0 where
  pub have_texts : HasRowsText rows
  pub is : text ≡ row_lines rows ++ rest

-- one more line was read
pub line_read : (text : List ℕ) (rows : List Row) (rest : List ℕ) (row : Row) (behind : List ℕ) → HasReadLines text rows rest → IsRowFront rest row behind → HasReadLines text (rows ++ row ∷ []) behind
line_read text rows rest row behind h g = record {
  have_texts = All-push HasRowText rows row h.have_texts g.has_text;
  is =
      h.is ∙ ap (λ t. row_lines rows ++ t) (g.is ∙ sym (append_assoc (row_text row) (10 ∷ []) behind)) ∙ sym (append_assoc (row_lines rows) (row_text row ++ 10 ∷ []) behind)
      ∙ ap (λ t. t ++ behind) (ap (λ t. row_lines rows ++ t) (sym (append-nil (row_text row ++ 10 ∷ []))) ∙ sym (flat_map-append (λ (x : Row). row_text x ++ 10 ∷ []) rows (row ∷ [])));
}

-- `front_bytes`, over the parts
regroup_front : (a b c d e : List ℕ) → (a ++ (b ++ (c ++ d))) ++ e ≡ a ++ (b ++ (c ++ (d ++ e)))
regroup_front a b c d e = simp append_assoc

-- the bytes are the lines of the head and of the rows, and the rest
pub front_bytes : (bytes : List ℕ) (n r k : ℕ) (text : List ℕ) (rows : List Row) (rest : List ℕ) → IsFileHead bytes n r k text → HasReadLines text rows rest → bytes ≡ ended (front_lines n r k rows) ++ rest
front_bytes bytes n r k text rows rest h g =
    h.is ∙ ap (λ t. (head_line ++ codes "\n") ++ ((group_line n r ++ codes "\n") ++ ((count_line k ++ codes "\n") ++ t))) (g.is ∙ ap (λ t. t ++ rest) (row_lines_are rows))
    ∙ sym (regroup_front (head_line ++ codes "\n") (group_line n r ++ codes "\n") (count_line k ++ codes "\n") (ended (map row_text rows)) rest)

-- a file that goes on such lines has k rows
pub record GoesBehind (k : ℕ) (rows : List Row) (more : List (List ℕ)) (all : List Row) : Type 0 where
  pub number : length all ≡ k
  pub lines : map row_text all ++ end_line ∷ [] ≡ map row_text rows ++ more

goes_behind : (n r k : ℕ) (rows : List Row) (more : List (List ℕ)) (m s : ℕ) (all : List Row) → k < 10 ^ 6 → HasFile m s all → file_lines m s all ≡ front_lines n r k rows ++ more → GoesBehind k rows more all
goes_behind n r k rows more m s all few h e =
    let third : count_line (length all) ≡ count_line k = cc in
    record {
      number = same_decimal (length all) k h.few few (append_cancel_left (codes "rows ") (decimal (length all)) (decimal k) third);
      lines = cc;
    }

-- more lines, the first of which is a row's
record HasRowFirst (more : List (List ℕ)) : Type 0 where
  pub row : Row
  pub has_text : HasRowText row
  pub others : List (List ℕ)
  pub some : others ≢ []
  pub are : row_text row ∷ others ≡ more

-- behind too few rows there is a row
row_first : (rows all : List Row) (more : List (List ℕ)) → length rows < length all → HasRowsText all → map row_text all ++ end_line ∷ [] ≡ map row_text rows ++ more → HasRowFirst more
row_first rows [] more few have e = absurd (omega arith)
row_first [] (row ∷ all) more few have e = record {
  row = row;
  has_text = All-head HasRowText row all have;
  others = map row_text all ++ end_line ∷ [];
  some = some_lines (map row_text all) end_line;
  are = e;
}
row_first (first ∷ rows) (row ∷ all) more few have e =
    let tail : map row_text all ++ end_line ∷ [] ≡ map row_text rows ++ more = cc in row_first rows all more (omega arith) (All-tail HasRowText row all have) tail

-- behind all rows there is the last line
last_line : (rows all : List Row) (more : List (List ℕ)) → length all ≡ length rows → map row_text all ++ end_line ∷ [] ≡ map row_text rows ++ more → end_line ∷ [] ≡ more
last_line [] [] more same e = e
last_line [] (row ∷ all) more same e = absurd (omega arith)
last_line (first ∷ rows) [] more same e = absurd (omega arith)
last_line (first ∷ rows) (row ∷ all) more same e =
    let tail : map row_text all ++ end_line ∷ [] ≡ map row_text rows ++ more = cc in last_line rows all more (omega arith) tail

-- the number of these lines
front_number : (n r k : ℕ) (rows : List Row) → length (front_lines n r k rows) ≡ length rows + 3
front_number n r k rows = omega (arith, length-map rows row_text)

-- without the line of a row there are those before it
pub stop_at_row : (bytes : List ℕ) (n r k : ℕ) (text : List ℕ) (rows : List Row) (rest : List ℕ) → IsFileHead bytes n r k text → HasReadLines text rows rest → length rows < k
    → ((row : Row) (behind : List ℕ) → ¬ IsRowFront rest row behind) → LeadsNoFurther bytes (length rows + 3)
stop_at_row bytes n r k text rows rest h g few none =
    subst (λ j. LeadsNoFurther bytes j) (front_number n r k rows)
    (leads_no_further bytes (front_lines n r k rows) rest (front_bytes bytes n r k text rows rest h g)
    (front_leads n r k rows (head_numbers bytes n r k text h) g.have_texts (omega arith))
    (λ m s all more file e.
    let behind = goes_behind n r k rows more m s all h.few file e in
    let number : length all ≡ k = behind.number in
    let first = row_first rows all more (omega arith) file.have_texts behind.lines in
    subst (Excluded rest) first.are
    (excluded_by_first rest (row_text first.row) first.others first.some (λ after is. none first.row after (record { has_text = first.has_text; is = is })))))

-- without the last line there are those of the rows
pub stop_at_end : (bytes : List ℕ) (n r k : ℕ) (text : List ℕ) (rows : List Row) (rest : List ℕ) → IsFileHead bytes n r k text → HasReadLines text rows rest → length rows ≡ k → IsNoEnd rest
    → LeadsNoFurther bytes (length rows + 3)
stop_at_end bytes n r k text rows rest h g whole none =
    subst (λ j. LeadsNoFurther bytes j) (front_number n r k rows)
    (leads_no_further bytes (front_lines n r k rows) rest (front_bytes bytes n r k text rows rest h g)
    (front_leads n r k rows (head_numbers bytes n r k text h) g.have_texts (omega arith))
    (λ m s all more file e.
    let behind = goes_behind n r k rows more m s all h.few file e in
    subst (Excluded rest) (last_line rows all more (behind.number ∙ sym whole) behind.lines) (none.not_bare, none.not_ended)))

-- with more behind the last line there are all
pub stop_behind_end : (bytes : List ℕ) (n r k : ℕ) (text : List ℕ) (rows : List Row) (rest : List ℕ) → IsFileHead bytes n r k text → HasReadLines text rows rest → length rows ≡ k → HasBehindEnd rest
    → LeadsNoFurther bytes (length rows + 4)
stop_behind_end bytes n r k text rows rest h g whole after =
    let count : length (front_lines n r k rows ++ end_line ∷ []) ≡ length rows + 4 = omega (arith, length-append (front_lines n r k rows) (end_line ∷ []), front_number n r k rows) in
    subst (λ j. LeadsNoFurther bytes j) count
    (leads_no_further bytes (front_lines n r k rows ++ end_line ∷ []) after.behind
    (front_bytes bytes n r k text rows rest h g ∙ ap (λ t. ended (front_lines n r k rows) ++ t) after.is ∙ sym (append_assoc (ended (front_lines n r k rows)) (codes "end\n") after.behind)
    ∙ ap (λ t. t ++ after.behind) (sym (flat_map-append (λ line. line ++ 10 ∷ []) (front_lines n r k rows) (end_line ∷ []))))
    (end_leads n r k rows (head_numbers bytes n r k text h) g.have_texts whole)
    (λ m s all more file e.
    let behind = goes_behind n r k rows (end_line ∷ more) m s all h.few file (e ∙ append_assoc (front_lines n r k rows) (end_line ∷ []) more) in
    let last : end_line ∷ [] ≡ end_line ∷ more = last_line rows all (end_line ∷ more) (behind.number ∙ sym whole) behind.lines in
    let none : [] ≡ more = cc in
    subst (Excluded after.behind) none after.some))

-- the end of a file behind all rows makes one
pub whole_file : (bytes : List ℕ) (n r k : ℕ) (text : List ℕ) (rows : List Row) (rest : List ℕ) → IsFileHead bytes n r k text → HasReadLines text rows rest → length rows ≡ k
    → (rest ≡ end_line) ⊎ (rest ≡ end_line ++ 10 ∷ []) → IsFile bytes n r rows
whole_file bytes n r k text rows rest h g whole last = record {
  n_small = h.n_small;
  r_small = h.r_small;
  some = subst (λ j. 1 ≤ j) (sym whole) h.some;
  few = subst (λ j. j < 10 ^ 6) (sym whole) h.few;
  have_texts = g.have_texts;
  is = elim last [
    | inl e ↦ inr (ap (λ t. t ++ 10 ∷ []) (front ∙ ap (λ t. ended (front_lines n r k rows) ++ t) e) ∙ append_assoc (ended (front_lines n r k rows)) end_line (10 ∷ []) ∙ all)
    | inr e ↦ inl (front ∙ ap (λ t. ended (front_lines n r k rows) ++ t) e ∙ all)
  ];
}
  where
    front : bytes ≡ ended (front_lines n r k rows) ++ rest
    front = front_bytes bytes n r k text rows rest h g

    all : ended (front_lines n r k rows) ++ codes "end\n" ≡ file_text n r rows
    all =
        sym (flat_map-append (λ line. line ++ 10 ∷ []) (front_lines n r k rows) (end_line ∷ []))
        ∙ ap (λ j. ended (front_lines n r j rows ++ end_line ∷ [])) (sym whole) ∙ sym (text_is_lines n r rows)
