-- Entries of a map: what is bound to names, with the elements and with their rows.
use Rattle.std.proofs.Common.{◌≡◌, ◌≢◌, ◌<◌, ◌↔◌, ◌∙◌, ℕ, suc, ◌+◌, ◌⊎◌, List, [], ◌∷◌, ◌++◌, length, take, Bool, true, false, refl, ap, sym, subst, inl, inr, Option, Some, None, IsTrue, Result, Ok, Err, IsOk, OnOk, OnErr, MatchOption, Bor}
use Rattle.std.specs.Prelude.{nat_eq, if◌then◌else◌}
use Rattle.std.specs.Option.{option_copied, is_some}
use Rattle.std.specs.Cmp.Lexicographic.{pointwise, bytes_decides}
use Rattle.std.specs.Map.{set_value}
use Rattle.std.proofs.Math.Seq.{take-append_seam}
use Rattle.std.proofs.lemmas.List.{length-append, length-map}
use Rattle.std.proofs.lemmas.List.Elements.{All-nil, All-cons, All-head, All-tail}
use Rattle.indexmap.specs.IndexMap.{insert_entry}
use Rattle.ht_word.specs.declared.word.Word.{Word}
use Rattle.ht_word.specs.declared.shape.Shape.{Shape}
use Rattle.ht_word.specs.Words.{IsWordOf}
use Rattle.ht_pair.specs.declared.row.Row.{Row}
use Rattle.ht_pair.specs.Elements.{ElementValue}
use Rattle.ht_calc.specs.Names.{rows_by_name, IsOfShape, AreOfShape, bound, bind, AreBound, IsFirstUnbound, HasRoom, HasRoomFor}

-- the rows of an element, if there is one
abbrev pub rows_of : Option ElementValue → Option (List Row)
rows_of None = None
rows_of (Some element) = Some (element.rows)

bound_at : (b : Bool) (element : ElementValue) (rest : Option (List Row)) (found : Option ElementValue) → rest ≡ rows_of found
    → (if b then Some (element.rows) else rest) ≡ rows_of (if b then Some element else found)
bound_at true element rest found e = refl
bound_at false element rest found e = e

-- the rows that are bound to a name are those of its element
pub bound_rows : (entries : List (List ℕ × ElementValue)) (name : List ℕ) → bound (rows_by_name entries) name ≡ rows_of (bound entries name)
bound_rows [] name = refl
bound_rows (entry ∷ entries) name = bound_at (pointwise nat_eq name entry.0) entry.1 (bound (rows_by_name entries) name) (bound entries name) (bound_rows entries name)

-- a look-up finds the element that is bound
pub bound_found : (looked : Option ElementValue) (found : Option (Bor ElementValue)) → option_copied found ≡ looked → MatchOption found (looked ≡ None) (λ element. looked ≡ Some (element.now))
bound_found looked None e = sym e
bound_found looked (Some element) e = sym e

inserted_at : (b : Bool) (entry : List ℕ × ElementValue) (entries others more : List (List ℕ × ElementValue)) (element : ElementValue) → others ≡ more
    → (if b then (entry.0, element) ∷ entries else entry ∷ others) ≡ (if b then (entry.0, element) ∷ entries else entry ∷ more)
inserted_at true entry entries others more element e = refl
inserted_at false entry entries others more element e = ap (λ names. entry ∷ names) e

-- an entry that is inserted binds its name
pub inserted : (entries : List (List ℕ × ElementValue)) (name : List ℕ) (element : ElementValue) → insert_entry (pointwise nat_eq) entries name element ≡ bind entries name element
inserted [] name element = refl
inserted (entry ∷ entries) name element = inserted_at (pointwise nat_eq name entry.0) entry entries (insert_entry (pointwise nat_eq) entries name element) (bind entries name element) element (inserted entries name element)

written_at : (b : Bool) (entry : List ℕ × ElementValue) (entries others more : List (List ℕ × ElementValue)) (found : Option ElementValue) (element old : ElementValue)
    → (if b then Some entry.1 else found) ≡ Some old → (found ≡ Some old → others ≡ more)
    → (if b then (entry.0, element) ∷ entries else entry ∷ others) ≡ (if b then (entry.0, element) ∷ entries else entry ∷ more)
written_at true entry entries others more found element old is rest = refl
written_at false entry entries others more found element old is rest = ap (λ names. entry ∷ names) (rest is)

-- a name that is bound gets its new element where it stands
pub written : (entries : List (List ℕ × ElementValue)) (name : List ℕ) (element old : ElementValue) → bound entries name ≡ Some old → set_value (pointwise nat_eq name) entries element ≡ bind entries name element
written [] name element old found = cc
written (entry ∷ entries) name element old found =
    written_at (pointwise nat_eq name entry.0) entry entries (set_value (pointwise nat_eq name) entries element) (bind entries name element) (bound entries name) element old found (written entries name element old)

bind_rows_at : (b : Bool) (entry : List ℕ × ElementValue) (entries others : List (List ℕ × ElementValue)) (more : List (List ℕ × List Row)) (element : ElementValue) → rows_by_name others ≡ more
    → rows_by_name (if b then (entry.0, element) ∷ entries else entry ∷ others) ≡ (if b then (entry.0, element.rows) ∷ rows_by_name entries else (entry.0, entry.1.rows) ∷ more)
bind_rows_at true entry entries others more element e = refl
bind_rows_at false entry entries others more element e = ap (λ names. (entry.0, entry.1.rows) ∷ names) e

-- where an element is bound, its rows are
pub bind_rows : (entries : List (List ℕ × ElementValue)) (name : List ℕ) (element : ElementValue) → rows_by_name (bind entries name element) ≡ bind (rows_by_name entries) name element.rows
bind_rows [] name element = refl
bind_rows (entry ∷ entries) name element = bind_rows_at (pointwise nat_eq name entry.0) entry entries (bind entries name element) (bind (rows_by_name entries) name element.rows) element (bind_rows entries name element)

-- there is an element where there are rows
pub bound_somewhere : (found : Option ElementValue) → (rows_of found ≢ None) ↔ (found ≢ None)
bound_somewhere None = ((λ some e. some refl), (λ some e. some refl))
bound_somewhere (Some element) = ((λ some e. cc), (λ some e. cc))

-- there is as much room by the elements as by their rows
pub same_room : (entries : List (List ℕ × ElementValue)) (name : List ℕ) → HasRoom (rows_by_name entries) name ↔ HasRoom entries name
same_room entries name = (
  (λ room. elim room [
    | inl some ↦ inl ((bound_somewhere (bound entries name)).0 (subst (λ (t : Option (List Row)). t ≢ None) (bound_rows entries name) some))
    | inr few ↦ inr (subst (λ k. k < 256) (length-map entries (λ (entry : List ℕ × ElementValue). (entry.0, entry.1.rows))) few)
  ]),
  (λ room. elim room [
    | inl some ↦ inl (subst (λ (t : Option (List Row)). t ≢ None) (sym (bound_rows entries name)) ((bound_somewhere (bound entries name)).1 some))
    | inr few ↦ inr (subst (λ k. k < 256) (sym (length-map entries (λ (entry : List ℕ × ElementValue). (entry.0, entry.1.rows)))) few)
  ]),
)

-- the first name of a line isn't bound
pub first_unbound : {T : Type 0} (names : List (List ℕ × T)) (name : List ℕ) (others : List (List ℕ)) → bound names name ≡ None → IsFirstUnbound names (name ∷ others) name
first_unbound names name others none = record { before = []; behind = others; are = refl; bound_before = All-nil (λ other. bound names other ≢ None); unbound = none }

pub only_bound : {T : Type 0} (names : List (List ℕ × T)) (name : List ℕ) (what : T) → bound names name ≡ Some what → AreBound names (name ∷ [])
only_bound names name what is = All-cons (λ other. bound names other ≢ None) name [] (λ none. cc) (All-nil (λ other. bound names other ≢ None))

-- the second isn't
pub second_unbound : {T : Type 0} (names : List (List ℕ × T)) (first name : List ℕ) (what : T) → bound names first ≡ Some what → bound names name ≡ None → IsFirstUnbound names (first ∷ name ∷ []) name
second_unbound names first name what is none = record { before = first ∷ []; behind = []; are = refl; bound_before = only_bound names first what is; unbound = none }

-- no room for the one name of a line
pub no_room_for : (names : List (List ℕ × List Row)) (name : List ℕ) → ¬ HasRoom names name → ¬ HasRoomFor names (name ∷ [])
no_room_for names name full room = full room.0

-- ---- two names

pub on_ok : {T E : Type 0} {P Q : Type 0} (result : Result T E) → (P → Q) → OnOk result P → OnOk result Q
on_ok (Ok x) more h = more h
on_ok (Err e) more h = tt

pub never_err : {T E : Type 0} (P : Type 0) (result : Result T E) → IsOk result → OnErr result P
never_err P (Ok x) is = tt
never_err P (Err e) is = absurd cc

-- a look-up that finds something
pub was_found : (looked : Option ElementValue) (found : Option (Bor ElementValue)) → MatchOption found (looked ≡ None) (λ element. looked ≡ Some (element.now)) → true ≡ is_some found → looked ≢ None
was_found looked None is some none = cc
was_found looked (Some element) is some none = let e : Some (element.now) ≡ None = sym is ∙ none in cc

same_name : (name : List ℕ) → pointwise nat_eq name name ≡ true
same_name name = (bytes_decides name name).1 refl

bound_twice_at : {T : Type 0} (b : Bool) (entry : List ℕ × T) (names others : List (List ℕ × T)) (name : List ℕ) (x y : T) → pointwise nat_eq name entry.0 ≡ b → bind others name y ≡ bind names name y
    → bind (if b then (entry.0, x) ∷ names else entry ∷ others) name y ≡ (if b then (entry.0, y) ∷ names else entry ∷ bind names name y)
bound_twice_at true entry names others name x y is rest = ap (λ (b : Bool). if b then (entry.0, y) ∷ names else (entry.0, x) ∷ bind names name y) is
bound_twice_at false entry names others name x y is rest = ap (λ (b : Bool). if b then (entry.0, y) ∷ others else entry ∷ bind others name y) is ∙ ap (λ more. entry ∷ more) rest

-- of two elements for one name the second stands
pub bound_twice : {T : Type 0} (names : List (List ℕ × T)) (name : List ℕ) (x y : T) → bind (bind names name x) name y ≡ bind names name y
bound_twice [] name x y = ap (λ (b : Bool). if b then (name, y) ∷ [] else (name, x) ∷ (name, y) ∷ []) (same_name name)
bound_twice (entry ∷ names) name x y = bound_twice_at (pointwise nat_eq name entry.0) entry names (bind names name x) name x y refl (bound_twice names name x y)

kept_at : {T : Type 0} (b : Bool) (entry : List ℕ × T) (names others : List (List ℕ × T)) (name : List ℕ) (x : T) → (if pointwise nat_eq name entry.0 then Some entry.1 else bound names name) ≢ None → (bound names name ≢ None → bound others name ≢ None)
    → bound (if b then (entry.0, x) ∷ names else entry ∷ others) name ≢ None
kept_at true entry names others name x some rest = by (pointwise nat_eq name entry.0) some
  where
    by : (t : Bool) → (if t then Some entry.1 else bound names name) ≢ None → (if t then Some x else bound names name) ≢ None
    by true some e = absurd cc
    by false some e = some e
kept_at false entry names others name x some rest = by (pointwise nat_eq name entry.0) some
  where
    by : (t : Bool) → (if t then Some entry.1 else bound names name) ≢ None → (if t then Some entry.1 else bound others name) ≢ None
    by true some = some
    by false some = rest some

-- a name that is bound stays bound
pub still_bound : {T : Type 0} (names : List (List ℕ × T)) (name other : List ℕ) (x : T) → bound names name ≢ None → bound (bind names other x) name ≢ None
still_bound [] name other x some = absurd (some refl)
still_bound (entry ∷ names) name other x some = kept_at (pointwise nat_eq other entry.0) entry names (bind names other x) name x some (still_bound names name other x)

apart_at : {T : Type 0} (b c : Bool) (entry : List ℕ × T) (names : List (List ℕ × T)) (first second : List ℕ) (x y : T) → pointwise nat_eq first entry.0 ≡ b → pointwise nat_eq second entry.0 ≡ c → first ≢ second
    → (b ≡ false → bind (bind names second y) first x ≡ bind (bind names first x) second y)
    → bind (if c then (entry.0, y) ∷ names else entry ∷ bind names second y) first x ≡ bind (if b then (entry.0, x) ∷ names else entry ∷ bind names first x) second y
apart_at true true entry names first second x y is also other rest = absurd (other ((bytes_decides first entry.0).0 is ∙ sym ((bytes_decides second entry.0).0 also)))
apart_at true false entry names first second x y is also other rest =
    ap (λ (t : Bool). if t then (entry.0, x) ∷ bind names second y else entry ∷ bind (bind names second y) first x) is ∙ sym (ap (λ (t : Bool). if t then (entry.0, y) ∷ names else (entry.0, x) ∷ bind names second y) also)
apart_at false true entry names first second x y is also other rest =
    ap (λ (t : Bool). if t then (entry.0, x) ∷ names else (entry.0, y) ∷ bind names first x) is ∙ sym (ap (λ (t : Bool). if t then (entry.0, y) ∷ bind names first x else entry ∷ bind (bind names first x) second y) also)
apart_at false false entry names first second x y is also other rest =
    ap (λ (t : Bool). if t then (entry.0, x) ∷ bind names second y else entry ∷ bind (bind names second y) first x) is ∙ ap (λ more. entry ∷ more) (rest refl)
    ∙ sym (ap (λ (t : Bool). if t then (entry.0, y) ∷ bind names first x else entry ∷ bind (bind names first x) second y) also)

not_here : {T : Type 0} (b : Bool) (entry : List ℕ × T) (found : Option T) → b ≡ false → (if b then Some entry.1 else found) ≢ None → found ≢ None
not_here true entry found e some = absurd cc
not_here false entry found e some = some

-- two names are bound in either order where the first is bound already
pub bound_apart : {T : Type 0} (names : List (List ℕ × T)) (first second : List ℕ) (x y : T) → first ≢ second → bound names first ≢ None → bind (bind names second y) first x ≡ bind (bind names first x) second y
bound_apart [] first second x y other some = absurd (some refl)
bound_apart (entry ∷ names) first second x y other some =
    apart_at (pointwise nat_eq first entry.0) (pointwise nat_eq second entry.0) entry names first second x y refl refl other
    (λ e. bound_apart names first second x y other (not_here (pointwise nat_eq first entry.0) entry (bound names first) e some))

new_at : {T : Type 0} (b : Bool) (entry : List ℕ × T) (names others more : List (List ℕ × T)) (found : Option T) (x : T) → (if b then Some entry.1 else found) ≡ None → (found ≡ None → others ≡ more)
    → (if b then (entry.0, x) ∷ names else entry ∷ others) ≡ entry ∷ more
new_at true entry names others more found x none rest = absurd cc
new_at false entry names others more found x none rest = ap (λ names. entry ∷ names) (rest none)

-- a name that isn't bound goes to the end
pub new_last : {T : Type 0} (names : List (List ℕ × T)) (name : List ℕ) (x : T) → bound names name ≡ None → bind names name x ≡ names ++ (name, x) ∷ []
new_last [] name x none = refl
new_last (entry ∷ names) name x none = new_at (pointwise nat_eq name entry.0) entry names (bind names name x) (names ++ (name, x) ∷ []) (bound names name) x none (new_last names name x)

-- and is taken off again
pub taken_off : {T : Type 0} (names now : List (List ℕ × T)) (name : List ℕ) (x : T) (count : ℕ) → bound names name ≡ None → count ≡ length names → now ≡ bind names name x → take count now ≡ names
taken_off names now name x count none long is = ap (λ k. take k now) long ∙ ap (λ t. take (length names) t) (is ∙ new_last names name x none) ∙ take-append_seam names ((name, x) ∷ [])

-- ---- room for two names

now_at : {T : Type 0} (b : Bool) (entry : List ℕ × T) (names others : List (List ℕ × T)) (name : List ℕ) (x : T) → pointwise nat_eq name entry.0 ≡ b → bound others name ≢ None → bound (if b then (entry.0, x) ∷ names else entry ∷ others) name ≢ None
now_at true entry names others name x is rest none = let e = sym (ap (λ (t : Bool). if t then Some x else bound names name) is) ∙ none in cc
now_at false entry names others name x is rest none = rest (sym (ap (λ (t : Bool). if t then Some entry.1 else bound others name) is) ∙ none)

-- a name that was just bound is bound
now_bound : {T : Type 0} (names : List (List ℕ × T)) (name : List ℕ) (x : T) → bound (bind names name x) name ≢ None
now_bound [] name x none = let e = sym (ap (λ (t : Bool). if t then Some x else None) (same_name name)) ∙ none in cc
now_bound (entry ∷ names) name x none = now_at (pointwise nat_eq name entry.0) entry names (bind names name x) name x refl (now_bound names name x) none

behind_at : {T : Type 0} (b c : Bool) (entry : List ℕ × T) (names others : List (List ℕ × T)) (first second : List ℕ) (x : T) → pointwise nat_eq first entry.0 ≡ b → pointwise nat_eq second entry.0 ≡ c
    → (bound others second ≢ None → (first ≡ second) ⊎ (bound names second ≢ None)) → bound (if b then (entry.0, x) ∷ names else entry ∷ others) second ≢ None → (first ≡ second) ⊎ ((if c then Some entry.1 else bound names second) ≢ None)
behind_at true true entry names others first second x is also rest some = inl ((bytes_decides first entry.0).0 is ∙ sym ((bytes_decides second entry.0).0 also))
behind_at true false entry names others first second x is also rest some = inr (λ none. some (ap (λ (t : Bool). if t then Some x else bound names second) also ∙ none))
behind_at false true entry names others first second x is also rest some = inr (λ none. cc)
behind_at false false entry names others first second x is also rest some = rest (λ none. some (ap (λ (t : Bool). if t then Some entry.1 else bound others second) also ∙ none))

only_behind : {T : Type 0} (b : Bool) (first second : List ℕ) (x : T) → pointwise nat_eq second first ≡ b → (if b then Some x else None) ≢ None → (first ≡ second) ⊎ (bound {T = T} [] second ≢ None)
only_behind true first second x is some = inl (sym ((bytes_decides second first).0 is))
only_behind false first second x is some = absurd (some refl)

was_bound : {T : Type 0} (names : List (List ℕ × T)) (first second : List ℕ) (x : T) → bound (bind names first x) second ≢ None → (first ≡ second) ⊎ (bound names second ≢ None)
was_bound [] first second x = only_behind (pointwise nat_eq second first) first second x refl
was_bound (entry ∷ names) first second x = behind_at (pointwise nat_eq first entry.0) (pointwise nat_eq second entry.0) entry names (bind names first x) first second x refl refl (was_bound names first second x)

-- a name is bound behind another where it is that name or was bound
pub bound_behind : {T : Type 0} (names : List (List ℕ × T)) (first second : List ℕ) (x : T) → (bound (bind names first x) second ≢ None) ↔ ((first ≡ second) ⊎ (bound names second ≢ None))
bound_behind names first second x =
    (was_bound names first second x, λ h. elim h [ inl same ↦ subst (λ name. bound (bind names first x) name ≢ None) same (now_bound names first x) | inr some ↦ still_bound names second first x some ])

length_at : {T : Type 0} (b : Bool) (entry : List ℕ × T) (names others : List (List ℕ × T)) (found : Option T) (x : T) → (if b then Some entry.1 else found) ≢ None → (found ≢ None → length others ≡ length names)
    → length (if b then (entry.0, x) ∷ names else entry ∷ others) ≡ suc (length names)
length_at true entry names others found x some rest = refl
length_at false entry names others found x some rest = ap suc (rest some)

-- there are as many names where a bound one is bound anew
pub as_many_names : {T : Type 0} (names : List (List ℕ × T)) (name : List ℕ) (x : T) → bound names name ≢ None → length (bind names name x) ≡ length names
as_many_names [] name x some = absurd (some refl)
as_many_names (entry ∷ names) name x some = length_at (pointwise nat_eq name entry.0) entry names (bind names name x) (bound names name) x some (as_many_names names name x)

-- and one more with a new one
pub one_more_name : {T : Type 0} (names : List (List ℕ × T)) (name : List ℕ) (x : T) → bound names name ≡ None → length (bind names name x) ≡ length names + 1
one_more_name names name x none = ap length (new_last names name x none) ∙ length-append names ((name, x) ∷ [])

-- a look-up finds something where there are rows
pub found_rows : (names : List (List ℕ × ElementValue)) (name : List ℕ) (found : Option (Bor ElementValue)) → MatchOption found (bound names name ≡ None) (λ element. bound names name ≡ Some (element.now)) → IsTrue (is_some found) ↔ (bound (rows_by_name names) name ≢ None)
found_rows names name None is = ((λ yes. absurd cc), (λ some. absurd (some (bound_rows names name ∙ ap rows_of is))))
found_rows names name (Some element) is = ((λ yes none. let e = sym (bound_rows names name ∙ ap rows_of is) ∙ none in cc), (λ some. refl))

-- and nothing where there are none
pub none_found : (names : List (List ℕ × ElementValue)) (name : List ℕ) (found : Option (Bor ElementValue)) → MatchOption found (bound names name ≡ None) (λ element. bound names name ≡ Some (element.now)) → is_some found ≡ false → bound (rows_by_name names) name ≡ None
none_found names name None is nothing = bound_rows names name ∙ ap rows_of is
none_found names name (Some element) is nothing = absurd cc

-- ---- shapes

-- an entry's element is of the shape
abbrev IsEntryOf : Option Shape → List ℕ × ElementValue → Type 0
IsEntryOf shape entry = IsOfShape shape entry.1

found_at : (shape : Option Shape) (b : Bool) (entry : List ℕ × ElementValue) (rest : Option ElementValue) (element : ElementValue) → IsEntryOf shape entry → (rest ≡ Some element → IsOfShape shape element)
    → (if b then Some entry.1 else rest) ≡ Some element → IsOfShape shape element
found_at shape true entry rest element is other e = let same : entry.1 ≡ element = cc in subst (IsOfShape shape) same is
found_at shape false entry rest element is other e = other e

-- the element that is bound to a name is of the shape
pub bound_of_shape : (shape : Option Shape) (entries : List (List ℕ × ElementValue)) (name : List ℕ) (element : ElementValue) → AreOfShape shape entries → bound entries name ≡ Some element → IsOfShape shape element
bound_of_shape shape [] name element h e = absurd cc
bound_of_shape shape (entry ∷ entries) name element h e =
    found_at shape (pointwise nat_eq name entry.0) entry (bound entries name) element (All-head (IsEntryOf shape) entry entries h) (bound_of_shape shape entries name element (All-tail (IsEntryOf shape) entry entries h)) e

-- a word of the shape is one of the element's
pub word_of_element : (shape : Option Shape) (given of : Shape) (word : Word) → Some of ≡ shape → shape ≡ Some given → IsWordOf given word → IsWordOf of word
word_of_element shape given of word e some h = let same : given ≡ of = cc in subst (λ (s : Shape). IsWordOf s word) same h

bind_at : (shape : Option Shape) (b : Bool) (entry : List ℕ × ElementValue) (entries others : List (List ℕ × ElementValue)) (element : ElementValue) → AreOfShape shape (entry ∷ entries) → IsOfShape shape element → AreOfShape shape others
    → AreOfShape shape (if b then (entry.0, element) ∷ entries else entry ∷ others)
bind_at shape true entry entries others element h is rest = All-cons (IsEntryOf shape) (entry.0, element) entries is (All-tail (IsEntryOf shape) entry entries h)
bind_at shape false entry entries others element h is rest = All-cons (IsEntryOf shape) entry others (All-head (IsEntryOf shape) entry entries h) rest

-- with one more element of the shape all are of it
bind_of_shape : (shape : Option Shape) (entries : List (List ℕ × ElementValue)) (name : List ℕ) (element : ElementValue) → AreOfShape shape entries → IsOfShape shape element → AreOfShape shape (bind entries name element)
bind_of_shape shape [] name element h is = All-cons (IsEntryOf shape) (name, element) [] is (All-nil (IsEntryOf shape))
bind_of_shape shape (entry ∷ entries) name element h is =
    bind_at shape (pointwise nat_eq name entry.0) entry entries (bind entries name element) element h is (bind_of_shape shape entries name element (All-tail (IsEntryOf shape) entry entries h) is)

-- and where it found no memory they still are
pub still_of_shape : {T E : Type 0} (shape : Option Shape) (old new : List (List ℕ × ElementValue)) (name : List ℕ) (element : ElementValue) (result : Result T E) → AreOfShape shape old → IsOfShape shape element
    → OnOk result (new ≡ bind old name element) → OnErr result (new ≡ old) → AreOfShape shape new
still_of_shape shape old new name element (Ok x) h is ok err = subst (AreOfShape shape) (sym ok) (bind_of_shape shape old name element h is)
still_of_shape shape old new name element (Err e) h is ok err = subst (AreOfShape shape) (sym err) h

-- with two more elements of the shape all are of it
pub both_of_shape : (shape : Option Shape) (old new : List (List ℕ × ElementValue)) (first second : List ℕ) (one other : ElementValue) → AreOfShape shape old → IsOfShape shape one → IsOfShape shape other → new ≡ bind (bind old first one) second other → AreOfShape shape new
both_of_shape shape old new first second one other h is also bound_is =
    subst (AreOfShape shape) (sym bound_is) (bind_of_shape shape (bind old first one) second other (bind_of_shape shape old first one h is) also)
