-- Words, prefixes and letters.
use Rattle.std.proofs.Common.{◌≡◌, ℕ, ◌+◌, ◌≤◌, ◌⊎◌, inl, inr, List, [], ◌∷◌, ◌++◌, length, replicate, take, drop, take-append-drop, refl, sym, ap, ◌∙◌, append_assoc, append-nil, arith, All, Contains}
use Rattle.std.proofs.lemmas.List.{append_cancel_left, append_cancel_right, length-append, length-replicate, take_at}
use Rattle.std.proofs.lemmas.List.Elements.{All-append, All-contains, Contains-get_or, Contains-append_left, Contains-append_right, All-replicate}
use Rattle.std.proofs.lemmas.Cmp.{then_total, on_total, nat_cmp_total}
use Rattle.std.specs.Cmp.{IsTotalOrder}
use Rattle.std.specs.Cmp.Lexicographic.{nat_list_cmp_total}
use Rattle.std.specs.Ordering.{ordering_reverse}
use Rattle.std.specs.declared.cmp.Ordering.TheVariants.{Less}
use Rattle.ht_word.specs.declared.word.Word.{Word}
use Rattle.ht_word.specs.declared.shape.Shape.{Shape}
use Rattle.ht_word.specs.Words.{◌·◌, IsLetter, IsLetters, IsWordOf, IsUnder, word_cmp}

pub word_eq : {u v : Word} → u.root ≡ v.root → u.letters ≡ v.letters → u ≡ v
word_eq p q = λ i. record { root = p i; letters = q i }

pub after-append : (u : Word) (y z : List ℕ) → (u · y) · z ≡ u · (y ++ z)
after-append u y z = word_eq refl (append_assoc u.letters y z)

pub after-nil : (u : Word) → u · [] ≡ u
after-nil u = word_eq refl (append-nil u.letters)

pub after_cancel : (u : Word) (y z : List ℕ) → u · y ≡ u · z → y ≡ z
after_cancel u y z e = append_cancel_left u.letters y z (ap (λ (w : Word). w.letters) e)

pub after_cancel_right : (u v : Word) (z : List ℕ) → u · z ≡ v · z → u ≡ v
after_cancel_right u v z e = word_eq (ap (λ (w : Word). w.root) e) (append_cancel_right u.letters v.letters z (ap (λ (w : Word). w.letters) e))

-- of two prefixes of one list one is a prefix of the other
pub list_prefixes : (s t y z : List ℕ) → s ++ y ≡ t ++ z → ((x : List ℕ) × (s ≡ t ++ x) × (z ≡ x ++ y)) ⊎ ((x : List ℕ) × (t ≡ s ++ x) × (y ≡ x ++ z))
list_prefixes [] t y z e = inr (t, refl, e)
list_prefixes (a ∷ s) [] y z e = inl (a ∷ s, refl, sym e)
list_prefixes (a ∷ s) (b ∷ t) y z e =
    let heads : a ≡ b = cc in
    let tails : s ++ y ≡ t ++ z = cc in
    elim (list_prefixes s t y z tails) [
      | inl h ↦ inl (h.0, (let k = h.1 in cc), h.2)
      | inr h ↦ inr (h.0, (let k = h.1 in cc), h.2)
    ]

-- u and v are prefixes of one word, u the longer one
pub record IsLonger (u v : Word) (y z : List ℕ) : Type 0 where
  pub middle : List ℕ
  pub is : u ≡ v · middle
  pub rest_is : z ≡ middle ++ y

pub prefixes : (u v : Word) (y z : List ℕ) → u · y ≡ v · z → IsLonger u v y z ⊎ IsLonger v u z y
prefixes u v y z e =
    let roots : u.root ≡ v.root = ap (λ (w : Word). w.root) e in
    elim (list_prefixes u.letters v.letters y z (ap (λ (w : Word). w.letters) e)) [
      | inl h ↦ inl (record { middle = h.0; is = word_eq roots h.1; rest_is = h.2 })
      | inr h ↦ inr (record { middle = h.0; is = word_eq (sym roots) h.1; rest_is = h.2 })
    ]

pub under_refl : (u : Word) → IsUnder u u
under_refl u = record { rest = []; is = sym (after-nil u) }

pub under_after : (u : Word) (z : List ℕ) → IsUnder (u · z) u
under_after u z = record { rest = z; is = refl }

pub under_trans : {u v w : Word} → IsUnder u v → IsUnder v w → IsUnder u w
under_trans {u} {v} {w} h g = record { rest = g.rest ++ h.rest; is = h.is ∙ ap (λ (t : Word). t · h.rest) g.is ∙ after-append w g.rest h.rest }

pub length-after : (u : Word) (z : List ℕ) → length ((u · z).letters) ≡ length u.letters + length z
length-after u z = length-append u.letters z

pub under_length : {u v : Word} → IsUnder u v → length v.letters ≤ length u.letters
under_length {u} {v} h = omega (arith, length-append v.letters h.rest, ap (λ (w : Word). length w.letters) h.is)

nil_of_length : (z : List ℕ) → length z ≡ 0 → z ≡ []
nil_of_length [] e = refl
nil_of_length (a ∷ z) e = absurd (omega arith)

-- a word under another one, and no longer, is that word
pub under_same : {u v : Word} → IsUnder u v → length u.letters ≤ length v.letters → u ≡ v
under_same {u} {v} h l =
    let none : length h.rest ≡ 0 = omega (arith, length-append v.letters h.rest, ap (λ (w : Word). length w.letters) h.is) in
    h.is ∙ ap (λ z. v · z) (nil_of_length h.rest none) ∙ after-nil v

pub under_antisym : {u v : Word} → IsUnder u v → IsUnder v u → u ≡ v
under_antisym h g = under_same h (under_length g)

-- two words above one word
pub under_both : {u v w : Word} → IsUnder w u → IsUnder w v → IsUnder u v ⊎ IsUnder v u
under_both {u} {v} {w} h g = elim (prefixes u v h.rest g.rest (sym h.is ∙ g.is)) [
  | inl k ↦ inl (record { rest = k.middle; is = k.is })
  | inr k ↦ inr (record { rest = k.middle; is = k.is })
]

pub All-from_contains : {X : Type 0} (P : X → Type 0) (xs : List X) → ((x : X) → Contains xs x → P x) → All P xs
All-from_contains P xs f = λ k d l. f _ (Contains-get_or xs k d l)

pub letters_append : (shape : Shape) (y z : List ℕ) → IsLetters shape y → IsLetters shape z → IsLetters shape (y ++ z)
letters_append shape y z h g = All-append (IsLetter shape) y z h g

pub letters_front : (shape : Shape) (y z : List ℕ) → IsLetters shape (y ++ z) → IsLetters shape y
letters_front shape y z h = All-from_contains (IsLetter shape) y (λ a c. All-contains (IsLetter shape) (y ++ z) a h (Contains-append_left y z a c))

pub letters_back : (shape : Shape) (y z : List ℕ) → IsLetters shape (y ++ z) → IsLetters shape z
letters_back shape y z h = All-from_contains (IsLetter shape) z (λ a c. All-contains (IsLetter shape) (y ++ z) a h (Contains-append_right y z a c))

pub word_after : (shape : Shape) (u : Word) (z : List ℕ) → IsWordOf shape u → IsLetters shape z → IsWordOf shape (u · z)
word_after shape u z h g = record { root_low = h.root_low; root_high = h.root_high; letters = letters_append shape u.letters z h.letters g }

pub word_front : (shape : Shape) (u : Word) (z : List ℕ) → IsWordOf shape (u · z) → IsWordOf shape u
word_front shape u z h = record { root_low = h.root_low; root_high = h.root_high; letters = letters_front shape u.letters z h.letters }

pub word_rest : (shape : Shape) (u : Word) (z : List ℕ) → IsWordOf shape (u · z) → IsLetters shape z
word_rest shape u z h = letters_back shape u.letters z h.letters

-- k times the letter 1
pub ones : ℕ → List ℕ
ones k = replicate k 1

pub length-ones : (k : ℕ) → length (ones k) ≡ k
unfolding ones
length-ones k = length-replicate k 1

pub ones_letters : (shape : Shape) (k : ℕ) → IsLetters shape (ones k)
unfolding ones
ones_letters shape k = All-replicate (IsLetter shape) k 1 (omega arith, omega (arith, shape.letters_low))

-- by root and then by letters is a total order
pub word_cmp_total : IsTotalOrder word_cmp
word_cmp_total = then_total (on_total (λ (w : Word). w.root) nat_cmp_total) (on_total (λ (w : Word). w.letters) nat_list_cmp_total)

pub word_cmp_once : (u v : Word) → word_cmp u v ≡ Less → word_cmp v u ≡ Less → ⊥
word_cmp_once u v h g = let e : word_cmp u v ≡ ordering_reverse Less = word_cmp_total.antisymm u v ∙ ap ordering_reverse g in cc

-- v is a prefix of u where their roots are the same and the first letters of u are those of v
pub under_from_take : (u v : Word) → u.root ≡ v.root → take (length v.letters) u.letters ≡ v.letters → IsUnder u v
under_from_take u v roots front = record { rest = drop (length v.letters) u.letters; is = word_eq roots (sym (take-append-drop (length v.letters) u.letters) ∙ ap (λ t. t ++ drop (length v.letters) u.letters) front) }

pub take_from_under : (u v : Word) → IsUnder u v → take (length v.letters) u.letters ≡ v.letters
take_from_under u v h = ap (λ (w : Word). take (length v.letters) w.letters) h.is ∙ take_at v.letters h.rest (length v.letters) refl
