-- Fronts of texts that were added before a refusal.
use Rattle.std.proofs.Common.{◌≡◌, ℕ, List, ◌++◌, refl, sym, ap, ◌∙◌, append_assoc}
use Rattle.std.specs.Prelude.{Result, Ok, Err, OnErr}
use Rattle.ht_text.specs.Writes.{AddsFront}

-- a is a front of a and more
pub adds_first : (old new a rest : List ℕ) → new ≡ old ++ a → AddsFront old new (a ++ rest)
adds_first old new a rest added = record { front = a; rest = rest; text_is = refl; new_is = added }

-- a front of a is one of a and more
pub adds_within : (old new a more : List ℕ) → AddsFront old new a → AddsFront old new (a ++ more)
adds_within old new a more h = record {
  front = h.front;
  rest = h.rest ++ more;
  text_is = ap (λ t. t ++ more) h.text_is ∙ append_assoc h.front h.rest more;
  new_is = h.new_is;
}

-- behind a, a front of b
pub adds_behind : (old mid new a b : List ℕ) → mid ≡ old ++ a → AddsFront mid new b → AddsFront old new (a ++ b)
adds_behind old mid new a b added h = record {
  front = a ++ h.front;
  rest = h.rest;
  text_is = ap (λ t. a ++ t) h.text_is ∙ sym (append_assoc a h.front h.rest);
  new_is = h.new_is ∙ ap (λ t. t ++ h.front) added ∙ append_assoc old a h.front;
}

-- two texts appended, one by one
pub appended : (old mid new a b : List ℕ) → mid ≡ old ++ a → new ≡ mid ++ b → new ≡ old ++ (a ++ b)
appended old mid new a b first second = second ∙ ap (λ t. t ++ b) first ∙ append_assoc old a b

-- what holds anyway holds at a refusal
pub at_refusal : {T E P : Type 0} (r : Result T E) → P → OnErr r P
at_refusal (Ok x) p = tt
at_refusal (Err e) p = p
