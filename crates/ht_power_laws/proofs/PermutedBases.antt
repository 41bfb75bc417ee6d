-- A permutation of the words of a basis, with what follows a word kept, is a bijection of the long words.
--
--     Extends T X u v    u and v are words of X with the same letters behind them, and T sends the one to the other
use Rattle.std.proofs.Common.{◌≡◌, ℕ, List, ◌++◌, refl, sym, ap, ◌∙◌, subst, Contains}
use Rattle.ht_word.specs.Words.{IsWordOf, ◌·◌}
use Rattle.ht_word.specs.declared.shape.Shape.{Shape}
use Rattle.ht_word.specs.declared.word.Word.{Word}
use Rattle.ht_word.proofs.WordLaws.{after-append, after_cancel, word_after, word_rest}
use Rattle.ht_pair.specs.Bases.{longest, IsBasis}
use Rattle.ht_pair.proofs.BasisLaws.{basis_holds, basis_single, basis_word}
use Rattle.ht_pair.proofs.PrefixMapLaws.{IsCarrying, IsPrefixMap}

pub record Extends (T : Word → Word → Type 0) (X : List Word) (u v : Word) : Type 0 where
  pub from : Word
  pub to : Word
  pub rest : List ℕ
  pub from_listed : Contains X from
  pub to_listed : Contains X to
  pub sent : T from to
  pub from_is : u ≡ from · rest
  pub to_is : v ≡ to · rest

-- the other way round
extends_back : {T : Word → Word → Type 0} {X : List Word} {u v : Word} → Extends T X u v → Extends (λ x y. T y x) X v u
extends_back e = record { from = e.to; to = e.from; rest = e.rest; from_listed = e.to_listed; to_listed = e.from_listed; sent = e.sent; from_is = e.to_is; to_is = e.from_is }

-- T sends each word of X to one word of X
pub record IsMapOf (T : Word → Word → Type 0) (X : List Word) : Type 0 where
  pub total : (x : Word) → Contains X x → (y : Word) × Contains X y × T x y
  pub single : (x y y' : Word) → T x y → T x y' → y ≡ y'

extended_carrying : (shape : Shape) (X : List Word) → IsBasis shape X → (T F : Word → Word → Type 0) → IsMapOf T X → ((u v : Word) → F u v → Extends T X u v) → ((u v : Word) → Extends T X u v → F u v) → IsCarrying shape F
extended_carrying shape X basis T F map parts whole = record {
  extends = λ u v z h.
      let e = parts u v h in
      whole (u · z) (v · z) (record {
        from = e.from;
        to = e.to;
        rest = e.rest ++ z;
        from_listed = e.from_listed;
        to_listed = e.to_listed;
        sent = e.sent;
        from_is = ap (λ t. t · z) e.from_is ∙ after-append e.from e.rest z;
        to_is = ap (λ t. t · z) e.to_is ∙ after-append e.to e.rest z;
      });
  word = λ u v word h.
      let e = parts u v h in
      subst (IsWordOf shape) (sym e.to_is) (word_after shape e.to e.rest (basis_word shape X basis e.to e.to_listed) (word_rest shape e.from e.rest (subst (IsWordOf shape) e.from_is word)));
  single = λ u v v' word h g.
      let d = parts u v h in
      let e = parts u v' g in
      let from : d.from ≡ e.from = basis_single shape X basis u d.from e.from d.from_listed e.from_listed (record { rest = d.rest; is = d.from_is }) (record { rest = e.rest; is = e.from_is }) in
      let rest : d.rest ≡ e.rest = after_cancel e.from d.rest e.rest (ap (λ t. t · d.rest) (sym from) ∙ sym d.from_is ∙ e.from_is) in
      let to : d.to ≡ e.to = map.single d.from d.to e.to d.sent (subst (λ t. T t e.to) (sym from) e.sent) in
      d.to_is ∙ (λ i. to i · rest i) ∙ sym e.to_is;
  bound = longest X;
  total = λ u word long.
      let s = basis_holds shape X basis u word long in
      let y = map.total s.above s.listed in
      let v = y.0 · s.under.rest in
      (v, whole u v (record { from = s.above; to = y.0; rest = s.under.rest; from_listed = s.listed; to_listed = y.1; sent = y.2; from_is = s.under.is; to_is = refl }));
}

-- where T and T the other way round do, their extension is a bijection of the long words
pub permutation_map : (shape : Shape) (X : List Word) → IsBasis shape X → (T : Word → Word → Type 0) → IsMapOf T X → IsMapOf (λ x y. T y x) X → IsPrefixMap shape (Extends T X)
permutation_map shape X basis T ahead behind = record {
  ahead = extended_carrying shape X basis T (Extends T X) ahead (λ u v e. e) (λ u v e. e);
  behind = extended_carrying shape X basis (λ x y. T y x) (λ u v. Extends T X v u) behind (λ u v e. extends_back e) (λ u v e. extends_back e);
}
