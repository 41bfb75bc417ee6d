-- Each infinite word of a semi-normal basis is carried by some power under an end, a word that another power lengthens.
use Rattle.std.proofs.Common.{ℕ, inl, inr, List, Contains, ℤ, pos, neg_ℤ}
use Rattle.ht_word.specs.Words.{◌·◌}
use Rattle.ht_word.specs.declared.shape.Shape.{Shape}
use Rattle.ht_word.specs.declared.word.Word.{Word}
use Rattle.ht_pair.specs.Atoms.{IsInfiniteWord}
use Rattle.ht_pair.specs.Kinds.{Lengthens}
use Rattle.ht_pair.specs.Steps.{Carries}
use Rattle.ht_pair.specs.declared.row.Row.{Row}
use Rattle.ht_quasi.proofs.StepLaws.{listed_at}
use Rattle.ht_types.proofs.AnchorLaws.{MeetsEnd, anchor}
use Rattle.ht_types.proofs.TurnLaws.{HasSemiNormal}

-- steps lead from x to under `end`, which rounds of so many steps lengthen
pub record IsAnchored (shape : Shape) (p : List Row) (X : List Word) (x : Word) : Type 0 where
  pub end : Word
  pub listed : Contains X end
  pub steps : ℤ
  pub letters : List ℕ
  pub carries : Carries shape p steps x (end · letters)
  pub round : ℤ
  pub by : List ℕ
  pub lengthens : Lengthens shape p round end by

-- an end lengthens itself, an attractor ahead and a repeller behind
pub anchored : {shape : Shape} {p : List Row} {X : List Word} → HasSemiNormal shape p X → (x : Word) → IsInfiniteWord shape p X x → IsAnchored shape p X x
anchored {shape} {p} {X} h x infinite =
    let m = anchor h x infinite in
    elim m.1.ends [
      | inl a ↦ at m.0 m.1 (pos a.0) a.1 a.2.lengthens
      | inr r ↦ at m.0 m.1 (neg_ℤ (pos r.0)) r.1 r.2.lengthens
    ]
  where
    at : (place : ℕ) (m : MeetsEnd shape p X x place) (k : ℤ) (by : List ℕ) → Lengthens shape p k m.above by → IsAnchored shape p X x
    at place m k by lengthens = record { end = m.above; listed = listed_at X place m.above m.here; steps = m.power; letters = m.rest; carries = m.carries; round = k; by = by; lengthens = lengthens }
