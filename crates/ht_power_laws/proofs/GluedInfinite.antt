-- What turns a power of a into one of b on the infinite parts conjugates these powers of the infinite parts, which lead all other long words back.
use Rattle.std.proofs.Common.{◌≡◌, ℕ, ◌+◌, ◌*◌, ◌≤◌, inl, inr, List, sym, ap, ◌∙◌, subst, arith, one-mul, pos}
use Rattle.ht_word.specs.Words.{◌·◌}
use Rattle.ht_word.specs.declared.shape.Shape.{Shape}
use Rattle.ht_word.specs.declared.word.Word.{Word}
use Rattle.ht_word.proofs.WordLaws.{after_cancel_right, ones}
use Rattle.ht_pair.specs.Actions.{Moves}
use Rattle.ht_pair.specs.Bases.{longest}
use Rattle.ht_pair.specs.Conjugacy.{Conjugates}
use Rattle.ht_pair.specs.Steps.{Carries}
use Rattle.ht_pair.specs.declared.row.Row.{Row}
use Rattle.ht_pair.proofs.CarriesLaws.{carries_single}
use Rattle.ht_pair.proofs.MovesLaws.{moves_extends, moves_map}
use Rattle.ht_pair.proofs.PrefixMapLaws.{length-long, long_word}
use Rattle.ht_types.specs.Flows.{IsUnderInfinite}
use Rattle.ht_types.proofs.PeriodicLaws.{periodic_word}
use Rattle.ht_types.proofs.TurnLaws.{HasSemiNormal}
use Rattle.ht_laws.proofs.PrefixLaws.{moves_carries}
use Rattle.ht_power_laws.specs.OnInfinite.{ActsAsPower, OnInfinite}
use Rattle.ht_power_laws.proofs.PowersAlone.{ActsAlone}

-- no word under the infinite part is led back
moves_off : {shape : Shape} {a f : List Row} {i : ℕ} {X : List Word} → HasSemiNormal shape a X → 1 ≤ i → ActsAsPower shape a i X f → (u : Word)
    → IsUnderInfinite shape a X u → ¬ Carries shape f (pos 1) u u
moves_off {shape} {a} {i = i} {X} h low acts u under back =
    let home = (acts.same 1 u u under).0 back in
    under.infinite.1 (periodic_word shape a h.pair X h.semi (1 * i) u under.above (omega arith) under.infinite.0 under.under home)

pub glued : {shape : Shape} {h a b f g : List Row} {i j : ℕ} {X Y : List Word} → HasSemiNormal shape a X → 1 ≤ i → ActsAlone shape a i X f
    → ActsAlone shape b j Y g → OnInfinite shape h a i X b j Y → Conjugates shape h f g
glued {shape} {h} {a} {b} {f} {g} {i} {j} {X} {Y} base low first second on = record {
  pair = on.pair;
  commutes = λ u u' v v' w word here sent' sent there.
      let mh = (moves_map shape h on.pair).ahead in
      let size = on.bound + longest X + longest Y in
      let z = ones size in
      let hu = long_word shape u size word in
      let hv = long_word shape v size (mh.word u v word sent) in
      let sent_z = moves_extends h u v z sent in
      let moved = moves_carries shape f (u · z) (u' · z) first.acts.pair hu (moves_extends f u u' z here) in
      let moved' = moves_carries shape g (v · z) (w · z) second.acts.pair hv (moves_extends g v w z there) in
      after_cancel_right w v' z (elim (first.apart (u · z) hu (omega (arith, length-long u size))) [
        | inl under ↦ (
            let at = on.ahead (u · z) (v · z) hu (omega (arith, length-long u size)) under sent_z in
            let step = subst (λ k. Carries shape a (pos k) (u · z) (u' · z)) (one-mul i) ((first.acts.same 1 (u · z) (u' · z) under).0 moved) in
            let over = on.commutes (u · z) (u' · z) (v · z) (v' · z) under step sent_z (moves_extends h u' v' z sent') in
            let by_g = (second.acts.same 1 (v · z) (v' · z) at).1 (subst (λ k. Carries shape b (pos k) (v · z) (v' · z)) (sym (one-mul j)) over) in
            carries_single shape g second.acts.pair (pos 1) (v · z) (w · z) (v' · z) moved' by_g)
        | inr back ↦ (
            let same : u ≡ u' = after_cancel_right u u' z (carries_single shape f first.acts.pair (pos 1) (u · z) (u · z) (u' · z) back moved) in
            let one : v ≡ v' = mh.single u v v' word sent (subst (λ t. Moves h t v') (sym same) sent') in
            elim (second.apart (v · z) hv (omega (arith, length-long v size))) [
              | inl at ↦ (
                  let from = on.behind (u · z) (v · z) hv (omega (arith, length-long v size)) at sent_z in
                  absurd (moves_off base low first.acts (u · z) from back))
              | inr back' ↦ carries_single shape g second.acts.pair (pos 1) (v · z) (w · z) (v · z) moved' back' ∙ ap (λ t. t · z) one
            ])
      ]);
}
