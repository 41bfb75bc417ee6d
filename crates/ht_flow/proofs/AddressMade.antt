-- A word that a walk carries under an attractor has an address: the head of the attractor's round, and what is left behind it.
use Rattle.std.proofs.Common.{◌≡◌, ◌≢◌, ℕ, ◌-◌, ◌*◌, ◌≤◌, ◌<◌, ◌^◌, List, [], ◌++◌, length, drop, Some, refl, sym, ap, ◌∙◌, subst, arith, Contains, ℤ, pos, ◌+ℤ◌, nat_abs}
use Rattle.std.specs.Prelude.{◌-ℤ◌}
use Rattle.std.proofs.Math.Seq.{drop-append_seam}
use Rattle.std.proofs.lemmas.List.{length-append}
use Rattle.std.proofs.lemmas.List.Elements.{All-nil}
use Rattle.std.proofs.lemmas.Option.{slice_get-get_or}
use Rattle.ht_word.specs.Words.{◌·◌, IsAscending, IsLetter}
use Rattle.ht_word.specs.declared.shape.Shape.{Shape}
use Rattle.ht_word.specs.declared.word.Word.{Word}
use Rattle.ht_word.proofs.WordLaws.{after-append, after-nil, word_rest}
use Rattle.ht_pair.specs.Kinds.{IsAttractor}
use Rattle.ht_pair.specs.Steps.{Carries}
use Rattle.ht_pair.specs.declared.row.Row.{Row}
use Rattle.ht_pair.proofs.CarriesLaws.{carries_word, carries_extends, carries_add}
use Rattle.ht_quasi.proofs.StepLaws.{listed_at}
use Rattle.ht_types.specs.Flows.{IsWalk, IsEndKind}
use Rattle.ht_types.specs.declared.direction.Direction.TheVariants.{Ahead}
use Rattle.ht_types.specs.declared.kind.Kind.{Kind}
use Rattle.ht_types.specs.declared.kind.Kind.TheVariants.{Cycle, Attractor, Repeller, Passing}
use Rattle.ht_types.specs.declared.walk.Walk.{Walk}
use Rattle.ht_types.proofs.TurnLaws.{HasSemiNormal}
use Rattle.ht_flow.specs.Flowing.{FlowsUnder, IsAddressed}
use Rattle.ht_flow.specs.Rounds.{IsHead, BeginsTimes}
use Rattle.ht_flow.specs.declared.round.Stage.{Stage}
use Rattle.ht_flow.proofs.AddressLaws.{head_least}
use Rattle.ht_types.proofs.AttractorLaws.{IsAttractorOf}
use Rattle.ht_flow.proofs.FlowingLaws.{walk_flows}
use Rattle.ht_flow.proofs.HeadLaws.{round_back, round_short, not_less}
use Rattle.ht_flow.proofs.StripLaws.{stripped_carries}

-- a kind that isn't an attractor's is no end ahead
pub no_end : (kind : Kind) → ((m : ℕ) (by : List ℕ) → kind ≢ Attractor m by) → ¬ IsEndKind Ahead kind
no_end (Cycle m) none = λ e. e
no_end (Attractor m by) none = λ e. none m by refl
no_end (Repeller m by) none = λ e. e
no_end (Passing ahead behind) none = λ e. e

-- the word of the head
pub head_listed : {shape : Shape} {p : List Row} {X : List Word} (a : Word) (count : ℕ) (head : Stage) (s : IsHead shape p X a count head) → Contains X s.stage.above
head_listed {shape} {p} {X} a count head s = listed_at X head.at s.stage.above s.stage.here

-- the letters behind the head are no more than those of the attractor
pub head_short : {shape : Shape} {p : List Row} {X : List Word} {a : Word} {m : ℕ} {G : List ℕ} → HasSemiNormal shape p X → IsAttractorOf shape p X a m G → (head : Stage) → IsHead shape p X a m head → head.letters ≤ length G
head_short {a = a} {m = m} h at head s =
    let short = round_short h at head.steps s.stage.above s.stage.behind (let l = s.within in omega arith) (head_listed a m head s) s.stage.carries in
    let many = s.stage.as_many in
    omega arith

-- the last of them
head_last : {shape : Shape} {p : List Row} {X : List Word} {a : Word} {m : ℕ} {G : List ℕ} → HasSemiNormal shape p X → IsAttractorOf shape p X a m G → (head : Stage) (s : IsHead shape p X a m head) → drop (length G - head.letters) G ≡ s.stage.behind
head_last {a = a} {m = m} {G = G} h at head s =
    let r = round_back h at head.steps s.stage.above s.stage.behind (let l = s.within in omega arith) (head_listed a m head s) s.stage.carries in
    let front : length G - head.letters ≡ length r.0 = omega (arith, length-append r.0 s.stage.behind, ap (λ (t : List ℕ). length t) r.1, s.stage.as_many) in
    ap (λ k. drop k G) front ∙ ap (drop (length r.0)) (sym r.1) ∙ drop-append_seam r.0 s.stage.behind

pub address_made : {shape : Shape} {p : List Row} {X : List Word} {a : Word} {m : ℕ} {G : List ℕ} → HasSemiNormal shape p X → IsAscending X → IsAttractorOf shape p X a m G → (u : Word) (walk : Walk) → IsWalk shape p X Ahead u a walk
    → (head : Stage) (s : IsHead shape p X a m head) (n : ℕ) (by : List ℕ) → IsAttractor shape p s.stage.above n by
    → (times : ℕ) (letters rest : List ℕ) → letters ≡ drop (length G - head.letters) G ++ walk.rest → BeginsTimes times by letters rest → ((z : List ℕ) → rest ≢ by ++ z)
    → (steps : ℤ) → steps ≡ pos walk.steps +ℤ pos head.steps -ℤ pos (times * n) → nat_abs steps < 2 ^ 121 → IsAddressed shape p X u head.at rest steps
address_made {shape} {p} {X} {a} {m} {G} h ascending at u walk w head s n by attractor times letters rest is begins short steps sum few =
    let x = s.stage.above in
    let c = s.stage.behind in
    let hz = word_rest shape a walk.rest (carries_word shape p h.pair (pos walk.steps) u (a · walk.rest) w.carries) in
    let letters_are : (x · c) · walk.rest ≡ x · letters = after-append x c walk.rest ∙ ap (λ t. x · t) (ap (λ t. t ++ walk.rest) (sym (head_last h at head s)) ∙ sym is) in
    let there : Carries shape p (pos walk.steps +ℤ pos head.steps) u (x · letters) = carries_add shape p h.pair (pos walk.steps) (pos head.steps) u (a · walk.rest) (x · letters) w.carries (subst (Carries shape p (pos head.steps) (a · walk.rest)) letters_are (carries_extends shape p (pos head.steps) a (x · c) walk.rest hz s.stage.carries)) in
    let left = stripped_carries shape p h.pair n u x by attractor.lengthens.1 times (pos walk.steps +ℤ pos head.steps) letters rest begins there in
    record {
      above = x;
      here = s.stage.here;
      address = record {
        listed = head_listed a m head s;
        steps = n;
        by = by;
        attractor = attractor;
        least = head_least h at (pos head.steps) x c s.stage.carries (λ r y t less listed carries. let there = slice_get-get_or X listed.0 y listed.1 ∙ ap Some listed.2 in not_less X ascending head.at listed.0 x y s.stage.here there (s.first r listed.0 y t less there carries));
        carries = subst (λ k. Carries shape p k u (x · rest)) (sym sum) left;
        short = short;
      };
      few = few;
      flows = subst (FlowsUnder shape p X) (after-nil u) (walk_flows u a walk [] (All-nil (IsLetter shape)) w (m, G, at.attractor));
    }
