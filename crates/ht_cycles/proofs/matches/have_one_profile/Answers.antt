use Rattle.std.proofs.Common.{◌≡◌, ◌==◌, ◌&&◌, ℕ, List, IsTrue, ◌↔◌, ap, subst, subst₂}
use Rattle.std.specs.Bool.{Decides}
use Rattle.std.proofs.lemmas.Bool.Decides.{Decides-like, Decides-and, Decides-eqb}
use Rattle.std.proofs.lemmas.Slice.Eq.{slice_eq-Decides}
use Rattle.ht_word.specs.declared.shape.Shape.{Shape}
use Rattle.ht_pair.specs.Profiles.{IsProfile}
use Rattle.ht_cycles.proofs.matches.have_one_profile.Goals as goal

pair_decides : (p q : ℕ × ℕ) → Decides (p.0 == q.0 && p.1 == q.1) (p ≡ q)
pair_decides p q = Decides-like (p.0 == q.0 && p.1 == q.1) (λ h i. (h.0 i, h.1 i)) (λ e. (ap (λ (t : ℕ × ℕ). t.0) e, ap (λ (t : ℕ × ℕ). t.1) e)) (Decides-and (p.0 == q.0) (p.1 == q.1) (Decides-eqb p.0 q.0) (Decides-eqb p.1 q.1))

pub returns : goal.returns
returns c =
    let second = subst (λ (s : Shape). IsProfile s c.args.g.now.element.rows c.args.g.now.quasi.basis.words c.in_ok-second.second) c.requires.shape c.in_ok-second.ensures in
    let tells = slice_eq-Decides pair_decides c.as_slice.result.now c.as_slice-2.result.now c.eq.result c.eq.ensures in
    (c.in_ok-first.first, c.in_ok-second.second, c.in_ok-first.ensures, second, subst₂ (λ (F G : List (ℕ × ℕ)). IsTrue c.eq.result ↔ (F ≡ G)) c.as_slice.ensures c.as_slice-2.ensures tells)
