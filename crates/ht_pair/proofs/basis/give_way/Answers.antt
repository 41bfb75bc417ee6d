use Rattle.std.proofs.Common.{◌≡◌, ◌∙◌, ◌+◌, ◌++◌, length, take, drop, List, subst₂, rules}
use Rattle.std.specs.Vec.{vec_len}
use Rattle.ht_word.specs.declared.word.Word.{Word}
use Rattle.ht_pair.proofs.HeldBasisLaws.{spliced}
use Rattle.ht_pair.proofs.basis.give_way.Goals as goal
use Rattle.ht_pair.proofs.basis.give_way.Goals.{in-Ok, in-Err}

pub returns-clause-ok : goal.returns-clause-ok
returns-clause-ok c = elim c.match-outcome.branch [
  | in-Ok w ↦ (
      let h = w.in-Ok.ensures.items in
      let l : vec_len c.into_vec.result ≡ length c.into_vec.result.items = search rules in
      let is = spliced h.0 c.into_vec-items.result.items c.into_vec.result.items h.1 c.splice-outcome.new.self.items c.args.place h.2.0 (h.2.1 ∙ l) h.3 h.4 in
      let was : c.into_vec-items.result.items ≡ c.args.words.now = c.into_vec-items.ensures ∙ c.replace.ensures.value in
      rw w.result-is (subst₂ (λ (old others : List Word). c.from_vec.result ≡ take c.args.place old ++ others ++ drop (c.args.place + 1) old) was c.into_vec.ensures (c.from_vec.ensures ∙ is)))
  | in-Err w ↦ rw w.result-is tt
]
