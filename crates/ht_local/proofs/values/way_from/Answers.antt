use Rattle.std.proofs.Common.{length}
use Rattle.std.proofs.lemmas.Option.{slice_get_within}
use Rattle.ht_local.proofs.SlotLaws.{pushed}
use Rattle.ht_local.proofs.WayLaws.{place_within}
use Rattle.ht_local.proofs.values.way_from.Goals as goal

pub kind-requires : goal.kind-requires
kind-requires c = place_within c.args.f.now c.keeps_kinds.ensures c.args.k.now c.requires.atom c.args.index c.at.result.now c.at.ensures

pub loop-preserved : goal.loop-preserved
loop-preserved c =
    let n = c.in-Some.ensures in
    record {
      at = slice_get_within c.args.k.now c.in-Some.next.to n.place n.place_at;
      way = pushed c.loop.way.items c.push.new.self.items c.loop.at (length c.args.k.now) c.in_ok-push.ensures.items c.loop.invariant.at c.loop.invariant.way;
    }

pub returns-in_default : goal.returns-in_default
returns-in_default c = pushed c.loop.way.items c.push.new.self.items c.loop.at (length c.args.k.now) c.in_ok-push.ensures.items c.loop.invariant.at c.loop.invariant.way
