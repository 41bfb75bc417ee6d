use Rattle.ht_links.proofs.ListingLaws.{IsWhole, whole}
use Rattle.ht_links.proofs.ConnectLaws.{ends_connected}
use Rattle.ht_links.proofs.listing.links.Goals as goal
use Rattle.ht_links.proofs.listing.links.Goals.{In_ok-add_end_links}

all_listed : (c : In_ok-add_end_links) → IsWhole c.args.t.now c.add_end_links.new.links
all_listed c = whole c.args.t.now c.new-links.result c.add_row_links.new.links c.add_end_links.new.links c.new-links.ensures c.in_ok-add_row_links.ensures c.in_ok-add_end_links.ensures

pub returns : goal.returns
returns c =
    let all = all_listed (goal.at.returns c).In_ok-add_end_links in
    record {
      links = all.are;
      connected = λ places atom. ends_connected c.args.t.now c.keeps_kinds.ensures c.add_end_links.new.links all places atom;
      few = all.few;
    }
