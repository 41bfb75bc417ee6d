use Rattle.std.proofs.Common.{subst}
use Rattle.std.specs.List.Sorted.{IsBinarySearchResult}
use Rattle.std.specs.Ordering.{nat_cmp}
use Rattle.ht_local.proofs.PlaceSearch.{place_found}
use Rattle.ht_local.proofs.places.index_of.Goals as goal

pub returns : goal.returns
returns c = place_found c.args.places.now c.args.place c.requires c.binary_search.result
    (subst (λ s. IsBinarySearchResult (λ y. nat_cmp y c.args.place) s c.binary_search.result) c.as_slice.ensures c.binary_search.ensures.position) c.ok.result c.ok.ensures.value
