-- A reduced pair has just one quasinormal basis.
use Rattle.std.proofs.Common.{◌≡◌, ◌⊎◌, List, sym, subst, Contains}
use Rattle.std.proofs.lemmas.List.Elements.{All-contains}
use Rattle.std.specs.declared.cmp.Ordering.TheVariants.{Less}
use Rattle.ht_word.specs.Words.{IsUnder, IsUnderSome, word_cmp}
use Rattle.ht_word.specs.declared.shape.Shape.{Shape}
use Rattle.ht_word.specs.declared.word.Word.{Word}
use Rattle.ht_word.proofs.ListLaws.{ascending_same}
use Rattle.ht_word.proofs.WordLaws.{under_trans, under_antisym, All-from_contains, word_cmp_once}
use Rattle.ht_pair.specs.Actions.{IsReduced}
use Rattle.ht_pair.specs.Bases.{IsBasis, IsAllUnder}
use Rattle.ht_pair.specs.Pairs.{IsPair}
use Rattle.ht_pair.specs.SemiNormal.{StaysAhead, StaysBehind, IsQuasinormal}
use Rattle.ht_pair.specs.declared.row.Row.{Row}
use Rattle.ht_pair.proofs.BasisLaws.{prefix_free_same}
use Rattle.ht_pair.proofs.LeastBasisLaws.{IsLeastSemiNormal, least_semi_normal}
use Rattle.ht_pair.proofs.OrderedBasisLaws.{IsOrdered, ordered, under_ordered, ordered_ascending, ordered_basis}
use Rattle.ht_pair.proofs.SemiNormalLaws.{stays_wider}

-- a least semi-normal basis in order is quasinormal
ordered_quasinormal : (shape : Shape) (p : List Row) (W V : List Word) → IsOrdered W V → IsLeastSemiNormal shape p W → IsQuasinormal shape p V
ordered_quasinormal shape p W V o h = record {
  semi_normal = record {
    basis = ordered_basis shape W V o h.semi_normal.basis;
    stays = All-from_contains (λ x. StaysAhead shape p V x ⊎ StaysBehind shape p V x) V (λ x c. stays_wider shape p x W V (under_ordered W V o) (All-contains (λ x. StaysAhead shape p W x ⊎ StaysBehind shape p W x) W x h.semi_normal.stays (o.from x c)));
  };
  ascending = ordered_ascending W V o;
  least = λ U semi. All-from_contains (λ u. IsUnderSome u V) U (λ u c. under_ordered W V o u (All-contains (λ u. IsUnderSome u W) U u (h.least U semi) c));
}

-- a reduced pair has a quasinormal basis
pub quasinormal_exists : (shape : Shape) (p : List Row) → IsPair shape p → IsReduced shape p → (X : List Word) × IsQuasinormal shape p X
quasinormal_exists shape p pair reduced =
    let W = least_semi_normal shape p pair reduced in
    let V = ordered W.0 W.1.semi_normal.basis.prefix_free in
    (V.0, ordered_quasinormal shape p W.0 V.0 V.1 W.1)

-- two bases that are under one another have the same words
pub both_under : (shape : Shape) (X W : List Word) → IsBasis shape X → IsAllUnder X W → IsAllUnder W X → (x : Word) → Contains X x → Contains W x
both_under shape X W basis up down x c =
    let s = All-contains (λ t. IsUnderSome t W) X x up c in
    let t = All-contains (λ t. IsUnderSome t X) W s.above down s.listed in
    let same : x ≡ t.above = prefix_free_same X basis.prefix_free x t.above c t.listed (under_trans s.under t.under) in
    let is : s.above ≡ x = under_antisym (subst (λ u. IsUnder s.above u) (sym same) t.under) s.under in
    subst (Contains W) is s.listed

-- at most one basis is quasinormal
pub quasinormal_unique : (shape : Shape) (p : List Row) (X W : List Word) → IsQuasinormal shape p X → IsQuasinormal shape p W → X ≡ W
quasinormal_unique shape p X W qx qw =
    let up = qw.least X qx.semi_normal in
    let down = qx.least W qw.semi_normal in
    ascending_same (λ u v. word_cmp u v ≡ Less) word_cmp_once X W qx.ascending qw.ascending
    (both_under shape X W qx.semi_normal.basis up down)
    (both_under shape W X qw.semi_normal.basis down up)
