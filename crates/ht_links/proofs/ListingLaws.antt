-- Links are listed one behind another. t is the element with its quasinormal basis.
use Rattle.std.proofs.Common.{◌≡◌, ℕ, ◌+◌, ◌*◌, ◌≤◌, ◌<◌, inl, inr, List, [], ◌∷◌, ◌++◌, length, Some, slice_get, refl, sym, ap, ◌∙◌, subst, arith, append_assoc, append-nil, All, Contains}
use Rattle.std.proofs.lemmas.Bool.{cases_lt}
use Rattle.std.proofs.lemmas.List.{length-append}
use Rattle.std.proofs.lemmas.List.Elements.{All-nil, All-cons, All-append, Contains-append_left, Contains-append_right, Contains-append_cases}
use Rattle.std.proofs.lemmas.Option.{slice_get_within}
use Rattle.ht_word.specs.declared.word.Word.{Word}
use Rattle.ht_word.proofs.ListLaws.{Contains-nil, Contains-here, Contains-there, Contains-cons_cases}
use Rattle.ht_pair.specs.declared.row.Row.{Row}
use Rattle.ht_pair.proofs.KindLaws.{attractor_no_repeller}
use Rattle.ht_quasi.proofs.StepLaws.{same_at}
use Rattle.ht_types.specs.Flows.{IsEndIn, IsUnderInfinite}
use Rattle.ht_types.specs.Links.{IsLink}
use Rattle.ht_types.specs.TypedElements.{TypedValue, IsTyped}
use Rattle.ht_types.specs.declared.direction.Direction.{Direction}
use Rattle.ht_types.specs.declared.direction.Direction.TheVariants.{Ahead, Behind}
use Rattle.ht_types.specs.declared.link.Link.{Link}
use Rattle.ht_links.specs.Listing.{IsLinkUnder, AreEndLinks, ListsUnder, ListsEnd, AddsRowLinks, AddsEndLinks}

-- what is behind a list and more behind that
behind : (xs ys zs more rest : List Link) → ys ≡ xs ++ more → zs ≡ ys ++ rest → zs ≡ xs ++ (more ++ rest)
behind xs ys zs more rest e g = g ∙ ap (λ t. t ++ rest) e ∙ append_assoc xs more rest

-- links that are listed stay so
pub under_kept : (t : TypedValue) (u : Word) (links all : List Link) → ((link : Link) → Contains links link → Contains all link) → ListsUnder t u links → ListsUnder t u all
under_kept t u links all stay l = record { link = l.link; listed = stay l.link l.listed; under = l.under }

pub end_kept : (t : TypedValue) (direction : Direction) (place : ℕ) (links all : List Link) → ((link : Link) → Contains links link → Contains all link) → ListsEnd t direction place links → ListsEnd t direction place all
end_kept t direction place links all stay l = record { first = l.first; second = l.second; first_listed = stay l.first l.first_listed; second_listed = stay l.second l.second_listed; are = l.are }

-- ---- rows

pub no_row_links : (t : TypedValue) (links : List Link) → AddsRowLinks t [] links links
no_row_links t links = record { more = []; is = sym (append-nil links); links = All-nil (IsLink t); each = λ row c i. absurd (Contains-nil row c); few = omega arith }

pub row_links_then : (t : TypedValue) (rows others : List Row) (old mid new : List Link) → AddsRowLinks t rows old mid → AddsRowLinks t others mid new → AddsRowLinks t (rows ++ others) old new
row_links_then t rows others old mid new a b = record {
  more = a.more ++ b.more;
  is = behind old mid new a.more b.more a.is b.is;
  links = All-append (IsLink t) a.more b.more a.links b.links;
  each = λ row c i. elim (Contains-append_cases rows others row c) [
    | inl here ↦ under_kept t row.from a.more (a.more ++ b.more) (λ link d. Contains-append_left a.more b.more link d) (a.each row here i)
    | inr there ↦ under_kept t row.from b.more (a.more ++ b.more) (λ link d. Contains-append_right a.more b.more link d) (b.each row there i)
  ];
  few = (let m = a.few in let n = b.few in omega (arith, length-append a.more b.more, length-append rows others));
}

-- a row whose `from` word isn't under the infinite part has no link
pub row_skipped : (t : TypedValue) (row : Row) (links : List Link) → ¬ IsUnderInfinite t.element.shape t.element.rows t.quasi.basis.words row.from → AddsRowLinks t (row ∷ []) links links
row_skipped t row links none = record {
  more = [];
  is = sym (append-nil links);
  links = All-nil (IsLink t);
  each = λ other c i. elim (Contains-cons_cases row [] other c) [
    | inl same ↦ absurd (none (subst (λ (r : Row). IsUnderInfinite t.element.shape t.element.rows t.quasi.basis.words r.from) (sym same) i))
    | inr none_there ↦ absurd (Contains-nil other none_there)
  ];
  few = omega arith;
}

pub row_linked : (t : TypedValue) (row : Row) (link : Link) (old new : List Link) → IsLinkUnder t row.from link → new ≡ old ++ link ∷ [] → AddsRowLinks t (row ∷ []) old new
row_linked t row link old new l e = record {
  more = link ∷ [];
  is = e;
  links = All-cons (IsLink t) link [] l.made (All-nil (IsLink t));
  each = λ other c i. elim (Contains-cons_cases row [] other c) [
    | inl same ↦ subst (λ (r : Row). ListsUnder t r.from (link ∷ [])) same (record { link = link; listed = Contains-here link []; under = l.under })
    | inr none_there ↦ absurd (Contains-nil other none_there)
  ];
  few = omega arith;
}

-- ---- ends

pub no_end_links : (t : TypedValue) (place : ℕ) (links : List Link) → AddsEndLinks t place place links links
no_end_links t place links = record {
  more = [];
  is = sym (append-nil links);
  links = All-nil (IsLink t);
  each = λ direction other x low high here ends. absurd (omega arith);
  few = omega arith;
}

pub end_links_then : (t : TypedValue) (low mid high : ℕ) (old some new : List Link) → low ≤ mid → mid ≤ high → AddsEndLinks t low mid old some → AddsEndLinks t mid high some new → AddsEndLinks t low high old new
end_links_then t low mid high old some new l m a b = record {
  more = a.more ++ b.more;
  is = behind old some new a.more b.more a.is b.is;
  links = All-append (IsLink t) a.more b.more a.links b.links;
  each = λ direction place x from below here ends. elim (cases_lt place mid) [
    | inl less ↦ end_kept t direction place a.more (a.more ++ b.more) (λ link d. Contains-append_left a.more b.more link d) (a.each direction place x from less here ends)
    | inr other ↦ end_kept t direction place b.more (a.more ++ b.more) (λ link d. Contains-append_right a.more b.more link d) (b.each direction place x other below here ends)
  ];
  few = (let first = a.few in let second = b.few in omega (arith, length-append a.more b.more));
}

-- a word that is no end has no links
pub end_skipped : (t : TypedValue) (place : ℕ) (links : List Link) → ((direction : Direction) (x : Word) → slice_get t.quasi.basis.words place ≡ Some x → ¬ IsEndIn direction t.element.shape t.element.rows x) → AddsEndLinks t place (place + 1) links links
end_skipped t place links none = record {
  more = [];
  is = sym (append-nil links);
  links = All-nil (IsLink t);
  each = λ direction other x low high here ends. absurd (none direction x (subst (λ k. slice_get t.quasi.basis.words k ≡ Some x) (only place other low high) here) ends);
  few = omega arith;
}
  where
    only : (k n : ℕ) → k ≤ n → n < k + 1 → n ≡ k
    only k n low high = omega arith

-- a word is an end of one direction alone
one_direction : (t : TypedValue) → IsTyped t.element t.quasi t.kinds → (x : Word) (one other : Direction) → IsEndIn one t.element.shape t.element.rows x → IsEndIn other t.element.shape t.element.rows x → one ≡ other
one_direction t typed x Ahead Ahead e g = refl
one_direction t typed x Behind Behind e g = refl
one_direction t typed x Ahead Behind e g = absurd (attractor_no_repeller t.element.shape t.element.rows typed.canonical.pair x e.0 g.0 e.1 g.1 e.2 g.2)
one_direction t typed x Behind Ahead e g = absurd (attractor_no_repeller t.element.shape t.element.rows typed.canonical.pair x g.0 e.0 g.1 e.1 g.2 e.2)

pub end_linked : (t : TypedValue) → IsTyped t.element t.quasi t.kinds → (direction : Direction) (place : ℕ) (x : Word) (first second : Link) (old some new : List Link) → slice_get t.quasi.basis.words place ≡ Some x → IsEndIn direction t.element.shape t.element.rows x
    → IsLink t first × IsLink t second × AreEndLinks t direction place first second → some ≡ old ++ first ∷ [] → new ≡ some ++ second ∷ [] → AddsEndLinks t place (place + 1) old new
end_linked t typed direction place x first second old some new here ends links first_is second_is = record {
  more = first ∷ second ∷ [];
  is = behind old some new (first ∷ []) (second ∷ []) first_is second_is;
  links = All-cons (IsLink t) first (second ∷ []) links.0 (All-cons (IsLink t) second [] links.1 (All-nil (IsLink t)));
  each = λ other n y low high there too.
      let k : n ≡ place = only place n low high in
      let same : x ≡ y = same_at t.quasi.basis.words t.quasi.basis.words place x y refl here (subst (λ i. slice_get t.quasi.basis.words i ≡ Some y) k there) in
      let d : direction ≡ other = one_direction t typed y direction other (subst (IsEndIn direction t.element.shape t.element.rows) same ends) too in
      subst (λ i. ListsEnd t other i (first ∷ second ∷ [])) (sym k) (subst (λ e. ListsEnd t e place (first ∷ second ∷ [])) d (record {
        first = first;
        second = second;
        first_listed = Contains-here first (second ∷ []);
        second_listed = Contains-there first (second ∷ []) second (Contains-here second []);
        are = links.2;
      }));
  few = omega arith;
}
  where
    only : (k n : ℕ) → k ≤ n → n < k + 1 → n ≡ k
    only k n low high = omega arith

-- ---- all

-- all links are listed
pub record IsWhole (t : TypedValue) (links : List Link) : Type 0 where
  pub are : All (IsLink t) links
  pub rows : (row : Row) → Contains t.quasi.y row → IsUnderInfinite t.element.shape t.element.rows t.quasi.basis.words row.from → ListsUnder t row.from links
  pub ends : (direction : Direction) (place : ℕ) (x : Word) → slice_get t.quasi.basis.words place ≡ Some x → IsEndIn direction t.element.shape t.element.rows x → ListsEnd t direction place links
  pub few : length links ≤ length t.quasi.y + 2 * length t.quasi.basis.words

pub whole : (t : TypedValue) (none some all : List Link) → none ≡ [] → AddsRowLinks t t.quasi.y none some → AddsEndLinks t 0 (length t.quasi.basis.words) some all → IsWhole t all
whole t none some all e a b =
    let some_is : some ≡ a.more = a.is ∙ ap (λ xs. xs ++ a.more) e in
    let all_is : a.more ++ b.more ≡ all = sym (b.is ∙ ap (λ xs. xs ++ b.more) some_is) in
    subst (IsWhole t) all_is (record {
      are = All-append (IsLink t) a.more b.more a.links b.links;
      rows = λ row c i. under_kept t row.from a.more (a.more ++ b.more) (λ link d. Contains-append_left a.more b.more link d) (a.each row c i);
      ends = λ direction place x here ends.
          end_kept t direction place b.more (a.more ++ b.more) (λ link d. Contains-append_right a.more b.more link d) (b.each direction place x (omega arith) (slice_get_within t.quasi.basis.words place x here) here ends);
      few = (let m = a.few in let n = b.few in omega (arith, length-append a.more b.more));
    })
