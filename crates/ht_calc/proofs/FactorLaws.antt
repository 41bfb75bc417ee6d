-- Factors, and the terms that they stand for.
use Rattle.std.proofs.Common.{◌≡◌, ◌≢◌, ◌<◌, ℕ, suc, List, [], ◌∷◌, ◌++◌, length, take, drop, get_or, refl, sym, ap, ◌∙◌, subst, Option, Some, None, Contains}
use Rattle.std.proofs.Math.Seq.{split_at}
use Rattle.std.proofs.lemmas.List.{map-append}
use Rattle.std.proofs.lemmas.List.Elements.{All-contains}
use Rattle.ht_word.specs.declared.shape.Shape.{Shape}
use Rattle.ht_word.proofs.ListLaws.{Contains-here, Contains-there, Contains-map}
use Rattle.ht_word.proofs.WordLaws.{All-from_contains}
use Rattle.ht_pair.specs.declared.row.Row.{Row}
use Rattle.ht_pair.specs.Elements.{ElementValue}
use Rattle.ht_pair.specs.Pairs.{IsPair}
use Rattle.ht_script.specs.declared.factor.Exponent.{Exponent}
use Rattle.ht_script.specs.declared.factor.Exponent.TheVariants.{Fits, Wide}
use Rattle.ht_script.specs.declared.factor.Factor.{Factor}
use Rattle.ht_calc.specs.Names.{rows_by_name, IsOfShape, AreOfShape, bound, AreBound, IsFirstUnbound}
use Rattle.ht_calc.specs.Products.{Term, names_of, StandFor, HasWide}
use Rattle.ht_calc.specs.Terms.{AreTermsOf, HasTerm}
use Rattle.ht_calc.proofs.NameLaws.{rows_of, bound_rows, bound_somewhere, bound_of_shape}
use Rattle.ht_calc.proofs.TermLaws.{HasTerms}

-- the factor at a place, where those before it are bound, is the first that isn't
pub first_unbound_at : (names : List (List ℕ × ElementValue)) (factors : List Factor) (i : ℕ) (factor : Factor) → i < length factors → factor ≡ get_or factors i factor → AreBound names (names_of (take i factors)) → bound names factor.name ≡ None
    → IsFirstUnbound names (names_of factors) factor.name
first_unbound_at names factors i factor within is before none = record {
  before = names_of (take i factors);
  behind = names_of (drop (suc i) factors);
  are = ap names_of (split_at factors i factor within ∙ ap (λ (t : Factor). take i factors ++ t ∷ drop (suc i) factors) (sym is)) ∙ map-append (λ (t : Factor). t.name) (take i factors) (factor ∷ drop (suc i) factors);
  bound_before = before;
  unbound = none;
}

-- what is bound by the elements is bound by their rows
pub bound_by_rows : (names : List (List ℕ × ElementValue)) (asked : List (List ℕ)) → AreBound names asked → AreBound (rows_by_name names) asked
bound_by_rows names asked h = All-from_contains (λ name. bound (rows_by_name names) name ≢ None) asked (λ name c.
    subst (λ (t : Option (List Row)). t ≢ None) (sym (bound_rows names name)) ((bound_somewhere (bound names name)).1 (All-contains (λ t. bound names t ≢ None) asked name h c)))

-- and what is not bound isn't
pub unbound_by_rows : (names : List (List ℕ × ElementValue)) (asked : List (List ℕ)) (name : List ℕ) → IsFirstUnbound names asked name → IsFirstUnbound (rows_by_name names) asked name
unbound_by_rows names asked name h = record {
  before = h.before;
  behind = h.behind;
  are = h.are;
  bound_before = bound_by_rows names h.before h.bound_before;
  unbound = bound_rows names name ∙ ap rows_of h.unbound;
}

-- the element that a bound name has
record HasElement (found : Option ElementValue) : Type 0 where
  element : ElementValue
  is : found ≡ Some element

some_element : (found : Option ElementValue) → found ≢ None → HasElement found
some_element None some = absurd (some refl)
some_element (Some element) some = record { element = element; is = refl }

-- a factor whose name is bound and whose exponent is not wide has a term
term_at : (shape : Shape) (names : List (List ℕ × ElementValue)) (factor : Factor) (exponent : Exponent) (element : ElementValue) → factor.exponent ≡ exponent → bound names factor.name ≡ Some element → IsOfShape (Some shape) element
    → exponent ≢ Wide → HasTerm shape names factor
term_at shape names factor (Fits k) element is found of_shape narrow =
    let same : element.shape ≡ shape = let e = of_shape.shape_is in cc in (
      record { rows = element.rows; exponent = k },
      record {
        element = found ∙ ap (λ (s : Shape). Some (record element { shape = s })) same;
        pair = subst (λ (s : Shape). IsPair s element.rows) same of_shape.pair;
        exponent = is;
      },
    )
term_at shape names factor Wide element is found of_shape narrow = absurd (narrow refl)

all_terms : (shape : Shape) (names : List (List ℕ × ElementValue)) (factors : List Factor) → ((factor : Factor) → Contains factors factor → HasTerm shape names factor) → HasTerms shape names factors
all_terms shape names [] has = ([], tt)
all_terms shape names (factor ∷ factors) has =
    let term = has factor (Contains-here factor factors) in
    let later = all_terms shape names factors (λ other c. has other (Contains-there factor factors other c)) in
    (term.0 ∷ later.0, (term.1, later.1))

-- factors whose names are bound and whose exponents are not wide have terms
pub have_terms : (shape : Shape) (names : List (List ℕ × ElementValue)) (factors : List Factor) → AreOfShape (Some shape) names → AreBound names (names_of factors) → ¬ HasWide factors → HasTerms shape names factors
have_terms shape names factors of_shape are_bound narrow = all_terms shape names factors (λ factor c.
    let found = some_element (bound names factor.name) (All-contains (λ t. bound names t ≢ None) (names_of factors) factor.name are_bound (Contains-map (λ (t : Factor). t.name) factors factor c)) in
    term_at shape names factor factor.exponent found.element refl found.is (bound_of_shape (Some shape) names factor.name found.element of_shape found.is)
    (λ wide. narrow (c.0, factor, c.1, c.2, wide)))

-- the terms stand for the factors
pub terms_stand : (shape : Shape) (names : List (List ℕ × ElementValue)) (factors : List Factor) (terms : List Term) → AreTermsOf shape names factors terms → StandFor (rows_by_name names) factors terms
terms_stand shape names [] [] h = tt
terms_stand shape names [] (term ∷ terms) h = h
terms_stand shape names (factor ∷ factors) [] h = h
terms_stand shape names (factor ∷ factors) (term ∷ terms) h = (bound_rows names factor.name ∙ ap rows_of h.0.element, h.0.exponent, terms_stand shape names factors terms h.1)

-- the terms of a line's factors
pub line_terms : (set : Option Shape) (shape : Shape) (names : List (List ℕ × ElementValue)) (slice : List Factor) → set ≡ Some shape → AreOfShape set names → AreBound names (names_of slice) → ¬ HasWide slice → HasTerms shape names slice
line_terms set shape names slice some of_shape are_bound narrow =
    have_terms shape names slice (subst (λ t. AreOfShape t names) some of_shape) are_bound narrow

pub line_terms_stand : (shape : Shape) (names : List (List ℕ × ElementValue)) (factors slice : List Factor) (terms : List Term) → slice ≡ factors → AreTermsOf shape names slice terms → StandFor (rows_by_name names) factors terms
line_terms_stand shape names factors slice terms same are = subst (λ (t : List Factor). StandFor (rows_by_name names) t terms) same (terms_stand shape names slice terms are)
