-- Products of terms, made one after another.
use Rattle.std.proofs.Common.{◌≡◌, inl, inr, Result, Ok, Err, IfOk, OnOk, ℕ, zero, suc, List, [], ◌∷◌, ◌<◌, length, drop, get_or, refl, sym, ap, ◌∙◌, subst, arith, ◌+◌, ℤ, pos, negsuc}
use Rattle.std.proofs.lemmas.List.{drop_more}
use Rattle.ht_word.specs.Words.{◌·◌, IsWordOf}
use Rattle.ht_word.specs.declared.shape.Shape.{Shape}
use Rattle.ht_word.specs.declared.word.Word.{Word}
use Rattle.ht_word.proofs.WordLaws.{after_cancel_right, ones}
use Rattle.ht_pair.specs.declared.row.Row.{Row}
use Rattle.ht_pair.specs.Elements.{ElementValue}
use Rattle.ht_pair.specs.Actions.{Moves, Alike}
use Rattle.ht_pair.specs.Pairs.{IsPair, turned, identity}
use Rattle.ht_pair.specs.PowerSizes.{IsLargePower}
use Rattle.ht_pair.specs.Products.{IsProduct, IsPower}
use Rattle.ht_pair.specs.Sizes.{IsLarge}
use Rattle.ht_pair.specs.Steps.{StepsAhead, Steps}
use Rattle.ht_pair.proofs.IdentityLaws.{identity_canonical, identity_moves}
use Rattle.ht_pair.proofs.MovesLaws.{moves_extends, moves_map}
use Rattle.ht_pair.proofs.PowerLaws.{power_once}
use Rattle.ht_pair.proofs.PrefixMapLaws.{long_word, moved_long}
use Rattle.ht_pair.proofs.ProductLaws.{product_first_alike, product_second_alike, product_once}
use Rattle.ht_pair.proofs.SizeLaws.{large_alike}
use Rattle.ht_script.specs.declared.factor.Factor.{Factor}
use Rattle.ht_calc.specs.Products.{Term, StepsThrough, IsProductOf, IsLargeBehind, IsLargeProduct}
use Rattle.ht_calc.specs.Terms.{IsTermOf, AreTermsOf, HasTerm, IsRaised, IsRaisedBehind, IsLargeNext}

-- the letters behind a word stay
ahead_extends : (p : List Row) (k : ℕ) (u w : Word) (z : List ℕ) → StepsAhead p k u w → StepsAhead p k (u · z) (w · z)
ahead_extends p zero u w z e = ap (λ t. t · z) e
ahead_extends p (suc k) u w z s = (s.0 · z, ahead_extends p k u s.0 z s.1, moves_extends p s.0 w z s.2)

steps_extends : (p : List Row) (k : ℤ) (u w : Word) (z : List ℕ) → Steps p k u w → Steps p k (u · z) (w · z)
steps_extends p (pos k) = ahead_extends p k
steps_extends p (negsuc k) = ahead_extends (turned p) (suc k)

through_extends : (terms : List Term) (u w : Word) (z : List ℕ) → StepsThrough terms u w → StepsThrough terms (u · z) (w · z)
through_extends [] u w z e = ap (λ t. t · z) e
through_extends (term ∷ terms) u w z s = (s.0 · z, steps_extends term.rows term.exponent u s.0 z s.1, through_extends terms s.0 w z s.2)

-- s is p, and then the powers of the terms
pub record IsProductBehind (shape : Shape) (p : List Row) (terms : List Term) (s : List Row) : Type 0 where
  pub pair : IsPair shape s
  pub composed : (u v w w' : Word) → IsWordOf shape u → Moves p u v → StepsThrough terms v w → Moves s u w' → w ≡ w'

-- with no more terms it is p
behind_none : (shape : Shape) (p : List Row) → IsPair shape p → IsProductBehind shape p [] p
behind_none shape p pair = record { pair = pair; composed = λ u v w w' word f e g. sym e ∙ (moves_map shape p pair).ahead.single u v w' word f g }

-- a product behind the first power is the product
behind_first : (shape : Shape) (term : Term) (terms : List Term) (p s : List Row) → IsPower shape term.rows term.exponent p → IsProductBehind shape p terms s → IsProductOf shape (term ∷ terms) s
behind_first shape term terms p s power h = record {
  pair = h.pair;
  composed = λ u v w word f g.
      let m = (moves_map shape p power.pair).ahead in
      let z = ones m.bound in
      let x = moved_long shape (Moves p) m u m.bound word (omega arith) in
      let long = long_word shape u m.bound word in
      let there : f.0 · z ≡ x.0 = power.stepped (u · z) (f.0 · z) x.0 long (steps_extends term.rows term.exponent u f.0 z f.1) x.1 in
      after_cancel_right v w z (h.composed (u · z) (f.0 · z) (v · z) (w · z) long (subst (Moves p (u · z)) (sym there) x.1) (through_extends terms f.0 v z f.2) (moves_extends s u w z g));
}

-- a product behind p and one more power is one behind p
behind_next : (shape : Shape) (term : Term) (terms : List Term) (p q r s : List Row) → IsPair shape p → IsPower shape term.rows term.exponent q → IsProduct shape p q r → IsProductBehind shape r terms s → IsProductBehind shape p (term ∷ terms) s
behind_next shape term terms p q r s pair power product h = record {
  pair = h.pair;
  composed = λ u v w w' word f t g.
      let mq = (moves_map shape q power.pair).ahead in
      let mr = (moves_map shape r product.pair).ahead in
      let k = mq.bound + mr.bound in
      let z = ones k in
      let word_v = (moves_map shape p pair).ahead.word u v word f in
      let long = long_word shape u k word in
      let x = moved_long shape (Moves q) mq v k word_v (omega arith) in
      let y = moved_long shape (Moves r) mr u k word (omega arith) in
      let there : t.0 · z ≡ x.0 = power.stepped (v · z) (t.0 · z) x.0 (long_word shape v k word_v) (steps_extends term.rows term.exponent v t.0 z t.1) x.1 in
      let same : x.0 ≡ y.0 = product.composed (u · z) (v · z) x.0 y.0 long (moves_extends p u v z f) x.1 y.1 in
      after_cancel_right w w' z (h.composed (u · z) (t.0 · z) (w · z) (w' · z) long (subst (Moves r (u · z)) (sym (there ∙ same)) y.1) (through_extends terms t.0 w z t.2) (moves_extends s u w' z g));
}

-- ---- the first large one

-- it is the same behind each pair alike p
large_behind_alike : (shape : Shape) (p p' : List Row) (terms : List Term) (i j : ℕ) → IsPair shape p → Alike shape p p' → IsLargeBehind shape p terms i j → IsLargeBehind shape p' terms i j
large_behind_alike shape p p' [] i j pair alike h = h
large_behind_alike shape p p' (term ∷ terms) i j pair alike (inl large) = inl large
large_behind_alike shape p p' (term ∷ terms) i j pair alike (inr h) = inr (h.0, h.1, h.2, h.3, product_first_alike shape p p' h.1 h.2 pair h.3.pair alike h.4, h.5)

-- behind the first power
large_first : (shape : Shape) (term : Term) (terms : List Term) (p : List Row) (i j : ℕ) → IsPair shape term.rows → IsRaised shape term p → IsLargeProduct shape (term ∷ terms) i j → IsLargeBehind shape p terms i j
large_first shape term terms p i j pair raised (inl large) = absurd (raised.small i j large)
large_first shape term terms p i j pair raised (inr h) = large_behind_alike shape h.1 p terms i j h.2.pair (power_once shape term.rows h.1 p term.exponent pair h.2 raised.power) h.3

-- two products of p and the power are alike
raised_alike : (shape : Shape) (term : Term) (p q q' r r' : List Row) → IsPair shape p → IsPair shape term.rows → IsPower shape term.rows term.exponent q → IsPower shape term.rows term.exponent q' → IsProduct shape p q r → IsProduct shape p q' r' → Alike shape r r'
raised_alike shape term p q q' r r' pair pair_t power power' product product' =
    product_once shape p q' r r' pair power'.pair
    (product_second_alike shape p q q' r pair power.pair (power_once shape term.rows q q' term.exponent pair_t power power') product) product'

-- behind one more power
large_next : (shape : Shape) (term : Term) (terms : List Term) (p s : List Row) (i j : ℕ) → IsPair shape p → IsPair shape term.rows → IsRaisedBehind shape p term s → IsLargeBehind shape p (term ∷ terms) i j → IsLargeBehind shape s terms i j
large_next shape term terms p s i j pair pair_t raised (inl large) = absurd (raised.raised.small i j large)
large_next shape term terms p s i j pair pair_t raised (inr h) =
    let alike = raised_alike shape term p h.1 raised.q h.2 s pair pair_t h.3 raised.raised.power h.4 raised.product in
    elim h.5 [
      | inl large ↦ absurd (raised.small i j (large_alike shape h.2 s i j h.4.pair raised.product.pair alike large))
      | inr later ↦ large_behind_alike shape h.2 s terms i j h.4.pair alike later.1
    ]

-- ---- so far

-- p is the product of the first terms, and none of the elements made so far is large: what is left behind p is what is left of all
pub record IsProductSoFar (shape : Shape) (p : List Row) (terms left : List Term) : Type 0 where
  pub pair : IsPair shape p
  pub product : (s : List Row) → IsProductBehind shape p left s → IsProductOf shape terms s
  pub large : (i j : ℕ) → IsLargeProduct shape terms i j → IsLargeBehind shape p left i j
  pub first_large : (i j : ℕ) → IsLargeBehind shape p left i j → IsLargeProduct shape terms i j

-- the power of the first term
pub leads_first : (shape : Shape) (term : Term) (terms : List Term) (p : List Row) → IsPair shape term.rows → IsRaised shape term p → IsProductSoFar shape p (term ∷ terms) terms
leads_first shape term terms p pair raised = record {
  pair = raised.power.pair;
  product = λ s h. behind_first shape term terms p s raised.power h;
  large = λ i j h. large_first shape term terms p i j pair raised h;
  first_large = λ i j h. inr (raised.small, p, raised.power, h);
}

-- one more power
pub leads_next : (shape : Shape) (term : Term) (terms left : List Term) (p s : List Row) → IsPair shape term.rows → IsProductSoFar shape p terms (term ∷ left) → IsRaisedBehind shape p term s → IsProductSoFar shape s terms left
leads_next shape term terms left p s pair_t h raised = record {
  pair = raised.product.pair;
  product = λ t g. h.product t (behind_next shape term left p raised.q s t h.pair raised.raised.power raised.product g);
  large = λ i j g. large_next shape term left p s i j h.pair pair_t raised (h.large i j g);
  first_large = λ i j g. h.first_large i j (inr (raised.raised.small, raised.q, s, raised.raised.power, raised.product, inr (raised.small, g)));
}

-- a large one behind p is the first of all
pub leads_large : (shape : Shape) (term : Term) (terms left : List Term) (p : List Row) (i j : ℕ) → IsProductSoFar shape p terms (term ∷ left) → IsLargeNext shape p term i j → IsLargeProduct shape terms i j
leads_large shape term terms left p i j h (inl large) = h.first_large i j (inl large)
leads_large shape term terms left p i j h (inr g) = h.first_large i j (inr (g.raised.small, g.q, g.s, g.raised.power, g.product, inl g.large))

-- with no more terms p is the product, and nothing is large
pub leads_end : (shape : Shape) (terms : List Term) (p : List Row) → IsProductSoFar shape p terms [] → IsProductOf shape terms p
leads_end shape terms p h = h.product p (behind_none shape p h.pair)

pub leads_small : (shape : Shape) (terms : List Term) (p : List Row) (i j : ℕ) → IsProductSoFar shape p terms [] → ¬ IsLargeProduct shape terms i j
leads_small shape terms p i j h = h.large i j

-- ---- calls

-- p and the power, where it isn't large
pub raised_next : {E : Type 0} (shape : Shape) (p : List Row) (term : Term) (q : List Row) (result : Result ElementValue E) → IsRaised shape term q
    → IfOk result (λ s. (s.shape ≡ shape) × IsProduct shape p q s.rows) → OnOk result ((s : List Row) (i j : ℕ) → IsProduct shape p q s → ¬ IsLarge shape s i j)
    → IfOk result (λ s. (s.shape ≡ shape) × IsRaisedBehind shape p term s.rows)
raised_next shape p term q (Ok s) raised product small = (product.0, record { q = q; raised = raised; product = product.1; small = λ i j. small s.rows i j product.1 })
raised_next shape p term q (Err e) raised product small = tt

-- the item at a place is the first of what is left there
pub item_left : {X : Type 0} (xs : List X) (i : ℕ) (x : X) → i < length xs → x ≡ get_or xs i x → drop i xs ≡ x ∷ drop (i + 1) xs
item_left xs i x within is = drop_more xs i x within ∙ ap (λ t. t ∷ drop (i + 1) xs) (sym is)

-- the terms that are left of all terms, behind p
pub record IsLeft (shape : Shape) (names : List (List ℕ × ElementValue)) (rest : List Factor) (p : List Row) (terms : List Term) : Type 0 where
  pub left : List Term
  pub are : AreTermsOf shape names rest left
  pub leads : IsProductSoFar shape p terms left

-- p is what has been made of the factors when the rest is left
pub record HasCome (shape : Shape) (names : List (List ℕ × ElementValue)) (factors rest : List Factor) (p : ElementValue) : Type 0 where
  pub shape_is : p.shape ≡ shape
  pub left : (terms : List Term) → AreTermsOf shape names factors terms → IsLeft shape names rest p.rows terms

-- the first of the terms of factors, and the others
record AreParted (shape : Shape) (names : List (List ℕ × ElementValue)) (factor : Factor) (factors : List Factor) (terms : List Term) : Type 0 where
  term : Term
  others : List Term
  is : terms ≡ term ∷ others
  first : IsTermOf shape names factor term
  later : AreTermsOf shape names factors others

parted : (shape : Shape) (names : List (List ℕ × ElementValue)) (factor : Factor) (factors : List Factor) (terms : List Term) → AreTermsOf shape names (factor ∷ factors) terms → AreParted shape names factor factors terms
parted shape names factor factors [] h = absurd h
parted shape names factor factors (term ∷ terms) h = record { term = term; others = terms; is = refl; first = h.0; later = h.1 }

parted_at : (shape : Shape) (names : List (List ℕ × ElementValue)) (all factors : List Factor) (factor : Factor) (terms : List Term) → all ≡ factor ∷ factors → AreTermsOf shape names all terms → AreParted shape names factor factors terms
parted_at shape names all factors factor terms e h = parted shape names factor factors terms (subst (λ (t : List Factor). AreTermsOf shape names t terms) e h)

abbrev pub HasTerms : Shape → List (List ℕ × ElementValue) → List Factor → Type 0
HasTerms shape names factors = (terms : List Term) × AreTermsOf shape names factors terms

-- the first factor has a term
pub first_term : (shape : Shape) (names : List (List ℕ × ElementValue)) (all factors : List Factor) (factor : Factor) → all ≡ factor ∷ factors → HasTerms shape names all → HasTerm shape names factor
first_term shape names all factors factor e h = let p = parted_at shape names all factors factor h.0 e h.1 in (p.term, p.first)

-- its power is what has been made first
pub come_first : (shape : Shape) (names : List (List ℕ × ElementValue)) (all factors : List Factor) (factor : Factor) (p : ElementValue) → all ≡ factor ∷ factors → HasTerms shape names all
    → ((s : Shape) (term : Term) → IsTermOf s names factor term → (p.shape ≡ s) × IsRaised s term p.rows) → HasCome shape names all factors p
come_first shape names all factors factor p e some made = record {
  shape_is = let first = first_term shape names all factors factor e some in (made shape first.0 first.1).0;
  left = λ terms are.
      let t = parted_at shape names all factors factor terms e are in
      record { left = t.others; are = t.later; leads = subst (λ (ts : List Term). IsProductSoFar shape p.rows ts t.others) (sym t.is) (leads_first shape t.term t.others p.rows t.first.pair (made shape t.term t.first).1) };
}

-- where that power is large, it is the first large one of the product
pub come_large : (shape : Shape) (names : List (List ℕ × ElementValue)) (all factors : List Factor) (factor : Factor) (terms : List Term) (i j : ℕ) → all ≡ factor ∷ factors → AreTermsOf shape names all terms
    → ((s : Shape) (term : Term) → IsTermOf s names factor term → IsLargePower s term.rows term.exponent i j) → IsLargeProduct shape terms i j
come_large shape names all factors factor terms i j e are large =
    let t = parted_at shape names all factors factor terms e are in
    subst (λ (ts : List Term). IsLargeProduct shape ts i j) (sym t.is) (inl (large shape t.term t.first))

-- the next factor has a term
pub next_term : (shape : Shape) (names : List (List ℕ × ElementValue)) (all rest factors : List Factor) (factor : Factor) (p : ElementValue) → rest ≡ factor ∷ factors → HasTerms shape names all → HasCome shape names all rest p → HasTerm p.shape names factor
next_term shape names all rest factors factor p e some come =
    let left = come.left some.0 some.1 in
    let term = first_term shape names rest factors factor e (left.left, left.are) in
    (term.0, subst (λ (s : Shape). IsTermOf s names factor term.0) (sym come.shape_is) term.1)

-- p and its power is what has been made next
pub come_next : (shape : Shape) (names : List (List ℕ × ElementValue)) (all rest factors : List Factor) (factor : Factor) (p q : ElementValue) → rest ≡ factor ∷ factors → HasTerms shape names all → HasCome shape names all rest p
    → ((term : Term) → IsTermOf p.shape names factor term → (q.shape ≡ p.shape) × IsRaisedBehind p.shape p.rows term q.rows) → HasCome shape names all factors q
come_next shape names all rest factors factor p q e some come made = record {
  shape_is = let next = next_term shape names all rest factors factor p e some come in (made next.0 next.1).0 ∙ come.shape_is;
  left = λ terms are.
      let left = come.left terms are in
      let t = parted_at shape names rest factors factor left.left e left.are in
      let raised = (made t.term (subst (λ (s : Shape). IsTermOf s names factor t.term) (sym come.shape_is) t.first)).1 in
      record {
        left = t.others;
        are = t.later;
        leads = leads_next shape t.term terms t.others p.rows q.rows t.first.pair (subst (λ (ts : List Term). IsProductSoFar shape p.rows terms ts) t.is left.leads) (subst (λ (s : Shape). IsRaisedBehind s p.rows t.term q.rows) come.shape_is raised);
      };
}

-- where one of these is large, it is the first large one of the product
pub come_large_next : (shape : Shape) (names : List (List ℕ × ElementValue)) (all rest factors : List Factor) (factor : Factor) (p : ElementValue) (terms : List Term) (i j : ℕ) → rest ≡ factor ∷ factors → HasCome shape names all rest p → AreTermsOf shape names all terms
    → ((term : Term) → IsTermOf p.shape names factor term → IsLargeNext p.shape p.rows term i j) → IsLargeProduct shape terms i j
come_large_next shape names all rest factors factor p terms i j e come are large =
    let left = come.left terms are in
    let t = parted_at shape names rest factors factor left.left e left.are in
    let next = large t.term (subst (λ (s : Shape). IsTermOf s names factor t.term) (sym come.shape_is) t.first) in
    leads_large shape t.term terms t.others p.rows i j (subst (λ (ts : List Term). IsProductSoFar shape p.rows terms ts) t.is left.leads) (subst (λ (s : Shape). IsLargeNext s p.rows t.term i j) come.shape_is next)

-- with no factors left there are no terms left
no_terms : (shape : Shape) (names : List (List ℕ × ElementValue)) (rest : List Factor) (p : List Row) (terms left : List Term) → rest ≡ [] → AreTermsOf shape names rest left → IsProductSoFar shape p terms left → IsProductSoFar shape p terms []
no_terms shape names [] p terms [] e are leads = leads
no_terms shape names [] p terms (term ∷ left) e are leads = absurd are
no_terms shape names (factor ∷ rest) p terms left e are leads = absurd cc

-- what has been made then is the product, and nothing is large
pub come_to_end : (shape : Shape) (names : List (List ℕ × ElementValue)) (all rest : List Factor) (p : ElementValue) → rest ≡ [] → HasCome shape names all rest p → (terms : List Term) → AreTermsOf shape names all terms → IsProductSoFar shape p.rows terms []
come_to_end shape names all rest p e come terms are = let left = come.left terms are in no_terms shape names rest p.rows terms left.left e left.are left.leads

-- the identity is the product of no terms
pub none_product : (shape : Shape) (names : List (List ℕ × ElementValue)) (factors : List Factor) (terms : List Term) → factors ≡ [] → AreTermsOf shape names factors terms → IsProductOf shape terms (identity shape)
none_product shape names [] [] e are = record { pair = (identity_canonical shape).pair; composed = λ u v w word f g. sym f ∙ identity_moves shape u w g }
none_product shape names [] (term ∷ terms) e are = absurd are
none_product shape names (factor ∷ factors) terms e are = absurd cc

-- and nothing is large on the way
pub none_large : (shape : Shape) (names : List (List ℕ × ElementValue)) (factors : List Factor) (terms : List Term) (i j : ℕ) → factors ≡ [] → AreTermsOf shape names factors terms → ¬ IsLargeProduct shape terms i j
none_large shape names [] [] i j e are h = h
none_large shape names [] (term ∷ terms) i j e are h = are
none_large shape names (factor ∷ factors) terms i j e are h = absurd cc
