-- Tokens of factors: a name, and where there is a `^`, the text of an exponent behind it.
use Rattle.std.proofs.Common.{◌≡◌, ◌≢◌, ℕ, List, [], ◌∷◌, ◌++◌, refl, sym, ap, ◌∙◌, subst, arith, length-append}
use Rattle.std.specs.Prelude.{pos}
use Rattle.std.proofs.lemmas.List.Elements.{All-cons}
use Rattle.ht_text.proofs.Cuts.{IsFree, free_append, same_cut, not_cut}
use Rattle.ht_script.specs.declared.factor.Exponent.{Exponent}
use Rattle.ht_script.specs.declared.factor.Exponent.TheVariants.{Fits}
use Rattle.ht_script.specs.declared.factor.Factor.{Factor}
use Rattle.ht_script.specs.Tokens.{IsToken}
use Rattle.ht_script.specs.Names.{IsName, IsNameStart}
use Rattle.ht_script.specs.Factors.{IsFactor, plain, raised, lowered, IsFactorText, AreListed}
use Rattle.ht_script.specs.Exponents.{IsExponentText, Raises, upwards, downwards}
use Rattle.ht_script.proofs.TokenLaws.{none_of, both}
use Rattle.ht_script.proofs.GrammarLaws.{name_token, name_free}
use Rattle.ht_script.proofs.IntegerTexts.{same_raises, raised_by, raises_text, exponent_free}

-- a factor by its token: a name alone, or a name and a text behind `^`
pub data Form (name : List ℕ) (exponent : Exponent) (token : List ℕ) : Type 0 where
  alone : token ≡ name → exponent ≡ Fits (pos 1) → Form name exponent token
  powered : (text : List ℕ) → token ≡ name ++ 94 ∷ text → Raises exponent text → Form name exponent token

pub form_of : (f : Factor) (token : List ℕ) → IsFactor f token → IsName f.name × Form f.name f.exponent token
form_of f token (plain h is one) = (h, alone is one)
form_of f token (raised k digits h i is e) = (h, powered digits is (upwards (record { k = k; is_integer = i; is_exponent = e })))
form_of f token (lowered k digits h i is e) = (h, powered (45 ∷ digits) is (downwards k digits i refl e))

pub factor_alone : (name : List ℕ) → IsName name → IsFactor (record { name = name; exponent = Fits (pos 1) }) name
factor_alone name h = plain h refl refl

pub factor_powered : (name text token : List ℕ) (e : Exponent) → IsName name → token ≡ name ++ 94 ∷ text → Raises e text → IsFactor (record { name = name; exponent = e }) token
factor_powered name text token e h is (upwards s) = raised s.k text h s.is_integer is s.is_exponent
factor_powered name text token e h is (downwards k digits i same p) = lowered k digits h i (is ∙ ap (λ t. name ++ 94 ∷ t) same) p

pub powered_text : (name text : List ℕ) → IsName name → IsExponentText text → IsFactorText (name ++ 94 ∷ text)
powered_text name text h x = let e = raised_by text x in (record { name = name; exponent = e.0 }, factor_powered name text (name ++ 94 ∷ text) e.0 h refl e.1)

-- a token without `^` is a factor where it is a name
pub name_of_free : (f : Factor) (token : List ℕ) → IsFree 94 token → IsFactor f token → IsName token
name_of_free f token free h = by_form (form_of f token h).0 (form_of f token h).1
  where
    by_form : IsName f.name → Form f.name f.exponent token → IsName token
    by_form is_name (alone is one) = subst IsName (sym is) is_name
    by_form is_name (powered text is p) = absurd (not_cut 94 token f.name text free is)

-- round its first `^` a factor's token has the name and the text of the exponent
pub record AreParts (f : Factor) (name text : List ℕ) : Type 0 where
  pub is_name : IsName name
  pub same_name : f.name ≡ name
  pub is_raised : Raises f.exponent text

pub parts_of : (f : Factor) (name text : List ℕ) → IsFree 94 name → IsFactor f (name ++ 94 ∷ text) → AreParts f name text
parts_of f name text free h = by_form (form_of f (name ++ 94 ∷ text) h).0 (form_of f (name ++ 94 ∷ text) h).1
  where
    by_form : IsName f.name → Form f.name f.exponent (name ++ 94 ∷ text) → AreParts f name text
    by_form is_name (alone is one) = absurd (not_cut 94 f.name name text (name_free f.name is_name) (sym is))
    by_form is_name (powered u is p) =
        let same = same_cut 94 f.name u name text (name_free f.name is_name) free (sym is) in
        record { is_name = subst IsName same.0 is_name; same_name = same.0; is_raised = subst (Raises f.exponent) same.1 p }

pub exponent_of_parts : (f : Factor) (name text : List ℕ) → AreParts f name text → IsExponentText text
exponent_of_parts f name text h = raises_text f.exponent text h.is_raised

-- a factor's token is some bytes without spaces
pub factor_token : (f : Factor) (t : List ℕ) → IsFactor f t → IsToken t
factor_token f t h = by_form (form_of f t h).0 (form_of f t h).1
  where
    by_form : IsName f.name → Form f.name f.exponent t → IsToken t
    by_form is_name (alone is one) = subst IsToken (sym is) (name_token f.name is_name)
    by_form is_name (powered text is p) =
        let name = name_token f.name is_name in
        subst IsToken (sym is) (record {
          some = omega (arith, name.some, length-append f.name (94 ∷ text));
          no_space = free_append 32 f.name (94 ∷ text) name.no_space
              (All-cons (λ b. b ≢ 32) 94 text (λ e. absurd (omega arith)) (exponent_free 32 text (λ r. absurd (omega arith)) (λ e. absurd (omega arith)) (raises_text f.exponent text p)));
        })

name_first : (t rest : List ℕ) (h : IsName t) → t ++ rest ≡ h.first ∷ (h.others ++ rest)
name_first t rest h = ap (λ u. u ++ rest) h.is

-- and begins as a name does
pub factor_first : (f : Factor) (t : List ℕ) → IsFactor f t → (b : ℕ) × (rest : List ℕ) × IsNameStart b × (t ≡ b ∷ rest)
factor_first f t h = by_form (form_of f t h).0 (form_of f t h).1
  where
    by_form : IsName f.name → Form f.name f.exponent t → (b : ℕ) × (rest : List ℕ) × IsNameStart b × (t ≡ b ∷ rest)
    by_form is_name (alone is one) = (is_name.first, is_name.others, is_name.is_start, is ∙ is_name.is)
    by_form is_name (powered text is p) = (is_name.first, is_name.others ++ 94 ∷ text, is_name.is_start, is ∙ name_first f.name (94 ∷ text) is_name)

abbrev factor_of : List ℕ → Exponent → Factor
factor_of name exponent = record { name = name; exponent = exponent }

-- a token is one factor at most
pub same_factor : (f g : Factor) (t : List ℕ) → IsFactor f t → IsFactor g t → f ≡ g
same_factor f g t p q = by_forms (form_of f t p).0 (form_of g t q).0 (form_of f t p).1 (form_of g t q).1
  where
    joined : f.name ≡ g.name → f.exponent ≡ g.exponent → f ≡ g
    joined names exponents = ap (λ n. factor_of n f.exponent) names ∙ ap (λ e. factor_of g.name e) exponents

    by_forms : IsName f.name → IsName g.name → Form f.name f.exponent t → Form g.name g.exponent t → f ≡ g
    by_forms a b (alone is one) (alone same once) = joined (sym is ∙ same) (one ∙ sym once)
    by_forms a b (alone is one) (powered text same r) = absurd (not_cut 94 f.name g.name text (name_free f.name a) (sym is ∙ same))
    by_forms a b (powered text is r) (alone same once) = absurd (not_cut 94 g.name f.name text (name_free g.name b) (sym same ∙ is))
    by_forms a b (powered text is r) (powered u same s) =
        let parts = same_cut 94 f.name text g.name u (name_free f.name a) (name_free g.name b) (sym is ∙ same) in
        joined parts.0 (same_raises u f.exponent g.exponent (subst (Raises f.exponent) parts.1 r) s)

-- bytes are one list of factors at most
pub same_listed : (fs gs : List Factor) (bytes : List ℕ) → AreListed fs bytes → AreListed gs bytes → fs ≡ gs
same_listed [] [] bytes p q = refl
same_listed [] (g ∷ gs) bytes p q = absurd (none_of (IsFactor g) (AreListed gs) bytes (factor_token g) p q)
same_listed (f ∷ fs) [] bytes p q = absurd (none_of (IsFactor f) (AreListed fs) bytes (factor_token f) q p)
same_listed (f ∷ fs) (g ∷ gs) bytes p q =
    let firsts = both (IsFactor f) (AreListed fs) (IsFactor g) (AreListed gs) bytes (factor_token f) (factor_token g) p q in
    let head = same_factor f g firsts.token firsts.first firsts.second in
    let tail = same_listed fs gs firsts.rest firsts.behind_first firsts.behind_second in
    cc
