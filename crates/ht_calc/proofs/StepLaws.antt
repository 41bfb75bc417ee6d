-- Steps, and what they keep.
use Rattle.std.proofs.Common.{◌≡◌, ℕ, suc, List, [], ◌∷◌, length, Result, Ok, Err, IfOk, OnOk, Option, Some, refl, sym, ◌∙◌, subst}
use Rattle.ht_word.specs.declared.shape.Shape.{Shape}
use Rattle.ht_pair.specs.declared.row.Row.{Row}
use Rattle.ht_out.specs.Counts.{next_count}
use Rattle.ht_text.specs.Fronts.{IsLongestFront}
use Rattle.ht_script.specs.declared.line.Line.{Line}
use Rattle.ht_script.specs.declared.line.Line.TheVariants as line
use Rattle.ht_script.specs.Lines.{IsLine, IsNoLine, IsLineText}
use Rattle.ht_answer.specs.declared.answer.Answer.{Answer}
use Rattle.ht_answer.specs.declared.answer.Answer.TheVariants.{Let, Refused}
use Rattle.ht_answer.specs.declared.answer.Refusal.TheVariants as refusal
use Rattle.ht_answer.specs.Answers.{IsRefusal}
use Rattle.ht_script.specs.declared.factor.Factor.{Factor}
use Rattle.ht_calc.specs.Fetches.{Fetched, AreFetches, AreAll}
use Rattle.ht_calc.specs.Loads.{Loads, loaded, no_file, file_refused}
use Rattle.ht_calc.specs.Names.{bind, HasRoom}
use Rattle.ht_calc.specs.Products.{Term, StandFor, IsLargeProduct}
use Rattle.ht_calc.specs.States.{State}
use Rattle.ht_calc.specs.Steps.{Does, Step, blank, group_is_set, group_refused, before_group, unbound, no_room, over_budget, reduced, reduce_refused, let_bound, let_refused, product_bound, product_wide, product_large, questioned, parts_bound, parts_large, conjugator_bound, conjugator_not_kept, not_conjugate, compared, image_shown, image_foreign, share_told, powers_told, powers_large, powers_wide, by_line, by_file, no_line}
use Rattle.ht_calc.proofs.Fetching.{nothing_asked, none_made}

-- a line that is refused changes nothing
pub refused_keeps : (old : State) (line : Line) (answer : Answer) (new : State) → Does old line answer new → IsRefusal answer → new ≡ old
refused_keeps old _ _ _ blank is = refl
refused_keeps old _ _ _ (group_is_set n r shape none is_n is_r) is = absurd is
refused_keeps old _ _ _ (group_refused n r why) is = refl
refused_keeps old _ _ _ (before_group line needs none) is = refl
refused_keeps old _ _ _ (unbound line name some first) is = refl
refused_keeps old _ _ _ (no_room line some are_bound full) is = refl
refused_keeps old _ _ _ (over_budget line name shape some meets are_bound room first) is = refl
refused_keeps old _ _ _ (reduced rows canonical shape some pair canonical_for) is = refl
refused_keeps old _ _ _ (reduce_refused rows shape why some says) is = refl
refused_keeps old _ _ _ (let_bound name rows canonical shape some room pair canonical_for) is = absurd is
refused_keeps old _ _ _ (let_refused name rows shape why some room says) is = refl
refused_keeps old _ _ _ (product_bound name factors terms product canonical shape some stand room small is_product canonical_for) is = absurd is
refused_keeps old _ _ _ (product_wide name factors some are_bound room wide) is = refl
refused_keeps old _ _ _ (product_large name factors terms rows letters shape some stand room large) is = refl
refused_keeps old _ _ _ (questioned question name p shape answer some found tells) is = refl
refused_keeps old _ _ _ (parts_bound periodic infinite whole p first second shape some found room parts) is = absurd is
refused_keeps old _ _ _ (parts_large periodic infinite whole p rows letters shape some found room large) is = refl
refused_keeps old _ _ _ (conjugator_bound name first second p q rows shape asked decided element) is = absurd is
refused_keeps old _ _ _ (conjugator_not_kept name first second p q rows letters shape asked decided large) is = absurd is
refused_keeps old _ _ _ (not_conjugate name first second p q shape asked decided) is = absurd is
refused_keeps old _ _ _ (compared first second p q shape alike some first_is second_is told) is = absurd is
refused_keeps old _ _ _ (image_shown name word p L shape some found of_shape image) is = absurd is
refused_keeps old _ _ _ (image_foreign name word p shape some found foreign) is = refl
refused_keeps old _ _ _ (share_told name first second p shape answer some found tells) is = refl
refused_keeps old _ _ _ (powers_told first second p q shape verdict some first_is second_is rule true_verdict) is = refl
refused_keeps old _ _ _ (powers_large first second p q rows letters shape some first_is second_is rule) is = refl
refused_keeps old _ _ _ (powers_wide first second p q shape some first_is second_is rule) is = refl

-- nor does a file
refused_load_keeps : (old : State) (name : List ℕ) (gives : Option (List ℕ)) (answer : Answer) (new : State) → Loads old name gives answer new → IsRefusal answer → new ≡ old
refused_load_keeps old name _ _ _ (loaded bytes rows canonical shape some room is_file pair canonical_for few short) is = absurd is
refused_load_keeps old name _ _ _ (no_file some room) is = refl
refused_load_keeps old name _ _ _ (file_refused bytes shape fault why some room says is_why) is = refl

-- a step that ends with a refusal changes nothing
pub refused_step_keeps : (old : State) (bytes : List ℕ) (made : List Fetched) (answer : Answer) (new : State) → Step old bytes made answer new → IsRefusal answer → new ≡ old
refused_step_keeps old bytes _ _ _ (by_line line answer new is_line does) is = refused_keeps old line answer new does is
refused_step_keeps old bytes _ _ _ (by_file name file gives answer new is_line loads) is = refused_load_keeps old name gives answer new loads is
refused_step_keeps old bytes _ _ _ (no_line k none longest) is = refl

-- a line that asks for no file makes a step with no fetch
pub alone : (old new : State) (said line : Line) (answer : Answer) (files : Option (List (List ℕ × List ℕ))) (faults asked : ℕ) (bytes : List ℕ) → said ≡ line → Does old line answer new → IsLine bytes said
    → (made : List Fetched) × Step old bytes made answer new × AreFetches files faults faults made × AreAll asked asked made
alone old new said line answer files faults asked bytes same does is = ([], by_line line answer new (subst (IsLine bytes) same is) does, nothing_asked files faults, none_made asked)

pub alone_or_err : {E : Type 0} (old new : State) (said line : Line) (result : Result Answer E) (files : Option (List (List ℕ × List ℕ))) (faults asked : ℕ) (bytes : List ℕ) → said ≡ line
    → IfOk result (λ answer. Does old line answer new) → IsLine bytes said → IfOk result (λ answer. (made : List Fetched) × Step old bytes made answer new × AreFetches files faults faults made × AreAll asked asked made)
alone_or_err old new said line (Ok answer) files faults asked bytes same does is = alone old new said line answer files faults asked bytes same does is
alone_or_err old new said line (Err e) files faults asked bytes same does is = tt

-- a line that loads makes a step with one fetch
pub fetched : (old new : State) (name file bytes : List ℕ) (said gives : Option (List ℕ)) (answer : Answer) (files : Option (List (List ℕ × List ℕ))) (before now asked asked_now : ℕ) → said ≡ gives
    → Loads old name gives answer new → IsLine bytes (line.Load name file) → AreFetches files before now (record { file = file; gives = said } ∷ []) → asked_now ≡ next_count asked
    → (made : List Fetched) × Step old bytes made answer new × AreFetches files before now made × AreAll asked asked_now made
fetched old new name file bytes said gives answer files before now asked asked_now same loads is fetches count =
    (record { file = file; gives = said } ∷ [], by_file name file said answer new is (subst (λ (g : Option (List ℕ)). Loads old name g answer new) (sym same) loads), fetches, count)

pub fetched_or_err : {E : Type 0} (old new : State) (name file bytes : List ℕ) (said gives : Option (List ℕ)) (result : Result Answer E) (files : Option (List (List ℕ × List ℕ))) (before now asked asked_now : ℕ) → said ≡ gives
    → IfOk result (λ answer. Loads old name gives answer new) → IsLine bytes (line.Load name file) → AreFetches files before now (record { file = file; gives = said } ∷ []) → asked_now ≡ next_count asked
    → IfOk result (λ answer. (made : List Fetched) × Step old bytes made answer new × AreFetches files before now made × AreAll asked asked_now made)
fetched_or_err old new name file bytes said gives (Ok answer) files before now asked asked_now same loads is fetches count = fetched old new name file bytes said gives answer files before now asked asked_now same loads is fetches count
fetched_or_err old new name file bytes said gives (Err e) files before now asked asked_now same loads is fetches count = tt

-- bytes that are no line are refused with the column behind their longest front
pub syntax_refused : (old : State) (bytes : List ℕ) (column said : ℕ) → said ≡ column → IsNoLine bytes × (k : ℕ) × (column ≡ suc k) × IsLongestFront IsLineText bytes k
    → Step old bytes [] (Refused (refusal.Syntax said)) old
syntax_refused old bytes column said same told = subst (λ c. Step old bytes [] (Refused (refusal.Syntax c)) old) (sym (same ∙ told.2)) (no_line told.1 told.0 told.3)

-- a name that is bound to an element, and the answer to it
pub element_bound : {E : Type 0} (old new : State) (line : Line) (name : List ℕ) (rows : List Row) (result : Result Answer E) → Does old line (Let name (length rows)) (record old { names = bind old.names name rows })
    → IfOk result (λ answer. answer ≡ Let name (length rows)) → OnOk result (new ≡ record old { names = bind old.names name rows }) → IfOk result (λ answer. Does old line answer new)
element_bound old new line name rows (Ok answer) does told is = subst (λ (s : State). Does old line answer s) (sym is) (subst (λ (t : Answer). Does old line t (record old { names = bind old.names name rows })) (sym told) does)
element_bound old new line name rows (Err e) does told is = tt

-- a product is refused with the numbers of its first large element
pub large_refused : (told old : State) (name : List ℕ) (factors : List Factor) (terms : List Term) (rows letters said_rows said_letters : ℕ) (shape : Shape) → told ≡ old → said_rows ≡ rows → said_letters ≡ letters
    → told.shape ≡ Some shape → StandFor told.names factors terms → HasRoom told.names name → IsLargeProduct shape terms rows letters
    → Does old (line.LetProduct name factors) (Refused (refusal.Large said_rows said_letters)) old
large_refused told old name factors terms rows letters said_rows said_letters shape same same_rows same_letters some stand room large =
    subst (λ (s : State). Does s (line.LetProduct name factors) (Refused (refusal.Large said_rows said_letters)) s) same
    (subst (λ i. Does told (line.LetProduct name factors) (Refused (refusal.Large i said_letters)) told) (sym same_rows)
    (subst (λ j. Does told (line.LetProduct name factors) (Refused (refusal.Large rows j)) told) (sym same_letters) (product_large name factors terms rows letters shape some stand room large)))
