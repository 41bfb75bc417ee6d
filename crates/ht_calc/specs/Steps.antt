-- One step of the calculator: what a line is answered, and what the session remembers then.
-- Where several refusals fit, the first of this order is given: syntax, group, name, names, word, file,
-- rows, budget, wide, large, above. For powers, wide and large come in the order of the power rule.
--
--     IsRowsRefusal shape rows why       the refusal says why the rows are no element
--     AreAsked old name first second shape p q   the group is set, first is bound to p and second to q, and there is room for the name
--     power_answer verdict               the answer that tells conjugate powers, or that there are none
--     Does old line answer new           from the state old this line gets this answer and leads to new
--     Step old bytes made answer new     the same for the bytes of a line, which may be no line, and the fetches that it made: one where a load has its group and room for its name, else none
use Rattle.std.specs.Prelude.{◌≡◌, ◌⊎◌, ◌↔◌, ℕ, pos, suc, List, [], ◌∷◌, length, Bool, IsTrue, Option, Some, None, IsSome}
use Rattle.ht_word.specs.declared.word.Word.{Word}
use Rattle.ht_word.specs.declared.shape.Shape.{Shape}
use Rattle.ht_word.specs.Shapes.{IsShape}
use Rattle.ht_word.specs.Words.{IsWordOf}
use Rattle.ht_pair.specs.declared.row.Row.{Row}
use Rattle.ht_pair.specs.Pairs.{IsPair}
use Rattle.ht_pair.specs.Actions.{Alike, IsCanonicalFor}
use Rattle.ht_pair.specs.Elements.{IsElement}
use Rattle.ht_pair.specs.Images.{Entry, IsImage}
use Rattle.ht_pair.specs.RowsFaults.{IsFirstForeign, IsFromFault, IsToFault}
use Rattle.ht_pair.specs.Sizes.{IsLarge}
use Rattle.ht_pair.specs.declared.verdict.Verdict.TheVariants as verdict
use Rattle.ht_pair.specs.declared.verdict.PowerVerdict.{PowerVerdict}
use Rattle.ht_pair.specs.declared.verdict.PowerVerdict.TheVariants as power_verdict
use Rattle.ht_pair.specs.PowerRule.{PowerRule}
use Rattle.ht_pair.specs.PowerTrials.{TooLarge, TooWide}
use Rattle.ht_pair.specs.PowerVerdicts.{IsPowerVerdict, rule_answer}
use Rattle.ht_text.specs.Fronts.{IsLongestFront}
use Rattle.ht_script.specs.declared.line.Line.{Line}
use Rattle.ht_script.specs.declared.line.Line.TheVariants as line
use Rattle.ht_script.specs.declared.factor.Factor.{Factor}
use Rattle.ht_script.specs.Lines.{IsLine, IsNoLine, IsLineText}
use Rattle.ht_answer.specs.declared.answer.Answer.{Answer}
use Rattle.ht_answer.specs.declared.answer.Answer.TheVariants.{Blank, Group, Pair, Let, Equal, Parts, Conjugate, NotKept, NotConjugate, Powers, NoPowers, Refused}
use Rattle.ht_answer.specs.declared.answer.Refusal.{Refusal}
use Rattle.ht_answer.specs.declared.answer.Refusal.TheVariants as refusal
use Rattle.ht_ask.specs.declared.question.Question.{Question}
use Rattle.ht_pair.specs.Decisions.{IsDecided}
use Rattle.ht_ask.specs.PartAnswers.{ArePartsOf, HasLargePart}
use Rattle.ht_ask.specs.Questions.{Tells}
use Rattle.ht_ask.specs.ShareAnswers.{TellsShare}
use Rattle.ht_ask.specs.ShownImages.{rows_from}
use Rattle.ht_calc.specs.Fetches.{Fetched}
use Rattle.ht_calc.specs.Loads.{Loads}
use Rattle.ht_calc.specs.LineNames.{reads, binds, asks, NeedsGroup, MeetsBudget}
use Rattle.ht_calc.specs.Names.{bound, bind, AreBound, IsFirstUnbound, IsFirstOver, HasRoom, HasRoomFor}
use Rattle.ht_calc.specs.Products.{Term, names_of, StandFor, HasWide, IsProductOf, IsLargeProduct}
use Rattle.ht_calc.specs.States.{State}

abbrev pub IsRowsRefusal : Shape → List Row → Refusal → Type 0
IsRowsRefusal shape rows (refusal.Syntax column) = ⊥
IsRowsRefusal shape rows refusal.Group = ⊥
IsRowsRefusal shape rows (refusal.Name name) = ⊥
IsRowsRefusal shape rows refusal.Names = ⊥
IsRowsRefusal shape rows refusal.File = ⊥
IsRowsRefusal shape rows (refusal.Form l) = ⊥
IsRowsRefusal shape rows refusal.Shape = ⊥
IsRowsRefusal shape rows (refusal.RowsForeign place) = IsFirstForeign shape rows place
IsRowsRefusal shape rows refusal.RowsFrom = IsFromFault shape rows
IsRowsRefusal shape rows refusal.RowsTo = IsToFault shape rows
IsRowsRefusal shape rows refusal.Wide = ⊥
IsRowsRefusal shape rows (refusal.Large count letters) = ⊥
IsRowsRefusal shape rows (refusal.Word place) = ⊥
IsRowsRefusal shape rows (refusal.Budget name) = ⊥
IsRowsRefusal shape rows (refusal.Above place) = ⊥

pub record AreAsked (old : State) (name first second : List ℕ) (shape : Shape) (p q : List Row) : Type 0 where
  pub shape_is : old.shape ≡ Some shape
  pub first_is : bound old.names first ≡ Some p
  pub second_is : bound old.names second ≡ Some q
  pub room : HasRoom old.names name

abbrev pub power_answer : PowerVerdict → Answer
power_answer (power_verdict.Powers i j by) = Powers i j by
power_answer power_verdict.None = NoPowers

pub data Does (old : State) : Line → Answer → State → Type 0 where
  blank : Does old line.Blank Blank old
  group_is_set : (n r : ℕ) (shape : Shape) → old.shape ≡ None → shape.n ≡ n → shape.r ≡ r → Does old (line.Group n r) (Group n r) (record old { shape = Some shape })
  group_refused : (n r : ℕ) → IsSome old.shape ⊎ ¬ IsShape n r → Does old (line.Group n r) (Refused refusal.Group) old
  before_group : (line : Line) → NeedsGroup line → old.shape ≡ None → Does old line (Refused refusal.Group) old
  unbound : (line : Line) (name : List ℕ) → IsSome old.shape → IsFirstUnbound old.names (reads line) name → Does old line (Refused (refusal.Name name)) old
  no_room : (line : Line) → IsSome old.shape → AreBound old.names (reads line) → ¬ HasRoomFor old.names (binds line) → Does old line (Refused refusal.Names) old
  over_budget : (line : Line) (name : List ℕ) (shape : Shape) → old.shape ≡ Some shape → MeetsBudget shape line → AreBound old.names (reads line) → HasRoomFor old.names (binds line) → IsFirstOver shape old.budget old.names (reads line) name
      → Does old line (Refused (refusal.Budget name)) old
  reduced : (rows canonical : List Row) (shape : Shape) → old.shape ≡ Some shape → IsPair shape rows → IsCanonicalFor shape canonical rows → Does old (line.Reduce rows) (Pair canonical) old
  reduce_refused : (rows : List Row) (shape : Shape) (why : Refusal) → old.shape ≡ Some shape → IsRowsRefusal shape rows why → Does old (line.Reduce rows) (Refused why) old
  let_bound : (name : List ℕ) (rows canonical : List Row) (shape : Shape) → old.shape ≡ Some shape → HasRoom old.names name → IsPair shape rows → IsCanonicalFor shape canonical rows
      → Does old (line.LetRows name rows) (Let name (length canonical)) (record old { names = bind old.names name canonical })
  let_refused : (name : List ℕ) (rows : List Row) (shape : Shape) (why : Refusal) → old.shape ≡ Some shape → HasRoom old.names name → IsRowsRefusal shape rows why
      → Does old (line.LetRows name rows) (Refused why) old
  product_bound : (name : List ℕ) (factors : List Factor) (terms : List Term) (product canonical : List Row) (shape : Shape) → old.shape ≡ Some shape → StandFor old.names factors terms → HasRoom old.names name
      → ((i j : ℕ) → ¬ IsLargeProduct shape terms i j) → IsProductOf shape terms product → IsCanonicalFor shape canonical product
      → Does old (line.LetProduct name factors) (Let name (length canonical)) (record old { names = bind old.names name canonical })
  product_wide : (name : List ℕ) (factors : List Factor) → IsSome old.shape → AreBound old.names (names_of factors) → HasRoom old.names name → HasWide factors → Does old (line.LetProduct name factors) (Refused refusal.Wide) old
  product_large : (name : List ℕ) (factors : List Factor) (terms : List Term) (rows letters : ℕ) (shape : Shape) → old.shape ≡ Some shape → StandFor old.names factors terms → HasRoom old.names name
      → IsLargeProduct shape terms rows letters → Does old (line.LetProduct name factors) (Refused (refusal.Large rows letters)) old
  questioned : (question : Question) (name : List ℕ) (p : List Row) (shape : Shape) (answer : Answer) → old.shape ≡ Some shape → bound old.names name ≡ Some p → Tells shape old.budget p question answer
      → Does old (asks question name) answer old
  parts_bound : (periodic infinite whole : List ℕ) (p first second : List Row) (shape : Shape) → old.shape ≡ Some shape → bound old.names whole ≡ Some p → HasRoomFor old.names (periodic ∷ infinite ∷ []) → ArePartsOf shape old.budget p first second
      → Does old (line.Parts periodic infinite whole) (Parts (length first) (length second)) (record old { names = bind (bind old.names periodic first) infinite second })
  parts_large : (periodic infinite whole : List ℕ) (p : List Row) (rows letters : ℕ) (shape : Shape) → old.shape ≡ Some shape → bound old.names whole ≡ Some p → HasRoomFor old.names (periodic ∷ infinite ∷ []) → HasLargePart shape old.budget p rows letters
      → Does old (line.Parts periodic infinite whole) (Refused (refusal.Large rows letters)) old
  conjugator_bound : (name first second : List ℕ) (p q rows : List Row) (shape : Shape) → AreAsked old name first second shape p q → IsDecided shape old.budget p q (verdict.Conjugate rows) → IsElement shape rows
      → Does old (line.Conj name first second) (Conjugate rows) (record old { names = bind old.names name rows })
  conjugator_not_kept : (name first second : List ℕ) (p q rows : List Row) (letters : ℕ) (shape : Shape) → AreAsked old name first second shape p q → IsDecided shape old.budget p q (verdict.Conjugate rows) → IsLarge shape rows (length rows) letters
      → Does old (line.Conj name first second) (NotKept letters rows) old
  not_conjugate : (name first second : List ℕ) (p q : List Row) (shape : Shape) → AreAsked old name first second shape p q → IsDecided shape old.budget p q verdict.NotConjugate → Does old (line.Conj name first second) NotConjugate old
  compared : (first second : List ℕ) (p q : List Row) (shape : Shape) (alike : Bool) → old.shape ≡ Some shape → bound old.names first ≡ Some p → bound old.names second ≡ Some q → IsTrue alike ↔ Alike shape p q
      → Does old (line.Equal first second) (Equal alike) old
  image_shown : (name : List ℕ) (word : Word) (p : List Row) (L : List Entry) (shape : Shape) → old.shape ≡ Some shape → bound old.names name ≡ Some p → IsWordOf shape word → IsImage shape p (pos 1) word L
      → Does old (line.Image name word) (Pair (rows_from word L)) old
  image_foreign : (name : List ℕ) (word : Word) (p : List Row) (shape : Shape) → old.shape ≡ Some shape → bound old.names name ≡ Some p → ¬ IsWordOf shape word → Does old (line.Image name word) (Refused (refusal.Word 1)) old
  share_told : (name : List ℕ) (first second : Word) (p : List Row) (shape : Shape) (answer : Answer) → old.shape ≡ Some shape → bound old.names name ≡ Some p → TellsShare shape old.budget p first second answer
      → Does old (line.Share name first second) answer old
  powers_told : (first second : List ℕ) (p q : List Row) (shape : Shape) (verdict : PowerVerdict) → old.shape ≡ Some shape → bound old.names first ≡ Some p → bound old.names second ≡ Some q → PowerRule shape p q old.budget (rule_answer verdict) → IsPowerVerdict shape p q verdict
      → Does old (line.Power first second) (power_answer verdict) old
  powers_large : (first second : List ℕ) (p q : List Row) (rows letters : ℕ) (shape : Shape) → old.shape ≡ Some shape → bound old.names first ≡ Some p → bound old.names second ≡ Some q → PowerRule shape p q old.budget (TooLarge rows letters)
      → Does old (line.Power first second) (Refused (refusal.Large rows letters)) old
  powers_wide : (first second : List ℕ) (p q : List Row) (shape : Shape) → old.shape ≡ Some shape → bound old.names first ≡ Some p → bound old.names second ≡ Some q → PowerRule shape p q old.budget TooWide
      → Does old (line.Power first second) (Refused refusal.Wide) old

-- bytes that are no line are refused with the column behind their longest front that some line has
pub data Step (old : State) (bytes : List ℕ) : List Fetched → Answer → State → Type 0 where
  by_line : (line : Line) (answer : Answer) (new : State) → IsLine bytes line → Does old line answer new → Step old bytes [] answer new
  by_file : (name file : List ℕ) (gives : Option (List ℕ)) (answer : Answer) (new : State) → IsLine bytes (line.Load name file) → Loads old name gives answer new → Step old bytes (record { file = file; gives = gives } ∷ []) answer new
  no_line : (k : ℕ) → IsNoLine bytes → IsLongestFront IsLineText bytes k → Step old bytes [] (Refused (refusal.Syntax (suc k))) old
