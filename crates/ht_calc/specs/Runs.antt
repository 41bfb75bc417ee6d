-- A run over lines.
--
--     Run old lines fetches answers new      from old, these lines get these answers and lead to new; the fetches are those of the lines, one after another
--     RunsBy budget lines fetches answers    a run from the first state
--     output_of answers                      their texts, in order
use Rattle.std.specs.Prelude.{◌≡◌, ℕ, List, [], ◌∷◌, ◌++◌}
use Rattle.std.specs.List.{flat_map}
use Rattle.ht_answer.specs.declared.answer.Answer.{Answer}
use Rattle.ht_answer.specs.Answers.{answer_text}
use Rattle.ht_calc.specs.Fetches.{Fetched}
use Rattle.ht_calc.specs.States.{State, start}
use Rattle.ht_calc.specs.Steps.{Step}

abbrev pub Run : State → List (List ℕ) → List Fetched → List Answer → State → Type 0
Run old [] fetches [] new = (fetches ≡ []) × (new ≡ old)
Run old (line ∷ lines) fetches (answer ∷ answers) new = (mid : State) × (made : List Fetched) × (others : List Fetched)
    × Step old line made answer mid × Run mid lines others answers new × (fetches ≡ made ++ others)
Run old [] fetches (answer ∷ answers) new = ⊥
Run old (line ∷ lines) fetches [] new = ⊥

abbrev pub RunsBy : ℕ → List (List ℕ) → List Fetched → List Answer → Type 0
RunsBy budget lines fetches answers = (end : State) × Run (start budget) lines fetches answers end

abbrev pub output_of : List Answer → List ℕ
output_of answers = flat_map answer_text answers
