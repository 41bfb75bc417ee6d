-- What the lines of a summary ask, in the state in which they are asked.
use Rattle.std.proofs.Common.{◌≡◌, ℕ, List, subst, codes}
use Rattle.ht_pair.specs.Elements.{ElementValue}
use Rattle.ht_script.specs.declared.line.Line.TheVariants as line
use Rattle.ht_answer.specs.declared.answer.Answer.{Answer}
use Rattle.ht_ask.specs.declared.question.Question.{Question}
use Rattle.ht_calc.specs.declared.summed.Summed.{Summed}
use Rattle.ht_calc.specs.LineNames.{asks}
use Rattle.ht_calc.specs.States.{State}
use Rattle.ht_calc.specs.Steps.{Does}
use Rattle.ht_calc.specs.Summaries.{asked, shortened, IsSummed, conjugacy_told, powers_told}

-- a question about a name
pub told_so : (question : Question) (session now : State) (name bytes : List ℕ) (answer : Answer) → session ≡ now → name ≡ bytes
    → Does session (asks question name) answer session → Does now (asks question bytes) answer now
told_so question session now name bytes answer same is does =
    subst (λ (s : State). Does s (asks question bytes) answer s) same (subst (λ (n : List ℕ). Does session (asks question n) answer session) is does)

-- a line of an answer without its rows
summed_so : (number budget : ℕ) (a h c : ElementValue) (place : ℕ) (line told : Summed) → line ≡ told → IsSummed number budget a h c place told → IsSummed number budget a h c place line
summed_so number budget a h c place line told same is = rw same is

pub conjugacy_summed : (number budget : ℕ) (a h c : ElementValue) (session new : State) (name first second : List ℕ) (answer : Answer) (told : Summed) → session ≡ asked budget a c → name ≡ codes "h" → first ≡ codes "a" → second ≡ codes "c"
    → told ≡ shortened answer → Does session (line.Conj name first second) answer new → IsSummed number budget a h c 4 told
conjugacy_summed number budget a h c session new name first second answer told same bound one other short does =
    summed_so number budget a h c 4 told (shortened answer) short (conjugacy_told answer new
    (subst (λ (s : State). Does s (line.Conj (codes "h") (codes "a") (codes "c")) answer new) same
    (subst (λ (n : List ℕ). Does session (line.Conj n (codes "a") (codes "c")) answer new) bound
    (subst (λ (n : List ℕ). Does session (line.Conj name n (codes "c")) answer new) one (subst (λ (n : List ℕ). Does session (line.Conj name first n) answer new) other does)))))

pub powers_summed : (number budget : ℕ) (a h c : ElementValue) (session : State) (first second : List ℕ) (answer : Answer) (told : Summed) → session ≡ asked budget a c → first ≡ codes "a" → second ≡ codes "c"
    → told ≡ shortened answer → Does session (line.Power first second) answer session → IsSummed number budget a h c 6 told
powers_summed number budget a h c session first second answer told same one other short does =
    summed_so number budget a h c 6 told (shortened answer) short (powers_told answer
    (subst (λ (s : State). Does s (line.Power (codes "a") (codes "c")) answer s) same
    (subst (λ (n : List ℕ). Does session (line.Power n (codes "c")) answer session) one (subst (λ (n : List ℕ). Does session (line.Power first n) answer session) other does))))
