-- Runs, line by line.
use Rattle.std.proofs.Common.{◌≡◌, ◌≤◌, ℕ, suc, ◌+◌, Bool, inl, inr, List, [], ◌∷◌, ◌++◌, ap, refl, sym, ◌∙◌, subst, append_assoc, append-nil, length, length-append, arith}
use Rattle.std.specs.Prelude.{Option, Any, IsTrue, ◌↔◌, ◌⊎◌}
use Rattle.std.proofs.lemmas.Grind.{flat_map-append}
use Rattle.std.proofs.lemmas.List.{take-append-le}
use Rattle.std.proofs.Math.Seq.{take-length}
use Rattle.std.proofs.lemmas.List.Elements.{Contains-append_left, Contains-push, Contains-push_cases}
use Rattle.ht_answer.specs.declared.answer.Answer.{Answer}
use Rattle.ht_answer.specs.Answers.{IsRefusal, answer_text}
use Rattle.ht_calc.specs.declared.answering.Answering.{Answering}
use Rattle.ht_calc.specs.Fetches.{Fetched, AreFetches, AreAll}
use Rattle.ht_calc.specs.States.{State}
use Rattle.ht_calc.specs.Steps.{Step, by_line, by_file, no_line}
use Rattle.ht_calc.specs.Runs.{Run, output_of}
use Rattle.ht_calc.specs.Progress.{Calls, Origin, Answered}
use Rattle.ht_calc.proofs.Fetching.{asked_more, all_more}

-- one more line
run_more : (old mid end : State) (lines : List (List ℕ)) (fetches made : List Fetched) (answers : List Answer) (line : List ℕ) (answer : Answer)
    → Run old lines fetches answers mid → Step mid line made answer end → Run old (lines ++ line ∷ []) (fetches ++ made) (answers ++ answer ∷ []) end
run_more old mid end [] fetches made [] line answer run step =
    (end, made, [], subst (λ (s : State). Step s line made answer end) run.1 step, (refl, refl), ap (λ (f : List Fetched). f ++ made) run.0 ∙ sym (append-nil made))
run_more old mid end (first ∷ lines) fetches made (one ∷ answers) line answer run step = (
  run.0,
  run.1,
  run.2 ++ made,
  run.3,
  run_more run.0 mid end lines run.2 made answers line answer run.4 step,
  ap (λ (f : List Fetched). f ++ made) run.5 ∙ append_assoc run.1 run.2 made,
)
run_more old mid end [] fetches made (one ∷ answers) line answer run step = absurd run
run_more old mid end (first ∷ lines) fetches made [] line answer run step = absurd run

-- some of the items have a property, with one more item
any_more : {X : Type 0} (P : X → Type 0) (items : List X) (item : X) → (Any P items ⊎ P item) ↔ Any P (items ++ item ∷ [])
any_more {X} P items item = (to, back)
  where
    to : Any P items ⊎ P item → Any P (items ++ item ∷ [])
    to (inl some) = let c = Contains-append_left items (item ∷ []) some.1 (some.0, some.2, some.3) in (c.0, some.1, c.1, c.2, some.4)
    to (inr is) = let c = Contains-push items item in (c.0, item, c.1, c.2, is)

    back : Any P (items ++ item ∷ []) → Any P items ⊎ P item
    back some =
        elim (Contains-push_cases items item some.1 (some.0, some.2, some.3)) [
          | inl c ↦ inl (c.0, some.1, c.1, c.2, some.4)
          | inr same ↦ inr (subst P (sym same) some.4)
        ]

-- a flag says so, and one more item is counted
pub flag_more : {X : Type 0} (P : X → Type 0) (items : List X) (item : X) (some now : Bool) → IsTrue some ↔ Any P items → IsTrue now ↔ (IsTrue some ⊎ P item)
    → IsTrue now ↔ Any P (items ++ item ∷ [])
flag_more {X} P items item some now was is = ((λ told. (any_more P items item).0 (onto (is.0 told))), (λ found. is.1 (from ((any_more P items item).1 found))))
  where
    onto : IsTrue some ⊎ P item → Any P items ⊎ P item
    onto (inl told) = inl (was.0 told)
    onto (inr has) = inr has

    from : Any P items ⊎ P item → IsTrue some ⊎ P item
    from (inl found) = inl (was.1 found)
    from (inr has) = inr has

-- one more line is answered
pub answered_more : (files : Option (List (List ℕ × List ℕ))) (before : Origin) (mid now : Calls) (lines : List (List ℕ)) (line : List ℕ) (old new : Answering) (O all : List ℕ) (made : List Fetched) (answer : Answer)
    → Answered files before mid lines old O → Step old.session line made answer new.session → AreFetches files mid.faults now.faults made → AreAll mid.asked now.asked made
    → new.lines ≡ old.lines + 1 → all ≡ O ++ answer_text answer → IsTrue new.some_refused ↔ (IsTrue old.some_refused ⊎ IsRefusal answer)
    → Answered files before now (lines ++ line ∷ []) new all
answered_more files before mid now lines line old new O all made answer was step fetched all_fetched count text refused = record {
  count = rw length-append (omega (arith, was.count));
  fetches = was.fetches ++ made;
  answers = was.answers ++ answer ∷ [];
  run = run_more _ old.session new.session lines was.fetches made was.answers line answer was.run step;
  fetched = asked_more files before.calls.faults mid.faults now.faults was.fetches made was.fetched fetched;
  all = all_more before.calls.asked mid.asked now.asked was.fetches made was.all all_fetched;
  output = text ∙ ap (λ (o : List ℕ). o ++ answer_text answer) was.output ∙ sym (flat_map-append answer_text was.answers (answer ∷ []) ∙ ap (λ (o : List ℕ). output_of was.answers ++ o) (append-nil (answer_text answer)));
  refusal = flag_more IsRefusal was.answers answer old.some_refused new.some_refused was.refusal refused;
  reached = rw length-append (omega (arith, was.reached));
  written = ap output_of (take-append-le before.done was.answers (answer ∷ []) was.reached) ∙ was.written;
}

-- each line has one answer
pub run_counts : (old new : State) (lines : List (List ℕ)) (fetches : List Fetched) (answers : List Answer) → Run old lines fetches answers new → length answers ≡ length lines
run_counts old new [] fetches [] run = refl
run_counts old new (line ∷ lines) fetches (answer ∷ answers) run = ap suc (run_counts run.0 new lines run.2 answers run.4)
run_counts old new [] fetches (answer ∷ answers) run = absurd run
run_counts old new (line ∷ lines) fetches [] run = absurd run

-- and makes one fetch at most
step_asks : (old new : State) (line : List ℕ) (made : List Fetched) (answer : Answer) → Step old line made answer new → length made ≤ 1
step_asks old _ line _ _ (by_line said answer new is does) = omega arith
step_asks old _ line _ _ (by_file name file gives answer new is loads) = omega arith
step_asks old _ line _ _ (no_line k none longest) = omega arith

pub run_asks : (old new : State) (lines : List (List ℕ)) (fetches : List Fetched) (answers : List Answer) → Run old lines fetches answers new → length fetches ≤ length lines
run_asks old new [] fetches [] run = let none = ap length run.0 in omega (arith, none)
run_asks old new (line ∷ lines) fetches (answer ∷ answers) run =
    let one = step_asks old run.0 line run.1 answer run.3 in
    let others = run_asks run.0 new lines run.2 answers run.4 in
    let all = ap length run.5 in
    omega (arith, one, others, simp length-append at all)
run_asks old new [] fetches (answer ∷ answers) run = absurd run
run_asks old new (line ∷ lines) fetches [] run = absurd run

-- how far a run has come is now
pub answered_so_far : (files : Option (List (List ℕ × List ℕ))) (before : Origin) (now : Calls) (lines : List (List ℕ)) (answering : Answering) (O : List ℕ) → Answered files before now lines answering O
    → Answered files (record before { done = length lines; written = O }) now lines answering O
answered_so_far files before now lines answering O was =
    let many = run_counts _ answering.session lines was.fetches was.answers was.run in record {
      count = was.count;
      fetches = was.fetches;
      answers = was.answers;
      run = was.run;
      fetched = was.fetched;
      all = was.all;
      output = was.output;
      refusal = was.refusal;
      reached = omega (arith, many);
      written = rw (← many) (ap output_of (take-length was.answers) ∙ sym was.output);
    }
