use Rattle.std.proofs.Common.{◌≡◌, ◌∙◌, ℕ, Option, Some, None, [], inl, inr, map, string_bytes, refl, sym, subst}
use Rattle.std.proofs.KnownBytes.{Appends-nil}
use Rattle.ht_calc.specs.Summaries.{SummaryTable}
use Rattle.ht_calc.specs.Tables.{SinkFails}
use Rattle.ht_calc.proofs.Fetching.{nothing_asked, none_made}
use Rattle.ht_calc.proofs.Streams.{took_none}
use Rattle.ht_calc.proofs.script.run.Goals as goal

pub returns-in-Err-Bad-clause-table : goal.returns-in-Err-Bad-clause-table
returns-in-Err-Bad-clause-table g c = ([], [], [], took_none _ _, Appends-nil _, nothing_asked _ _, (λ unsampled. (none_made _, refl, refl, refl)), λ number sampled. refl)

pub returns-in-Err-NoMemory-clause-table : goal.returns-in-Err-NoMemory-clause-table
returns-in-Err-NoMemory-clause-table g c =
    ([], [], [], took_none _ _, Appends-nil _, nothing_asked _ _, (λ unsampled. inr (none_made _, refl, refl, refl)), λ number sampled. inl refl)

-- words that give no number give none, and words give one at most
not_given : (sample : Option ℕ) (number : ℕ) → sample ≡ None → sample ≡ Some number → ⊥
not_given sample number none some = let bad : None ≡ Some number = sym none ∙ some in cc

given_once : (sample : Option ℕ) (first second : ℕ) → sample ≡ Some first → sample ≡ Some second → first ≡ second
given_once sample first second one other = let both : Some first ≡ Some second = sym one ∙ other in cc

pub returns-in-None-clause-table : goal.returns-in-None-clause-table
returns-in-None-clause-table g c =
    let ran = c.run_script.ensures.table (map string_bytes c.args.words.now) c.in-Ok.ensures.budget in
    (ran.0, ran.1, ran.2, ran.3, ran.4, ran.5, (λ unsampled. ran.6), λ number given. absurd (not_given c.in-Ok.settings.sample number c.in-None.is ((c.in-Ok.ensures.sample number).0 given)))

pub returns-in-None-clause-unread : goal.returns-in-None-clause-unread
returns-in-None-clause-unread g c = λ sampled. absurd (not_given c.in-Ok.settings.sample sampled.0 c.in-None.is ((c.in-Ok.ensures.sample sampled.0).0 sampled.1))

pub returns-in-Some-clause-table : goal.returns-in-Some-clause-table
returns-in-Some-clause-table g c =
    let words = map string_bytes c.args.words.now in
    let ran = c.run_sample.ensures.table words c.in-Ok.ensures.budget in
    let sample = c.in-Ok.settings.sample in
    let made = c.in-Some.number in (
      [],
      ran.0,
      [],
      took_none _ _,
      ran.1,
      nothing_asked _ _,
      (λ unsampled. absurd (unsampled (made, (c.in-Ok.ensures.sample made).1 c.in-Some.is))),
      λ number given. subst (λ (n : ℕ). SummaryTable words n (SinkFails g.K.Sink.held g.K.Sink.faults c.args.out.now c.run_sample.new.out ran.0) ran.0 c.run_sample.result)
          (given_once sample made number c.in-Some.is ((c.in-Ok.ensures.sample number).0 given)) ran.2,
    )
