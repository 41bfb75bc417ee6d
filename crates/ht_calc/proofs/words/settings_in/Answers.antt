use Rattle.std.proofs.Common.{map, string_bytes}
use Rattle.std.specs.Str.Parse.{ParsesUnsigned, ExplainsUnsignedError, HasUnsignedDigitsIfOk}
use Rattle.clap.specs.Words.{app_of, found_of}
use Rattle.ht_calc.proofs.CommandReads.{budget_by, failed, given, is_some_by, limits_by, passed, sample_by}
use Rattle.ht_calc.proofs.words.settings_in.Goals as goal

pub returns-in_err-matches-clause-fault : goal.returns-in_err-matches-clause-fault
returns-in_err-matches-clause-fault c =
    failed (app_of c.args.command) (map string_bytes c.args.words.now) c.from_residual.result c.in_err-matches.field-0.0 c.requires
    c.in_err-matches.ensures.kinds c.from_residual.ensures.1

pub unwrap-requires : goal.unwrap-requires
unwrap-requires c =
    let got = given _ (λ bs r. ParsesUnsigned 32 10 bs r × ExplainsUnsignedError 10 bs r × HasUnsignedDigitsIfOk bs r)
    c.args.command c.try_get_matches_from_mut.new.self c.in_ok-matches.matches c.get_one.result c.requires
    c.in_ok-matches.ensures.ok.0 c.in_ok-matches.ensures.ok.1 c.get_one.ensures.value (λ u x g. g.0) in
    is_some_by got

pub returns : goal.returns
returns c =
    let words = map string_bytes c.args.words.now in
    let got = given _ (λ bs r. ParsesUnsigned 32 10 bs r × ExplainsUnsignedError 10 bs r × HasUnsignedDigitsIfOk bs r)
    c.args.command c.try_get_matches_from_mut.new.self c.in_ok-matches.matches c.get_one.result c.requires
    c.in_ok-matches.ensures.ok.0 c.in_ok-matches.ensures.ok.1 c.get_one.ensures.value (λ u x g. g.0) in
    record {
      fault = passed (app_of c.args.command) words c.requires c.in_ok-matches.ensures.kinds;
      budget = budget_by (app_of c.args.command) words c.requires (found_of c.in_ok-matches.matches) c.unwrap.ensures got
          (λ simple. (c.in_ok-matches.ensures.ok.2 simple).0);
      limits = limits_by c.unwrap.ensures got;
      sample = sample_by _ (λ bs r. ParsesUnsigned 64 10 bs r × ExplainsUnsignedError 10 bs r × HasUnsignedDigitsIfOk bs r)
          (app_of c.args.command) words (found_of c.in_ok-matches.matches) c.get_one-2.result c.requires (λ simple. (c.in_ok-matches.ensures.ok.2 simple).0) c.get_one-2.ensures.none c.get_one-2.ensures.value (λ u x g. g.0);
    }
