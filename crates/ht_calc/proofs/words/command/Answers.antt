use Rattle.std.proofs.Common.{◌≡◌, rules}
use Rattle.std.proofs.lemmas.Result.{IfOk-weaker}
use Rattle.clap.specs.Words.{AddsArg, app_of}
use Rattle.ht_calc.specs.CommandLines.{command_app}
use Rattle.ht_calc.proofs.CommandReads.{command_is}
use Rattle.ht_calc.proofs.words.command.Goals as goal

pub returns : goal.returns
returns c =
    IfOk-weaker c.arg-2.result (AddsArg c.in_ok-arg.field-0 c.sample_option.result) (λ command. app_of command ≡ command_app)
    (λ command adds. command_is c.disable_help_flag.result c.in_ok-arg.field-0 command c.budget_option.result c.sample_option.result (search rules) c.budget_option.ensures.rule c.budget_option.ensures.own c.in_ok-arg.ensures
    c.sample_option.ensures.rule c.sample_option.ensures.own adds) c.arg-2.ensures
