-- The words of the command line, by clap's definition of the command.
--
--     budget_rule               the option --budget: one number from 1 to 65536, 2000 where it isn't given
--     sample_rule               the option --sample: one number from 0 to 2^64-1
--     command_app               the command: these two options, no help, and no program's name before the words
--     AreBadWords words         the command doesn't take these words
--     IsBudgetOf words b        b is the number that these words give for --budget
--     IsSampleOf words number   this is the number that these words give for --sample
--     IsSampled words           these words give one
use Rattle.std.specs.Prelude.{◌≡◌, ◌≢◌, ℕ, List, pos, Some, Ok, true, [], ◌∷◌, codes}
use Rattle.std.specs.Str.Parse.{ParsesUnsigned}
use Rattle.clap.specs.Words.{App, Rule, Text, fault_of, matches_of, one_of, new_app, new_rule, with_rule}
use Rattle.clap.specs.Simple.{on_top}
use Rattle.clap.specs.declared.builder.action.ArgAction.TheVariants as action
use Rattle.clap.specs.declared.builder.value_parser.ValueParser.TheVariants as parser

abbrev pub budget_rule : Rule
budget_rule = record (new_rule (codes "budget")) {
  long = Some (codes "budget");
  action = Some action.Set;
  parser = Some (parser.Signed (pos 1) (pos 65536));
  defaults = codes "2000" ∷ [];
}

abbrev pub sample_rule : Rule
sample_rule = record (new_rule (codes "sample")) {
  long = Some (codes "sample");
  action = Some action.Set;
  parser = Some (parser.Unsigned 0 18446744073709551615);
}

abbrev pub command_app : App
command_app =
    with_rule (with_rule (on_top (λ s. record s { no_binary_name = true; disable_help_flag = true }) (new_app (codes "htcalc"))) budget_rule) sample_rule

abbrev pub AreBadWords : List Text → Type 0
AreBadWords words = fault_of command_app words ≢ []

pub record IsBudgetOf (words : List Text) (b : ℕ) : Type 0 where
  pub text : Text
  pub given : one_of (codes "budget") (matches_of command_app words) ≡ Some text
  pub number : ParsesUnsigned {E = ℕ} 32 10 text (Ok b)

pub record IsSampleOf (words : List Text) (number : ℕ) : Type 0 where
  pub text : Text
  pub given : one_of (codes "sample") (matches_of command_app words) ≡ Some text
  pub parses : ParsesUnsigned {E = ℕ} 64 10 text (Ok number)

abbrev pub IsSampled : List Text → Type 0
IsSampled words = (number : ℕ) × IsSampleOf words number
