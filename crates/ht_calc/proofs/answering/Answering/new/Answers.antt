use Rattle.std.proofs.Common.{[], refl, arith}
use Rattle.ht_calc.proofs.Fetching.{nothing_asked, none_made}
use Rattle.ht_calc.proofs.answering.Answering.new.Goals as goal

pub returns : goal.returns
returns c = λ files calls. record {
  count = refl;
  fetches = [];
  answers = [];
  run = (refl, c.new.ensures);
  fetched = nothing_asked files calls.faults;
  all = none_made calls.asked;
  output = refl;
  refusal = (λ is. cc, λ some. absurd (omega (arith, some.2)));
  reached = omega arith;
  written = refl;
}
