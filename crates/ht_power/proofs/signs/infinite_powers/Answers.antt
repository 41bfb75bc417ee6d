use Rattle.std.proofs.lemmas.Result.{err_from_is_err_and}
use Rattle.ht_power.proofs.SignLaws.{wide_answered, plus_failed, plus_found, minus_failed, minus_found, none_found}
use Rattle.ht_power.proofs.signs.infinite_powers.Goals as goal

pub returns-in_default : goal.returns-in_default
returns-in_default d c = wide_answered c.requires.infinite c.in_default.ensures

pub returns-in_err-found : goal.returns-in_err-found
returns-in_err-found d c =
    let p = err_from_is_err_and c.from_residual.result c.from_residual.ensures.1 in
    plus_failed c.in-Some.ensures c.requires.infinite c.in_err-found.field-0.0 p.1 p.2 c.in_err-found.ensures

pub returns-in-Some-2 : goal.returns-in-Some-2
returns-in-Some-2 d c = plus_found c.in-Some.ensures c.requires.infinite c.in_ok-found.field-0 c.in_ok-found.ensures c.in-Some-2.found c.in-Some-2.is

pub returns-in_err-found-2 : goal.returns-in_err-found-2
returns-in_err-found-2 d c =
    let p = err_from_is_err_and c.from_residual-in_err-found-2.result c.from_residual-in_err-found-2.ensures.1 in
    minus_failed c.in-Some.ensures c.requires.infinite c.in_ok-found.field-0 c.in_ok-found.ensures c.in_default-2.is c.in_err-found-2.field-0.0 p.1 p.2 c.in_err-found-2.ensures

pub returns-in-Some-3 : goal.returns-in-Some-3
returns-in-Some-3 d c =
    minus_found c.in-Some.ensures c.requires.infinite c.in_ok-found.field-0 c.in_ok-found.ensures c.in_default-2.is c.in_ok-found-2.field-0 c.in_ok-found-2.ensures
    c.in-Some-3.found c.in-Some-3.is

pub returns : goal.returns
returns d c =
    none_found c.in-Some.ensures c.requires.infinite c.in_ok-found.field-0 c.in_ok-found.ensures c.in_default-2.is c.in_ok-found-2.field-0 c.in_ok-found-2.ensures c.in_default-3.is
