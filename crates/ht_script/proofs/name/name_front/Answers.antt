use Rattle.ht_script.specs.Names.{IsName, IsNameStart, IsNameByte}
use Rattle.ht_script.proofs.NameLaws.{name_a, start_a, front_of_none, front_of_other, front_of_name}
use Rattle.ht_script.proofs.name.name_front.Goals as goal

pub returns-in_default : goal.returns-in_default
returns-in_default c = front_of_none IsName 97 c.args.bytes.now name_a c.in_default.ensures.cases

pub returns-then-not-is_name_start : goal.returns-then-not-is_name_start
returns-then-not-is_name_start c = front_of_other IsNameStart IsNameByte 31 97 c.args.bytes.now c.in-Some.first.now c.in-Some.others.now start_a c.in-Some.ensures.cases.0 (λ h. let yes = c.is_name_start.ensures.1 h in cc)

pub returns : goal.returns
returns c =
    front_of_name IsNameStart IsNameByte 31 c.args.bytes.now c.in-Some.first.now c.in-Some.others.now c.min-within.result c.count_name_bytes.result c.in-Some.ensures.cases.0 (c.is_name_start.ensures.0 (let no = c.if-not-is_name_start.false in cc)) (cc)
    c.count_name_bytes.ensures
