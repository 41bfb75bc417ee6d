use Rattle.ht_script.specs.Names.{IsFileName, IsFileStart, IsFileByte}
use Rattle.ht_script.proofs.NameLaws.{file_a, file_start_a, front_of_none, front_of_other, front_of_name}
use Rattle.ht_script.proofs.file.file_front.Goals as goal

pub returns-in_default : goal.returns-in_default
returns-in_default c = front_of_none IsFileName 97 c.args.bytes.now file_a c.in_default.ensures.cases

pub returns-then-not-is_file_start : goal.returns-then-not-is_file_start
returns-then-not-is_file_start c = front_of_other IsFileStart IsFileByte 63 97 c.args.bytes.now c.in-Some.first.now c.in-Some.others.now file_start_a c.in-Some.ensures.cases.0 (λ h. let yes = c.is_file_start.ensures.1 h in cc)

pub returns : goal.returns
returns c =
    front_of_name IsFileStart IsFileByte 63 c.args.bytes.now c.in-Some.first.now c.in-Some.others.now c.min-within.result c.count_file_bytes.result c.in-Some.ensures.cases.0 (c.is_file_start.ensures.0 (let no = c.if-not-is_file_start.false in cc)) (cc)
    c.count_file_bytes.ensures
