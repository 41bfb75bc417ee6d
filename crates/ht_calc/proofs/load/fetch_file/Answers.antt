use Rattle.ht_calc.proofs.Loading.{file_is_text}
use Rattle.ht_calc.proofs.load.fetch_file.Goals as goal

pub unreachable-requires : goal.unreachable-requires
unreachable-requires g c = c.in_default.ensures.cases.0 (rw c.as_slice.ensures (file_is_text c.args.file.now c.requires))
