use Rattle.std.specs.Prelude.{codes, decimal}
use Rattle.ht_text.proofs.FileTexts.{wrote_head}
use Rattle.ht_text.proofs.file.write_head.Goals as goal

pub returns : goal.returns
returns c =
    wrote_head c.args.out.now.items c.extend_from_slice.new.self.items c.write_num.new.out.items c.push.new.self.items c.write_num-2.new.out.items c.extend_from_slice-2.new.self.items c.write_size.new.out.items c.push-2.new.self.items
    (codes "ht-element 1\ngroup ") (decimal c.args.shape.n) (codes " ") (decimal c.args.shape.r) (codes "\nrows ") (decimal c.args.count) c.in_ok-extend_from_slice.ensures.items c.in_ok-write_num.ensures.ok
    c.in_ok-push.ensures.items c.in_ok-write_num-2.ensures.ok c.in_ok-extend_from_slice-2.ensures.items c.in_ok-write_size.ensures.ok c.in_ok-push-2.ensures.items
