use Rattle.std.proofs.lemmas.Result.{on_err_weaker}
use Rattle.std.proofs.lemmas.Int.{to_z-of_z}
use Rattle.std.proofs.Common.{ℤ, ℕ, List, [], ◌∷◌, ◌++◌}
use Rattle.std.specs.Prelude.{codes}
use Rattle.std.specs.Int.{w128}
use Rattle.std.specs.Fmt.{signed_decimal}
use Rattle.ht_text.proofs.Writing.{appended, adds_behind, adds_within, at_refusal}
use Rattle.ht_answer.proofs.text.write_exponents.Goals as goal

-- the first exponent and what stands before it
abbrev head : ℤ → List ℕ
head i = codes "power " ++ signed_decimal i

pub returns-in_err-write_integer-clause-err : goal.returns-in_err-write_integer-clause-err
returns-in_err-write_integer-clause-err c =
    let front = rw (to_z-of_z w128 c.args.i c.ranges.i) at c.in_err-write_integer.ensures.err in
    at_refusal c.from_residual-in_err-write_integer.result
    (adds_within c.args.out.now.items c.write_integer.new.out.items (head c.args.i ++ 32 ∷ []) (signed_decimal c.args.j)
    (adds_within c.args.out.now.items c.write_integer.new.out.items (head c.args.i) (32 ∷ [])
    (adds_behind c.args.out.now.items c.extend_from_slice.new.self.items c.write_integer.new.out.items (codes "power ") (signed_decimal c.args.i)
    c.in_ok-extend_from_slice.ensures.items front)))

pub returns-clause-err : goal.returns-clause-err
returns-clause-err c =
    let number = rw (to_z-of_z w128 c.args.i c.ranges.i) at c.in_ok-write_integer.ensures.ok in
    let first = appended c.args.out.now.items c.extend_from_slice.new.self.items c.write_integer.new.out.items (codes "power ") (signed_decimal c.args.i)
    c.in_ok-extend_from_slice.ensures.items number in
    let wrote = appended c.args.out.now.items c.write_integer.new.out.items c.push.new.self.items (head c.args.i) (32 ∷ []) first c.in_ok-push.ensures.items in
    on_err_weaker c.write_integer-2.result
    (λ h. adds_behind c.args.out.now.items c.push.new.self.items c.write_integer-2.new.out.items (head c.args.i ++ 32 ∷ []) (signed_decimal c.args.j) wrote h)
    (rw (to_z-of_z w128 c.args.j c.ranges.j) at c.write_integer-2.ensures.err)
