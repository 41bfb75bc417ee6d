use Rattle.std.proofs.Common.{[], ◌∷◌, ◌++◌, ap, ◌∙◌}
use Rattle.ht_text.proofs.Writing.{appended, adds_first, adds_within, at_refusal}
use Rattle.ht_answer.proofs.text.write_named.Goals as goal

pub returns-in_err-extend_from_slice-2-clause-err : goal.returns-in_err-extend_from_slice-2-clause-err
returns-in_err-extend_from_slice-2-clause-err c =
    at_refusal c.from_residual-in_err-extend_from_slice-2.result
    (adds_within c.args.out.now.items c.extend_from_slice-2.new.self.items (c.args.text.now ++ c.args.name.now) (10 ∷ [])
    (adds_first c.args.out.now.items c.extend_from_slice-2.new.self.items c.args.text.now c.args.name.now
    (c.in_err-extend_from_slice-2.ensures.items ∙ c.in_ok-extend_from_slice.ensures.items)))

pub returns-in_err-push-clause-err : goal.returns-in_err-push-clause-err
returns-in_err-push-clause-err c =
    let named = c.in_ok-extend_from_slice-2.ensures.items ∙ ap (λ t. c.extend_from_slice.new.self.items ++ t) c.as_slice.ensures in
    let wrote = appended c.args.out.now.items c.extend_from_slice.new.self.items c.extend_from_slice-2.new.self.items c.args.text.now c.args.name.now c.in_ok-extend_from_slice.ensures.items named in
    at_refusal c.from_residual-in_err-push.result
    (adds_first c.args.out.now.items c.push.new.self.items (c.args.text.now ++ c.args.name.now) (10 ∷ []) (c.in_err-push.ensures.items ∙ wrote))

pub returns-clause-ok : goal.returns-clause-ok
returns-clause-ok c =
    let named = c.in_ok-extend_from_slice-2.ensures.items ∙ ap (λ t. c.extend_from_slice.new.self.items ++ t) c.as_slice.ensures in
    let wrote = appended c.args.out.now.items c.extend_from_slice.new.self.items c.extend_from_slice-2.new.self.items c.args.text.now c.args.name.now c.in_ok-extend_from_slice.ensures.items named in
    appended c.args.out.now.items c.extend_from_slice-2.new.self.items c.push.new.self.items (c.args.text.now ++ c.args.name.now) (10 ∷ []) wrote c.in_ok-push.ensures.items
