use Rattle.ht_script.specs.declared.line.Line.TheVariants as line
use Rattle.ht_answer.specs.declared.answer.Answer.TheVariants.{Blank}
use Rattle.ht_calc.specs.Steps.{blank}
use Rattle.ht_calc.proofs.StepLaws.{alone, alone_or_err}
use Rattle.ht_calc.proofs.session.Session.answer_to.Goals as goal

pub returns-in-Blank-clause-step : goal.returns-in-Blank-clause-step
returns-in-Blank-clause-step g c = λ bytes is.
    alone c.args.self.now c.args.self.now c.args.line line.Blank Blank (g.L.Library.files c.args.files.now) (g.L.Library.faults c.args.files.now) (g.L.Library.asked c.args.files.now) bytes c.in-Blank.is blank is

pub returns-in-Group-clause-step : goal.returns-in-Group-clause-step
returns-in-Group-clause-step g c = λ bytes is.
    alone c.args.self.now c.group.new.self c.args.line (line.Group c.in-Group.n c.in-Group.r) c.group.result (g.L.Library.files c.args.files.now) (g.L.Library.faults c.args.files.now) (g.L.Library.asked c.args.files.now) bytes c.in-Group.is c.group.ensures.step is

pub returns-in-Reduce-clause-step : goal.returns-in-Reduce-clause-step
returns-in-Reduce-clause-step g c = λ bytes is.
    alone_or_err c.args.self.now c.args.self.now c.args.line (line.Reduce c.in-Reduce.rows) c.reduce.result (g.L.Library.files c.args.files.now) (g.L.Library.faults c.args.files.now) (g.L.Library.asked c.args.files.now) bytes c.in-Reduce.is c.reduce.ensures.step is

pub returns-in-LetRows-clause-step : goal.returns-in-LetRows-clause-step
returns-in-LetRows-clause-step g c = λ bytes is.
    alone_or_err c.args.self.now c.bind_rows.new.self c.args.line (line.LetRows c.in-LetRows.name c.in-LetRows.rows) c.bind_rows.result (g.L.Library.files c.args.files.now) (g.L.Library.faults c.args.files.now) (g.L.Library.asked c.args.files.now) bytes c.in-LetRows.is c.bind_rows.ensures.step is

pub returns-in-LetProduct-clause-step : goal.returns-in-LetProduct-clause-step
returns-in-LetProduct-clause-step g c = λ bytes is.
    alone_or_err c.args.self.now c.bind_product.new.self c.args.line (line.LetProduct c.in-LetProduct.name c.in-LetProduct.factors) c.bind_product.result (g.L.Library.files c.args.files.now) (g.L.Library.faults c.args.files.now) (g.L.Library.asked c.args.files.now) bytes c.in-LetProduct.is c.bind_product.ensures.step is

pub returns-in-Show-clause-step : goal.returns-in-Show-clause-step
returns-in-Show-clause-step g c = λ bytes is.
    alone_or_err c.args.self.now c.args.self.now c.args.line (line.Show c.in-Show.name) c.ask.result (g.L.Library.files c.args.files.now) (g.L.Library.faults c.args.files.now) (g.L.Library.asked c.args.files.now) bytes c.in-Show.is c.ask.ensures.step is

pub returns-in-Equal-clause-step : goal.returns-in-Equal-clause-step
returns-in-Equal-clause-step g c = λ bytes is.
    alone c.args.self.now c.args.self.now c.args.line (line.Equal c.in-Equal.first c.in-Equal.second) c.compare.result (g.L.Library.files c.args.files.now) (g.L.Library.faults c.args.files.now) (g.L.Library.asked c.args.files.now) bytes c.in-Equal.is c.compare.ensures.step is

pub returns-in-Image-clause-step : goal.returns-in-Image-clause-step
returns-in-Image-clause-step g c = λ bytes is.
    alone_or_err c.args.self.now c.args.self.now c.args.line (line.Image c.in-Image.name c.in-Image.word) c.image.result (g.L.Library.files c.args.files.now) (g.L.Library.faults c.args.files.now) (g.L.Library.asked c.args.files.now) bytes c.in-Image.is c.image.ensures.step is

pub returns-in-Basis-clause-step : goal.returns-in-Basis-clause-step
returns-in-Basis-clause-step g c = λ bytes is.
    alone_or_err c.args.self.now c.args.self.now c.args.line (line.Basis c.in-Basis.name) c.ask-in-Basis.result (g.L.Library.files c.args.files.now) (g.L.Library.faults c.args.files.now) (g.L.Library.asked c.args.files.now) bytes c.in-Basis.is c.ask-in-Basis.ensures.step is

pub returns-in-Order-clause-step : goal.returns-in-Order-clause-step
returns-in-Order-clause-step g c = λ bytes is.
    alone_or_err c.args.self.now c.args.self.now c.args.line (line.Order c.in-Order.name) c.ask-in-Order.result (g.L.Library.files c.args.files.now) (g.L.Library.faults c.args.files.now) (g.L.Library.asked c.args.files.now) bytes c.in-Order.is c.ask-in-Order.ensures.step is

pub returns-in-Types-clause-step : goal.returns-in-Types-clause-step
returns-in-Types-clause-step g c = λ bytes is.
    alone_or_err c.args.self.now c.args.self.now c.args.line (line.Types c.in-Types.name) c.ask-in-Types.result (g.L.Library.files c.args.files.now) (g.L.Library.faults c.args.files.now) (g.L.Library.asked c.args.files.now) bytes c.in-Types.is c.ask-in-Types.ensures.step is

pub returns-in-Profile-clause-step : goal.returns-in-Profile-clause-step
returns-in-Profile-clause-step g c = λ bytes is.
    alone_or_err c.args.self.now c.args.self.now c.args.line (line.Profile c.in-Profile.name) c.ask-in-Profile.result (g.L.Library.files c.args.files.now) (g.L.Library.faults c.args.files.now) (g.L.Library.asked c.args.files.now) bytes c.in-Profile.is c.ask-in-Profile.ensures.step is

pub returns-in-Parts-clause-step : goal.returns-in-Parts-clause-step
returns-in-Parts-clause-step g c = λ bytes is.
    alone_or_err c.args.self.now c.parts.new.self c.args.line (line.Parts c.in-Parts.periodic c.in-Parts.infinite c.in-Parts.whole) c.parts.result (g.L.Library.files c.args.files.now) (g.L.Library.faults c.args.files.now) (g.L.Library.asked c.args.files.now) bytes c.in-Parts.is c.parts.ensures.step is

pub returns-in-Conj-clause-step : goal.returns-in-Conj-clause-step
returns-in-Conj-clause-step g c = λ bytes is.
    alone_or_err c.args.self.now c.conjugate.new.self c.args.line (line.Conj c.in-Conj.bound c.in-Conj.first c.in-Conj.second) c.conjugate.result (g.L.Library.files c.args.files.now) (g.L.Library.faults c.args.files.now) (g.L.Library.asked c.args.files.now) bytes c.in-Conj.is c.conjugate.ensures.step is

pub returns-in-Ponds-clause-step : goal.returns-in-Ponds-clause-step
returns-in-Ponds-clause-step g c = λ bytes is.
    alone_or_err c.args.self.now c.args.self.now c.args.line (line.Ponds c.in-Ponds.name) c.ask-in-Ponds.result (g.L.Library.files c.args.files.now) (g.L.Library.faults c.args.files.now) (g.L.Library.asked c.args.files.now) bytes c.in-Ponds.is c.ask-in-Ponds.ensures.step is

pub returns-in-Share-clause-step : goal.returns-in-Share-clause-step
returns-in-Share-clause-step g c = λ bytes is.
    alone_or_err c.args.self.now c.args.self.now c.args.line (line.Share c.in-Share.name c.in-Share.first c.in-Share.second) c.share.result (g.L.Library.files c.args.files.now) (g.L.Library.faults c.args.files.now) (g.L.Library.asked c.args.files.now) bytes c.in-Share.is c.share.ensures.step is

pub returns-in-Power-clause-step : goal.returns-in-Power-clause-step
returns-in-Power-clause-step g c = λ bytes is.
    alone_or_err c.args.self.now c.args.self.now c.args.line (line.Power c.in-Power.first c.in-Power.second) c.power.result (g.L.Library.files c.args.files.now) (g.L.Library.faults c.args.files.now) (g.L.Library.asked c.args.files.now) bytes c.in-Power.is c.power.ensures.step is
