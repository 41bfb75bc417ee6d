use Rattle.ht_answer.proofs.AnswerTexts.{refusal_told}
use Rattle.ht_answer.proofs.laws.refusals_are_told_by_their_texts.Goals as goal

pub returns : goal.returns
returns c = refusal_told
