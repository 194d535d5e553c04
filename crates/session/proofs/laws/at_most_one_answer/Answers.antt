use Rattle.session.proofs.OneAnswer.{one_answer}
use Rattle.session.proofs.laws.at_most_one_answer.Goals as goal

pub returns : goal.returns
returns c = one_answer
