use Rattle.dispatch.proofs.dispatcher.Dispatcher.end.Goals as goal
use Rattle.guarantee.proofs.Alive.{lives_on}

pub returns : goal.returns
returns g c = record { step = c.end_step.ensures; life = lives_on _ _ _ _ tt c.end_step.ensures }
