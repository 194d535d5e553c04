use Rattle.dispatch.proofs.dispatcher.Dispatcher.release.Goals as goal
use Rattle.guarantee.proofs.Alive.{lives_on}

pub returns : goal.returns
returns g c = record { step = c.release_step.ensures; life = lives_on _ _ _ _ tt c.release_step.ensures }
