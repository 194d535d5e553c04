use Rattle.dispatch.proofs.dispatcher.Dispatcher.take.Goals as goal
use Rattle.dispatch.proofs.Tabled.{proper}
use Rattle.guarantee.proofs.Alive.{lives_on}

pub returns : goal.returns
returns g c =
    record {
      step = c.take_step.ensures;
      life = lives_on _ _ _ _ (proper c.args.table.now) c.take_step.ensures;
    }
