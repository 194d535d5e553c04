use Rattle.ready.proofs.Firsts.{search_from}
use Rattle.ready.proofs.slots.earliest.Given as goal
use Rattle.ready.specs.Places.{earliest}
use Rattle.std.proofs.Common.{◌≡◌}

abbrev pub invariant-loop-place : goal.invariant-loop-place
invariant-loop-place l = search_from l.slots l.place l.best ≡ earliest l.slots
