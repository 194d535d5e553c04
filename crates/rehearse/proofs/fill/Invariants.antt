use Rattle.std.proofs.Common.{◌≤◌, length}
use Rattle.rehearse.proofs.fill.Given as goal

abbrev pub invariant-loop : goal.invariant-loop
invariant-loop g l = l.at ≤ length l.space
