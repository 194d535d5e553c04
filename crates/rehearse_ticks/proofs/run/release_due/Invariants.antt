use Rattle.std.proofs.Common.{length}
use Rattle.arrivals.specs.Coming.{contents}
use Rattle.rehearse_ticks.proofs.run.release_due.Given as goal

-- one fewer is to come
abbrev pub decreases-loop-arrival : goal.decreases-loop-arrival
decreases-loop-arrival g l = length (contents l.coming)
