use Rattle.rehearse_ticks.proofs.run.release_due.Goals as goal
use Rattle.std.proofs.Common.{arith}
use Rattle.std.proofs.lemmas.List.Sorted.{length_permutation}

pub loop-arrival-smaller : goal.loop-arrival-smaller
loop-arrival-smaller g c = omega (arith, length_permutation _ _ c.in-Some.ensures.taken.less)
