use Rattle.std.proofs.Common.{[], ◌∷◌, arith, rules}
use Rattle.report.proofs.Numbers.{at_most_twenty, last_byte, one_more}
use Rattle.report.proofs.lines.line.Goals as goal
use Rattle.std.proofs.Math.Seq.{drop-length}

pub loop-i-init : goal.loop-i-init
loop-i-init c = record { text = search (rules, last_byte, drop-length); room = omega arith; within = omega arith }

pub loop-i-preserved : goal.loop-i-preserved
loop-i-preserved c = record {
  text =
      one_more c.args.numbers.now c.loop-i.i (10 ∷ []) _ _ (omega arith) (omega arith)
      c.put_number-at.ensures.written c.loop-i.invariant.text;
  room = omega (arith, at_most_twenty);
  within = omega arith;
}
