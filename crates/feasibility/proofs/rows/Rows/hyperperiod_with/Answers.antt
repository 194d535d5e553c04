use Rattle.std.proofs.Common.{refl, arith}
use Rattle.feasibility.proofs.Pushes.{hyperperiod_push}
use Rattle.feasibility.proofs.rows.Rows.hyperperiod_with.Goals as goal
use Rattle.feasibility.specs.Contents.{rows_of}

pub returns-then-hyperperiod-from : goal.returns-then-hyperperiod-from
returns-then-hyperperiod-from c =
    let s = c.args.self.now in
    let lcm = c.least_common_multiple-hyperperiod in
    let whole = hyperperiod_push (rows_of s) c.args.row s.hyperperiod lcm.result s.exact lcm.ensures in
    (refl, λ m pos common. omega (arith, whole.2 m pos common))

pub returns : goal.returns
returns c =
    let s = c.args.self.now in
    let lcm = c.least_common_multiple-hyperperiod in (
      hyperperiod_push (rows_of s) c.args.row s.hyperperiod lcm.result s.exact lcm.ensures,
      omega (arith, c.if-hyperperiod-from.false),
    )
