use Rattle.std.proofs.Common.{◌≡◌, ◌*◌, ◌≤◌}
use Rattle.feasibility.proofs.rows.Rows.units_asked.Given as goal
use Rattle.feasibility.specs.Contents.{rows_of}
use Rattle.feasibility.specs.Sums.{Σ<}
use Rattle.feasibility.specs.Tables.{row_at}
use Rattle.feasibility.specs.Verdicts.{demand}

abbrev pub invariant-loop-row : goal.invariant-loop-row
invariant-loop-row l =
    (l.sum ≡ Σ< l.row-index (λ j. demand (row_at (rows_of l.self) j) l.span)) × (l.sum ≤ 65535 * l.row-index)
