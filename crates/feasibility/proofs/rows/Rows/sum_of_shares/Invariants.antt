use Rattle.std.proofs.Common.{◌≡◌, ◌*◌, ◌≤◌}
use Rattle.feasibility.proofs.rows.Rows.sum_of_shares.Given as goal
use Rattle.feasibility.specs.Contents.{rows_of}
use Rattle.feasibility.specs.Sums.{Σ<}
use Rattle.feasibility.specs.Tables.{row_at, share}

abbrev pub invariant-loop-row : goal.invariant-loop-row
invariant-loop-row l =
    (l.sum ≡ Σ< l.row-index (λ j. share (row_at (rows_of l.self) j) l.hyperperiod)) ×
    (l.sum ≤ 4294967295 * l.row-index)
