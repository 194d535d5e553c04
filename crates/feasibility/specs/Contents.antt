-- What a table holds.
use Rattle.std.specs.Prelude.{ℕ, ◌-◌, cond, ◌&&◌, List, length, take, Some, None, Option, nat_le, nat_lt}
use Rattle.feasibility.specs.Limits.{max_store}
use Rattle.feasibility.specs.Tables.{row_at, least_kept}
use Rattle.feasibility.specs.declared.row.Row.{Row}
use Rattle.feasibility.specs.declared.rows.Rows.{Rows}

-- Its rows, in the order in which they were added.
abbrev pub rows_of : Rows → List Row
rows_of t = take t.count t.cells

-- The hyperperiod that it keeps.
abbrev pub hyperperiod_of : Rows → ℕ
hyperperiod_of t = t.hyperperiod

-- The row under the number n, from 1, if there is one.
abbrev pub numbered : List Row → ℕ → Option Row
numbered rows n = cond (nat_lt 0 n && nat_le n (length rows)) (Some (row_at rows (n - 1))) None

-- The least period of the users of the store r, from 1 to 8, if it has any.
abbrev pub least_told : List Row → ℕ → Option ℕ
least_told rows r = cond (nat_lt 0 r && nat_le r max_store) (least_kept rows r) None
