use Rattle.feasibility.specs.Contents.{rows_of}
use Rattle.session.proofs.rows.read_rows.Given as goal
use Rattle.session.specs.Reading.{left}
use Rattle.session.specs.Sections.{RowsRead}
use Rattle.std.proofs.Common.{◌≡◌, ◌+◌, length}

-- the rows of the lines before are taken
abbrev pub invariant-loop-line : goal.invariant-loop-line
invariant-loop-line l =
    RowsRead (left l.initial.reader) (rows_of l.draft.rows) (left l.reader) ×
    (length (rows_of l.draft.rows) + 2 ≡ l.line-counter)
