use Rattle.session.proofs.arrivals.reading.read_arrivals.Given as goal
use Rattle.session.specs.Reading.{left, arrivals_of}
use Rattle.session.specs.Sections.{ArrivalsRead}
use Rattle.std.proofs.Common.{◌≡◌, ◌+◌, length}

-- the arrivals of the lines before are read
abbrev pub invariant-loop-line : goal.invariant-loop-line
invariant-loop-line l =
    ArrivalsRead l.rows (left l.initial.reader) (arrivals_of l.arrivals) (left l.reader) ×
    (l.from + length (arrivals_of l.arrivals) ≡ l.line-counter)
