-- What a reader has still to read, and what arrivals hold.
use Rattle.std.specs.Prelude.{ℕ, List, take, drop}
use Rattle.session.specs.declared.arrival.Arrival.{Arrival}
use Rattle.session.specs.declared.arrivals.Arrivals.{Arrivals}
use Rattle.session.specs.declared.reader.Reader.{Reader}

abbrev pub left : Reader → List ℕ
left s = drop s.at s.input.now

abbrev pub arrivals_of : Arrivals → List Arrival
arrivals_of a = take a.count a.cells
