-- The order of arrivals.
use Rattle.arrivals.specs.declared.order.PlacedArrival.{PlacedArrival}
use Rattle.std.specs.Prelude.{Bool, ◌&&◌, ◌||◌, ◌==◌, nat_lt}

-- Lower time first, then lower row, then lower place in the file.
abbrev pub earlier : PlacedArrival → PlacedArrival → Bool
earlier x y =
    nat_lt x.time y.time ||
    (x.time == y.time && (nat_lt x.row y.row || (x.row == y.row && nat_lt x.place y.place)))
