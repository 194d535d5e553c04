-- The order of ready entries.
use Rattle.ready.specs.declared.entry.Entry.{Entry}
use Rattle.std.specs.Prelude.{Bool, cond, not, ◌&&◌, ◌||◌, Some, None, Option, ◌==◌, nat_lt}

-- Begun comes before not begun.
abbrev pub mark_first : Bool → Bool → Bool
mark_first x y = x && not y

-- Lower deadline first, then begun before not begun, then lower row.
abbrev pub before : Entry → Entry → Bool
before x y =
    nat_lt x.deadline y.deadline ||
    (x.deadline == y.deadline &&
    (mark_first x.begun y.begun || (not (mark_first y.begun x.begun) && nat_lt x.row y.row)))

-- The earlier of the best so far, if there is one, and another entry.
abbrev pub sooner : Option Entry → Entry → Option Entry
sooner None e = Some e
sooner (Some b) e = cond (before e b) (Some e) (Some b)
