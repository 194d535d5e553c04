-- What is to come.
use Rattle.std.specs.Prelude.{◌≡◌, ℕ, ◌<◌, ◌≤◌, false, List, Option, MatchOption}
use Rattle.arrivals.specs.Order.{earlier}
use Rattle.arrivals.specs.declared.order.PlacedArrival.{PlacedArrival}
use Rattle.arrivals.specs.declared.coming.Coming.{Coming}
use Rattle.queue.specs.Contents as queues
use Rattle.std.specs.List.{AllByRecursion}

-- The arrivals that are to come, in no order that matters.
abbrev pub contents : Coming → List PlacedArrival
contents c = queues.contents c.queue

-- x is due at the clock, and none that is to come comes before it; it comes out.
pub record Comes (clock : ℕ) (c c' : Coming) (x : PlacedArrival) : Type 0 where
  pub due : x.time ≤ clock
  pub first : AllByRecursion (λ y. earlier y x ≡ false) (contents c)
  pub taken : queues.Taken x c.queue c'.queue

-- None is due at the clock, and nothing changes.
pub record NoneComes (clock : ℕ) (c c' : Coming) : Type 0 where
  pub later : AllByRecursion (λ y. clock < y.time) (contents c)
  pub same : queues.Unaltered c.queue c'.queue

abbrev pub IsNext : ℕ → Coming → Coming → Option PlacedArrival → Type 0
IsNext clock c c' r = MatchOption r (NoneComes clock c c') (Comes clock c c')
