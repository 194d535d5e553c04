-- What the first arrival tells of what is due.
use Rattle.std.proofs.Common.{◌≡◌, ℕ, ◌<◌, ◌≤◌, false, List, [], ◌∷◌, length, Some, None, Option, refl, arith}
use Rattle.arrivals.specs.Order.{earlier}
use Rattle.arrivals.specs.Coming.{contents, NoneComes, IsNext}
use Rattle.arrivals.specs.declared.coming.Coming.{Coming}
use Rattle.arrivals.specs.declared.order.PlacedArrival.{PlacedArrival}
use Rattle.queue.specs.Contents.{Takes}
use Rattle.queue.specs.Heaps.{First, IsFirst}
use Rattle.std.proofs.ByRecursion.{All-weaker, all-has}
use Rattle.std.proofs.lemmas.Bool.Decides.{nat_tests}
use Rattle.std.specs.List.{AllByRecursion}

-- what does not come before x is not at a lower time
no_lower : (x y : PlacedArrival) → earlier y x ≡ false → x.time ≤ y.time
no_lower x y e = grind (arith, nat_tests, e)

none_later : (clock : ℕ) (xs : List PlacedArrival) → length xs ≡ 0 → AllByRecursion (λ y. clock < y.time) xs
none_later clock [] e = tt
none_later clock (x ∷ xs) e = absurd (omega arith)

module _ (clock : ℕ) (c : Coming) where
  -- where there is none, none is due
  pub none_comes : length (contents c) ≡ 0 → NoneComes clock c c
  none_comes e =
      record { later = none_later clock (contents c) e; same = record { count = refl; same = refl } }

  -- where the first is later than the clock, all are
  pub later_comes :
      (told : Option PlacedArrival) (first : PlacedArrival) → told ≡ Some first → IsFirst earlier (contents c) told →
      clock < first.time → NoneComes clock c c
  later_comes told first e f late =
      let is : First earlier (contents c) first = rw e at f in
      record {
        later =
            All-weaker (λ y. earlier y first ≡ false) (λ y. clock < y.time) (λ y e. omega (arith, no_lower first y e))
            (contents c) (is.least c.heaped);
        same = record { count = refl; same = refl };
      }

  -- where one first is due, what is taken as the first is due too
  pub due_comes :
      (told : Option PlacedArrival) (first : PlacedArrival) (c' : Coming) (r : Option PlacedArrival) →
      told ≡ Some first → IsFirst earlier (contents c) told → first.time ≤ clock → IsFirst earlier (contents c) r →
      Takes r c.queue c'.queue → IsNext clock c c' r
  due_comes told first c' None e f due g t =
      let is : First earlier (contents c) first = rw e at f in
      absurd (omega (arith, is.held.1))
  due_comes told first c' (Some x) e f due g t =
      let is : First earlier (contents c) first = rw e at f in
      let all = g.least c.heaped in
      let no = no_lower x first (all-has (λ y. earlier y x ≡ false) (contents c) first all is.held) in
      record { due = omega arith; first = all; taken = t }

pub ruleset firsts = (none_comes, later_comes, due_comes)
