-- What a queue holds, and what a call does to it: q is the queue before the call, q' after it.
use Rattle.std.specs.Prelude.{◌≡◌, ℕ, ◌≤◌, Bool, List, ◌∷◌, length, take, Option, Result, nat_lt}
use Rattle.queue.specs.Heaps.{Heaped}
use Rattle.queue.specs.declared.full.Full.{Full}
use Rattle.queue.specs.declared.queue.Queue.{Queue}
use Rattle.std.specs.Option as options
use Rattle.std.specs.Result as results
use Rattle.std.specs.List.Sorted.{IsPermutation}
use Rattle.std.specs.List.{slice_get}

module _ {T : Type 0} where
  -- What the cells hold, in use or not.
  abbrev pub lent : Queue T → List T
  lent q = q.cells.now

  -- The elements: what the first `used` cells hold, or all cells if there are fewer.
  abbrev pub contents : Queue T → List T
  contents q = take q.used (lent q)

  abbrev pub capacity : Queue T → ℕ
  capacity q = length (lent q)

  -- Whether there is a cell that is not in use.
  abbrev pub has_room : Queue T → Bool
  has_room q = nat_lt (length (contents q)) (capacity q)

  -- There are as many cells as before, and one that is in use neither before nor after holds what it held.
  pub record Kept (q q' : Queue T) : Type 0 where
    pub number : capacity q' ≡ capacity q
    pub unused : (k : ℕ) → length (contents q) ≤ k → length (contents q') ≤ k → slice_get (lent q') k ≡ slice_get (lent q) k

  -- The elements are those that there were, and x.
  pub record Added (x : T) (q q' : Queue T) : Type 0 where
    pub more : IsPermutation (x ∷ contents q) (contents q')
    pub kept : Kept q q'

  -- The elements that there were are those that there are, and x.
  pub record Taken (x : T) (q q' : Queue T) : Type 0 where
    pub less : IsPermutation (contents q) (x ∷ contents q')
    pub kept : Kept q q'

  -- No cell is altered, nor the count.
  pub record Unaltered (q q' : Queue T) : Type 0 where
    pub count : q'.used ≡ q.used
    pub same : lent q' ≡ lent q

  -- x is added, or it is refused.
  abbrev pub Adds : T → Result (Unit {0}) Full → Queue T → Queue T → Type 0
  Adds x r q q' = results.MatchResult r (λ _. Added x q q') (λ _. Unaltered q q')

  -- What is told is taken out; if it is nothing, nothing is.
  abbrev pub Takes : Option T → Queue T → Queue T → Type 0
  Takes r q q' = options.MatchOption r (Unaltered q q') (λ x. Taken x q q')

  -- If the elements stood in heap order, they still do.
  abbrev pub StaysHeaped : (T → T → Bool) → Queue T → Queue T → Type 0
  StaysHeaped before q q' = Heaped before (contents q) → Heaped before (contents q')
