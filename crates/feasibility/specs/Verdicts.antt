-- When a table is fit, and what the verdict on it says.
use Rattle.std.specs.Prelude.{◌≡◌, ℕ, ◌+◌, ◌-◌, ◌*◌, ◌/◌, ◌<◌, ◌≤◌, ◌≢◌, List, length, MatchBool, ◌==◌}
use Rattle.feasibility.specs.Sums.{Σ<_but}
use Rattle.feasibility.specs.Tables.{row_at, load_of, least_period}
use Rattle.feasibility.specs.Told.{Told}
use Rattle.feasibility.specs.declared.row.Row.{Row}

-- The most units that jobs of a row can ask for that are both requested and due within t ticks: they are requested at
-- the first tick and then at each period.
abbrev pub demand : Row → ℕ → ℕ
demand x t = t / x.period * x.cost

-- The units to be given within l ticks if row i got the first one in its store and every other row is requested right
-- after it: the whole cost of i, since it holds the store that a more urgent job waits for, and what the others have due.
abbrev pub needed : List Row → ℕ → ℕ → ℕ
needed rows i l = (row_at rows i).cost + Σ<_but (length rows) i (λ j. demand (row_at rows j) (l - 1))

-- l is a length at which row i is tried: it uses a store, and l is above the least period of the store's users and below
-- its own.
pub record Tried (rows : List Row) (i l : ℕ) : Type 0 where
  pub within : i < length rows
  pub stored : (row_at rows i).store ≢ 0
  pub above : least_period rows (row_at rows i).store < l
  pub below : l < (row_at rows i).period

-- No row fails at any length at which it is tried.
abbrev pub Unblocked : List Row → Type 0
Unblocked rows = (i l : ℕ) → Tried rows i l → needed rows i l ≤ l

-- Row i fails at the length l, no lower row fails at any, and row i fails at no lower one.
pub record FirstFailing (rows : List Row) (i l : ℕ) : Type 0 where
  pub tried : Tried rows i l
  pub fails : l < needed rows i l
  pub earlier : (k m : ℕ) → k < i → Tried rows k m → needed rows k m ≤ m
  pub shorter : (m : ℕ) → m < l → Tried rows i m → needed rows i m ≤ m

-- The three verdicts on a table of hyperperiod h, with the values that are told with them.
pub record IsFit (rows : List Row) (h first second : ℕ) : Type 0 where
  pub load_fits : load_of rows h ≤ h
  pub unblocked : Unblocked rows
  pub no_values : (first ≡ 0) × (second ≡ 0)

pub record IsOverloaded (rows : List Row) (h first second : ℕ) : Type 0 where
  pub load_exceeds : h < load_of rows h
  pub first_is : first ≡ h
  pub second_is : second ≡ load_of rows h

pub record IsBlocked (rows : List Row) (h number l : ℕ) : Type 0 where
  pub load_fits : load_of rows h ≤ h
  pub numbered : 1 ≤ number
  pub first : FirstFailing rows (number - 1) l

-- What is told of a table is right: 0 and it is fit, 6 and it is overloaded, 7 and it is blocked, and nothing else.
abbrev pub Judged : List Row → ℕ → Told → Type 0
Judged rows h t =
    MatchBool (t.number == 0) (IsFit rows h t.first t.second)
    (MatchBool (t.number == 6) (IsOverloaded rows h t.first t.second)
    (MatchBool (t.number == 7) (IsBlocked rows h t.first t.second) ⊥))
