-- A job table is the list of its rows in the order in which they were added. Places count from 0; the number by which
-- a user names a row is its place + 1.
use Rattle.std.specs.Prelude.{◌≡◌, ℕ, ◌*◌, ◌/◌, ◌%◌, ◌<◌, ◌≤◌, min, cond, ◌≢◌, List, [], ◌∷◌, length, Some, None, Option, ◌==◌, slice_index_or}
use Rattle.feasibility.specs.Limits.{max_period, max_store}
use Rattle.feasibility.specs.Sums.{Σ<}
use Rattle.feasibility.specs.declared.row.Row.{Row}

-- What stands past the end of a table.
abbrev pub blank : Row
blank = record { cost = 0; period = 0; store = 0 }

-- The row at place j.
abbrev pub row_at : List Row → ℕ → Row
row_at rows j = slice_index_or rows j blank

-- A row within its limits.
abbrev pub Limited : Row → Type 0
Limited x = (1 ≤ x.cost) × (x.cost ≤ x.period) × (x.period ≤ max_period) × (x.store ≤ max_store)

abbrev pub Sound : List Row → Type 0
Sound rows = (j : ℕ) → j < length rows → Limited (row_at rows j)

-- Every period divides m.
abbrev pub Common : List Row → ℕ → Type 0
Common rows m = (j : ℕ) → j < length rows → m % (row_at rows j).period ≡ 0

-- h is the hyperperiod: the least positive number that every period divides.
abbrev pub Hyperperiod : List Row → ℕ → Type 0
Hyperperiod rows h = (0 < h) × Common rows h × ((m : ℕ) → 0 < m → Common rows m → h ≤ m)

-- The units that a row asks for in h ticks, where h is a multiple of its period: its cost once a period.
abbrev pub share : Row → ℕ → ℕ
share x h = x.cost * (h / x.period)

-- The units that all rows ask for in h ticks.
abbrev pub load_of : List Row → ℕ → ℕ
load_of rows h = Σ< (length rows) (λ j. share (row_at rows j) h)

-- The lower of two periods, where 0 stands for none.
abbrev pub lower : ℕ → ℕ → ℕ
lower p q = cond (p == 0) q (cond (q == 0) p (min p q))

-- The least period among the rows that use the store r, 0 if none does.
abbrev pub least_period : List Row → ℕ → ℕ
least_period [] r = 0
least_period (x ∷ xs) r = lower (cond (x.store == r) x.period 0) (least_period xs r)

-- p is the least period among the users of the store r: that of one of them, and at most that of each.
pub record Least (rows : List Row) (r p : ℕ) : Type 0 where
  pub user : ℕ
  pub within : user < length rows
  pub uses : (row_at rows user).store ≡ r
  pub own : (row_at rows user).period ≡ p
  pub least : (j : ℕ) → j < length rows → (row_at rows j).store ≡ r → p ≤ (row_at rows j).period

-- No row uses the store r. (0 names no store, so nothing is said of it.)
abbrev pub Unused : List Row → ℕ → Type 0
Unused rows r = r ≢ 0 → (j : ℕ) → j < length rows → (row_at rows j).store ≢ r

-- The least period of the users of the store r, if it has any.
abbrev pub least_kept : List Row → ℕ → Option ℕ
least_kept rows r = cond (least_period rows r == 0) None (Some (least_period rows r))

-- The least period of each store's users, by store; at 0 that of the rows that use none.
abbrev pub LeastPeriods : List (Option ℕ) → List Row → Type 0
LeastPeriods least rows = (r : ℕ) → r ≤ max_store → slice_index_or least r None ≡ least_kept rows r
