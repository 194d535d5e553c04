-- When a draft takes a row.
use Rattle.std.specs.Prelude.{◌≡◌, ℕ, ◌<◌, ◌≤◌, cond, ◌||◌, ◌≢◌, List, [], ◌∷◌, ◌++◌, length, ◌==◌, nat_le, nat_lt}
use Rattle.feasibility.specs.Limits.{max_hyperperiod, max_period, max_rows, max_store}
use Rattle.feasibility.specs.Tables.{Common, Hyperperiod}
use Rattle.feasibility.specs.declared.row.Row.{Row}

-- The number of the first limit of its own that a row breaks, in the order in which they are tested; 0 if it keeps all.
abbrev pub own_fault : Row → ℕ
own_fault x =
    cond (x.period == 0 || nat_lt max_period x.period) 2
    (cond (x.cost == 0 || nat_lt x.period x.cost) 1 (cond (nat_lt max_store x.store) 3 0))

-- The same of a row that comes to a table, whose room is tested first.
abbrev pub fault : List Row → Row → ℕ
fault rows x = cond (nat_le max_rows (length rows)) 4 (own_fault x)

-- Every positive number that all periods divide is above the limit of a hyperperiod.
abbrev pub IsTooLong : List Row → Type 0
IsTooLong rows = (m : ℕ) → 0 < m → Common rows m → max_hyperperiod < m

-- A row without fault is taken if the hyperperiod h with it stays within its limit; it then stands at the end.
pub record Taken (rows : List Row) (x : Row) (rows' : List Row) (h : ℕ) : Type 0 where
  pub faultless : fault rows x ≡ 0
  pub hyperperiod : Hyperperiod (rows ++ x ∷ []) h
  pub within : h ≤ max_hyperperiod
  pub after : rows' ≡ rows ++ x ∷ []

-- A row is refused with the number n of its fault or, without one, with 5 for a hyperperiod above its limit.
pub record Refused (rows : List Row) (x : Row) (n : ℕ) : Type 0 where
  pub faulty : fault rows x ≢ 0 → n ≡ fault rows x
  pub too_long : fault rows x ≡ 0 → (n ≡ 5) × IsTooLong (rows ++ x ∷ [])
