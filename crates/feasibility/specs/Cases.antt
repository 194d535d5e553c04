-- Tables whose verdicts are worked out by hand.
use Rattle.std.specs.Prelude.{◌≡◌, ℕ, ◌≤◌, List, [], ◌∷◌, length}
use Rattle.feasibility.specs.Limits.{max_rows}
use Rattle.feasibility.specs.Tables.{Sound, Hyperperiod, load_of}
use Rattle.feasibility.specs.Told.{told}
use Rattle.feasibility.specs.Verdicts.{Judged}
use Rattle.feasibility.specs.declared.row.Row.{Row}
use Rattle.feasibility.specs.declared.verdict.Verdict.{Verdict}
use Rattle.feasibility.specs.declared.verdict.Verdict.TheVariants.{Fit, Overloaded, Blocked}
use Rattle.std.specs.List.{AllByRecursion}

pub record Case : Type 0 where
  pub rows : List Row
  pub hyperperiod : ℕ
  pub load : ℕ
  pub verdict : Verdict

abbrev row : ℕ → ℕ → ℕ → Row
row c p r = record { cost = c; period = p; store = r }

abbrev case : List Row → ℕ → ℕ → Verdict → Case
case rows h l v = record { rows = rows; hyperperiod = h; load = l; verdict = v }

abbrev pub case_d : Case
case_d = case (row 1 2 0 ∷ row 1 3 0 ∷ row 1 6 0 ∷ row 1 6 0 ∷ []) 6 7 (Overloaded 6 7)

abbrev pub case_f : Case
case_f = case (row 1 2 1 ∷ row 3 6 1 ∷ []) 6 6 (Blocked 2 3)

-- A to I, in this order.
abbrev pub cases : List Case
cases =
    case [] 1 0 Fit
    ∷ case (row 1 1 1 ∷ []) 1 1 Fit
    ∷ case (row 1 2 0 ∷ row 1 3 0 ∷ row 1 6 0 ∷ []) 6 6 Fit
    ∷ case_d
    ∷ case (row 1 2 1 ∷ row 2 4 1 ∷ []) 4 4 Fit
    ∷ case_f
    ∷ case (row 1 2 1 ∷ row 2 6 1 ∷ []) 6 5 Fit
    ∷ case (row 1 4 0 ∷ row 1 5 1 ∷ row 1 6 1 ∷ row 5 25 2 ∷ row 5 28 2 ∷ []) 2100 2090 Fit
    ∷ case (row 1 4 0 ∷ row 1 5 1 ∷ row 1 6 1 ∷ row 5 25 1 ∷ row 5 28 1 ∷ []) 2100 2090 (Blocked 4 6)
    ∷ []

-- What the definitions say of a case.
pub record Stands (c : Case) : Type 0 where
  pub room : length c.rows ≤ max_rows
  pub sound : Sound c.rows
  pub hyperperiod_is : Hyperperiod c.rows c.hyperperiod
  pub load_is : load_of c.rows c.hyperperiod ≡ c.load
  pub judged : Judged c.rows c.hyperperiod (told c.verdict)

abbrev pub CasesStand : Type 0
CasesStand = AllByRecursion Stands cases

-- The table of the example session.
abbrev pub case_j : Case
case_j = case (row 1 4 0 ∷ row 2 6 1 ∷ row 2 12 1 ∷ []) 12 9 Fit

abbrev pub ExampleStands : Type 0
ExampleStands = Stands case_j
