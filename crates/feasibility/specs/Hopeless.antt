-- A refused table is hopeless: under requests that the verdict names, every schedule is late.
use Rattle.std.specs.Prelude.{ℕ, ◌-◌, ◌%◌, false, cond, List, MatchBool, ◌==◌}
use Rattle.feasibility.specs.Cases.{case_d, case_f}
use Rattle.feasibility.specs.Schedules.{Requests, Schedule, Lawful, Serves, Busy, Unshared, LateBy}
use Rattle.feasibility.specs.Tables.{row_at, Sound}
use Rattle.feasibility.specs.Told.{Told, told}
use Rattle.feasibility.specs.Verdicts.{Judged}
use Rattle.feasibility.specs.declared.row.Row.{Row}
use Rattle.feasibility.specs.declared.verdict.Verdict.{Verdict}

-- Every row is requested from 0 on at each of its periods.
abbrev pub all_at_once : List Row → Requests
all_at_once rows j a = a % (row_at rows j).period == 0

-- Row i is requested at 0, and every other row from 1 on at each of its periods.
abbrev pub one_before : List Row → ℕ → Requests
one_before rows i j a = cond (j == i) (a == 0) (cond (a == 0) false ((a - 1) % (row_at rows j).period == 0))

-- All rows at once: every schedule is late at a due time up to h.
pub record OverloadIsHopeless (rows : List Row) (h : ℕ) : Type 0 where
  pub lawful : Lawful rows (all_at_once rows)
  pub late : (s : Schedule) → Serves rows (all_at_once rows) s h → LateBy rows (all_at_once rows) s h

-- Row i just before all others: every busy schedule that shares no store is late at a due time up to l.
pub record BlockingIsHopeless (rows : List Row) (i l : ℕ) : Type 0 where
  pub lawful : Lawful rows (one_before rows i)
  pub late :
      (s : Schedule) → Serves rows (one_before rows i) s l → Busy rows (one_before rows i) s l → Unshared rows s l →
      LateBy rows (one_before rows i) s l

-- What a refusal is worth, by its number and the values that are told with it.
abbrev pub Deserved : List Row → Told → Type 0
Deserved rows t =
    MatchBool (t.number == 6) (OverloadIsHopeless rows t.first)
    (MatchBool (t.number == 7) (BlockingIsHopeless rows (t.first - 1) t.second) (Unit {0}))

abbrev pub RefusalsAreDeserved : Type 0
RefusalsAreDeserved =
    (rows : List Row) (h : ℕ) (v : Verdict) → Sound rows → Judged rows h (told v) → Deserved rows (told v)

-- There is a busy schedule that shares no store before l, so what is said of each of them is not said of none.
pub record Possible (rows : List Row) (asks : Requests) (l : ℕ) : Type 0 where
  pub schedule : Schedule
  pub serves : Serves rows asks schedule l
  pub busy : Busy rows asks schedule l
  pub unshared : Unshared rows schedule l

abbrev pub SchedulesExist : Type 0
SchedulesExist =
    Possible case_d.rows (all_at_once case_d.rows) 6 × Possible case_f.rows (one_before case_f.rows 1) 3
