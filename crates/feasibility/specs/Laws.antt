-- Laws above the definitions, over every table.
use Rattle.std.specs.Prelude.{◌≡◌, ℕ, List}
use Rattle.feasibility.specs.Told.{told}
use Rattle.feasibility.specs.Verdicts.{Judged}
use Rattle.feasibility.specs.declared.row.Row.{Row}
use Rattle.feasibility.specs.declared.verdict.Verdict.{Verdict}

-- Of any rows, with any number h in the place of the hyperperiod, exactly one verdict is right.
abbrev pub OneVerdict : Type 0
OneVerdict =
    (rows : List Row) (h : ℕ) →
    (v : Verdict) × Judged rows h (told v) × ((w : Verdict) → Judged rows h (told w) → w ≡ v)
