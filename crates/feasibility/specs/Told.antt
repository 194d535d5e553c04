-- How a verdict is told: by its number and the two values that go with it, 0 where it has none.
use Rattle.std.specs.Prelude.{ℕ}
use Rattle.feasibility.specs.declared.verdict.Verdict.{Verdict}
use Rattle.feasibility.specs.declared.verdict.Verdict.TheVariants.{Fit, Overloaded, Blocked}

pub record Told : Type 0 where
  pub number : ℕ
  pub first : ℕ
  pub second : ℕ

abbrev pub told : Verdict → Told
told Fit = record { number = 0; first = 0; second = 0 }
told (Overloaded hyperperiod load) = record { number = 6; first = hyperperiod; second = load }
told (Blocked row length) = record { number = 7; first = row; second = length }
