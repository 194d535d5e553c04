-- What a tick leaves of the job that it is given to.
use Rattle.std.proofs.lemmas.Option.{none-some}
use Rattle.std.proofs.Common.{◌≡◌, ℕ, ◌+◌, ◌-◌, ◌<◌, ◌≤◌, min, true, false, leb, ◌≢◌, ◌⊎◌, List, Some, None, Option, sym, ◌∙◌, inl, inr, arith}
use Rattle.feasibility.specs.Tables.{least_period}
use Rattle.feasibility.specs.declared.row.Row.{Row}
use Rattle.guarantee.proofs.Views.{Task, marked, after}
use Rattle.std.proofs.lemmas.Bool.{cases_Bool, cond-false, cond-true, leb-false, leb-true}
use Rattle.std.proofs.lemmas.Bool.Decides.{nat_tests}

-- nothing is a job
pub some_same : {A : Type 0} {x y : A} → ◌≡◌ {A = Option A} (Some x) (Some y) → x ≡ y
some_same q = cc

-- a deadline stays, or a job that uses a store begins and is ranked by the least period of the store's users, if that
-- is earlier
pub marked_cases :
    (rows : List Row) (x : Row) (clock : ℕ) (b : Task) →
    (marked rows x clock b ≡ b.deadline) ⊎
    ((b.begun ≡ false) × (x.store ≢ 0) ×
    (marked rows x clock b ≡ min b.deadline (clock + 1 + least_period rows x.store)))
marked_cases rows x clock b = grind (arith, nat_tests)

-- no deadline is put off
pub marked_le : (rows : List Row) (x : Row) (clock : ℕ) (b : Task) → marked rows x clock b ≤ b.deadline
marked_le rows x clock b = grind (arith, nat_tests)

-- the deadline of a begun job that uses a store is within that period
pub marked_held :
    (rows : List Row) (x : Row) (clock : ℕ) (b : Task) → x.store ≢ 0 →
    (b.begun ≡ true → b.deadline ≤ clock + least_period rows x.store) →
    marked rows x clock b ≤ clock + 1 + least_period rows x.store
marked_held rows x clock b stored held = grind (arith, nat_tests)

-- what is left of a job, if anything is
abbrev pub rest : List Row → Row → ℕ → Task → Task
rest rows x clock b =
    record { deadline = marked rows x clock b; due_at = b.due_at; left = b.left - 1; begun = true }

-- nothing is left of a job that lacked one unit
after_cases :
    (rows : List Row) (x : Row) (clock : ℕ) (b : Task) →
    ((b.left ≤ 1) × (after rows x clock b ≡ None)) ⊎
    ((1 < b.left) × (after rows x clock b ≡ Some (rest rows x clock b)))
after_cases rows x clock b = at (cases_Bool (leb b.left 1))
  where
    at :
        (leb b.left 1 ≡ true) ⊎ (leb b.left 1 ≡ false) →
        ((b.left ≤ 1) × (after rows x clock b ≡ None)) ⊎
        ((1 < b.left) × (after rows x clock b ≡ Some (rest rows x clock b)))
    at (inl t) = inl (leb-true b.left 1 t, cond-true (leb b.left 1) None (Some (rest rows x clock b)) t)
    at (inr f) = inr (leb-false b.left 1 f, cond-false (leb b.left 1) None (Some (rest rows x clock b)) f)

pub after_some :
    (rows : List Row) (x : Row) (clock : ℕ) (b a : Task) → after rows x clock b ≡ Some a →
    (1 < b.left) × (rest rows x clock b ≡ a)
after_some rows x clock b a e = at (after_cases rows x clock b)
  where
    at :
        ((b.left ≤ 1) × (after rows x clock b ≡ None)) ⊎
        ((1 < b.left) × (after rows x clock b ≡ Some (rest rows x clock b))) →
        (1 < b.left) × (rest rows x clock b ≡ a)
    at (inl last) = absurd (none-some a (sym last.1 ∙ e))
    at (inr more) = (more.0, some_same (sym more.1 ∙ e))

pub after_none : (rows : List Row) (x : Row) (clock : ℕ) (b : Task) → after rows x clock b ≡ None → b.left ≤ 1
after_none rows x clock b e = at (after_cases rows x clock b)
  where
    at :
        ((b.left ≤ 1) × (after rows x clock b ≡ None)) ⊎
        ((1 < b.left) × (after rows x clock b ≡ Some (rest rows x clock b))) → b.left ≤ 1
    at (inl last) = last.0
    at (inr more) = absurd (none-some (rest rows x clock b) (sym e ∙ more.1))
