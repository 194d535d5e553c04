-- All that holds of a life between two ticks holds at its start, and each step keeps it.
use Rattle.std.proofs.Common.{ℕ, List, refl}
use Rattle.feasibility.specs.Tables.{Sound}
use Rattle.feasibility.specs.declared.row.Row.{Row}
use Rattle.guarantee.proofs.HistorySteps.{units_old}
use Rattle.guarantee.proofs.Links.{started_linked, released_linked, idled_linked, worked_linked}
use Rattle.guarantee.proofs.Orders.{
  started_orderly,
  released_orderly,
  idled_orderly,
  worked_orderly,
  started_in_time,
  released_in_time,
  ticked_in_time,
}
use Rattle.guarantee.proofs.Slacks.{started_slack, released_slack, idled_slack, worked_slack}
use Rattle.guarantee.proofs.Tendings.{
  started_tended,
  released_tended,
  idled_tended,
  worked_tended,
  started_exclusive,
  released_exclusive,
  idled_exclusive,
  worked_exclusive,
}
use Rattle.guarantee.proofs.Views.{Task, View, Slack, AllTended, Linked, Invariant, Started, Released, Idled, Worked}
use Rattle.guarantee.specs.Histories.{History, unwritten, asked, idled, worked}
use Rattle.guarantee.specs.Promises.{IsJudgedFit}

pub started : (rows : List Row) (v : View) → Sound rows → Started rows v → Invariant rows unwritten v
started rows v sound r =
    record {
      tended = started_tended rows v r;
      exclusive = started_exclusive rows v r;
      linked = started_linked rows v r;
      orderly = started_orderly rows;
      slack = started_slack rows v sound r;
      in_time = λ _. started_in_time rows;
    }

pub released :
    (rows : List Row) (i : ℕ) (h : History) (v v' : View) → Sound rows → Released rows i v v' → Invariant rows h v →
    Invariant rows (asked i h) v'
released rows i h v v' sound r holds =
    record {
      tended = released_tended rows i v v' sound r holds.tended;
      exclusive = released_exclusive rows i v v' sound holds.tended r holds.exclusive;
      linked = linked;
      orderly = released_orderly rows i h v v' r holds.linked linked holds.orderly;
      slack = λ fit. released_slack rows i v v' sound r (holds.slack fit);
      in_time = λ fit. released_in_time rows i h sound (holds.in_time fit);
    }
  where
    linked : Linked rows (asked i h) v'
    linked = released_linked rows i h v v' sound r holds.linked

pub idled_on :
    (rows : List Row) (h : History) (v v' : View) → Sound rows → Idled rows v v' → Invariant rows h v →
    Invariant rows (idled h) v'
idled_on rows h v v' sound r holds =
    record {
      tended = tended;
      exclusive = idled_exclusive rows v v' r;
      linked = linked;
      orderly = idled_orderly rows h v v' r holds.linked linked holds.orderly;
      slack = idled_slack rows v v' sound r;
      in_time =
          λ fit. ticked_in_time rows h h.plan v' (λ _ _ _. refl) linked tended (idled_slack rows v v' sound r fit)
          (holds.in_time fit);
    }
  where
    tended : AllTended rows v'
    tended = idled_tended rows v v' r

    linked : Linked rows (idled h) v'
    linked = idled_linked rows h v v' r holds.linked

pub worked_on :
    (rows : List Row) (i : ℕ) (b : Task) (h : History) (v v' : View) → Sound rows → Worked rows i b v v' →
    Invariant rows h v → Invariant rows (worked i h) v'
worked_on rows i b h v v' sound w holds =
    record {
      tended = tended;
      exclusive = worked_exclusive rows i b v v' w holds.exclusive;
      linked = linked;
      orderly =
          worked_orderly rows i b h v v' w holds.tended holds.exclusive holds.linked linked holds.orderly;
      slack = slack;
      in_time =
          λ fit. ticked_in_time rows h (worked i h).plan v' (units_old i h) linked tended (slack fit)
          (holds.in_time fit);
    }
  where
    tended : AllTended rows v'
    tended = worked_tended rows i b v v' w holds.tended

    linked : Linked rows (worked i h) v'
    linked = worked_linked rows i b h v v' holds.tended w holds.linked

    slack : IsJudgedFit rows → Slack rows v'
    slack fit = worked_slack rows i b v v' sound holds.tended w fit (holds.slack fit)
