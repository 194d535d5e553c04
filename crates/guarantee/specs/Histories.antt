-- What an onlooker can tell of a life from the calls and their answers alone: the clock, the requests, and the schedule.
use Rattle.std.specs.Prelude.{ℕ, zero, suc, ◌+◌, true, false, cond, Some, None, ◌==◌}
use Rattle.feasibility.specs.Schedules.{Requests, Job, Schedule}

pub record History : Type 0 where
  pub clock : ℕ
  pub asks : Requests
  pub plan : Schedule

-- Nothing has happened.
abbrev pub unwritten : History
unwritten = record { clock = 0; asks = λ _ _. false; plan = λ _. None }

-- The last time up to t at which the row at place j is requested, 0 if there is none.
abbrev pub last_request : Requests → ℕ → ℕ → ℕ
last_request asks j zero = 0
last_request asks j (suc t) = cond (asks j (suc t)) (suc t) (last_request asks j t)

-- The last job of the row at place j that is requested no later than the clock.
abbrev pub last_job : History → ℕ → Job
last_job h j = record { of = j; at = last_request h.asks j h.clock }

-- The row at place i is requested at the clock.
abbrev pub asked : ℕ → History → History
asked i h = record {
  clock = h.clock;
  asks = λ j a. cond (j == i) (cond (a == h.clock) true (h.asks j a)) (h.asks j a);
  plan = h.plan;
}

-- A tick is over, given to the last job of the row at place i.
abbrev pub worked : ℕ → History → History
worked i h = record {
  clock = h.clock + 1;
  asks = h.asks;
  plan = λ t. cond (t == h.clock) (Some (last_job h i)) (h.plan t);
}

-- A tick is over, given to none.
abbrev pub idled : History → History
idled h = record { clock = h.clock + 1; asks = h.asks; plan = h.plan }
