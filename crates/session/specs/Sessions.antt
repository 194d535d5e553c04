-- What a session file means: a session, or the fault that comes first.
use Rattle.std.specs.Prelude.{ℕ, ◌+◌, ◌<◌, ◌≤◌, ◌≢◌, List, [], ◌∷◌, length, codes}
use Rattle.feasibility.specs.declared.row.Row.{Row}
use Rattle.session.specs.Limits.{max_bytes, max_ticks, max_arrivals}
use Rattle.session.specs.LineKinds.{LineOf, WrongLine}
use Rattle.session.specs.Sections.{
  LimitedHeading,
  WrongHeading,
  RowsRead,
  RowFault,
  ArrivalsRead,
  ArrivalFault,
}
use Rattle.session.specs.declared.arrival.Arrival.{Arrival}
use Rattle.session.specs.declared.fault.Fault.{Fault}
use Rattle.session.specs.declared.fault.Fault.TheVariants.{TooLong, InLine}
use Rattle.session.specs.declared.fault.LineFault.{LineFault}
use Rattle.session.specs.declared.fault.LineFault.TheVariants.{Shape}

-- A file begins with the word rows and a number n, and then so many rows; rest is what follows them.
pub record BeginsWithRows (bs : List ℕ) (rows : List Row) (rest : List ℕ) : Type 0 where
  pub after : List ℕ
  pub heading : LineOf (codes "rows" ∷ []) bs (length rows ∷ []) after
  pub read : RowsRead after rows rest

-- Then come the word ticks and their number.
pub record BeginsWithTicks (bs : List ℕ) (rows : List Row) (ticks : ℕ) (rest : List ℕ) : Type 0 where
  pub after : List ℕ
  pub begins : BeginsWithRows bs rows after
  pub heading : LimitedHeading (codes "ticks") max_ticks after ticks rest

-- Then the word arrivals and their number m.
pub record BeginsWithArrivals (bs : List ℕ) (rows : List Row) (ticks m : ℕ) (rest : List ℕ) : Type 0 where
  pub after : List ℕ
  pub begins : BeginsWithTicks bs rows ticks after
  pub heading : LimitedHeading (codes "arrivals") max_arrivals after m rest

-- Then so many arrivals, and nothing follows.
pub record IsSession (bs : List ℕ) (rows : List Row) (ticks : ℕ) (arrivals : List Arrival) : Type 0 where
  pub short : length bs ≤ max_bytes
  pub after : List ℕ
  pub begins : BeginsWithArrivals bs rows ticks (length arrivals) after
  pub read : ArrivalsRead (length rows) after arrivals []

-- The first line that is not as it should be, by section, with its fault and its number. A file has as many lines before
-- the ticks as it has rows, and one.
pub data FirstWrong (bs : List ℕ) : LineFault → ℕ → Type 0 where
  heading : {e : LineFault} → WrongLine (codes "rows" ∷ []) 1 bs e → FirstWrong bs e 1
  row :
      {e : LineFault} {line n : ℕ} {after : List ℕ} → LineOf (codes "rows" ∷ []) bs (n ∷ []) after →
      RowFault n after e line → FirstWrong bs e line
  ticks :
      {e : LineFault} {rows : List Row} {rest : List ℕ} → BeginsWithRows bs rows rest →
      WrongHeading (codes "ticks") max_ticks rest e → FirstWrong bs e (length rows + 2)
  arrivals :
      {e : LineFault} {rows : List Row} {ticks : ℕ} {rest : List ℕ} → BeginsWithTicks bs rows ticks rest →
      WrongHeading (codes "arrivals") max_arrivals rest e → FirstWrong bs e (length rows + 3)
  arrival :
      {e : LineFault} {line : ℕ} {rows : List Row} {ticks m : ℕ} {rest : List ℕ} →
      BeginsWithArrivals bs rows ticks m rest → ArrivalFault (length rows) m (length rows + 4) rest e line →
      FirstWrong bs e line
  more :
      {rows : List Row} {ticks : ℕ} {arrivals : List Arrival} {after rest : List ℕ} →
      BeginsWithArrivals bs rows ticks (length arrivals) after → ArrivalsRead (length rows) after arrivals rest →
      rest ≢ [] → FirstWrong bs Shape (length rows + length arrivals + 4)

-- The fault of a file that is no session: its length is tested first.
abbrev pub IsFault : List ℕ → Fault → Type 0
IsFault bs TooLong = max_bytes < length bs
IsFault bs (InLine p) = (length bs ≤ max_bytes) × FirstWrong bs p.fault p.line
