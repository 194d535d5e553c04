-- The rows and the arrivals of a session file, line by line.
use Rattle.std.specs.Prelude.{◌≡◌, ℕ, ◌+◌, ◌<◌, ◌≤◌, Bool, true, false, ◌||◌, List, [], ◌∷◌, ◌++◌, length, ◌==◌, nat_lt}
use Rattle.feasibility.specs.Drafts.{Taken, Refused}
use Rattle.feasibility.specs.Refusals.{refusal_number}
use Rattle.feasibility.specs.declared.row.Row.{Row}
use Rattle.feasibility.specs.declared.row.RowRefusal.{RowRefusal}
use Rattle.session.specs.Limits.{max_time}
use Rattle.session.specs.LineKinds.{LineOf, WrongLine}
use Rattle.session.specs.declared.arrival.Arrival.{Arrival}
use Rattle.session.specs.declared.fault.LineFault.{LineFault}
use Rattle.session.specs.declared.fault.LineFault.TheVariants.{Shape, Field, Row as InRow, Limit}

abbrev pub row_of : ℕ → ℕ → ℕ → Row
row_of c p r = record { cost = c; period = p; store = r }

-- The first line of bs is a row that the table of these rows takes, which gives it the rows rows'.
pub record RowLine (rows : List Row) (bs : List ℕ) (rows' : List Row) (rest : List ℕ) : Type 0 where
  pub cost : ℕ
  pub period : ℕ
  pub store : ℕ
  pub hyperperiod : ℕ
  pub line : LineOf [] bs (cost ∷ period ∷ store ∷ []) rest
  pub taken : Taken rows (row_of cost period store) rows' hyperperiod

-- The first line of bs is three numbers, and the table refuses the row that they are for this cause.
pub record RefusedRow (rows : List Row) (bs : List ℕ) (e : RowRefusal) : Type 0 where
  pub cost : ℕ
  pub period : ℕ
  pub store : ℕ
  pub rest : List ℕ
  pub line : LineOf [] bs (cost ∷ period ∷ store ∷ []) rest
  pub refused : Refused rows (row_of cost period store) (refusal_number e)

-- The fault of a line where a row belongs.
abbrev pub WrongRow : List Row → List ℕ → LineFault → Type 0
WrongRow rows bs Shape = WrongLine [] 3 bs Shape
WrongRow rows bs (Field e) = WrongLine [] 3 bs (Field e)
WrongRow rows bs (InRow e) = RefusedRow rows bs e
WrongRow rows bs Limit = ⊥

-- The lines of bs up to rest are rows that the table takes one after another.
pub data RowsRead (bs : List ℕ) : List Row → List ℕ → Type 0 where
  none : RowsRead bs [] bs
  more :
      {rows rows' : List Row} {rest rest' : List ℕ} → RowsRead bs rows rest → RowLine rows rest rows' rest' →
      RowsRead bs rows' rest'

-- After some rows, fewer than n, comes a line that is no such row; the first row is in line 2.
pub record RowFault (n : ℕ) (bs : List ℕ) (e : LineFault) (line : ℕ) : Type 0 where
  pub rows : List Row
  pub rest : List ℕ
  pub read : RowsRead bs rows rest
  pub fewer : length rows < n
  pub wrong : WrongRow rows rest e
  pub line_is : line ≡ length rows + 2

-- The first line of bs is the word and a number of at most max.
pub record LimitedHeading (word : List ℕ) (max : ℕ) (bs : List ℕ) (n : ℕ) (rest : List ℕ) : Type 0 where
  pub line : LineOf (word ∷ []) bs (n ∷ []) rest
  pub within : n ≤ max

pub record PastLimit (word : List ℕ) (max : ℕ) (bs : List ℕ) : Type 0 where
  pub number : ℕ
  pub rest : List ℕ
  pub line : LineOf (word ∷ []) bs (number ∷ []) rest
  pub past : max < number

abbrev pub WrongHeading : List ℕ → ℕ → List ℕ → LineFault → Type 0
WrongHeading word max bs Shape = WrongLine (word ∷ []) 1 bs Shape
WrongHeading word max bs (Field e) = WrongLine (word ∷ []) 1 bs (Field e)
WrongHeading word max bs (InRow e) = ⊥
WrongHeading word max bs Limit = PastLimit word max bs

-- The first line of bs is an arrival: a time, and the number of a row of which there are so many.
abbrev pub outside : ℕ → ℕ → ℕ → Bool
outside rows time row = nat_lt max_time time || (row == 0 || nat_lt rows row)

pub record ArrivalLine (rows : ℕ) (bs : List ℕ) (time row : ℕ) (rest : List ℕ) : Type 0 where
  pub line : LineOf [] bs (time ∷ row ∷ []) rest
  pub inside : outside rows time row ≡ false

pub record PastArrival (rows : ℕ) (bs : List ℕ) : Type 0 where
  pub time : ℕ
  pub row : ℕ
  pub rest : List ℕ
  pub line : LineOf [] bs (time ∷ row ∷ []) rest
  pub past : outside rows time row ≡ true

abbrev pub WrongArrival : ℕ → List ℕ → LineFault → Type 0
WrongArrival rows bs Shape = WrongLine [] 2 bs Shape
WrongArrival rows bs (Field e) = WrongLine [] 2 bs (Field e)
WrongArrival rows bs (InRow e) = ⊥
WrongArrival rows bs Limit = PastArrival rows bs

-- The lines of bs up to rest are arrivals at a table of so many rows.
abbrev pub arrival_of : ℕ → ℕ → Arrival
arrival_of time row = record { time = time; row = row }

pub data ArrivalsRead (rows : ℕ) (bs : List ℕ) : List Arrival → List ℕ → Type 0 where
  none_yet : ArrivalsRead rows bs [] bs
  one_more :
      {arrivals : List Arrival} {rest rest' : List ℕ} (time row : ℕ) → ArrivalsRead rows bs arrivals rest →
      ArrivalLine rows rest time row rest' → ArrivalsRead rows bs (arrivals ++ arrival_of time row ∷ []) rest'

-- After some arrivals, fewer than n, comes a line that is none; the first arrival is in line `from`.
pub record ArrivalFault (rows n from : ℕ) (bs : List ℕ) (e : LineFault) (line : ℕ) : Type 0 where
  pub arrivals : List Arrival
  pub rest : List ℕ
  pub read : ArrivalsRead rows bs arrivals rest
  pub fewer : length arrivals < n
  pub wrong : WrongArrival rows rest e
  pub line_is : line ≡ from + length arrivals
