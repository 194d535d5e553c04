-- Faults of a line, and how a fault is told.
use Rattle.std.specs.Prelude.{ℕ}
use Rattle.feasibility.specs.Refusals.{refusal_number}
use Rattle.session.specs.declared.fault.Fault.{Fault}
use Rattle.session.specs.declared.fault.Fault.TheVariants.{TooLong, InLine}
use Rattle.session.specs.declared.fault.LineFault.{LineFault}
use Rattle.session.specs.declared.fault.LineFault.TheVariants.{Shape, Field, Row, Limit}

-- The number by which a fault of a line is told, and the number of its cause, 0 for none.
abbrev pub fault_number : LineFault → ℕ
fault_number Shape = 24
fault_number (Field e) = 23
fault_number (Row e) = 25
fault_number Limit = 26

abbrev pub fault_cause : LineFault → ℕ
fault_cause Shape = 0
fault_cause (Field e) = 0
fault_cause (Row e) = refusal_number e
fault_cause Limit = 0

-- How the fault of a file is told: its number, its line (0 for the file as a whole), its cause (0 for none).
pub record ToldFault : Type 0 where
  pub number : ℕ
  pub line : ℕ
  pub cause : ℕ

abbrev pub told_fault : Fault → ToldFault
told_fault TooLong = record { number = 22; line = 0; cause = 0 }
told_fault (InLine p) = record { number = fault_number p.fault; line = p.line; cause = fault_cause p.fault }
