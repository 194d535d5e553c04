-- The limits of a session.
use Rattle.std.specs.Prelude.{ℕ}

abbrev pub max_bytes : ℕ
max_bytes = 16384

abbrev pub max_ticks : ℕ
max_ticks = 4096

abbrev pub max_arrivals : ℕ
max_arrivals = 256

abbrev pub max_time : ℕ
max_time = 4095

abbrev pub max_number : ℕ
max_number = 999999999
