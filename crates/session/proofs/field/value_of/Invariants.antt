use Rattle.std.proofs.Common.{◌≡◌, ◌^◌, ◌<◌, drop}
use Rattle.session.proofs.field.value_of.Given as goal
use Rattle.session.specs.Numbers.{all_digits, value_after}

-- the bytes so far are digits, and with those that are left they give the value
abbrev pub invariant-loop-byte : goal.invariant-loop-byte
invariant-loop-byte l =
    (l.value < 10 ^ l.byte-index) ×
    (value_after l.value (drop l.byte-index l.bytes) ≡ value_after 0 l.bytes) ×
    (all_digits (drop l.byte-index l.bytes) ≡ all_digits l.bytes)
