use Rattle.session.proofs.Digits.{nine, room}
use Rattle.session.proofs.field.value_of.Goals as goal
use Rattle.std.proofs.lemmas.Bool.Decides.{nat_tests}
use Rattle.std.proofs.lemmas.List.{drop_all}
use Rattle.std.proofs.Common.{arith}

pub overflow_mul-value : goal.overflow_mul-value
overflow_mul-value c = omega (arith, room c.loop-byte.value c.loop-byte.byte-index c.loop-byte.invariant.0 (omega arith))

pub overflow_add-value : goal.overflow_add-value
overflow_add-value c =
    omega (
      arith,
      c.in-Some.ensures.value,
      room c.loop-byte.value c.loop-byte.byte-index c.loop-byte.invariant.0 (omega arith),
    )

pub returns : goal.returns
returns c =
    let l = c.loop-byte in
    let none = drop_all l.byte-index c.args.bytes.now c.loop-byte-test.false in
    (grind (arith, nat_tests), nine l.value l.byte-index l.invariant.0 (omega arith))
