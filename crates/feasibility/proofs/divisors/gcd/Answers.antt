use Rattle.std.proofs.Common.{◌<◌, sym, refl, ◌∙◌, arith}
use Rattle.feasibility.proofs.Euclid.{divides_more, cancels_more}
use Rattle.feasibility.proofs.divisors.gcd.Goals as goal
use native.Mathlib.Nat.{mod_self, mul-mod_right}

pub loop-rest-preserved : goal.loop-rest-preserved
loop-rest-preserved c =
    let pos : 0 < c.loop-rest.rest = omega arith in
    let is = c.loop-rest.invariant.1 in (
      pos,
      refl,
      λ g b rest. c.loop-rest.invariant.2 g (divides_more g c.loop-rest.a c.loop-rest.b c.loop-rest.rest is b rest) b,
      λ g below. c.loop-rest.invariant.3 g (cancels_more c.loop-rest.a c.loop-rest.b c.loop-rest.rest g is pos below),
    )

pub returns : goal.returns
returns c =
    let b = c.loop-rest.b in
    let both = c.loop-rest.invariant.2 b (sym c.loop-rest.invariant.1 ∙ c.loop-rest-test.false) (mod_self b) in
    record {
      positive = c.loop-rest.invariant.0;
      first = both.0;
      second = both.1;
      greatest = c.loop-rest.invariant.3 b (λ s _. mul-mod_right b s);
    }
