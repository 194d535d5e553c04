use Rattle.ready.proofs.flat.FlatListReadyList.count.Goals as goal
use Rattle.std.proofs.Common.{rules, arith, ◌^◌, ◌≤◌, length}
use Rattle.std.proofs.lemmas.Iterator.Adapters.{fits_from_length, at_most_from_yields_List}
use Rattle.std.proofs.lemmas.Iterator.{YieldsList-from_slice}

-- 32 places, each with one entry at most
pub sum-requires-clause-fits : goal.sum-requires-clause-fits
sum-requires-clause-fits c =
    let few : length c.args.self.now.slots ≤ 32 = omega (arith, c.args.self.now.long) in
    fits_from_length _ _ 32 (2 ^ 64) (at_most_from_yields_List (YieldsList-from_slice c.args.self.now.slots cc) few)
    c.map.ensures.closure (omega arith) (λ x r q k. search rules)
