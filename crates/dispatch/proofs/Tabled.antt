-- What a sealed table keeps.
use Rattle.std.proofs.Common.{arith}
use Rattle.dispatch.specs.Dispatchers.{table_rows}
use Rattle.feasibility.specs.declared.table.Table.{Table}
use Rattle.guarantee.specs.Rules.{Proper, Take}

pub proper : (t : Table) → Proper (Take (table_rows t))
proper t = (omega (arith, t.rows.few, t.rows.counted), t.rows.sound)
