-- The first of entries in any order is the first by row.
use Rattle.std.proofs.Common.{◌≡◌, ℕ, ◌≤◌, false, List, Some, None, Option, sym, ◌∙◌, arith}
use Rattle.queue.specs.Heaps as heaps
use Rattle.ready.proofs.ByRows.{filled_by_row, row_of}
use Rattle.ready.proofs.RowReads.{read, found, read_inside, inside}
use Rattle.ready.specs.ByRow.{RowsOnce, by_row}
use Rattle.ready.specs.Entries.{entry, outside, IsFirst}
use Rattle.ready.specs.Order.{before}
use Rattle.ready.specs.declared.entry.Entry.{Entry}
use Rattle.std.proofs.ByRecursion.{all-has}
use Rattle.std.proofs.lemmas.Bool.Decides.{nat_tests}

within : (row : ℕ) → 1 ≤ row → row ≤ 32 → outside row ≡ false
within row l h = grind (arith, nat_tests)

pub is_first :
    (es : List Entry) (r : Option Entry) → RowsOnce es → heaps.Heaped before es → heaps.IsFirst before es r →
    IsFirst (by_row es) r
is_first es None once heaped f = filled_by_row es once ∙ f
is_first es (Some e) once heaped f =
    let at = read es e once f.held in
    let low = read_inside es e.row _ once at in
    record {
      low = (inside e.row low).0;
      high = (inside e.row low).1;
      is = row_of es e.row low ∙ at;
      least =
          λ row x l h is. all-has (λ y. before y e ≡ false) es (entry row x) (f.least heaped)
          (found es row x (sym (row_of es row (within row l h)) ∙ is));
    }
