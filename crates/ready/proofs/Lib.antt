pub mod ByRows
pub mod Counts
pub mod Firsts
pub mod RowCells
pub mod RowFirsts
pub mod RowReads
