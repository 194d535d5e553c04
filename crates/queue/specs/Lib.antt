pub mod Contents
pub mod Heaps
pub mod Refusals
pub mod Sifts
