pub mod Admissions
pub mod Dispatchers
pub mod Ticks
