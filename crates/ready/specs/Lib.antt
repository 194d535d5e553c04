pub mod ByRow
pub mod Entries
pub mod Limits
pub mod Order
pub mod Places
pub mod Refusals
