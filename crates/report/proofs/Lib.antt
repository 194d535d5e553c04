pub mod Numbers
pub mod Short
