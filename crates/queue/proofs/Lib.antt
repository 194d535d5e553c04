pub mod Additions
pub mod Fronts
pub mod Laws
pub mod Lifts
pub mod Places
pub mod Removals
pub mod Sinks
pub mod Tops
