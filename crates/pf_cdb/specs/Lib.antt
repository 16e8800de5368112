pub mod Asked
pub mod Clauses
pub mod Damaged
pub mod Hash
pub mod Held
pub mod Layout
pub mod Sound
pub mod Written
