pub mod Accepted
pub mod Classes
pub mod Clauses
pub mod Parameters
pub mod Settled
pub mod Sources
