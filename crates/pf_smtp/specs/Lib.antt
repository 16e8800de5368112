pub mod Clauses
pub mod Command
pub mod Session
pub mod Step
pub mod Text
