pub mod Clauses
pub mod Expansion
pub mod Forms
pub mod Names
