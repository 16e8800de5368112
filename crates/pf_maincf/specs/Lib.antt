pub mod Clauses
pub mod Edit
pub mod File
pub mod Settings
