pub mod Clauses
pub mod Heard
pub mod Looking
pub mod Questions
pub mod Resolving
pub mod Tries
pub mod Wire
