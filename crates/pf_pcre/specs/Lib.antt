pub mod Clauses
pub mod Patterns
pub mod Pieces
pub mod Shape
pub mod Switches
pub mod Tables
