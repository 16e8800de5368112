pub mod Clauses
pub mod First
pub mod Inline
pub mod Line
pub mod Pairs
pub mod Tables
pub mod Text
