pub mod Cdb
pub mod Clauses
pub mod Listing
pub mod Meanings
pub mod Opening
pub mod Specification
