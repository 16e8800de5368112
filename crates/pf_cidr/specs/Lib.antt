pub mod Addresses
pub mod Clauses
pub mod Nets
pub mod Tables
