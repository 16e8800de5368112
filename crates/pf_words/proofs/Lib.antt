pub mod FoundLemmas
pub mod Rows
pub mod SimpleCommands
