-- Words of contracts, between the code and the definitions.
pub mod Keeping
pub mod Lines
pub mod Memory
pub mod Reading
