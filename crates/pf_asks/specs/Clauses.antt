-- Words of contracts, between the code and the definitions.
pub mod Causes
pub mod Held
pub mod Led
pub mod Memory
pub mod MemoryLinks
