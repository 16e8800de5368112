-- Words of contracts, between the code and the definitions.
pub mod Editing
pub mod Faults
pub mod Places
