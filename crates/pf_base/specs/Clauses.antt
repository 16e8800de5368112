-- Words of contracts, between the code and the definitions.
pub mod Faults
pub mod FileParts
pub mod Prefixes
pub mod Gathering
pub mod Meant
pub mod Memory
pub mod Pieces
pub mod Unless
