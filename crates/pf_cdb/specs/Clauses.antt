-- Words of contracts, between the code and the definitions.
pub mod Adding
pub mod Gathered
pub mod Listed
pub mod Readable
pub mod Searching
