-- Words of contracts, between the code and the definitions.
pub mod Adding
pub mod Places
