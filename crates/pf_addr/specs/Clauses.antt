-- Words of contracts, between the code and the definitions.
pub mod Quoted
pub mod Reading
