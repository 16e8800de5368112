-- Words of contracts, between the code and the definitions.
pub mod Feeding
pub mod Gathering
pub mod Gives
