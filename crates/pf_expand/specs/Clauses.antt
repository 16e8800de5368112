-- Words of contracts, between the code and the definitions.
pub mod FormsMeant
pub mod Levels
pub mod Meanings
pub mod Parting
pub mod Runs
pub mod RunsMeant
pub mod Sizes
pub mod Tokens
