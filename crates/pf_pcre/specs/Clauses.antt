-- Words of contracts, between the code and the definitions.
pub mod Built
pub mod Reading
pub mod Runs
pub mod Shown
pub mod Sights
pub mod Sizes
pub mod Steps
pub mod Taking
