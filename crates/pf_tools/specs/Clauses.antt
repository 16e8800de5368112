-- Words of contracts, between the code and the definitions.
pub mod Keys
pub mod Opened
pub mod Ordering
pub mod Reports
pub mod Streaming
