-- Words of contracts, between the code and the definitions.
pub mod Asking
pub mod Lists
