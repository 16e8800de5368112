pub mod Clauses
pub mod Opening
pub mod Profile
pub mod Refusals
pub mod Run
pub mod Smtpd
pub mod SessionLoop
pub mod Values
