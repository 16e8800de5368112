pub mod Clauses
pub mod Meanings
pub mod Options
pub mod Outside
pub mod Refusal
pub mod Results
pub mod TableTexts
pub mod Text
