-- Lemmas, and worked rows.
mod AnswerLaws
mod Cases
mod DottedLaws
pub mod FirstLaws
mod HostLaws
pub mod NetLaws
mod PlaceLaws
mod PutLaws
mod ReadingLaws
pub mod ResultLaws
mod Rows
