pub mod PieceLemmas
pub mod PrintingLemmas
pub mod Rows
pub mod StepLemmas
pub mod TookLemmas
