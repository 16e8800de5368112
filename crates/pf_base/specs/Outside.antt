-- The objects outside a run.
pub mod Counts
pub mod FileList
pub mod Objects
pub mod Statuses
pub mod Known
