pub mod BrokenLaws
pub mod CountLaws
pub mod HeldLaws
pub mod LedLaws
pub mod LinkLemmas
pub mod MemoryLemmas
pub mod Rows
