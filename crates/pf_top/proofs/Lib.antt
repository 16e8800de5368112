mod Rows
pub mod RunLemmas
pub mod StatusLemmas
pub mod SessionLoopLemmas
