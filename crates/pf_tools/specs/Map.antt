pub mod Built
pub mod Course
pub mod Keys
pub mod Lines
pub mod Run
pub mod Said
