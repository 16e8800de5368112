pub mod Clauses
pub mod Grammar
pub mod Printed
pub mod Spelled
