pub mod Files
pub mod Statements
