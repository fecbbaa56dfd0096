pub mod Plans
pub mod Statements
