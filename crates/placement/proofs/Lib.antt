pub mod Optimal
pub mod Rows
