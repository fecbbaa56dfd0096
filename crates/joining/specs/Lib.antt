pub mod Joining
pub mod Calls
pub mod Statements
