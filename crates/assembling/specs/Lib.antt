pub mod Words
pub mod Drafts
pub mod Steps
pub mod Limits
pub mod Calls
pub mod Statements
