pub mod Tasks
pub mod Parts
pub mod Contained
pub mod Joining
pub mod Places
