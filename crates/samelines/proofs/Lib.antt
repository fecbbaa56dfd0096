pub mod Tasks
pub mod Calls
pub mod Replaced
pub mod Charges
pub mod Apart
