pub mod Text
pub mod Output
pub mod Puts
pub mod Calls
