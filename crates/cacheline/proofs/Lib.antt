pub mod Dividers
pub mod Ranges
pub mod Below
