pub mod Laws
pub mod Numbers
pub mod Lines
pub mod Entries
pub mod Lengths
pub mod Rows
