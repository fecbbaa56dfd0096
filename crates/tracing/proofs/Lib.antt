mod Digits
mod Turns
mod Columns
mod Going
mod Lines
mod Scanning
mod Groups
mod Numbers
mod Files
mod Rows
pub mod Whole
pub mod Accepted
