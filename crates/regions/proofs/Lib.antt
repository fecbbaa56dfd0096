pub mod Widths
pub mod Runs
