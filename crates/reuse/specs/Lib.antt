pub mod States
pub mod FirstReads
pub mod Counts
