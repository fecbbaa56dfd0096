pub mod Fnv
pub mod Steps
