pub mod Decimals
pub mod Spelling
