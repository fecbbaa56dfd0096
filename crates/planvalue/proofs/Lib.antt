pub mod Verdicts
pub mod Lists
