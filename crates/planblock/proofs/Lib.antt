pub mod Storing
pub mod Reading
pub mod Verdicts
pub mod Roundtrip
