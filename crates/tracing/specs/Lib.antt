pub mod Din
pub mod Traces
pub mod Scans
pub mod Calls
pub mod Statements
