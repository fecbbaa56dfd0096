pub mod Accepted
pub mod Numbers
pub mod Listing
pub mod Seven
