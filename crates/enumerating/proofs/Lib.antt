pub mod Numbers
pub mod Filling
pub mod Walks
pub mod Searching
