pub mod Numbers
pub mod Search
pub mod Table
