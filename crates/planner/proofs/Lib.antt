pub mod OneAnswer
pub mod Edge
pub mod Planned
pub mod Charges
pub mod Widths
