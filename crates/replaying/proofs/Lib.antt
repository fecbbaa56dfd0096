pub mod Steps
pub mod LinesAdded
