pub mod Draws
pub mod Files
