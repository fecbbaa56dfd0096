pub mod Accepted
pub mod Frames
pub mod Files
pub mod Tasks
pub mod Places
pub mod Before
