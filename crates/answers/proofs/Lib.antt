pub mod Places
pub mod Mapped
