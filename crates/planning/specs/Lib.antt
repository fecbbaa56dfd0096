pub mod Choices
pub mod Plans
