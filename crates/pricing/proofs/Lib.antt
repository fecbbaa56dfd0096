pub mod Pricing
pub mod Walk
pub mod Charging
