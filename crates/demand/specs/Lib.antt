pub mod Demand
pub mod Calls
pub mod Loading
pub mod Lanes
pub mod Cases
pub mod Statements
