pub mod Bytes
pub mod Each
pub mod Packing
pub mod Blocks
pub mod Storing
pub mod Sealing
