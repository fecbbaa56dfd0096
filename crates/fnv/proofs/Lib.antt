pub mod Laws
mod Zeros
mod Chain
