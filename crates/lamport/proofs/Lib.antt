-- Laws that the proofs share, here and in the crates above.
pub mod Each
pub mod Chains
pub mod Granted
pub mod Starred
pub mod Readings
pub mod Numbers
pub mod Arrivals
