-- Laws that the proofs share.
pub mod Chains
pub mod Lowest
pub mod Short
