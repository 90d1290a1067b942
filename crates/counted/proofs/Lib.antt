-- Laws that the proofs share, here and in the crates above.
pub mod Own
pub mod Lengths
pub mod Counting
pub mod Stepping
pub mod Determined
pub mod Making
