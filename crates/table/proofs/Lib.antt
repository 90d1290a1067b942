-- Laws that the proofs share, here and in the crates above.
pub mod Granting
pub mod Rows
pub mod Making
pub mod Determined
