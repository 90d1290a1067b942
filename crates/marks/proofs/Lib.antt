-- Laws that the proofs share.
pub mod Lines
pub mod Marking
pub mod Going
