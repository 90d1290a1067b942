-- Laws that the proofs share.
mod Fields
mod Counts
mod Opened
mod Judged
mod Short
pub mod Front
