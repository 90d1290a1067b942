-- Laws that the proofs share.
pub mod Answered
pub mod Records
pub mod Going
pub mod Whole
pub mod Printed
pub mod One
