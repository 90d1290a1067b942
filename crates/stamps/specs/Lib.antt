-- What must be believed of two vector stamps: how they compare.
pub mod Compare
