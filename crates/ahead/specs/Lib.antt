-- What must be believed: counts never decide by themselves.
pub mod Ahead
