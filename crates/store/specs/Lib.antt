-- What each inner function stores in a table's words.
pub mod Stores
