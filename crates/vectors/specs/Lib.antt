-- How the counts of a table stand in memory: their rows, what is read in them, which are well formed, and what is stored there.
pub mod Rows
pub mod Formed
pub mod Stores
