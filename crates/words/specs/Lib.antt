-- How a table stands in memory: the places of its words, the table that words stand for, which words are well formed.
pub mod Places
pub mod View
pub mod WellFormed
