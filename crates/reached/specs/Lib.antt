-- What a step promises of a table that was reached.
pub mod Advanced
