-- What must be believed of the rules: the table, the order of stamps, the five steps, the numbers for no.
pub mod Each
pub mod Order
pub mod Table
pub mod Codes
pub mod Steps
pub mod Refusals
pub mod Vectors
pub mod Counted
pub mod Starred
pub mod Arrivals
