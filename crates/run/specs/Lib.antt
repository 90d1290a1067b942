-- What must be believed of a run: its records, its listing, and its refusals.
pub mod Listing
pub mod Run
pub mod One
