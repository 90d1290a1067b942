-- What must be believed of the listing: the bytes of its lines, and what a writer leaves in the output.
pub mod Write
pub mod Record
