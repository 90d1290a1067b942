-- What a line of the listing says of a step.
pub mod Report
