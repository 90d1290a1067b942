-- What must be believed of the readings of a schedule: their lines, and what is answered.
pub mod Reading
pub mod Marks
