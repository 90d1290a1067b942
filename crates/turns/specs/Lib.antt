-- What must be believed of the program: what it prints of a run.
pub mod Shown
