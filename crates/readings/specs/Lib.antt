-- What must be believed of the program: what it prints of a schedule.
pub mod Shown
