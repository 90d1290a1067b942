-- What must be believed of a verdict: what a line of readings says, how two of them compare, and what is printed.
pub mod Reading
pub mod Verdict
pub mod Shown
