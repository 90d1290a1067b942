-- What must be believed of a schedule: how its text is read, and which refusal names the earliest line that is bad.
pub mod Parts
pub mod Number
pub mod Lines
pub mod Schedule
