-- The stamps of two events say what happened: Told has it. Shown and Witness have the two smaller promises, the others are on the way.
pub mod Counting
pub mod Turn
pub mod Transit
pub mod Causal
pub mod Beside
pub mod Steps
pub mod Run
pub mod Told
pub mod Shown
pub mod Placed
pub mod Witness
