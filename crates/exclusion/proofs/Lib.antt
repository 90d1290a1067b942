-- Demand3 of the rules: Theorems has it, Witness shows that it is not empty, the others are on the way.
pub mod Streams
pub mod Effects
pub mod Enough
pub mod Invariant
pub mod Moves
pub mod Meets
pub mod Order
pub mod Progress
pub mod Overtaking
pub mod Copies
pub mod Theorems
pub mod Witness
