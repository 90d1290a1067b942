-- The clocks run ahead of the counts, step by step and over lists. Other crates cite these laws of any such table.
pub mod Ahead
