-- The engine over a list of steps.
pub mod Engine
