-- The engine follows the rules, so that Demand3 is the engine's own.
pub mod Engine
pub mod Told
pub mod Readings
