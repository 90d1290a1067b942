-- What the functions that the engine stands on promise.
pub mod Post
pub mod One
