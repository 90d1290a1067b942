-- What the entry points promise.
pub mod Post
pub mod One
