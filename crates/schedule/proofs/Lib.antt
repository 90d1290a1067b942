pub mod PartsLaws
pub mod NumberLaws
pub mod WordLaws
pub mod LineLaws
pub mod ScheduleLaws
mod Cases
pub mod Bytes
