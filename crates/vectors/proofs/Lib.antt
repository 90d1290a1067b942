-- Laws that the proofs share, here and in the crates above.
pub mod Row
pub mod Formed
pub mod Laws
pub mod Carrying
pub mod Sending
pub mod Channels
pub mod Zero
pub mod Stored
pub mod Carried
pub mod Determined
