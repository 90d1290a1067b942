-- Laws that the proofs share, here and in the programs that read their input whole.
mod Reading
pub mod Told
