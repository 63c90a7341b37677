-- What the proofs share, and what the layers above cite. Assumes nothing.
pub mod Parts
pub mod Configuration
pub mod Steps
pub mod Underway
pub mod Laws
