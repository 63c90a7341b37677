-- Lemmas of the contracts of this crate. Assumes nothing.
pub mod Flags
