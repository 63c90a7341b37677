-- The definitions that the contracts cite. Assumes nothing.
pub mod Buffers
pub mod Turns
pub mod Output
