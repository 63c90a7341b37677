-- The definitions that the contracts cite. Assumes nothing.
pub mod Vectors
pub mod Math
pub mod Inner
