-- The definitions that the contracts cite. Assumes nothing.
pub mod Turn
pub mod Memory
