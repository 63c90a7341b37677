-- The definitions that the contracts cite. Assumes nothing.
pub mod Drag
pub mod Estimate
pub mod Sample
pub mod State
pub mod Wind
pub mod Window
pub mod Inner
