-- The laws of specs/.
pub mod Whole
