-- The laws of specs/.
pub mod Pieces
pub mod Turning
pub mod Whole
