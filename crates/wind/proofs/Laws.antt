-- Laws of the definitions of specs/. Assumes nothing.
pub mod Drag
pub mod Window
pub mod WindowExample
pub mod Sample
pub mod Covariance
