-- Laws of moved bytes and of held ones.
pub mod Held
pub mod Moved
