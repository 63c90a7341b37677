-- What the layers above cite of copter guidance.
pub mod Laws
