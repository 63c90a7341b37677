-- What the layers above cite of lateral control.
pub mod Laws
