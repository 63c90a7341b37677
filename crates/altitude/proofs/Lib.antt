-- What the layers above cite of altitude control.
pub mod Laws
