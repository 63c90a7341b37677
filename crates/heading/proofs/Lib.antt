-- What the layers above cite of the headings and of wind memory.
pub mod Laws
