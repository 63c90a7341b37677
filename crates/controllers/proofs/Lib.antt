-- What the layers above cite of the divider, the derivative and the checks.
pub mod Laws
