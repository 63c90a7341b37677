-- The definitions that the contracts cite. Assumes nothing.
pub mod Checks
pub mod Derivative
pub mod RateDivider
