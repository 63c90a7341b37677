-- The definitions that the contracts cite. Assumes nothing.
pub mod Config
pub mod Memory
pub mod Thrust
pub mod Descent
pub mod Tilt
pub mod Guide
pub mod Calls
pub mod Plan
