-- Laws of the definitions of specs/.
pub mod Config
pub mod Parts
pub mod Descent
pub mod Thrust
pub mod Worked
-- Of whole calls.
pub mod Calls
pub mod Heading
pub mod Navigation
pub mod Piloted
pub mod Wind
-- Over any list of operations.
pub mod Norm
pub mod Reached
pub mod Facts
