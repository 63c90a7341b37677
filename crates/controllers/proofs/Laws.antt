-- Laws of the definitions of specs/.
pub mod Checks
pub mod Derivative
pub mod Divider
pub mod Within
pub mod Worked
