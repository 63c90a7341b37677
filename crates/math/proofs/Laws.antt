-- Laws of the definitions of specs/.
pub mod Cap
pub mod Cases
pub mod Closing
pub mod Feed
pub mod Largest
pub mod Length
pub mod Limits
pub mod Reached
pub mod Thrust
pub mod Worked
pub mod Wrap
