-- Laws of the definitions of specs/. Assumes nothing.
pub mod Layout
pub mod Values
pub mod Counts
pub mod AnswerBytes
pub mod Total
pub mod Read
pub mod Facts
pub mod Flight
pub mod Feed
pub mod Links
pub mod Examples
pub mod Worked
