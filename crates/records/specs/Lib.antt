-- The definitions that the contracts cite, and the values of each layout by name. Assumes nothing.
pub mod Layout
pub mod Body
pub mod Kinds
pub mod Values
pub mod Answer
pub mod Craft
pub mod Read
pub mod Step
pub mod Flight
-- The claims.
pub mod AnswerBytes
pub mod Total
pub mod Feed
pub mod Facts
pub mod Worked
-- How the port divides a record and a flight.
pub mod Inner
