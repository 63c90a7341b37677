-- The definitions that the contracts cite. Assumes nothing.
pub mod Config
pub mod Equality
pub mod HoverWind
pub mod WindHeading
pub mod LegHeading
-- How the port divides a call.
pub mod Inner
