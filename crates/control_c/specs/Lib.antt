-- The definitions that the contracts cite. Assumes nothing.
pub mod Places
pub mod Missing
pub mod Calls
pub mod HoverWind
pub mod LegHeading
