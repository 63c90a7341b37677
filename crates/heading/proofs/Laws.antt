-- Laws of the definitions of specs/.
pub mod Equality
pub mod HoverWind
pub mod WindHeading
pub mod Leg
pub mod Yield
pub mod Side
pub mod Turn
pub mod Toward
