-- Laws of the definitions of specs/.
pub mod Vectors
pub mod Shaping
pub mod Hold
pub mod NotFinite
pub mod Integral
