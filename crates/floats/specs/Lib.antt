-- The definitions that the contracts of the float leaves cite. Assumes nothing.
pub mod Bits
pub mod Ops
pub mod Compare
pub mod MinMax
pub mod Narrow
pub mod Sqrt
pub mod Root
pub mod SinCos
pub mod Atan
