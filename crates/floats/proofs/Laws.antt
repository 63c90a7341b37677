-- Laws of the definitions of specs/ and of `lib.Ieee`'s operations, over any format where they can be.
-- The order of floats, rounding, and the operations.
pub mod Order
pub mod Round
pub mod Fractions
pub mod Sum
pub mod Product
pub mod Grid
pub mod Near
pub mod Remainder
pub mod Sterbenz
-- Signs, special values and bit patterns.
pub mod Special
pub mod Sign
pub mod Sizes
pub mod Nearest
pub mod Fields
pub mod Pattern
pub mod Digits
-- The leaves' own definitions.
pub mod MinMax
pub mod Narrow
pub mod Sqrt
pub mod Align
pub mod SinCos
pub mod Atan
