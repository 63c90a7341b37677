-- The operators on `f32` and `f64` as infix symbols, each result rounded once, so that a definition reads as the source does.
-- Assumes nothing.
use Rattle.std.specs.Prelude.{ℕ, from_bits, Float}
use Rattle.std.specs.Float.{binary32, binary64}
use Rattle.std.specs.Float.Ieee.{add, sub, mul, div}

infixl 65 ◌⊕◌
infixl 65 ◌⊖◌
infixl 70 ◌⊗◌
infixl 70 ◌⊘◌
infixl 65 ◌⊞◌
infixl 65 ◌⊟◌
infixl 70 ◌⊠◌
-- the value of a bit pattern
abbrev pub f32 : ℕ → Float
f32 bits = from_bits binary32 bits

abbrev pub f64 : ℕ → Float
f64 bits = from_bits binary64 bits

-- +, -, * and / of `f32`
abbrev pub ◌⊕◌ : Float → Float → Float
x ⊕ y = add binary32 x y

abbrev pub ◌⊖◌ : Float → Float → Float
x ⊖ y = sub binary32 x y

abbrev pub ◌⊗◌ : Float → Float → Float
x ⊗ y = mul binary32 x y

abbrev pub ◌⊘◌ : Float → Float → Float
x ⊘ y = div binary32 x y

-- +, - and * of `f64`
abbrev pub ◌⊞◌ : Float → Float → Float
x ⊞ y = add binary64 x y

abbrev pub ◌⊟◌ : Float → Float → Float
x ⊟ y = sub binary64 x y

abbrev pub ◌⊠◌ : Float → Float → Float
x ⊠ y = mul binary64 x y
