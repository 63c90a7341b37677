-- Layouts as data. A layout is a list of parts, in the order in which they stand in the bytes; `reads` hands a function the value of each part, found after the widths of
-- the parts before it; `laid` are the bytes of values. proofs/Laws/Layout.antt: what is laid reads back. Assumes nothing.
use Rattle.std.specs.Prelude.{ℕ, zero, suc, ◌+◌, List, [], ◌∷◌, ◌++◌, T, get_or, replicate, Float}
use Rattle.std.specs.Float.{binary32}
use Rattle.std.specs.Float.Ieee.{fits, of_bits, to_bits}
use Rattle.floats.specs.Bits.{le_word, le_bytes}

-- ---- bytes

abbrev pub byte_at : List ℕ → ℕ → ℕ
byte_at bytes at = get_or bytes at 0

-- four bytes, the low byte first
abbrev pub word_at : List ℕ → ℕ → ℕ
word_at bytes at = le_word (byte_at bytes at) (byte_at bytes (at + 1)) (byte_at bytes (at + 2)) (byte_at bytes (at + 3))

unfoldable pub float_at : List ℕ → ℕ → Float
float_at bytes at = of_bits binary32 (word_at bytes at)

-- a float, the low byte first; a NaN is 7FC00000
abbrev pub float_bytes : Float → List ℕ
float_bytes x = le_bytes (to_bits binary32 x)

-- ---- layouts

pub data Part : Type 0 where
  -- an f32, 4 bytes
  Number : Part
  -- a byte
  Mark : Part

abbrev pub width : Part → ℕ
width Number = 4
width Mark = 1

abbrev pub size : List Part → ℕ
size [] = 0
size (part ∷ parts) = width part + size parts

abbrev pub numbers : ℕ → List Part
numbers n = replicate n Number

-- ---- reading

-- a function of the values of a layout
abbrev pub Takes : List Part → Type 0 → Type 0
Takes [] A = A
Takes (Number ∷ parts) A = Float → Takes parts A
Takes (Mark ∷ parts) A = ℕ → Takes parts A

-- from a byte on
abbrev pub reads_from : {A : Type 0} (parts : List Part) → ℕ → Takes parts A → List ℕ → A
reads_from [] at f bytes = f
reads_from (Number ∷ parts) at f bytes = reads_from parts (at + 4) (f (float_at bytes at)) bytes
reads_from (Mark ∷ parts) at f bytes = reads_from parts (at + 1) (f (byte_at bytes at)) bytes

abbrev pub reads : {A : Type 0} (parts : List Part) → Takes parts A → List ℕ → A
reads parts f bytes = reads_from parts 0 f bytes

-- n floats from a byte on
unfoldable pub floats_from : ℕ → ℕ → List ℕ → List Float
floats_from at zero bytes = []
floats_from at (suc n) bytes = float_at bytes at ∷ floats_from (at + 4) n bytes

-- ---- writing

pub data Value : Type 0 where
  number : Float → Value
  mark : ℕ → Value

abbrev pub part_of : Value → Part
part_of (number x) = Number
part_of (mark m) = Mark

abbrev pub parts_of : List Value → List Part
parts_of [] = []
parts_of (value ∷ values) = part_of value ∷ parts_of values

unfoldable pub laid : List Value → List ℕ
laid [] = []
laid (number x ∷ values) = float_bytes x ++ laid values
laid (mark m ∷ values) = (m ∷ []) ++ laid values

-- each float is one of 32 bits
abbrev pub Fit : List Value → Type 0
Fit [] = Unit {0}
Fit (number x ∷ values) = T (fits binary32 x) × Fit values
Fit (mark m ∷ values) = Fit values

-- a function given the values
abbrev pub given : {A : Type 0} (values : List Value) → Takes (parts_of values) A → A
given [] f = f
given (number x ∷ values) f = given values (f x)
given (mark m ∷ values) f = given values (f m)
