-- What `round f false` and a root can be: not a NaN, and without a sign. And how such values compare with a zero and with infinity. Assumes nothing.
use Rattle.std.proofs.Common.{◌≡◌, ℕ, ◌<◌, Bool, true, false, not, T, T_not, subst, sym}
use lib.Dec.{not_T}
use lib.Ieee.{Float, nan, inf, fin, Format, round, le, eq, is_nan, fits, top, to_bits}
use lib.Ieee.Scale.{finite}
use lib.Ieee.Positive.{positive}
use Rattle.floats.specs.Compare.{is_negative, abs}
use Rattle.floats.specs.Sqrt.{root_of}
use Rattle.floats.specs.Root.{zero}
use Rattle.floats.proofs.Laws.Order.{number, le_numbers, float_le_trans, eq→le, positive_above, inf_greatest, greatest_only, finite→number}
use Rattle.floats.proofs.Laws.Round.{round_sign, round_nonneg}
use Rattle.floats.proofs.Laws.Sign.{size_below_top}
use Rattle.floats.proofs.Laws.Sqrt.Special.{root_of_sign, root_of_nonneg}

-- a number with no sign, infinity included
abbrev pub unsigned : Float → Bool
unsigned nan = false
unsigned (inf s) = not s
unsigned (fin s m e) = not s

pub unsigned_number : (z : Float) → T (unsigned z) → T (not (is_nan z))
unfolding is_nan
unsigned_number (inf s) u = tt
unsigned_number (fin s m e) u = tt
unsigned_number nan u = elim u [ ]

pub unsigned_not_negative : (z : Float) → T (unsigned z) → T (is_negative z) → ⊥
unfolding is_negative
unsigned_not_negative nan u t = t
unsigned_not_negative (inf s) u t = T_not s u t
unsigned_not_negative (fin s m e) u t = T_not s u t

-- every number that is not negative is unsigned
unsigned_of : (z : Float) → T (number z) → is_negative z ≡ false → T (unsigned z)
unfolding is_nan is_negative
unsigned_of nan n e = n
unsigned_of (inf s) n e = subst (λ (b : Bool). T (not b)) (sym e) tt
unsigned_of (fin s m d) n e = subst (λ (b : Bool). T (not b)) (sym e) tt

pub unsigned_of_positive : (z : Float) → T (positive z) → T (unsigned z)
unsigned_of_positive (fin false m e) p = tt
unsigned_of_positive nan p = elim p [ ]
unsigned_of_positive (inf _) p = elim p [ ]
unsigned_of_positive (fin true m e) p = elim p [ ]

pub positive_number : (z : Float) → T (positive z) → T (not (is_nan z))
positive_number z p = unsigned_number z (unsigned_of_positive z p)

-- its pattern has no sign's bit
pub unsigned_bits : (f : Format) (z : Float) → T (fits f z) → T (unsigned z) → to_bits f z < top f
unfolding abs
unsigned_bits f (inf false) fit u = size_below_top f (inf false) fit
unsigned_bits f (fin false m e) fit u = size_below_top f (fin false m e) fit
unsigned_bits f nan fit u = elim u [ ]
unsigned_bits f (inf true) fit u = elim u [ ]
unsigned_bits f (fin true m e) fit u = elim u [ ]

-- ---- `round f false` and the root
pub round_unsigned : (f : Format) (num den : ℕ) → T (unsigned (round f false num den))
round_unsigned f num den = unsigned_of (round f false num den) (le_numbers zero (round f false num den) (round_nonneg f num den)).1 (round_sign f false num den)

pub root_unsigned : (f : Format) (num den : ℕ) → 0 < den → T (unsigned (root_of f num den))
root_unsigned f num den D = unsigned_of (root_of f num den) (le_numbers zero (root_of f num den) (root_of_nonneg f num den D)).1 (root_of_sign f num den D)

-- ---- a zero is at most any number without a sign
pub zero_le_unsigned : (x z : Float) → T (eq x zero) → T (unsigned z) → T (le x z)
zero_le_unsigned x z t u =
    float_le_trans x zero z (eq→le x zero t) (positive_above z (unsigned_number z u) (not_T (is_negative z) (unsigned_not_negative z u)))

-- ---- infinity is the largest
pub le_infinity : (z : Float) → T (not (is_nan z)) → T (le z (inf false))
le_infinity z n = inf_greatest z n

pub infinity_le : (z : Float) → T (le (inf false) z) → z ≡ inf false
infinity_le z h = greatest_only z h

pub finite_number : (x : Float) → T (finite x) → T (not (is_nan x))
finite_number x t = finite→number x t
