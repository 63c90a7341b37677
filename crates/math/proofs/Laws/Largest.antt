-- Every finite value of a format is at most the format's largest one in size. Assumes nothing.
use mathlib.Core.Path.{◌≡◌, refl, sym, ap, ◌∙◌}
use mathlib.Core.Bool.{Bool, true, false, not}
use Prim.Native.Nat.{ℕ, suc, ◌-◌, ◌*◌, ◌^◌, ◌≤◌, ◌<◌}
use native.Mathlib.Nat.{le_of_eq, lt_of_lt_of_le, le_of_lt, mul_assoc, mul_comm, mul-le-mul, mul-le-mul_right, lt_of_mul-lt-mul_right}
use native.Mathlib.Omega.{arith}
use lib.Dec.{T, leb, leb→le, nleb→lt}
use lib.IntN.{pos}
use lib.Pow.{pow-add, pow_pos, le_ones}
use lib.Ieee.{Float, fin, Format, prec, emax, up, down, le, fits, inf, nan}
use lib.Ieee.Digits.{back}
use lib.Ieee.Fits.{reach}
use lib.Ieee.Positive.{num, den, den_pos}
use lib.Ieee.Scale.{finite}
use Rattle.floats.specs.Compare.{abs, is_negative}
use Rattle.floats.proofs.Laws.Round.{Power, fits→holds, up_power, down_power, mul_power, power_multiple, own_fraction, value_abs, le_of_fractions}

-- the largest exponent of a value's last digit
abbrev pub spare : Format → ℕ
spare f = suc (emax f) - prec f

-- all digits of a value are ones, at that exponent
abbrev pub largest : Format → Float
largest f = fin false (2 ^ prec f - 1) (pos (spare f))

-- m * u / v, with u / v a power of two, is at most p digits of ones at the exponent k
ones_bound : (p k m u v : ℕ) → Power u → Power v → m < 2 ^ p → m * u < 2 ^ p * (2 ^ k * v) → m * u ≤ (2 ^ p - 1) * (2 ^ k * v)
ones_bound p k m u v q r d h = go (leb u w) (leb→le u w) (nleb→lt u w)
  where
    w : ℕ
    w = 2 ^ k * v

    W : Power w
    W = mul_power (2 ^ k) v (k, refl) r

    go : (b : Bool) → (T b → u ≤ w) → (T (not b) → w < u) → m * u ≤ (2 ^ p - 1) * w
    go true l g = mul-le-mul (le_ones p d) (l tt)
    go false l g =
        let j = power_multiple u w q W (le_of_lt (g tt)) in
        let is : m * u ≡ m * 2 ^ j.0 * w = ap (λ (z : ℕ). m * z) j.1 ∙ sym (mul_assoc m (2 ^ j.0) w) in
        let few : m * 2 ^ j.0 < 2 ^ p = lt_of_mul-lt-mul_right w (rw (← is) h) in
        rw is (mul-le-mul_right w (le_ones p few))

-- every value is below 2 ^ (emax + 1), which is 2 ^ prec at that exponent
range_end : (f : Format) (d : ℕ) → 2 ^ suc (emax f) * d ≡ 2 ^ prec f * (2 ^ spare f * d)
range_end f d =
    ap (λ (z : ℕ). 2 ^ z * d) (sym (back (suc (emax f)) (prec f) (reach f)))
    ∙ ap (λ (z : ℕ). z * d) (pow-add 2 (spare f) (prec f) ∙ mul_comm (2 ^ spare f) (2 ^ prec f))
    ∙ mul_assoc (2 ^ prec f) (2 ^ spare f) d

size_bound : (f : Format) (x : Float) → T (fits f x) → T (finite x) → num x ≤ (2 ^ prec f - 1) * (2 ^ spare f * den x)
size_bound f (fin s m e) t p =
    let h = fits→holds f s m e t in
    ones_bound (prec f) (spare f) m (up e) (down e) (up_power e) (down_power e) h.digits (lt_of_lt_of_le h.under (le_of_eq (range_end f (down e))))
size_bound f nan t p = elim p [ ]
size_bound f (inf _) t p = elim p [ ]

pub le_largest : (f : Format) (x : Float) → T (fits f x) → T (finite x) → T (le (abs x) (largest f))
le_largest f x t p =
    le_of_fractions (abs x) (largest f) false (num x) (den x) false ((2 ^ prec f - 1) * 2 ^ spare f) 1 (den_pos x) (pow_pos 0)
    (value_abs x (is_negative x) (num x) (den x) (own_fraction x p)) (refl, refl)
    (omega (arith, size_bound f x t p, mul_assoc (2 ^ prec f - 1) (2 ^ spare f) (den x)))
