-- A finite float by the digits and the place that its pattern has, and the remainder of two floats as that of whole numbers. Assumes nothing.
use Rattle.std.proofs.Common.{◌≡◌, ℕ, ◌+◌, ◌-◌, ◌*◌, ◌/◌, ◌%◌, ◌^◌, ◌<◌, ◌≤◌, min, Bool, true, false, cond, T, pos, sym, refl, ap, ◌∙◌, subst, subst₂, ap₂, lt_of_le_of_lt, mod-eq_of_lt, one-mul, mul_comm, mul_left_comm, mul-pos, arith, lit<, pow_pos, pow-add, lt-ltb}
use borrow.Author.Tests.{lt-leb}
use Rattle.std.proofs.lemmas.Nat.{mul-mod_second}
use lib.Ieee.{Float, nan, inf, fin, Format, binary32, binary64, low, hid, ones, top, unlike, round, neg, mul, rem, of_int, lt, fits, of_bits, to_bits}
use lib.Ieee.Bits.{of_bits-to_bits}
use lib.Ieee.Digits.{back}
use lib.Ieee.Exact.{HasValue}
use Rattle.floats.specs.Compare.{abs, is_negative}
use Rattle.floats.proofs.Laws.Order.{number, abs_fits}
use Rattle.floats.proofs.Laws.Round.{value_neg}
use Rattle.floats.proofs.Laws.Fractions.{mul_rounds, rem_rounds, mod_scale}
use Rattle.floats.proofs.Laws.Fields.{of_bits_value}
use Rattle.floats.proofs.Laws.Grid.{round_count}
use Rattle.floats.proofs.Laws.Remainder.{rem_of_smaller_size}
use Rattle.floats.proofs.Laws.Sizes.{up_to_infinite, lt_pattern}

-- ---- a size with the pattern a is digits * 2 ^ place of the format's smallest value

abbrev pub digits : Format → ℕ → ℕ
digits f a = min 1 (a / hid f) * hid f + a % hid f

abbrev pub place : Format → ℕ → ℕ
place f a = a / hid f - 1

room : (f : Format) (a : ℕ) → a < ones f * hid f → a < top f
room binary32 a h = omega arith
room binary64 a h = omega arith

pub pattern_value : (f : Format) (a : ℕ) → a < ones f * hid f → HasValue (of_bits f a) false (digits f a * 2 ^ place f a) (2 ^ low f)
pattern_value f a h =
    let in_range = room f a h in
    let m : a % top f ≡ a = mod-eq_of_lt in_range in
    subst₂ (λ (z : ℕ) (s : Bool). HasValue (of_bits f a) s ((min 1 (z / hid f) * hid f + a % hid f) * 2 ^ (z / hid f - 1)) (2 ^ low f))
    m (lt-leb (top f) a in_range)
    (of_bits_value f a (subst (λ (z : ℕ). z < ones f * hid f) (sym m) h))

with_sign : (x : Float) (n c : ℕ) → HasValue (abs x) false n c → HasValue x (is_negative x) n c
unfolding abs is_negative
with_sign (fin s m e) n c h = (refl, h.1)
with_sign nan n c h = elim h [ ]
with_sign (inf s) n c h = elim h [ ]

abbrev pub size : Format → Float → ℕ
size f x = to_bits f (abs x)

read_back : (f : Format) (x : Float) → T (fits f x) → of_bits f (size f x) ≡ abs x
read_back f x p = of_bits-to_bits f (abs x) (abs_fits f x p)

pub size_value : (f : Format) (x : Float) → T (fits f x) → size f x < ones f * hid f
    → HasValue x (is_negative x) (digits f (size f x) * 2 ^ place f (size f x)) (2 ^ low f)
size_value f x p h =
    let a = size f x in
    with_sign x (digits f a * 2 ^ place f a) (2 ^ low f)
    (subst (λ (z : Float). HasValue z false (digits f a * 2 ^ place f a) (2 ^ low f)) (read_back f x p) (pattern_value f a h))

-- ---- the remainder

mod_shifted : (m n p q : ℕ) → q ≤ p → m * 2 ^ p % (n * 2 ^ q) ≡ m * 2 ^ (p - q) % n * 2 ^ q
mod_shifted m n p q h =
    let u = 2 ^ q in
    let j = 2 ^ (p - q) in
    let split : m * 2 ^ p ≡ u * (m * j) =
    ap (λ (z : ℕ). m * 2 ^ z) (sym (back p q h)) ∙ ap (λ (z : ℕ). m * z) (pow-add 2 (p - q) q ∙ mul_comm j u) ∙ mul_left_comm m u j in
    ap₂ (λ (z w : ℕ). z % w) split (mul_comm n u) ∙ mod_scale u (m * j) n (pow_pos q) ∙ mul_comm u (m * j % n)

digits_above : (f : Format) (a : ℕ) → 0 < a → 0 < digits f a
digits_above binary32 a h = omega arith
digits_above binary64 a h = omega arith

place_mono : (f : Format) (a b : ℕ) → b ≤ a → place f b ≤ place f a
place_mono binary32 a b h = omega arith
place_mono binary64 a b h = omega arith

pub rem_by_digits : (f : Format) (x y : Float) (a b : ℕ) → T (fits f x) → T (fits f y) → a ≡ size f x → b ≡ size f y → a < ones f * hid f → 0 < b → b ≤ a
    → rem f x y ≡ round f (is_negative x) (digits f a * 2 ^ (place f a - place f b) % digits f b * 2 ^ place f b) (2 ^ low f)
rem_by_digits f x y a b p q d e h B l =
    let v = size_value f x p (subst (λ (z : ℕ). z < ones f * hid f) d h) in
    let w = size_value f y q (subst (λ (z : ℕ). z < ones f * hid f) e (lt_of_le_of_lt l h)) in
    rem_rounds f x y (is_negative x) (digits f a * 2 ^ place f a) (is_negative y) (digits f b * 2 ^ place f b) (2 ^ low f)
    (pow_pos (low f)) (mul-pos (digits_above f b B) (pow_pos (place f b)))
    (subst (λ (z : ℕ). HasValue x (is_negative x) (digits f z * 2 ^ place f z) (2 ^ low f)) (sym d) v)
    (subst (λ (z : ℕ). HasValue y (is_negative y) (digits f z * 2 ^ place f z) (2 ^ low f)) (sym e) w)
    ∙ ap (λ (z : ℕ). round f (is_negative x) z (2 ^ low f)) (mod_shifted (digits f a) (digits f b) (place f a) (place f b) (place_mono f a b l))

pub doubled_mod : (m n i : ℕ) → 2 * (m * 2 ^ i % n) % n ≡ m * 2 ^ (i + 1) % n
doubled_mod m n i =
    mul-mod_second 2 (m * 2 ^ i) n
    ∙ ap (λ (z : ℕ). z % n) (mul_left_comm 2 m (2 ^ i) ∙ ap (λ (z : ℕ). m * z) (mul_comm 2 (2 ^ i) ∙ sym (pow-add 2 i 1)))

-- a whole number with a sign, times a power of two
int_value : (r : ℕ) → r ≤ 2 ^ 24 → HasValue (of_int binary32 (pos r)) false r 1
unfolding of_int
int_value r h = round_count binary32 false r 0 (omega arith) h

signed_value : (s : Bool) (r : ℕ) → r ≤ 2 ^ 24 → HasValue (cond s (neg (of_int binary32 (pos r))) (of_int binary32 (pos r))) s r 1
signed_value true r h = value_neg (of_int binary32 (pos r)) false r 1 (int_value r h)
signed_value false r h = int_value r h

like : (s : Bool) → unlike s false ≡ s
like true = refl
like false = refl

pub scaled_int : (s : Bool) (r k : ℕ) (w : Float) → r ≤ 2 ^ 24 → HasValue w false (2 ^ k) (2 ^ 149)
    → mul binary32 (cond s (neg (of_int binary32 (pos r))) (of_int binary32 (pos r))) w ≡ round binary32 s (r * 2 ^ k) (2 ^ 149)
scaled_int s r k w h v =
    mul_rounds binary32 (cond s (neg (of_int binary32 (pos r))) (of_int binary32 (pos r))) w s r 1 false (2 ^ k) (2 ^ 149)
    (lit< tt) (pow_pos 149) (signed_value s r h) v
    ∙ ap₂ (λ (t : Bool) (c : ℕ). round binary32 t (r * 2 ^ k) c) (like s) (one-mul (2 ^ 149))

-- ---- where there is none, and where x is its own

pub rem_of_nan : (f : Format) (y : Float) → rem f nan y ≡ nan
unfolding rem
rem_of_nan f y = refl

pub rem_by_nan : (f : Format) (x : Float) → rem f x nan ≡ nan
unfolding rem
rem_by_nan f nan = refl
rem_by_nan f (inf s) = refl
rem_by_nan f (fin s m e) = refl

rem_of_infinite : (f : Format) (x y : Float) → abs x ≡ inf false → rem f x y ≡ nan
unfolding rem abs
rem_of_infinite f nan y e = refl
rem_of_infinite f (inf s) y e = refl
rem_of_infinite f (fin s m n) y e = absurd (cc)

infinity_is : of_bits binary32 (ones binary32 * hid binary32) ≡ inf false
unfolding of_bits
infinity_is = refl

zero_is : of_bits binary32 0 ≡ fin false 0 (pos 0)
unfolding of_bits
zero_is = refl

pub rem_of_infinity : (x y : Float) → T (fits binary32 x) → size binary32 x ≡ ones binary32 * hid binary32 → rem binary32 x y ≡ nan
rem_of_infinity x y p e = rem_of_infinite binary32 x y (sym (read_back binary32 x p) ∙ ap (of_bits binary32) e ∙ infinity_is)

rem_by_nothing : (f : Format) (x y : Float) → abs y ≡ fin false 0 (pos 0) → rem f x y ≡ nan
unfolding rem abs
rem_by_nothing f nan y e = refl
rem_by_nothing f (inf s) y e = refl
rem_by_nothing f (fin s m d) nan e = refl
rem_by_nothing f (fin s m d) (inf t) e = absurd (cc)
rem_by_nothing f (fin s m d) (fin t n g) e = let z : n ≡ 0 = cc in rw z

pub rem_by_zero : (x y : Float) → T (fits binary32 y) → size binary32 y ≡ 0 → rem binary32 x y ≡ nan
rem_by_zero x y p e = rem_by_nothing binary32 x y (sym (read_back binary32 y p) ∙ ap (of_bits binary32) e ∙ zero_is)

pub rem_of_smaller_pattern : (f : Format) (x y : Float) → T (fits f x) → T (fits f y) → T (number y) → size f x < size f y → rem f x y ≡ x
rem_of_smaller_pattern f x y p q n h =
    rem_of_smaller_size f x y p
    (subst (λ (z : Float). T (lt (abs x) z)) (read_back f y q)
    (subst T (sym (lt_pattern f (size f y) (up_to_infinite f y q n) x p ∙ lt-ltb (size f x) (size f y) h)) tt))
