-- The patterns of sizes stand in the order of the sizes, over any format, and a NaN's pattern is above them all: so a size is compared by its pattern.
-- Assumes nothing.
use Rattle.std.proofs.Common.{◌≡◌, ℕ, ◌+◌, ◌-◌, ◌*◌, ◌/◌, ◌%◌, ◌^◌, ◌<◌, ◌≤◌, Bool, true, false, cond, not, T, eqb, ltb, leb, ℤ, refl, sym, ap, ◌∙◌, subst, ⊎_elim, zero-le, le_trans, le_of_eq, le_refl, lt_of_lt_of_le, lt_of_le_of_lt, le_of_lt, add-le-add, mul-le-mul_right, mod-lt, mod-eq_of_lt, suc-mul, le_antisymm, eq-or-lt_of_le, le-div_iff_mul-le, zero-add, mul_right_comm, not-le_of_lt, arith, lit<, le→leb, eqb→eq, ltb→lt, lt→ltb, leb→le, pow_pos, pow-add, ltb-false, le-ltb, lt-ltb, eq-eqb, ne_eqb, le-leb}
use Rattle.std.proofs.lemmas.Float.{T_from_true}
use lib.Pow.{shr_mono}
use lib.Ieee.{Float, nan, inf, fin, Format, binary32, binary64, prec, low, up, down, size, hid, ones, top, fits, is_nan, neg, le, lt, eq, nan_bits, of_bits, to_bits}
use lib.Ieee.Bits.{of_bits-to_bits, to_bits-of_bits, of_bits-fits, nan_bits_is, nan_bits_above, is_false}
use lib.Ieee.Digits.{size-lt, size_reaches, size-le}
use lib.Ieee.Fits.{eq→eqb, kept-lt, down_pos}
use lib.Ieee.Nearest.{div_mono}
use borrow.Author.Tests.{lt-leb}
use Rattle.floats.specs.Compare.{abs, is_negative}
use Rattle.floats.proofs.Laws.Sign.{sign_bit, size_below_top, clear_sign}
use Rattle.floats.proofs.Laws.Special.{is_nan_lem, up_to_infinity}
use Rattle.floats.proofs.Laws.Round.{twice_pow}
use Rattle.floats.proofs.Laws.Order.{abs_is, eq→le, eq→ge, eq_refl, lt_irrefl, number, le_or_lt, lt→le, le_iff, le_not_lt, abs_fits, abs_number, float_le_refl, same_test}

-- ---- the pattern of n units of the smallest value, in a format with significands of p digits
abbrev dropped : ℕ → ℕ → ℕ
dropped p n = size n - p

abbrev pattern : ℕ → ℕ → ℕ
pattern p n = dropped p n * 2 ^ (p - 1) + n / 2 ^ dropped p n

size_mono : (m n : ℕ) → m ≤ n → size m ≤ size n
size_mono m n h = size-le m (size n) (lt_of_le_of_lt h (size-lt n))

-- where digits are dropped, those that are kept begin with a one
leading : (p n : ℕ) → 0 < p → 0 < dropped p n → 2 ^ (p - 1) ≤ n / 2 ^ dropped p n
leading p n P h = (le-div_iff_mul-le (pow_pos (dropped p n))).1 (le_trans (le_of_eq (sym (pow-add 2 (p - 1) (dropped p n)))) (size_reaches n (p - 1 + dropped p n) (counted (size n) p P h)))
  where
    counted : (z q : ℕ) → 0 < q → 0 < z - q → q - 1 + (z - q) < z
    counted z q Q l = omega arith

pattern_mono : (p m n : ℕ) → 0 < p → m ≤ n → pattern p m ≤ pattern p n
pattern_mono p m n P h = ⊎_elim same more (eq-or-lt_of_le (sizes (size m) (size n) (size_mono m n h)))
  where
    sizes : (y z : ℕ) → y ≤ z → y - p ≤ z - p
    sizes y z l = omega arith

    same : dropped p m ≡ dropped p n → pattern p m ≤ pattern p n
    same e = rw e (add-le-add (le_refl (dropped p n * 2 ^ (p - 1))) (shr_mono (dropped p n) h))

    over : (j k w a b : ℕ) → j < k → a < 2 * w → w ≤ b → j * w + a ≤ k * w + b
    over j k w a b l l' l'' = omega (arith, mul-le-mul_right w l, suc-mul j w)

    more : dropped p m < dropped p n → pattern p m ≤ pattern p n
    more l =
        over (dropped p m) (dropped p n) (2 ^ (p - 1)) (m / 2 ^ dropped p m) (n / 2 ^ dropped p n) l
        (lt_of_lt_of_le (kept-lt p m) (le_of_eq (twice_pow p P)))
        (leading p n P (lt_of_le_of_lt zero-le l))

-- ---- finite sizes, and the infinity
digits_pos : (f : Format) → 0 < prec f
digits_pos binary32 = lit< tt
digits_pos binary64 = lit< tt

finite_mono : (f : Format) (m : ℕ) (e : ℤ) (n : ℕ) (d : ℤ) → m * up e * down d ≤ n * up d * down e → to_bits f (fin false m e) ≤ to_bits f (fin false n d)
unfolding to_bits
finite_mono f m e n d h = simp zero-add (pattern_mono (prec f) (m * up e * 2 ^ low f / down e) (n * up d * 2 ^ low f / down d) (digits_pos f) (div_mono (m * up e * 2 ^ low f) (down e) (n * up d * 2 ^ low f) (down d) (down_pos e) (down_pos d) (scaled (m * up e) (down d) (n * up d) (down e) (2 ^ low f) h)))
  where
    scaled : (a b c k u : ℕ) → a * b ≤ c * k → a * u * b ≤ c * u * k
    scaled a b c k u l = simp (mul_right_comm a u b, mul_right_comm c u k) (mul-le-mul_right u l)

pub size_no_nan : (f : Format) (x : Float) → T (fits f x) → T (number x) → nan_bits f (to_bits f (abs x)) ≡ false
size_no_nan f x p n =
    nan_bits_is f (to_bits f (abs x)) ∙ ap is_nan (of_bits-to_bits f (abs x) (abs_fits f x p)) ∙ is_false (is_nan (abs x)) (subst T (sym (abs_number x)) n)

pub up_to_infinite : (f : Format) (x : Float) → T (fits f x) → T (number x) → to_bits f (abs x) ≤ ones f * hid f
up_to_infinite f x p n =
    let b = to_bits f (abs x) in
    le_trans (le_of_eq (sym (mod-eq_of_lt (size_below_top f x p)))) (ltb-false (ones f * hid f) (b % top f) (sym (nan_bits_above f b) ∙ size_no_nan f x p n))

cross : (m : ℕ) (e : ℤ) (n : ℕ) (d : ℤ) → T (le (fin false m e) (fin false n d)) → m * up e * down d ≤ n * up d * down e
unfolding is_negative
cross m e n d h = omega (arith, (le_iff (fin false m e) (fin false n d) tt tt).0 h)

pattern_of_le : (f : Format) (x y : Float) → T (fits f x) → T (fits f y) → T (le (abs x) (abs y)) → to_bits f (abs x) ≤ to_bits f (abs y)
unfolding abs to_bits lt eq le is_nan
pattern_of_le f (inf s) (inf t) p q h = le_refl (0 + ones f * hid f)
pattern_of_le f (fin s m e) (inf t) p q h = le_trans (up_to_infinite f (fin s m e) p tt) (le_of_eq (sym (zero-add (ones f * hid f))))
pattern_of_le f (fin s m e) (fin t n d) p q h = finite_mono f m e n d (cross m e n d h)
pattern_of_le f nan y p q h = elim h [ ]
pattern_of_le f (inf s) nan p q h = elim h [ ]
pattern_of_le f (inf s) (fin t n d) p q h = elim h [ ]
pattern_of_le f (fin s m e) nan p q h = elim h [ ]

-- a NaN's pattern is above that of every size
only_numbers : (f : Format) (x y : Float) → T (fits f y) → T (number y) → to_bits f (abs x) ≤ to_bits f (abs y) → T (number x)
unfolding abs to_bits is_nan
only_numbers f nan y q n h = absurd (above f (le_trans h (up_to_infinite f y q n)))
  where
    above : (g : Format) → ones g * hid g + hid g / 2 ≤ ones g * hid g → ⊥
    above binary32 l = not-le_of_lt (lit< tt) l
    above binary64 l = not-le_of_lt (lit< tt) l
only_numbers f (inf s) y q n h = tt
only_numbers f (fin s m e) y q n h = tt

same_pattern : (f : Format) (x y : Float) → T (fits f x) → T (fits f y) → to_bits f (abs x) ≡ to_bits f (abs y) → abs x ≡ abs y
same_pattern f x y p q e = sym (of_bits-to_bits f (abs x) (abs_fits f x p)) ∙ ap (of_bits f) e ∙ of_bits-to_bits f (abs y) (abs_fits f y q)

le_of_pattern : (f : Format) (x y : Float) → T (fits f x) → T (fits f y) → T (number y) → to_bits f (abs x) ≤ to_bits f (abs y) → T (le (abs x) (abs y))
le_of_pattern f x y p q n h =
    let m : T (number (abs x)) = subst T (sym (abs_number x)) (only_numbers f x y q n h) in
    ⊎_elim (λ l. l)
    (λ l.
    let e : abs x ≡ abs y = same_pattern f x y p q (le_antisymm h (pattern_of_le f y x q p (lt→le (abs y) (abs x) l))) in
    subst (λ (z : Float). T (le (abs x) z)) e (float_le_refl (abs x) m))
    (le_or_lt (abs x) (abs y) m (subst T (sym (abs_number y)) n))

-- ---- a size against the float of a pattern that is at most the infinity's
module _ (f : Format) (c : ℕ) (inside : c ≤ ones f * hid f) where
  in_range : c < top f
  in_range = lt_of_le_of_lt inside (room f)
    where
      room : (g : Format) → ones g * hid g < top g
      room binary32 = lit< tt
      room binary64 = lit< tt

  a_number : T (number (of_bits f c))
  a_number = subst (λ (b : Bool). T (not b)) (sym (up_to_infinity f c (le_trans (le_of_eq (mod-eq_of_lt in_range)) inside)) ∙ nan_bits_is f c) tt

  its_pattern : to_bits f (of_bits f c) ≡ c
  its_pattern = to_bits-of_bits f c (twice (top f) in_range) a_number
    where
      twice : (t : ℕ) → c < t → c < 2 * t
      twice t h = omega arith

  its_size : abs (of_bits f c) ≡ of_bits f c
  its_size = abs_is (of_bits f c) ∙ ap (λ (s : Bool). cond s (neg (of_bits f c)) (of_bits f c)) (sym (sign_bit f (of_bits f c) (of_bits-fits f c)) ∙ ap (leb (top f)) its_pattern ∙ lt-leb (top f) c in_range)

  pattern_below : (x : Float) → T (fits f x) → T (le (abs x) (of_bits f c)) → to_bits f (abs x) ≤ c
  pattern_below x p h = rw (its_size, its_pattern) at (pattern_of_le f x (of_bits f c) p (of_bits-fits f c) (rw its_size h))

  pattern_above : (x : Float) → T (fits f x) → T (le (of_bits f c) (abs x)) → c ≤ to_bits f (abs x)
  pattern_above x p h = rw (its_size, its_pattern) at (pattern_of_le f (of_bits f c) x (of_bits-fits f c) p (rw its_size h))

  below_pattern : (x : Float) → T (fits f x) → to_bits f (abs x) ≤ c → T (le (abs x) (of_bits f c))
  below_pattern x p h = rw its_size at (le_of_pattern f x (of_bits f c) p (of_bits-fits f c) a_number (rw (its_size, its_pattern) h))

  number_below : (x : Float) → to_bits f (abs x) ≤ c → T (number x)
  number_below x h = only_numbers f x (of_bits f c) (of_bits-fits f c) a_number (rw (its_size, its_pattern) h)

  pub le_pattern : (x : Float) → T (fits f x) → le (abs x) (of_bits f c) ≡ leb (to_bits f (abs x)) c
  le_pattern x p =
      same_test (le (abs x) (of_bits f c)) (leb (to_bits f (abs x)) c)
      (λ h. le→leb (to_bits f (abs x)) c (pattern_below x p h))
      (λ h. below_pattern x p (leb→le (to_bits f (abs x)) c h))

  same_size : (x : Float) → T (fits f x) → to_bits f (abs x) ≡ c → abs x ≡ of_bits f c
  same_size x p e = same_pattern f x (of_bits f c) p (of_bits-fits f c) (e ∙ sym its_pattern ∙ sym (ap (to_bits f) its_size)) ∙ its_size

  pub eq_pattern : (x : Float) → T (fits f x) → eq (abs x) (of_bits f c) ≡ eqb (to_bits f (abs x)) c
  eq_pattern x p =
      same_test (eq (abs x) (of_bits f c)) (eqb (to_bits f (abs x)) c)
      (λ h. eq→eqb (le_antisymm (pattern_below x p (eq→le (abs x) (of_bits f c) h)) (pattern_above x p (eq→ge (abs x) (of_bits f c) h))))
      (λ h. rw (same_size x p (eqb→eq (to_bits f (abs x)) c h)) (eq_refl (of_bits f c) a_number))

  pub lt_pattern : (x : Float) → T (fits f x) → lt (abs x) (of_bits f c) ≡ ltb (to_bits f (abs x)) c
  lt_pattern x p =
      same_test (lt (abs x) (of_bits f c)) (ltb (to_bits f (abs x)) c)
      (λ h. lt→ltb (to_bits f (abs x)) c (⊎_elim (λ e. absurd (lt_irrefl (of_bits f c) (rw (same_size x p e) at h))) (λ l. l) (eq-or-lt_of_le (pattern_below x p (lt→le (abs x) (of_bits f c) h)))))
      (λ h.
      let l : to_bits f (abs x) < c = ltb→lt (to_bits f (abs x)) c h in
      let n : T (number (abs x)) = subst T (sym (abs_number x)) (number_below x (le_of_lt l)) in
      ⊎_elim (λ k. absurd (not-le_of_lt l (pattern_above x p k))) (λ k. k) (le_or_lt (of_bits f c) (abs x) a_number n))

  -- the same for a pattern r that is known to be that of x's size
  module _ (x : Float) (r : ℕ) (good : fits f x ≡ true) (e : r ≡ to_bits f (abs x)) where
    fitting : T (fits f x)
    fitting = subst T (sym good) tt

    pub upto_true : r ≤ c → le (abs x) (of_bits f c) ≡ true
    upto_true h = le_pattern x fitting ∙ le-leb (to_bits f (abs x)) c (rw e at h)

    pub upto_false : c < r → le (abs x) (of_bits f c) ≡ false
    upto_false h = le_pattern x fitting ∙ lt-leb (to_bits f (abs x)) c (rw e at h)

    pub below_true : r < c → lt (abs x) (of_bits f c) ≡ true
    below_true h = lt_pattern x fitting ∙ lt-ltb (to_bits f (abs x)) c (rw e at h)

    pub below_false : c ≤ r → lt (abs x) (of_bits f c) ≡ false
    below_false h = lt_pattern x fitting ∙ le-ltb (to_bits f (abs x)) c (rw e at h)

    not_below : is_nan x ≡ false → le (of_bits f c) (abs x) ≡ not (lt (abs x) (of_bits f c))
    not_below n = le_not_lt (of_bits f c) (abs x) a_number (subst T (sym (abs_number x)) (rw n tt))

    pub reaches_true : is_nan x ≡ false → c ≤ r → le (of_bits f c) (abs x) ≡ true
    reaches_true n h = not_below n ∙ ap not (below_false h)

    pub reaches_false : is_nan x ≡ false → r < c → le (of_bits f c) (abs x) ≡ false
    reaches_false n h = not_below n ∙ ap not (below_true h)

    pub equals_true : r ≡ c → eq (abs x) (of_bits f c) ≡ true
    equals_true h = eq_pattern x fitting ∙ eq-eqb (to_bits f (abs x)) c (sym e ∙ h)

    pub equals_false : (r ≡ c → ⊥) → eq (abs x) (of_bits f c) ≡ false
    equals_false h = eq_pattern x fitting ∙ ne_eqb (to_bits f (abs x)) c (λ k. h (e ∙ k))

-- how tests for a NaN and of a size by its pattern are read
pub ruleset by_pattern = (is_nan_lem, upto_true, upto_false, below_true, below_false, reaches_true, reaches_false, equals_true, equals_false)

-- ---- the pattern without its highest bit is that of the size
pub size_pattern : (f : Format) (x : Float) → T (fits f x) → T (number x) → to_bits f x % top f ≡ to_bits f (abs x)
size_pattern f x p n =
    let b = to_bits f x % top f in
    let clear : of_bits f b ≡ abs x = clear_sign f x p in
    sym (to_bits-of_bits f b (lower (to_bits f x) (top f) (top_pos f)) (subst (λ (y : Float). T (number y)) (sym clear) (subst T (sym (abs_number x)) n)))
    ∙ ap (to_bits f) clear
  where
    top_pos : (g : Format) → 0 < top g
    top_pos binary32 = lit< tt
    top_pos binary64 = lit< tt

    lower : (a t : ℕ) → 0 < t → a % t < 2 * t
    lower a t h = omega (arith, mod-lt a h)

pub size_of_bits : (x : Float) → fits binary32 x ≡ true → to_bits binary32 x % top binary32 ≡ to_bits binary32 (abs x)
unfolding to_bits abs is_nan
size_of_bits nan p = refl
size_of_bits (inf s) p = size_pattern binary32 (inf s) (T_from_true _ p) tt
size_of_bits (fin s m e) p = size_pattern binary32 (fin s m e) (T_from_true _ p) tt
