-- Where arithmetic is exact: sums and differences of multiples of 2 ^ -g whose count fits the format's digits, products and quotients with a power of two that
-- neither underflow nor overflow, and every remainder. And a rounded multiple of 2 ^ -g is one. Assumes nothing.
use Rattle.std.proofs.Common.{◌≡◌, ℕ, zero, suc, ◌+◌, ◌-◌, ◌*◌, ◌%◌, ◌^◌, ◌<◌, ◌≤◌, Bool, true, false, not, ◌&&◌, T, ltb, leb, ◌⊎◌, ℤ, sym, refl, ap, ◌∙◌, subst, ap₂, inl, inr, suc-le-suc, zero-le, le_trans, le_of_eq, le_refl, lt_of_lt_of_le, le_of_suc-le-suc, lt_of_le_of_lt, le_of_lt, lt_irrefl, mul-le-mul_right, mod-lt, zero-lt-suc, mul_assoc, mul_comm, eq-or-lt_of_le, mul-le-mul_left, mul-lt-mul_of_pos_right, mul-pos, one-mul, lt_of_not-le, mul-one, mul_right_comm, le-mul_of_pos_right, mul_left_comm, sub-le, arith, lit<, leb→le, pow_pos, pow_mono}
use native.Mathlib.Nat.{pow-succ', mod-le, eq_of_mul-eq-mul_right}
use lib.Dec.{nleb→lt}
use lib.Pow.{pow-lt}
use lib.Ieee.{Float, fin, Format, binary32, binary64, prec, emax, low, up, down, unlike, round, neg, add, sub, mul, div, rem, le, lt, eq, fits, inf, nan}
use lib.Ieee.Exact.{HasValue}
use lib.Ieee.Fits.{up_pos, down_pos, round-fits, two, two-le_pos}
use lib.Ieee.Order.{round_mono}
use lib.Ieee.Scale.{finite}
use lib.Ieee.Positive.{num, den, den_pos}
use Rattle.floats.specs.Compare.{abs, is_negative}
use Rattle.floats.proofs.Laws.Order.{+0}
use Rattle.floats.proofs.Laws.Fractions.{total_sign, total_size, add_alike, add_opposite, add_rounds, sub_neg, mul_rounds, div_rounds, mod_scale, mod_same, common, common_swapped, digits_pos, rem_rounds}
use Rattle.floats.proofs.Laws.Round.{le_times, Power, power_pos, up_power, down_power, mul_power, power_multiple, Holds, round_held, fits→holds, own_fraction, AtMost, le_of_fractions, lt_of_fractions, fractions_of_le, nonzero_size, value_finite, value_sign, value_abs, value_same, value_neg, finite_any_sign, round_neg, round_sign}

-- ---- a count of 2 ^ -g

wide : (f : Format) (m g : ℕ) → m ≤ 2 ^ prec f → m < 2 ^ suc (emax f) * 2 ^ g
wide f m g h = lt_of_le_of_lt h (lt_of_lt_of_le (pow-lt (beyond f)) (le-mul_of_pos_right (2 ^ suc (emax f)) (pow_pos g)))
  where
    beyond : (f : Format) → prec f < suc (emax f)
    beyond binary32 = lit< tt
    beyond binary64 = lit< tt

-- up to 2 ^ prec the format holds every count
pub round_count : (f : Format) (s : Bool) (a g : ℕ) → g ≤ low f → a ≤ 2 ^ prec f → HasValue (round f s a (2 ^ g)) s a (2 ^ g)
round_count f s a g h k = go (eq-or-lt_of_le k)
  where
    lowest : (u : ℕ) → 0 < u → 2 ^ g ≤ u * 2 ^ low f
    lowest u U = le_times (2 ^ g) u (2 ^ low f) U (pow_mono h)

    go : (a ≡ 2 ^ prec f) ⊎ (a < 2 ^ prec f) → HasValue (round f s a (2 ^ g)) s a (2 ^ g)
    go (inl e) =
        let u = 2 ^ prec f in
        round_held f s 1 u (2 ^ g) 1 a (2 ^ g) (prec f, refl) (g, refl)
        (record { digits = pow-lt (two-le_pos (prec f) (two f)); lowest = lowest u (pow_pos (prec f)); under = wide f (1 * u) g (le_of_eq (one-mul u)) })
        (le_refl 1) (pow_pos g) (ap (λ (z : ℕ). z * 2 ^ g) (e ∙ sym (one-mul u)))
    go (inr l) =
        round_held f s a 1 (2 ^ g) a a (2 ^ g) (0, refl) (g, refl)
        (record { digits = l; lowest = lowest 1 (zero-lt-suc 0); under = wide f (a * 1) g (le_trans (le_of_eq (mul-one a)) k) })
        (le_refl a) (pow_pos g) (ap (λ (z : ℕ). z * 2 ^ g) (sym (mul-one a)))

-- ---- sums and differences of counts

-- of any signs
pub add_total_exact : (f : Format) (x y : Float) (s : Bool) (a : ℕ) (t : Bool) (b g : ℕ) → g ≤ low f → total_size s a t b ≤ 2 ^ prec f
    → HasValue x s a (2 ^ g) → HasValue y t b (2 ^ g) → HasValue (add f x y) (total_sign s a t b) (total_size s a t b) (2 ^ g)
add_total_exact f x y s a t b g h k v w = rw (add_rounds f x y s a t b (2 ^ g) (pow_pos g) v w) (round_count f (total_sign s a t b) (total_size s a t b) g h k)

pub sub_total_exact : (f : Format) (x y : Float) (s : Bool) (a : ℕ) (t : Bool) (b g : ℕ) → g ≤ low f → total_size s a (not t) b ≤ 2 ^ prec f
    → HasValue x s a (2 ^ g) → HasValue y t b (2 ^ g) → HasValue (sub f x y) (total_sign s a (not t) b) (total_size s a (not t) b) (2 ^ g)
sub_total_exact f x y s a t b g h k v w = rw (sub_neg f x y) (add_total_exact f x (neg y) s a (not t) b g h k v (value_neg y t b (2 ^ g) w))

-- of like signs
pub add_exact : (f : Format) (x y : Float) (s : Bool) (a b g : ℕ) → g ≤ low f → a + b ≤ 2 ^ prec f → HasValue x s a (2 ^ g) → HasValue y s b (2 ^ g)
    → HasValue (add f x y) s (a + b) (2 ^ g)
add_exact f x y s a b g h k v w = rw (add_alike f x y s a b (2 ^ g) (pow_pos g) v w) (round_count f s (a + b) g h k)

-- of opposite signs, the larger first
pub add_opposite_exact : (f : Format) (x y : Float) (s : Bool) (a b g : ℕ) → g ≤ low f → b ≤ a → a - b ≤ 2 ^ prec f → HasValue x s a (2 ^ g)
    → HasValue y (not s) b (2 ^ g)
    → HasValue (add f x y) (s && ltb b a) (a - b) (2 ^ g)
add_opposite_exact f x y s a b g h l k v w = rw (add_opposite f x y s a b (2 ^ g) (pow_pos g) l v w) (round_count f (s && ltb b a) (a - b) g h k)

pub sub_exact : (f : Format) (x y : Float) (s : Bool) (a b g : ℕ) → g ≤ low f → b ≤ a → a - b ≤ 2 ^ prec f → HasValue x s a (2 ^ g) → HasValue y s b (2 ^ g)
    → HasValue (sub f x y) (s && ltb b a) (a - b) (2 ^ g)
sub_exact f x y s a b g h l k v w = rw (sub_neg f x y) (add_opposite_exact f x (neg y) s a b g h l k v (value_neg y s b (2 ^ g) w))

-- ---- rounding never leaves the multiples of 2 ^ -g

-- of two powers of two that differ the larger is twice the smaller at least
power_double : (u v : ℕ) → Power u → Power v → u < v → 2 * u ≤ v
power_double u v p q h = let k = power_multiple v u q p (le_of_lt h) in go k.0 k.1
  where
    go : (j : ℕ) → v ≡ 2 ^ j * u → 2 * u ≤ v
    go zero e = absurd (lt_irrefl u (subst (λ (z : ℕ). u < z) (e ∙ one-mul u) h))
    go (suc j) e = le_trans (mul-le-mul_right u (pow_mono (suc-le-suc zero-le))) (le_of_eq (sym e))

one_more : (p : ℕ) → 0 < p → p ≡ suc (p - 1)
one_more p h = omega arith

-- 2 ^ (prec - 1) counts take all the digits of a value: the last of them is a count at least
whole_counts : (p m u v : ℕ) → 0 < p → Power u → Power v → m < 2 ^ p → 2 ^ (p - 1) * v ≤ m * u → v ≤ u
whole_counts p m u v P q r d h = le_of_suc-le-suc (lt_of_not-le (λ (l : suc u ≤ v). no l))
  where
    no : u < v → ⊥
    no l =
        let a : m * (2 * u) ≤ m * v = mul-le-mul_left m (power_double u v q r l) in
        let b : m * v < 2 ^ p * v = mul-lt-mul_of_pos_right d (power_pos v r) in
        let c : 2 ^ p * v ≡ 2 * (2 ^ (p - 1) * v) = ap (λ (z : ℕ). z * v) (ap (λ (z : ℕ). 2 ^ z) (one_more p P) ∙ pow-succ' 2 (p - 1)) ∙ mul_assoc 2 (2 ^ (p - 1)) v in
        omega arith

-- a value of the format that has 2 ^ (prec - 1) counts at least is a whole number of them
pub large_on_grid : (f : Format) (x : Float) (g : ℕ) → T (fits f x) → T (finite x) → 2 ^ (prec f - 1) * den x ≤ num x * 2 ^ g
    → (a : ℕ) × HasValue x (is_negative x) a (2 ^ g)
unfolding is_negative
large_on_grid f (fin s m e) g t p h =
    let u = up e * 2 ^ g in
    let w = mul_power (up e) (2 ^ g) (up_power e) (g, refl) in
    let k = power_multiple u (down e) w (down_power e) (whole_counts (prec f) m u (down e) (two-le_pos (prec f) (two f)) w (down_power e) (fits→holds f s m e t).digits (le_trans h (le_of_eq (mul_assoc m (up e) (2 ^ g))))) in
    (m * 2 ^ k.0, (refl, mul_assoc m (up e) (2 ^ g) ∙ ap (λ (z : ℕ). m * z) k.1 ∙ sym (mul_assoc m (2 ^ k.0) (down e))))
large_on_grid f nan g t p h = elim p [ ]
large_on_grid f (inf _) g t p h = elim p [ ]

on_grid : (f : Format) (a g : ℕ) → g ≤ low f → T (finite (round f false a (2 ^ g))) → (b : ℕ) × HasValue (round f false a (2 ^ g)) false b (2 ^ g)
on_grid f a g h t = go (leb a (2 ^ prec f)) (leb→le a (2 ^ prec f)) (nleb→lt a (2 ^ prec f))
  where
    x : Float
    x = round f false a (2 ^ g)

    top : Float
    top = round f false (2 ^ prec f) (2 ^ g)

    large : 2 ^ prec f < a → (b : ℕ) × HasValue x (is_negative x) b (2 ^ g)
    large l =
        let v = round_count f false (2 ^ prec f) g h (le_refl (2 ^ prec f)) in
        let k : AtMost false (2 ^ prec f) (2 ^ g) false (num x) (den x) =
        subst (λ (s : Bool). AtMost false (2 ^ prec f) (2 ^ g) s (num x) (den x)) (round_sign f false a (2 ^ g))
        (fractions_of_le top x false (2 ^ prec f) (2 ^ g) (is_negative x) (num x) (den x) v (own_fraction x t)
        (round_mono f (2 ^ prec f) (2 ^ g) a (2 ^ g) (pow_pos g) (pow_pos g) (mul-le-mul_right (2 ^ g) (le_of_lt l)))) in
        large_on_grid f x g (round-fits f false a (2 ^ g)) t (le_trans (mul-le-mul_right (den x) (pow_mono (sub-le (prec f) 1))) (omega arith))

    go : (b : Bool) → (T b → a ≤ 2 ^ prec f) → (T (not b) → 2 ^ prec f < a) → (b : ℕ) × HasValue x false b (2 ^ g)
    go true j k = (a, round_count f false a g h (j tt))
    go false j k = subst (λ (s : Bool). (b : ℕ) × HasValue x s b (2 ^ g)) (round_sign f false a (2 ^ g)) (large (k tt))

-- so a rounded fraction over 2 ^ g is still one
pub round_on_grid : (f : Format) (s : Bool) (a g : ℕ) → g ≤ low f → T (finite (round f s a (2 ^ g))) → (b : ℕ) × HasValue (round f s a (2 ^ g)) s b (2 ^ g)
round_on_grid f false a g h t = on_grid f a g h t
round_on_grid f true a g h t =
    let r = on_grid f a g h (subst T (finite_any_sign f true a (2 ^ g)) t) in
    (r.0, rw (round_neg f false a (2 ^ g)) (value_neg (round f false a (2 ^ g)) false r.0 (2 ^ g) r.1))

-- and so is every finite sum of two
pub add_on_grid : (f : Format) (x y : Float) (s : Bool) (a : ℕ) (t : Bool) (b g : ℕ) → g ≤ low f → HasValue x s a (2 ^ g) → HasValue y t b (2 ^ g) → T (finite (add f x y))
    → (n : ℕ) × HasValue (add f x y) (total_sign s a t b) n (2 ^ g)
add_on_grid f x y s a t b g h v w p =
    let e = add_rounds f x y s a t b (2 ^ g) (pow_pos g) v w in
    let k = round_on_grid f (total_sign s a t b) (total_size s a t b) g h (subst (λ (z : Float). T (finite z)) e p) in
    (k.0, rw e k.1)

-- ---- products and quotients with a power of two

-- x * 2 ^ i / 2 ^ j for a value x of the format, where no digit is lost below and the result does not overflow
pub round_scaled : (f : Format) (s : Bool) (x : Float) (i j : ℕ) → T (fits f x) → T (finite x) → den x * 2 ^ j ≤ 2 ^ low f * 2 ^ i
    → num x * 2 ^ i < 2 ^ suc (emax f) * (den x * 2 ^ j)
    → HasValue (round f s (num x * 2 ^ i) (den x * 2 ^ j)) s (num x * 2 ^ i) (den x * 2 ^ j)
round_scaled f s (fin r m e) i j p q h k =
    let u = up e * 2 ^ i in
    let v = down e * 2 ^ j in
    let is : m * up e * 2 ^ i ≡ m * u = mul_assoc m (up e) (2 ^ i) in
    round_held f s m u v m (m * up e * 2 ^ i) v (mul_power (up e) (2 ^ i) (up_power e) (i, refl)) (mul_power (down e) (2 ^ j) (down_power e) (j, refl))
    (record {
      digits = (fits→holds f r m e p).digits;
      lowest = le_trans (le_times v (up e) (2 ^ low f * 2 ^ i) (up_pos e) h) (le_of_eq (ap (λ (z : ℕ). up e * z) (mul_comm (2 ^ low f) (2 ^ i)) ∙ sym (mul_assoc (up e) (2 ^ i) (2 ^ low f))));
      under = subst (λ (z : ℕ). z < 2 ^ suc (emax f) * v) is k;
    }) (le_refl m) (mul-pos (down_pos e) (pow_pos j)) (ap (λ (z : ℕ). z * v) is)
round_scaled f s nan i j p q h k = elim q [ ]
round_scaled f s (inf _) i j p q h k = elim q [ ]

pub mul_power_exact : (f : Format) (x y : Float) (t : Bool) (i j : ℕ) → T (fits f x) → T (finite x) → HasValue y t (2 ^ i) (2 ^ j)
    → den x * 2 ^ j ≤ 2 ^ low f * 2 ^ i → num x * 2 ^ i < 2 ^ suc (emax f) * (den x * 2 ^ j)
    → HasValue (mul f x y) (unlike (is_negative x) t) (num x * 2 ^ i) (den x * 2 ^ j)
mul_power_exact f x y t i j p q v h k =
    rw (mul_rounds f x y (is_negative x) (num x) (den x) t (2 ^ i) (2 ^ j) (den_pos x) (pow_pos j) (own_fraction x q) v) (round_scaled f (unlike (is_negative x) t) x i j p q h k)

pub div_power_exact : (f : Format) (x y : Float) (t : Bool) (i j : ℕ) → T (fits f x) → T (finite x) → HasValue y t (2 ^ j) (2 ^ i)
    → den x * 2 ^ j ≤ 2 ^ low f * 2 ^ i → num x * 2 ^ i < 2 ^ suc (emax f) * (den x * 2 ^ j) → HasValue (div f x y) (unlike (is_negative x) t) (num x * 2 ^ i) (den x * 2 ^ j)
div_power_exact f x y t i j p q v h k =
    rw (div_rounds f x y (is_negative x) (num x) (den x) t (2 ^ j) (2 ^ i) (den_pos x) (pow_pos i) (pow_pos j) (own_fraction x q) v, mul_comm (2 ^ j) (den x))
    (round_scaled f (unlike (is_negative x) t) x i j p q h k)

-- ---- the remainder

-- r / c is q * u / v
reduced : (r q u v w c : ℕ) → 0 < w → r * (v * w) ≡ u * w * q * c → r * v ≡ q * u * c
reduced r q u v w c W h = eq_of_mul-eq-mul_right w W (r * v) (q * u * c) (mul_assoc r v w ∙ h ∙ simp (mul_assoc, mul_comm, mul_left_comm))

in_front : (m a b : ℕ) → m * a * b ≡ a * b * m
in_front m a b = mul_assoc m a b ∙ mul_comm m (a * b)

multiple_of : (m a b k u : ℕ) → a * b ≡ k * u → m * a * b ≡ u * (m * k)
multiple_of m a b k u h = mul_assoc m a b ∙ ap (λ (z : ℕ). m * z) h ∙ sym (mul_assoc m k u) ∙ mul_comm (m * k) u

-- The remainder of a value of the format by another, m * 2 ^ e and n * 2 ^ d, is a multiple of the smaller power: m of these at most, or fewer than n.
mod_exact : (f : Format) (s : Bool) (m : ℕ) (e : ℤ) (n : ℕ) (d : ℤ) (a b c : ℕ) → Holds f m (up e) (down e) → Holds f n (up d) (down d) → 0 < n → 0 < c
    → m * up e * c ≡ a * down e → n * up d * c ≡ b * down d → HasValue (round f s (a % b) c) s (a % b) c
mod_exact f s m e n d a b c p q N C v w = go (leb u r) (leb→le u r) (nleb→lt u r)
  where
    u : ℕ
    u = up e * down d

    r : ℕ
    r = up d * down e

    pu : Power u
    pu = mul_power (up e) (down d) (up_power e) (down_power d)

    pw : Power r
    pw = mul_power (up d) (down e) (up_power d) (down_power e)

    is : a % b * (down e * down d) ≡ m * up e * down d % (n * up d * down e) * c
    is = sym (mod_same a b c (m * up e * down d) (n * up d * down e) (down e * down d) C (mul-pos (down_pos e) (down_pos d)) (common (m * up e) (down e) (down d) a c v) (common_swapped (n * up d) (down d) (down e) b c w))

    go : (t : Bool) → (T t → u ≤ r) → (T (not t) → r < u) → HasValue (round f s (a % b) c) s (a % b) c
    go true h k =
        let j = power_multiple r u pw pu (h tt) in
        let z = m % (n * 2 ^ j.0) in
        let eq : m * up e * down d % (n * up d * down e) ≡ u * z = ap₂ (λ (x y : ℕ). x % y) (in_front m (up e) (down d)) (multiple_of n (up d) (down e) (2 ^ j.0) u j.1) ∙ mod_scale u m (n * 2 ^ j.0) (power_pos u pu) in
        round_held f s m (up e) (down e) z (a % b) c (up_power e) (down_power e) p (mod-le m (n * 2 ^ j.0)) C (reduced (a % b) z (up e) (down e) (down d) c (down_pos d) (is ∙ ap (λ (y : ℕ). y * c) eq))
    go false h k =
        let j = power_multiple u r pu pw (le_of_lt (k tt)) in
        let z = m * 2 ^ j.0 % n in
        let eq : m * up e * down d % (n * up d * down e) ≡ r * z = ap₂ (λ (x y : ℕ). x % y) (multiple_of m (up e) (down d) (2 ^ j.0) r j.1) (in_front n (up d) (down e)) ∙ mod_scale r (m * 2 ^ j.0) n (power_pos r pw) in
        round_held f s n (up d) (down d) z (a % b) c (up_power d) (down_power d) q (le_of_lt (mod-lt (m * 2 ^ j.0) N)) C (reduced (a % b) z (up d) (down d) (down e) c (down_pos e) (ap (λ (y : ℕ). a % b * y) (mul_comm (down d) (down e)) ∙ is ∙ ap (λ (y : ℕ). y * c) eq))

pub rem_exact : (f : Format) (x y : Float) (s : Bool) (a : ℕ) (t : Bool) (b c : ℕ) → T (fits f x) → T (fits f y) → 0 < c → 0 < b → HasValue x s a c
    → HasValue y t b c → HasValue (rem f x y) s (a % b) c
rem_exact f (fin s' m e) (fin t' n d) s a t b c p q C B v w =
    rw (rem_rounds f (fin s' m e) (fin t' n d) s a t b c C B v w)
    (mod_exact f s m e n d a b c (fits→holds f s' m e p) (fits→holds f t' n d q) (digits_pos n d b c B w.1) C v.1 w.1)
rem_exact f nan y s a t b c p q C B v w = elim v [ ]
rem_exact f (inf _) y s a t b c p q C B v w = elim v [ ]
rem_exact f (fin s' m e) nan s a t b c p q C B v w = elim w [ ]
rem_exact f (fin s' m e) (inf _) s a t b c p q C B v w = elim w [ ]

-- for two finite values of the format, the divisor not zero
module _ (f : Format) (x y : Float) (p : T (fits f x)) (q : T (fits f y)) (h : T (finite x)) (k : T (finite y)) (z : T (not (eq y +0))) where
  both_pos : 0 < den x * den y
  both_pos = mul-pos (den_pos x) (den_pos y)

  divisor_pos : 0 < num y * den x
  divisor_pos = mul-pos (nonzero_size y (is_negative y) (num y) (den y) (den_pos y) (own_fraction y k) z) (den_pos x)

  left : HasValue x (is_negative x) (num x * den y) (den x * den y)
  left = value_same x (is_negative x) (num x) (den x) (num x * den y) (den x * den y) (den_pos x) (sym (mul_assoc (num x) (den x) (den y)) ∙ mul_right_comm (num x) (den x) (den y)) (own_fraction x h)

  right : HasValue y (is_negative y) (num y * den x) (den x * den y)
  right = value_same y (is_negative y) (num y) (den y) (num y * den x) (den x * den y) (den_pos y) (sym (mul_assoc (num y) (den x) (den y))) (own_fraction y k)

  pub rem_value : HasValue (rem f x y) (is_negative x) (num x * den y % (num y * den x)) (den x * den y)
  rem_value = rem_exact f x y (is_negative x) (num x * den y) (is_negative y) (num y * den x) (den x * den y) p q both_pos divisor_pos left right

  pub rem_finite : T (finite (rem f x y))
  rem_finite = value_finite (rem f x y) (is_negative x) (num x * den y % (num y * den x)) (den x * den y) rem_value

  pub rem_sign : is_negative (rem f x y) ≡ is_negative x
  rem_sign = value_sign (rem f x y) (is_negative x) (num x * den y % (num y * den x)) (den x * den y) rem_value

  size : HasValue (abs (rem f x y)) false (num x * den y % (num y * den x)) (den x * den y)
  size = value_abs (rem f x y) (is_negative x) (num x * den y % (num y * den x)) (den x * den y) rem_value

  pub rem_below : T (lt (abs (rem f x y)) (abs y))
  rem_below =
      let c = den x * den y in
      let l : num x * den y % (num y * den x) * c < num y * den x * c = mul-lt-mul_of_pos_right (mod-lt (num x * den y) divisor_pos) both_pos in
      lt_of_fractions (abs (rem f x y)) (abs y) false (num x * den y % (num y * den x)) c false (num y * den x) c both_pos both_pos size (value_abs y (is_negative y) (num y * den x) c right) (omega arith)

  pub rem_at_most : T (le (abs (rem f x y)) (abs x))
  rem_at_most =
      let c = den x * den y in
      let l : num x * den y % (num y * den x) * c ≤ num x * den y * c = mul-le-mul_right c (mod-le (num x * den y) (num y * den x)) in
      le_of_fractions (abs (rem f x y)) (abs x) false (num x * den y % (num y * den x)) c false (num x * den y) c both_pos both_pos size (value_abs x (is_negative x) (num x * den y) c left) (omega arith)
