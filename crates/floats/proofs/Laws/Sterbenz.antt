-- Sterbenz's lemma, over any format: where neither of two values is more than twice the other, their difference is exact. So the one added to it
-- gives back the other. Assumes nothing.
use Rattle.std.proofs.Common.{◌≡◌, ℕ, suc, ◌+◌, ◌-◌, ◌*◌, ◌^◌, ◌<◌, ◌≤◌, Bool, true, false, cond, not, T, ltb, leb, ℤ, sym, refl, ap, ◌∙◌, subst, ap₂, subst₂, le_refl, le_of_lt, mul-le-mul_right, mul_assoc, mul_comm, add-mul, add_comm, lt_of_mul-lt-mul_right, mul-lt-mul_of_pos_right, mul-pos, mul_right_comm, le_of_mul-le-mul_right, mul_left_comm, arith, leb→le, ltb-false, ltb-true, le-ltb, lt-ltb}
use native.Mathlib.Nat.{mul-sub}
use native.Mathlib.Nat.{eq_of_mul-eq-mul_right}
use lib.Dec.{nleb→lt}
use lib.Ieee.{Float, fin, Format, emax, low, up, down, round, neg, add, sub, le, fits, inf, nan}
use lib.Ieee.Exact.{HasValue}
use lib.Ieee.Fits.{up_pos, down_pos, neg-fits}
use lib.Ieee.Positive.{num, den, positive, den_pos, own_value, value_pos}
use Rattle.floats.proofs.Laws.Order.{neg_neg}
use Rattle.floats.proofs.Laws.Round.{up_power, down_power, mul_power, power_multiple, Holds, round_held, fits→holds, round_of_value, value_neg}
use Rattle.floats.proofs.Laws.Round.{value_same, fractions_of_le}
use Rattle.floats.proofs.Laws.Fractions.{total_sign, total_size, add_rounds, add_alike}
use Rattle.floats.proofs.Laws.Sum.{distance}

-- ---- the distance of two sizes

sub_times : (a b k : ℕ) → (a - b) * k ≡ a * k - b * k
sub_times a b k = mul_comm (a - b) k ∙ mul-sub k a b ∙ ap₂ (λ (x y : ℕ). x - y) (mul_comm k a) (mul_comm k b)

distance_times : (a b k : ℕ) → distance a b * k ≡ distance (a * k) (b * k)
distance_times a b k = add-mul (a - b) (b - a) k ∙ ap₂ (λ (x y : ℕ). x + y) (sub_times a b k) (sub_times b a k)

total_distance : (s : Bool) (a b : ℕ) → total_size s a (not s) b ≡ distance a b
total_distance s a b = go s (ltb a b) refl
  where
    apart : (p : Bool) → ltb a b ≡ p → cond p (b - a) (a - b) ≡ distance a b
    apart true e = omega (arith, ltb-true a b e)
    apart false e = omega (arith, ltb-false a b e)

    go : (s p : Bool) → ltb a b ≡ p → total_size s a (not s) b ≡ distance a b
    go true p e = rw e (apart p e)
    go false p e = rw e (apart p e)

-- ---- it is exact

-- the second of two values as a multiple of the first one's power of two
in_steps : (n r t b c u v k : ℕ) → 0 < t → n * r * c ≡ b * t → r * v ≡ k * (u * t) → b * v ≡ n * k * (u * c)
in_steps n r t b c u v k B w h =
    eq_of_mul-eq-mul_right t B (b * v) (n * k * (u * c))
    (mul_right_comm b v t
    ∙ ap (λ (z : ℕ). z * v) (sym w)
    ∙ mul_right_comm (n * r) c v
    ∙ ap (λ (z : ℕ). z * c) (mul_assoc n r v ∙ ap (λ (z : ℕ). n * z) h)
    ∙ simp (mul_assoc, mul_comm, mul_left_comm))

-- m * 2 ^ e is a / c, and n * 2 ^ d is b / c. Where 2 ^ e is at most 2 ^ d, their distance is a multiple of 2 ^ e. Where it is at most m * 2 ^ e, it is
-- m of these at most.
finer_exact : (f : Format) (z : Bool) (m : ℕ) (e : ℤ) (n : ℕ) (d : ℤ) (a b c : ℕ) → Holds f m (up e) (down e) → 0 < c
    → m * up e * c ≡ a * down e → n * up d * c ≡ b * down d → up e * down d ≤ up d * down e → distance a b ≤ a
    → HasValue (round f z (distance a b) c) z (distance a b) c
finer_exact f z m e n d a b c p C v w l h =
    let coarse = mul_power (up d) (down e) (up_power d) (down_power e) in
    let fine = mul_power (up e) (down d) (up_power e) (down_power d) in
    let j = power_multiple (up d * down e) (up e * down d) coarse fine l in
    let q = distance m (n * 2 ^ j.0) in
    let first : a * down e ≡ m * (up e * c) = sym v ∙ mul_assoc m (up e) c in
    let second : b * down e ≡ n * 2 ^ j.0 * (up e * c) = in_steps n (up d) (down d) b c (up e) (down e) (2 ^ j.0) (down_pos d) w j.1 in
    let is : distance a b * down e ≡ q * (up e * c) =
    distance_times a b (down e) ∙ ap₂ distance first second ∙ sym (distance_times m (n * 2 ^ j.0) (up e * c)) in
    let few : q ≤ m = le_of_mul-le-mul_right (subst₂ (λ (x y : ℕ). x ≤ y) is first (mul-le-mul_right (down e) h)) (mul-pos (up_pos e) C) in
    round_held f z m (up e) (down e) q (distance a b) c (up_power e) (down_power e) p few C (is ∙ sym (mul_assoc q (up e) c))

distance_exact : (f : Format) (z : Bool) (x y : Float) (s : Bool) (a : ℕ) (t : Bool) (b c : ℕ) → 0 < c → T (fits f x) → T (fits f y)
    → HasValue x s a c → HasValue y t b c → a ≤ 2 * b → b ≤ 2 * a → HasValue (round f z (distance a b) c) z (distance a b) c
distance_exact f z (fin s' m e) (fin t' n d) s a t b c C p q v w h k =
    go (leb (up e * down d) (up d * down e)) (leb→le (up e * down d) (up d * down e)) (nleb→lt (up e * down d) (up d * down e))
  where
    go : (o : Bool) → (T o → up e * down d ≤ up d * down e) → (T (not o) → up d * down e < up e * down d)
        → HasValue (round f z (distance a b) c) z (distance a b) c
    go true l g = finer_exact f z m e n d a b c (fits→holds f s' m e p) C v.1 w.1 (l tt) (omega arith)
    go false l g =
        subst (λ (i : ℕ). HasValue (round f z i c) z i c) (add_comm (b - a) (a - b))
        (finer_exact f z n d m e b a c (fits→holds f t' n d q) C w.1 v.1 (le_of_lt (g tt)) (omega arith))
distance_exact f z nan y s a t b c C p q v w h k = elim v [ ]
distance_exact f z (inf _) y s a t b c C p q v w h k = elim v [ ]
distance_exact f z (fin s' m e) nan s a t b c C p q v w h k = elim w [ ]
distance_exact f z (fin s' m e) (inf _) s a t b c C p q v w h k = elim w [ ]

-- Sterbenz's lemma, for a sum of opposite signs and for a difference of like signs
pub sterbenz_add : (f : Format) (x y : Float) (s : Bool) (a b c : ℕ) → 0 < c → T (fits f x) → T (fits f y)
    → HasValue x s a c → HasValue y (not s) b c → a ≤ 2 * b → b ≤ 2 * a → HasValue (add f x y) (total_sign s a (not s) b) (total_size s a (not s) b) c
sterbenz_add f x y s a b c C p q v w h k =
    let z = total_sign s a (not s) b in
    rw (add_rounds f x y s a (not s) b c C v w)
    (subst (λ (i : ℕ). HasValue (round f z i c) z i c) (sym (total_distance s a b)) (distance_exact f z x y s a (not s) b c C p q v w h k))

pub sterbenz_sub : (f : Format) (x y : Float) (s : Bool) (a b c : ℕ) → 0 < c → T (fits f x) → T (fits f y)
    → HasValue x s a c → HasValue y s b c → a ≤ 2 * b → b ≤ 2 * a → HasValue (sub f x y) (total_sign s a (not s) b) (total_size s a (not s) b) c
unfolding sub
sterbenz_sub f x y s a b c C p q v w h k = sterbenz_add f x (neg y) s a b c C p (neg-fits f y q) v (value_neg y s b c w) h k

-- ---- an exact sum or difference gives back its first operand

-- ±n is ±a ± b, and ±b taken away leaves ±a
abbrev Leaves : Bool → ℕ → Bool → ℕ → Bool → ℕ → Type 0
Leaves u n t b s a = (total_sign u n (not t) b ≡ s) × (total_size u n (not t) b ≡ a)

total_leaves : (s : Bool) (a : ℕ) (t : Bool) (b : ℕ) → 0 < a → Leaves (total_sign s a t b) (total_size s a t b) t b s a
total_leaves true a true b h = rw (le-ltb (a + b) b (omega arith), lt-ltb b (a + b) (omega arith)) (refl, omega arith)
total_leaves false a false b h = rw (le-ltb (a + b) b (omega arith)) (refl, omega arith)
total_leaves false a true b h = go (ltb a b) refl
  where
    go : (p : Bool) → ltb a b ≡ p → Leaves (cond p true false) (cond p (b - a) (a - b)) true b false a
    go true e = let l = ltb-true a b e in rw (lt-ltb (b - a) b (omega arith)) (refl, omega arith)
    go false e = (refl, omega (arith, ltb-false a b e))
total_leaves true a false b h = go (ltb a b) (ltb b a) refl refl
  where
    go : (p q : Bool) → ltb a b ≡ p → ltb b a ≡ q → Leaves (cond p false q) (cond p (b - a) (a - b)) false b true a
    go true q e d = let l = ltb-true a b e in rw (lt-ltb (b - a) b (omega arith)) (refl, omega arith)
    go false true e d = (refl, omega (arith, ltb-false a b e))
    go false false e d = let l = ltb-false a b e in let g = ltb-false b a d in rw (lt-ltb (a - b) b (omega arith)) (refl, omega arith)

pub exact_add_back : (f : Format) (x y : Float) (s : Bool) (a : ℕ) (t : Bool) (b c : ℕ) → 0 < c → 0 < a → T (fits f x)
    → HasValue x s a c → HasValue y t b c → HasValue (add f x y) (total_sign s a t b) (total_size s a t b) c → sub f (add f x y) y ≡ x
unfolding sub
exact_add_back f x y s a t b c C A p v w z =
    let e = total_leaves s a t b A in
    add_rounds f (add f x y) (neg y) (total_sign s a t b) (total_size s a t b) (not t) b c C z (value_neg y t b c w)
    ∙ rw (e.0, e.1) (round_of_value f x s a c C p v)

pub exact_sub_back : (f : Format) (x y : Float) (s : Bool) (a : ℕ) (t : Bool) (b c : ℕ) → 0 < c → 0 < a → T (fits f x)
    → HasValue x s a c → HasValue y t b c → HasValue (sub f x y) (total_sign s a (not t) b) (total_size s a (not t) b) c → add f (sub f x y) y ≡ x
unfolding sub
exact_sub_back f x y s a t b c C A p v w z =
    subst (λ (u : Float). add f (sub f x y) u ≡ x) (neg_neg y) (exact_add_back f x (neg y) s a (not t) b c C A p v (value_neg y t b c w) z)

-- ---- by the order

double : (n u : ℕ) → n * u + n * u ≡ n * (2 * u)
double n u = rw (mul_left_comm n 2 u) (omega arith)

double_exact : (f : Format) (y : Float) → T (fits f y) → HasValue y false (num y) (den y) → num y + num y < 2 ^ suc (emax f) * den y
    → HasValue (add f y y) false (num y + num y) (den y)
double_exact f (fin t n d) q w h =
    let k = fits→holds f t n d q in
    let low_enough : down d ≤ 2 * up d * 2 ^ low f = rw (mul_assoc 2 (up d) (2 ^ low f)) (omega (arith, k.lowest)) in
    rw (add_alike f (fin t n d) (fin t n d) false (n * up d) (n * up d) (down d) (down_pos d) w w)
    (round_held f false n (2 * up d) (down d) n (n * up d + n * up d) (down d) (mul_power 2 (up d) (1, refl) (up_power d)) (down_power d)
    (record { digits = k.digits; lowest = low_enough; under = subst (λ (z : ℕ). z < 2 ^ suc (emax f) * down d) (double n (up d)) h })
    (le_refl n) (down_pos d) (ap (λ (z : ℕ). z * down d) (double n (up d))))
double_exact f nan q w h = elim w [ ]
double_exact f (inf _) q w h = elim w [ ]

under_top : (f : Format) (x : Float) → T (fits f x) → T (positive x) → num x < 2 ^ suc (emax f) * den x
under_top f (fin s m e) p X = (fits→holds f s m e p).under
under_top f nan p X = elim X [ ]
under_top f (inf _) p X = elim X [ ]

-- What is at most y + y is at most 2 y: where 2 y is below a value of the format, y + y is exact.
at_most_double : (f : Format) (x y : Float) → T (fits f x) → T (fits f y) → T (positive x) → T (positive y) → T (le x (add f y y))
    → num x * den y ≤ 2 * (num y * den x)
at_most_double f x y p q X Y h =
    let a = num x * den y in
    let b = 2 * (num y * den x) in
    go (leb a b) (leb→le a b) (nleb→lt a b)
  where
    top : ℕ
    top = 2 ^ suc (emax f)

    below_top : 2 * (num y * den x) < num x * den y → num y + num y < top * den y
    below_top l =
        lt_of_mul-lt-mul_right (den x)
        (omega (arith, mul-lt-mul_of_pos_right (under_top f x p X) (den_pos y), add-mul (num y) (num y) (den x), mul_right_comm top (den x) (den y)))

    go : (o : Bool) → (T o → num x * den y ≤ 2 * (num y * den x)) → (T (not o) → 2 * (num y * den x) < num x * den y)
        → num x * den y ≤ 2 * (num y * den x)
    go true g l = g tt
    go false g l =
        let e = double_exact f y q (own_value y Y) (below_top (l tt)) in
        let g = fractions_of_le x (add f y y) false (num x) (den x) false (num y + num y) (den y) (own_value x X) e h in
        omega (arith, add-mul (num y) (num y) (den x))

-- x and y above zero, neither more than twice the other
module _ (f : Format) (x y : Float) (p : T (fits f x)) (q : T (fits f y)) (X : T (positive x)) (Y : T (positive y))
    (h : T (le x (add f y y))) (k : T (le y (add f x x))) where
  abbrev a : ℕ
  a = num x * den y

  abbrev b : ℕ
  b = num y * den x

  abbrev c : ℕ
  c = den x * den y

  c_pos : 0 < c
  c_pos = mul-pos (den_pos x) (den_pos y)

  first : HasValue x false a c
  first =
      let e = sym (mul_assoc (num x) (den x) (den y)) ∙ mul_right_comm (num x) (den x) (den y) in
      value_same x false (num x) (den x) a c (den_pos x) e (own_value x X)

  second : HasValue y false b c
  second = value_same y false (num y) (den y) b c (den_pos y) (sym (mul_assoc (num y) (den x) (den y))) (own_value y Y)

  a_pos : 0 < a
  a_pos = value_pos x a c X c_pos first

  a_at_most : a ≤ 2 * b
  a_at_most = at_most_double f x y p q X Y h

  b_at_most : b ≤ 2 * a
  b_at_most = at_most_double f y x q p Y X k

  pub sterbenz_sub_back : add f (sub f x y) y ≡ x
  sterbenz_sub_back =
      let e = sterbenz_sub f x y false a b c c_pos p q first second a_at_most b_at_most in
      exact_sub_back f x y false a false b c c_pos a_pos p first second e

  pub sterbenz_add_back : sub f (add f (neg x) y) y ≡ neg x
  sterbenz_add_back =
      let z = neg-fits f x p in
      let v = value_neg x false a c first in
      let e = sterbenz_add f (neg x) y true a b c c_pos z q v second a_at_most b_at_most in
      exact_add_back f (neg x) y true a false b c c_pos a_pos z v second e
