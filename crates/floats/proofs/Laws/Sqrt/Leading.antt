-- The root of a positive value of a format, in units of the format's smallest value: it is q * 2 ^ k units, between which and the next value of the format, either way, the midpoint is
-- not √x and lies on the far side of it. Assumes nothing.
use Rattle.std.proofs.Common.{◌≡◌, ℕ, zero, suc, ◌+◌, ◌-◌, ◌*◌, ◌/◌, ◌%◌, ◌^◌, ◌<◌, ◌≤◌, Bool, true, false, not, T, leb, ◌⊎◌, sym, ap, ◌∙◌, subst, inl, inr, zero-le, le_trans, le_of_eq, lt_of_lt_of_le, le_of_suc-le-suc, not-suc-le-zero, lt_of_le_of_lt, le_of_lt, mul-le-mul_right, mul_assoc, mul_comm, add-mul, eq-zero-or-pos, mul-le-mul, lt_of_mul-lt-mul_right, mul-le-mul_left, mul-lt-mul_of_pos_right, mul-pos, one-mul, pow-suc, lt_of_not-le, le-div_iff_mul-le, zero-mul, not-le_of_lt, le-mul_of_pos_right, div-mul-le_self, le_of_mul-le-mul_right, mul_left_comm, add-one, add-one-le, arith, lit≤, leb→le, pow_pos, pow_mono, pow-add, shl_lt}
use native.Mathlib.Nat.{mul-mul-mul_comm, mul-lt-mul_of_pos_left, eq_of_mul-eq-mul_right, mul-mod_left, pow-succ', lt-div-mul-add}
use lib.Dec.{nleb→lt}
use lib.Arith.{lt_of_le-ne}
use lib.Ieee.{Float, Format, binary32, binary64, prec, emax, low, size, units, fits}
use lib.Ieee.Digits.{size-lt, size_reaches, back}
use lib.Ieee.Fits.{two}
use lib.Ieee.Exact.{HasValue, units_val}
use lib.Ieee.Positive.{num, den, den_pos, positive, positive-finite, first_pos, value_pos}
use Rattle.floats.specs.Sqrt.{whole_root, square, sqrt}
use Rattle.floats.proofs.Laws.Sqrt.WholeRoot.{IsRoot, lt_of_squares, le_of_squares, whole_root_is}
use Rattle.floats.proofs.Laws.Sqrt.Rounding.{twice_pow}
use Rattle.floats.proofs.Laws.Sqrt.Values.{InUnits, in_units, value_of}
use Rattle.floats.proofs.Laws.Sqrt.Digits.{even_not_odd, odd_square, root_by_digits}
use Rattle.floats.proofs.Laws.Sqrt.Special.{sqrt_positive}

-- ---- a value of at most p digits

-- none lies strictly between c * 2 ^ k and (c + 1) * 2 ^ k for a c of p digits
pub next_value : (p c k m j : ℕ) → 2 ≤ p → 2 ^ (p - 1) ≤ c → m < 2 ^ p → c * 2 ^ k < m * 2 ^ j → (c + 1) * 2 ^ k ≤ m * 2 ^ j
next_value p c k m j P full few l = go (leb k j) (leb→le k j) (nleb→lt k j)
  where
    room : (j k p : ℕ) → 2 ≤ p → j < k → p + j ≤ p - 1 + k
    room j k p P h = omega arith

    go : (b : Bool) → (T b → k ≤ j) → (T (not b) → j < k) → (c + 1) * 2 ^ k ≤ m * 2 ^ j
    go true a b =
        let e : m * 2 ^ (j - k) * 2 ^ k ≡ m * 2 ^ j = mul_assoc m (2 ^ (j - k)) (2 ^ k) ∙ ap (λ (x : ℕ). m * x) (sym (pow-add 2 (j - k) k) ∙ ap (λ (x : ℕ). 2 ^ x) (back j k (a tt))) in
        le_trans (mul-le-mul_right (2 ^ k) (add-one-le (lt_of_mul-lt-mul_right (2 ^ k) (lt_of_lt_of_le l (le_of_eq (sym e)))))) (le_of_eq e)
    go false a b =
        absurd (not-le_of_lt (lt_of_lt_of_le (shl_lt p j few) (pow_mono (room j k p P (b tt)))) (le_trans (le_of_eq (pow-add 2 (p - 1) k)) (le_trans (mul-le-mul_right (2 ^ k) full) (le_of_lt l))))

-- an odd c is no multiple by a power of two of a number below it, whatever its own factor
odd_too_large : (c m a b : ℕ) → c % 2 ≡ 1 → m < c → c * 2 ^ a ≡ m * 2 ^ b → ⊥
odd_too_large c m a b o few e = go (leb b a) (leb→le b a) (nleb→lt b a)
  where
    split : (n x y : ℕ) → y ≤ x → n * 2 ^ x ≡ n * 2 ^ (x - y) * 2 ^ y
    split n x y h = sym (mul_assoc n (2 ^ (x - y)) (2 ^ y) ∙ ap (λ (z : ℕ). n * z) (sym (pow-add 2 (x - y) y) ∙ ap (λ (z : ℕ). 2 ^ z) (back x y h)))

    one_less : (a b : ℕ) → a < b → b - a ≡ suc (b - suc a)
    one_less a b h = omega arith

    go : (t : Bool) → (T t → b ≤ a) → (T (not t) → a < b) → ⊥
    go true h k =
        not-le_of_lt few (le_trans (le-mul_of_pos_right c (pow_pos (a - b)))
        (le_of_eq (eq_of_mul-eq-mul_right (2 ^ b) (pow_pos b) (c * 2 ^ (a - b)) m (sym (split c a b (h tt)) ∙ e))))
    go false h k =
        even_not_odd c
        (ap (λ (x : ℕ). x % 2) (eq_of_mul-eq-mul_right (2 ^ a) (pow_pos a) c (m * 2 ^ (b - a)) (e ∙ split m b a (le_of_lt (k tt)))
        ∙ ap (λ (x : ℕ). m * 2 ^ x) (one_less a b (k tt)) ∙ ap (λ (x : ℕ). m * x) (pow-suc 2 (b - suc a)) ∙ sym (mul_assoc m (2 ^ (b - suc a)) 2))
        ∙ mul-mod_left (m * 2 ^ (b - suc a)) 2)
        o

-- so the square of an odd number of more than p digits is no value of p digits
odd_square_too_large : (p h m a b : ℕ) → h % 2 ≡ 1 → 2 ^ p ≤ h → m < 2 ^ p → h * 2 ^ a * (h * 2 ^ a) ≡ m * 2 ^ b → ⊥
odd_square_too_large p h m a b o full few e =
    odd_too_large (h * h) m (a + a) b (odd_square h o)
    (lt_of_lt_of_le few (le_trans full (le-mul_of_pos_right h (lt_of_lt_of_le (pow_pos p) full))))
    (ap (λ (x : ℕ). h * h * x) (pow-add 2 a a) ∙ sym (mul-mul-mul_comm h (2 ^ a) h (2 ^ a)) ∙ e)

-- ---- the root's first digits

-- d digits cut off a large r leave p + 1
cut_to : (p r : ℕ) → 2 ≤ p → 2 ^ (p - 1 + p) ≤ r → (d : ℕ) × (p ≤ suc d) × (2 ^ (p + d) ≤ r) × (r < 2 ^ suc (p + d))
cut_to p r P big =
    let z = size r in
    let many : p - 1 + p < z = lt_of_not-le (λ (g : z ≤ p - 1 + p). not-le_of_lt (lt_of_lt_of_le (size-lt r) (pow_mono g)) big) in
    let d = z - suc p in
    let top : suc (p + d) ≡ z = omega arith in
    (d, omega arith, size_reaches r (p + d) (le_of_eq top), subst (λ (x : ℕ). r < 2 ^ x) (sym top) (size-lt r))

-- of a format: its exponents reach as far as it has digits
deep : (f : Format) → prec f ≤ emax f
deep binary32 = lit≤ tt
deep binary64 = lit≤ tt

-- In units of the smallest value, twice the root is from h * 2 ^ k to (h + 1) * 2 ^ k, which it never reaches, and it is not h * 2 ^ k for an odd h. W is the square of the root in those units.
pub record Leading (f : Format) (x : Float) (W : ℕ) : Type 0 where
  pub h : ℕ
  pub k : ℕ
  pub full : 2 ^ prec f ≤ h
  pub value : sqrt f x ≡ units f false ((h + 1) / 2) k
  pub at_least : h * 2 ^ k * (h * 2 ^ k) ≤ 4 * W
  pub strict : h % 2 ≡ 1 → h * 2 ^ k * (h * 2 ^ k) < 4 * W
  pub less : 4 * W < (h + 1) * 2 ^ k * ((h + 1) * 2 ^ k)

-- r is the root of W * 4 ^ p, and h what is left of it with d digits cut off
twice_root : (W r p d : ℕ) → IsRoot r (W * (2 ^ p * 2 ^ p)) → p ≤ suc d
    → (r / 2 ^ d * 2 ^ (suc d - p) * (r / 2 ^ d * 2 ^ (suc d - p)) ≤ 4 * W) × (4 * W < (r / 2 ^ d + 1) * 2 ^ (suc d - p) * ((r / 2 ^ d + 1) * 2 ^ (suc d - p)))
twice_root W r p d is enough =
    let h = r / 2 ^ d in
    let t = 2 ^ p in
    let above : r + 1 ≤ (h + 1) * 2 ^ d = rw (add-mul, one-mul) (add-one-le (lt-div-mul-add (pow_pos d))) in (
      le_of_mul-le-mul_right
          (le_trans (le_of_eq (doubled h)) (le_trans (mul-le-mul_left 4 (le_trans (mul-le-mul (div-mul-le_self r (2 ^ d)) (div-mul-le_self r (2 ^ d))) is.0)) (le_of_eq (sym (mul_assoc 4 W (t * t))))))
          (mul-pos (pow_pos p) (pow_pos p)),
      lt_of_mul-lt-mul_right (t * t)
          (lt_of_le_of_lt (le_of_eq (mul_assoc 4 W (t * t))) (lt_of_lt_of_le (mul-lt-mul_of_pos_left is.1 (pow_pos 2)) (le_trans (mul-le-mul_left 4 (mul-le-mul above above)) (le_of_eq (sym (doubled (h + 1))))))),
    )
  where
    double : (c : ℕ) → c * 2 ^ (suc d - p) * 2 ^ p ≡ 2 * (c * 2 ^ d)
    double c =
        mul_assoc c (2 ^ (suc d - p)) (2 ^ p)
        ∙ ap (λ (y : ℕ). c * y) (sym (pow-add 2 (suc d - p) p) ∙ ap (λ (y : ℕ). 2 ^ y) (back (suc d) p enough) ∙ pow-succ' 2 d)
        ∙ mul_left_comm c 2 (2 ^ d)

    doubled : (c : ℕ) → c * 2 ^ (suc d - p) * (c * 2 ^ (suc d - p)) * (2 ^ p * 2 ^ p) ≡ 4 * (c * 2 ^ d * (c * 2 ^ d))
    doubled c =
        mul-mul-mul_comm (c * 2 ^ (suc d - p)) (c * 2 ^ (suc d - p)) (2 ^ p) (2 ^ p) ∙ ap (λ (y : ℕ). y * y) (double c) ∙ mul-mul-mul_comm 2 (c * 2 ^ d) 2 (c * 2 ^ d)

module _ (f : Format) (x : Float) (m j : ℕ) (p : T (positive x)) (some : 0 < m) (few : m < 2 ^ prec f) (equals : num x * 2 ^ low f ≡ m * 2 ^ j * den x) where
  scaled_up : square f (num x) ≡ m * 2 ^ j * 2 ^ low f * (2 ^ prec f * 2 ^ prec f) * den x
  scaled_up =
      ap (λ (s : ℕ). num x * (s * s)) (pow-add 2 (low f) (prec f))
      ∙ apart (num x) (2 ^ low f) (2 ^ prec f)
      ∙ ap (λ (y : ℕ). y * (2 ^ low f * (2 ^ prec f * 2 ^ prec f))) equals
      ∙ together (m * 2 ^ j) (den x) (2 ^ low f) (2 ^ prec f * 2 ^ prec f)
    where
      apart : (n l t : ℕ) → n * (l * t * (l * t)) ≡ n * l * (l * (t * t))
      apart n l t = simp (mul_assoc, mul_comm, mul_left_comm)

      together : (y d l t : ℕ) → y * d * (l * t) ≡ y * l * t * d
      together y d l t = simp (mul_assoc, mul_comm, mul_left_comm)

  large : 2 ^ (prec f - 1 + prec f) ≤ whole_root (m * 2 ^ j * 2 ^ low f * (2 ^ prec f * 2 ^ prec f))
  large =
      le_of_squares
      (le_trans (le_of_eq (sym (pow-add 2 (prec f - 1 + prec f) (prec f - 1 + prec f))))
      (le_trans (pow_mono (room (prec f) (emax f) (two f) (deep f)))
      (le_trans (le_of_eq (pow-add 2 (low f) (prec f + prec f) ∙ ap (λ (y : ℕ). 2 ^ low f * y) (pow-add 2 (prec f) (prec f))))
      (mul-le-mul_right (2 ^ prec f * 2 ^ prec f) (le_trans (le_of_eq (sym (one-mul (2 ^ low f)))) (mul-le-mul_right (2 ^ low f) (mul-pos some (pow_pos j))))))))
      (whole_root_is (m * 2 ^ j * 2 ^ low f * (2 ^ prec f * 2 ^ prec f))).1
    where
      room : (p e : ℕ) → 2 ≤ p → p ≤ e → p - 1 + p + (p - 1 + p) ≤ e + p - 2 + (p + p)
      room p e P E = omega arith

  -- twice the root is none of the points halfway between two values
  off_midpoints : (h k : ℕ) → h % 2 ≡ 1 → 2 ^ prec f ≤ h → h * 2 ^ k * (h * 2 ^ k) ≡ 4 * (m * 2 ^ j * 2 ^ low f) → ⊥
  off_midpoints h k o full e =
      odd_square_too_large (prec f) h m k (j + low f + 2) o full few
      (e ∙ mul_comm 4 (m * 2 ^ j * 2 ^ low f) ∙ simp (pow-add, mul_assoc))

  off_ties : (h d : ℕ) → h % 2 ≡ 1 → 2 ^ prec f ≤ h → h * 2 ^ d * (h * 2 ^ d) ≡ m * 2 ^ j * 2 ^ low f * (2 ^ prec f * 2 ^ prec f) → ⊥
  off_ties h d o full e = odd_square_too_large (prec f) h m d (j + low f + (prec f + prec f)) o full few (e ∙ simp (pow-add, mul_assoc))

  pub leading_digits : Leading f x (m * 2 ^ j * 2 ^ low f)
  leading_digits =
      let n = m * 2 ^ j * 2 ^ low f * (2 ^ prec f * 2 ^ prec f) in
      let r = whole_root n in
      let c = cut_to (prec f) r (two f) large in
      let d = c.0 in
      let h = r / 2 ^ d in
      let bounds = twice_root (m * 2 ^ j * 2 ^ low f) r (prec f) d (whole_root_is n) c.1 in
      let full = (le-div_iff_mul-le (pow_pos d)).1 (le_trans (le_of_eq (sym (pow-add 2 (prec f) d))) c.2) in
      record {
        h = h;
        k = suc d - prec f;
        full = full;
        value = sqrt_positive f x p ∙ root_by_digits f (num x) (den x) n d (den_pos x) scaled_up c.1 c.2 c.3 (λ o e s. off_ties h d o full (ap (λ (y : ℕ). y * y) (sym e) ∙ s));
        at_least = bounds.0;
        strict = λ o. lt_of_le-ne bounds.0 (off_midpoints h (suc d - prec f) o full);
        less = bounds.1;
      }

-- ---- the root, q * 2 ^ k, and another value m * 2 ^ j of the format: their midpoint
squares_le : {a b : ℕ} → a ≤ b → a * a ≤ b * b
squares_le h = mul-le-mul h h

squares_lt : {a b : ℕ} → a < b → a * a < b * b
squares_lt {a} {b} h = lt_of_le_of_lt (mul-le-mul_left a (le_of_lt h)) (mul-lt-mul_of_pos_right h (lt_of_le_of_lt zero-le h))

-- h is twice q, or one less
halved : (h : ℕ) → (h ≡ (h + 1) / 2 + (h + 1) / 2) ⊎ ((h % 2 ≡ 1) × (h + 1 ≡ (h + 1) / 2 + (h + 1) / 2))
halved h = go (eq-zero-or-pos (h % 2))
  where
    go : (h % 2 ≡ 0) ⊎ (0 < h % 2) → (h ≡ (h + 1) / 2 + (h + 1) / 2) ⊎ ((h % 2 ≡ 1) × (h + 1 ≡ (h + 1) / 2 + (h + 1) / 2))
    go (inl z) = inl (omega arith)
    go (inr o) = inr (omega arith)

module _ (p h k W : ℕ) (P : 2 ≤ p) (full : 2 ^ p ≤ h) (m j : ℕ) (few : m < 2 ^ p) where
  -- the midpoint is below where the value is
  pub midpoint_below : h * 2 ^ k * (h * 2 ^ k) ≤ 4 * W → (h % 2 ≡ 1 → h * 2 ^ k * (h * 2 ^ k) < 4 * W)
      → m * 2 ^ j < (h + 1) / 2 * 2 ^ k → ((h + 1) / 2 * 2 ^ k + m * 2 ^ j) * ((h + 1) / 2 * 2 ^ k + m * 2 ^ j) < 4 * W
  midpoint_below at_least strict l = go ((h + 1) / 2) (halved h) l
    where
      go : (q : ℕ) → (h ≡ q + q) ⊎ ((h % 2 ≡ 1) × (h + 1 ≡ q + q)) → m * 2 ^ j < q * 2 ^ k → (q * 2 ^ k + m * 2 ^ j) * (q * 2 ^ k + m * 2 ^ j) < 4 * W
      go q (inl e) l =
          let H : h * 2 ^ k ≡ q * 2 ^ k + q * 2 ^ k = ap (λ (x : ℕ). x * 2 ^ k) e ∙ add-mul q q (2 ^ k) in
          let less : q * 2 ^ k + m * 2 ^ j < h * 2 ^ k = omega arith in
          lt_of_lt_of_le (squares_lt less) at_least
      go zero (inr e) l = absurd (not-suc-le-zero (lt_of_lt_of_le l (le_of_eq (zero-mul (2 ^ k)))))
      go (suc c) (inr e) l =
          let t = twice_pow p P in
          let c_full : 2 ^ (p - 1) ≤ c = omega arith in
          let upto : m * 2 ^ j ≤ c * 2 ^ k = le_of_suc-le-suc (lt_of_not-le (λ (g : c * 2 ^ k < m * 2 ^ j). not-le_of_lt l (le_trans (le_of_eq (ap (λ (x : ℕ). x * 2 ^ k) (sym (add-one c)))) (next_value p c k m j P c_full few g)))) in
          let H : h * 2 ^ k ≡ suc c * 2 ^ k + c * 2 ^ k = ap (λ (x : ℕ). x * 2 ^ k) (omega arith) ∙ add-mul (suc c) c (2 ^ k) in
          let less : suc c * 2 ^ k + m * 2 ^ j ≤ h * 2 ^ k = omega arith in
          lt_of_le_of_lt (squares_le less) (strict e.0)

  pub midpoint_above : 4 * W < (h + 1) * 2 ^ k * ((h + 1) * 2 ^ k)
      → (h + 1) / 2 * 2 ^ k < m * 2 ^ j → 4 * W < ((h + 1) / 2 * 2 ^ k + m * 2 ^ j) * ((h + 1) / 2 * 2 ^ k + m * 2 ^ j)
  midpoint_above below l = go ((h + 1) / 2) (halved h) l
    where
      go : (q : ℕ) → (h ≡ q + q) ⊎ ((h % 2 ≡ 1) × (h + 1 ≡ q + q)) → q * 2 ^ k < m * 2 ^ j → 4 * W < (q * 2 ^ k + m * 2 ^ j) * (q * 2 ^ k + m * 2 ^ j)
      go q (inl e) l =
          let t = twice_pow p P in
          let q_full : 2 ^ (p - 1) ≤ q = omega arith in
          let next = next_value p q k m j P q_full few l in
          let H : (h + 1) * 2 ^ k ≡ q * 2 ^ k + (q + 1) * 2 ^ k = ap (λ (x : ℕ). x * 2 ^ k) (omega arith) ∙ add-mul q (q + 1) (2 ^ k) in
          let more : (h + 1) * 2 ^ k ≤ q * 2 ^ k + m * 2 ^ j = omega arith in
          lt_of_lt_of_le below (squares_le more)
      go q (inr e) l =
          let H : (h + 1) * 2 ^ k ≡ q * 2 ^ k + q * 2 ^ k = ap (λ (x : ℕ). x * 2 ^ k) e.1 ∙ add-mul q q (2 ^ k) in
          let more : (h + 1) * 2 ^ k ≤ q * 2 ^ k + m * 2 ^ j = omega arith in
          lt_of_lt_of_le below (squares_le more)

-- ---- the root's own value

-- x and its root in units
pub record Measured (f : Format) (x : Float) : Type 0 where
  pub own : InUnits f x
  pub first : Leading f x (own.digits * 2 ^ own.place * 2 ^ low f)
  pub value : HasValue (sqrt f x) false ((first.h + 1) / 2 * 2 ^ first.k) (2 ^ low f)
  pub root_pos : 0 < (first.h + 1) / 2 * 2 ^ first.k

-- a root is too small to overflow: W is below 2 ^ (l + t)
no_overflow : (q h k y l t : ℕ) → q ≤ h → h * 2 ^ k * (h * 2 ^ k) ≤ 4 * (y * 2 ^ l) → y < 2 ^ (l + t) → 2 ≤ t → q * 2 ^ k < 2 ^ (l + t)
no_overflow q h k y l t q_le at_least small T =
    lt_of_squares
    (lt_of_le_of_lt (squares_le (mul-le-mul_right (2 ^ k) q_le))
    (lt_of_le_of_lt at_least
    (lt_of_lt_of_le (mul-lt-mul_of_pos_left (mul-lt-mul_of_pos_right small (pow_pos l)) (pow_pos 2))
    (le_trans (le_of_eq (ap (λ (z : ℕ). 4 * z) (sym (pow-add 2 (l + t) l)) ∙ sym (pow-add 2 2 (l + t + l)))) (le_trans (pow_mono (room l t T)) (le_of_eq (pow-add 2 (l + t) (l + t))))))))
  where
    room : (l t : ℕ) → 2 ≤ t → 2 + (l + t + l) ≤ l + t + (l + t)
    room l t T = omega arith

pub measured : (f : Format) (x : Float) → T (fits f x) → T (positive x) → Measured f x
measured f x fit p =
    let u = in_units f x fit (positive-finite x p) in
    let some = first_pos u.digits (2 ^ u.place) (value_pos x (u.digits * 2 ^ u.place) (2 ^ low f) p (pow_pos (low f)) (value_of x (u.digits * 2 ^ u.place) (2 ^ low f) p u.equals)) in
    let l = leading_digits f x u.digits u.place p some u.few u.equals in
    let q = (l.h + 1) / 2 in
    let h_pos : 0 < l.h = lt_of_lt_of_le (pow_pos (prec f)) l.full in
    let q_le : q ≤ l.h = omega arith in
    let q_pos : 0 < q = omega arith in
    record {
      own = u;
      first = l;
      value = subst (λ (z : Float). HasValue z false (q * 2 ^ l.k) (2 ^ low f)) (sym l.value)
          (units_val f false q l.k (no_overflow q l.h l.k (u.digits * 2 ^ u.place) (low f) (suc (emax f)) q_le l.at_least u.inside (reaches (prec f) (emax f) (two f) (deep f))));
      root_pos = mul-pos q_pos (pow_pos l.k);
    }
  where
    reaches : (p e : ℕ) → 2 ≤ p → p ≤ e → 2 ≤ suc e
    reaches p e P E = omega arith
