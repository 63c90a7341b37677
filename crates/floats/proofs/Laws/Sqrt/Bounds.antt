-- `root_of f num den` between fractions: a fraction that is at most √(num / den) rounds to no more than the root, one that is at least that rounds to no less, and the root grows
-- with num / den. Assumes nothing.
use Rattle.std.proofs.Common.{◌≡◌, ℕ, ◌+◌, ◌*◌, ◌/◌, ◌<◌, ◌≤◌, Bool, true, false, cond, not, T, eqb, leb, sym, refl, ap, ◌∙◌, subst, subst₂, le_trans, le_of_eq, le_refl, lt_of_lt_of_le, lt_of_le_of_lt, add-zero, lt_irrefl, mul-le-mul_right, mul_assoc, mul_comm, div-lt_iff_lt-mul, add-mul, lt_of_mul-lt-mul_right, mul-lt-mul_of_pos_right, mul-pos, le-div_iff_mul-le, zero-mul, mul_right_comm, le_of_mul-le-mul_right, mul_left_comm, arith, eqb→eq, leb→le, pow_pos}
use lib.Dec.{nleb→lt}
use lib.Arith.{lt_of_le-ne}
use lib.Ieee.{Float, Format, prec, low, round, le}
use lib.Ieee.Fits.{eq→eqb}
use lib.Ieee.Order.{round_mono}
use Rattle.floats.specs.Sqrt.{scale, square, whole_part, root_of}
use Rattle.floats.proofs.Laws.Sqrt.WholeRoot.{next_square, lt_of_squares, le_of_squares, whole_root_is}
use Rattle.floats.proofs.Laws.Sqrt.Rounding.{round_as_middle}

-- ---- what the definition works out

-- the digit that tells a from a larger b
pub data LeftOver (digit a b : ℕ) : Type 0 where
  nothing : digit ≡ 0 → a ≡ b → LeftOver digit a b
  something : digit ≡ 1 → a < b → LeftOver digit a b

-- The root's whole part at that scale and one digit more are rounded. The digit is 0 where the whole part is the root, and 1 where it is below it.
pub record Rounded (f : Format) (num den : ℕ) : Type 0 where
  pub whole : ℕ
  pub digit : ℕ
  pub value : root_of f num den ≡ round f false (2 * whole + digit) (2 * scale f)
  pub at_least : whole * whole * den ≤ square f num
  pub below : square f num < (whole + 1) * (whole + 1) * den
  pub rest : LeftOver digit (whole * whole * den) (square f num)

-- the whole part at the root's scale
part_is : (f : Format) (num den : ℕ) → 0 < den
    → (whole_part f num den * whole_part f num den * den ≤ square f num) × (square f num < (whole_part f num den + 1) * (whole_part f num den + 1) * den)
part_is f num den D = let w = whole_root_is (square f num / den) in ((le-div_iff_mul-le D).0 w.0, (div-lt_iff_lt-mul D).0 w.1)

pub rounded : (f : Format) (num den : ℕ) → 0 < den → Rounded f num den
unfolding root_of
rounded f num den D =
    let r = whole_part f num den in
    let part = part_is f num den D in
    record {
      whole = r;
      digit = cond (eqb (r * r * den) (square f num)) 0 1;
      value = refl;
      at_least = part.0;
      below = part.1;
      rest = by_test (r * r * den) (square f num) part.0 (eqb (r * r * den) (square f num)) (eqb→eq (r * r * den) (square f num)) eq→eqb;
    }
  where
    by_test : (a b : ℕ) → a ≤ b → (t : Bool) → (T t → a ≡ b) → (a ≡ b → T t) → LeftOver (cond t 0 1) a b
    by_test a b h true equal unless = nothing refl (equal tt)
    by_test a b h false equal unless = something refl (lt_of_le-ne h unless)

pub scale_pos : (f : Format) → 0 < scale f
scale_pos f = pow_pos (low f + prec f)

pub two_scale_pos : (f : Format) → 0 < 2 * scale f
two_scale_pos f = mul-pos (pow_pos 1) (scale_pos f)

-- ---- squares of fractions over one denominator
below_squared : {x y : ℕ} (c : ℕ) → x * x * c < y * y * c → x < y
below_squared c h = lt_of_squares (lt_of_mul-lt-mul_right c h)

upto_squared : {x y c : ℕ} → 0 < c → x * x * c ≤ y * y * c → x ≤ y
upto_squared {x} {y} {c} C h = le_of_squares (le_of_mul-le-mul_right h C) (more y (next_square y))
  where
    more : (y : ℕ) → (y + 1) * (y + 1) ≡ y * y + 2 * y + 1 → y * y < (y + 1) * (y + 1)
    more y e = omega arith

le_itself : (f : Format) (a b : ℕ) → 0 < b → T (le (round f false a b) (round f false a b))
le_itself f a b B = round_mono f a b a b B B (le_refl (a * b))

-- a / b against (2 * r + s) / (2 * S)
past : (a b r s S : ℕ) → a * S ≤ r * b → a * (2 * S) ≤ (2 * r + s) * b
past a b r s S h = let e : a * (2 * S) ≡ 2 * (a * S) = mul_left_comm a 2 S in simp (add-mul, mul_assoc) (more (a * (2 * S)) (a * S) (r * b) (s * b) h e)
  where
    more : (w x y z : ℕ) → x ≤ y → w ≡ 2 * x → w ≤ 2 * y + z
    more w x y z h e = omega arith

short : (a b r s S : ℕ) → r * b + s * b ≤ a * S → (2 * r + s) * b ≤ a * (2 * S)
short a b r s S h = let e : a * (2 * S) ≡ 2 * (a * S) = mul_left_comm a 2 S in simp (add-mul, mul_assoc) (more (a * (2 * S)) (a * S) (r * b) (s * b) h e)
  where
    more : (w x y z : ℕ) → y + z ≤ x → w ≡ 2 * x → 2 * y + z ≤ w
    more w x y z h e = omega arith

-- ---- the root and a fraction a / b
module _ (f : Format) (num den a b : ℕ) (D : 0 < den) (B : 0 < b) (R : Rounded f num den) where
  fraction_squared : (c : ℕ) → c * b * (c * b) * den ≡ c * c * den * (b * b)
  fraction_squared c = simp (mul_assoc, mul_comm, mul_left_comm)

  scaled_squared : a * scale f * (a * scale f) * den ≡ a * a * den * (scale f * scale f)
  scaled_squared = simp (mul_assoc, mul_comm, mul_left_comm)

  root_scaled : num * (b * b) * (scale f * scale f) ≡ square f num * (b * b)
  root_scaled = mul_right_comm num (b * b) (scale f * scale f)

  fraction_le_root : a * a * den ≤ num * (b * b) → T (le (round f false a b) (round f false (2 * R.whole + R.digit) (2 * scale f)))
  fraction_le_root h = go (leb (a * scale f) (R.whole * b)) (leb→le (a * scale f) (R.whole * b)) (nleb→lt (a * scale f) (R.whole * b)) R.rest
    where
      squares : a * scale f * (a * scale f) * den ≤ square f num * (b * b)
      squares = le_trans (le_of_eq scaled_squared) (le_trans (mul-le-mul_right (scale f * scale f) h) (le_of_eq root_scaled))

      below_next : a * scale f < (R.whole + 1) * b
      below_next = below_squared den (lt_of_le_of_lt squares (lt_of_lt_of_le (mul-lt-mul_of_pos_right R.below (mul-pos B B)) (le_of_eq (sym (fraction_squared (R.whole + 1))))))

      not_exact : R.whole * b < a * scale f → R.whole * R.whole * den ≡ square f num → ⊥
      not_exact l e =
          lt_irrefl (R.whole * b) (lt_of_lt_of_le l (upto_squared D (le_trans squares (le_of_eq (ap (λ (x : ℕ). x * (b * b)) (sym e) ∙ sym (fraction_squared R.whole))))))

      go : (t : Bool) → (T t → a * scale f ≤ R.whole * b) → (T (not t) → R.whole * b < a * scale f)
          → LeftOver R.digit (R.whole * R.whole * den) (square f num)
          → T (le (round f false a b) (round f false (2 * R.whole + R.digit) (2 * scale f)))
      go true l g s = round_mono f a b (2 * R.whole + R.digit) (2 * scale f) B (two_scale_pos f) (past a b R.whole R.digit (scale f) (l tt))
      go false l g (nothing d e) = absurd (not_exact (g tt) e)
      go false l g (something d i) =
          subst (λ (z : Float). T (le (round f false a b) z))
          (round_as_middle f false a b R.whole B (g tt) below_next ∙ ap (λ (y : ℕ). round f false (2 * R.whole + y) (2 * scale f)) (sym d))
          (le_itself f a b B)

  root_le_fraction : num * (b * b) ≤ a * a * den → T (le (round f false (2 * R.whole + R.digit) (2 * scale f)) (round f false a b))
  root_le_fraction h = go R.rest
    where
      squares : square f num * (b * b) ≤ a * scale f * (a * scale f) * den
      squares = le_trans (le_of_eq (sym root_scaled)) (le_trans (mul-le-mul_right (scale f * scale f) h) (le_of_eq (sym scaled_squared)))

      reached : (s : ℕ) → R.whole * b + s * b ≤ a * scale f → T (le (round f false (2 * R.whole + s) (2 * scale f)) (round f false a b))
      reached s l = round_mono f (2 * R.whole + s) (2 * scale f) a b (two_scale_pos f) B (short a b R.whole s (scale f) l)

      exact : R.whole * R.whole * den ≡ square f num → R.whole * b + 0 * b ≤ a * scale f
      exact e = rw (zero-mul, add-zero) (upto_squared D (le_trans (le_of_eq (fraction_squared R.whole ∙ ap (λ (x : ℕ). x * (b * b)) e)) squares))

      inexact : R.whole * R.whole * den < square f num → R.whole * b < a * scale f
      inexact l = below_squared den (lt_of_le_of_lt (le_of_eq (fraction_squared R.whole)) (lt_of_lt_of_le (mul-lt-mul_of_pos_right l (mul-pos B B)) squares))

      past_next : (t : Bool) → (T t → (R.whole + 1) * b ≤ a * scale f) → (T (not t) → a * scale f < (R.whole + 1) * b) → R.whole * b < a * scale f
          → T (le (round f false (2 * R.whole + 1) (2 * scale f)) (round f false a b))
      past_next true l g i = reached 1 (subst (λ (x : ℕ). x ≤ a * scale f) (add-mul R.whole 1 b) (l tt))
      past_next false l g i = subst (λ (z : Float). T (le z (round f false a b))) (round_as_middle f false a b R.whole B i (g tt)) (le_itself f a b B)

      go : LeftOver R.digit (R.whole * R.whole * den) (square f num)
          → T (le (round f false (2 * R.whole + R.digit) (2 * scale f)) (round f false a b))
      go (nothing d e) = subst (λ (y : ℕ). T (le (round f false (2 * R.whole + y) (2 * scale f)) (round f false a b))) (sym d) (reached 0 (exact e))
      go (something d i) =
          subst (λ (y : ℕ). T (le (round f false (2 * R.whole + y) (2 * scale f)) (round f false a b))) (sym d)
          (past_next (leb ((R.whole + 1) * b) (a * scale f)) (leb→le ((R.whole + 1) * b) (a * scale f)) (nleb→lt ((R.whole + 1) * b) (a * scale f)) (inexact i))

pub root_at_least : (f : Format) (num den a b : ℕ) → 0 < den → 0 < b → a * a * den ≤ num * (b * b) → T (le (round f false a b) (root_of f num den))
root_at_least f num den a b D B h =
    let R = rounded f num den D in
    subst (λ (z : Float). T (le (round f false a b) z)) (sym R.value) (fraction_le_root f num den a b D B R h)

pub root_at_most : (f : Format) (num den a b : ℕ) → 0 < den → 0 < b → num * (b * b) ≤ a * a * den → T (le (root_of f num den) (round f false a b))
root_at_most f num den a b D B h =
    let R = rounded f num den D in
    subst (λ (z : Float). T (le z (round f false a b))) (sym R.value) (root_le_fraction f num den a b D B R h)

-- ---- the root grows with the fraction
module _ (f : Format) (num den num' den' : ℕ) (D : 0 < den) (D' : 0 < den') (h : num * den' ≤ num' * den) (R : Rounded f num den) (R' : Rounded f num' den') where
  squares_grow : square f num * den' ≤ square f num' * den
  squares_grow =
      le_trans (le_of_eq (mul_right_comm num (scale f * scale f) den')) (le_trans (mul-le-mul_right (scale f * scale f) h) (le_of_eq (mul_right_comm num' den (scale f * scale f))))

  wholes_grow : R.whole ≤ R'.whole
  wholes_grow =
      upto
      (below_squared (den * den')
      (lt_of_le_of_lt (le_of_eq (sym (mul_assoc (R.whole * R.whole) den den')))
      (lt_of_le_of_lt (le_trans (mul-le-mul_right den' R.at_least) squares_grow)
      (lt_of_lt_of_le (mul-lt-mul_of_pos_right R'.below D) (le_of_eq (mul_assoc ((R'.whole + 1) * (R'.whole + 1)) den' den ∙ ap (λ (x : ℕ). (R'.whole + 1) * (R'.whole + 1) * x) (mul_comm den' den)))))))
    where
      upto : {a b : ℕ} → a < b + 1 → a ≤ b
      upto h = omega arith

  -- of two roots with one whole part the larger is not exact where the smaller is not
  exact_after : R.whole * R.whole * den < square f num → R'.whole * R'.whole * den' ≡ square f num' → R.whole < R'.whole
  exact_after l e = lt_of_le-ne wholes_grow (λ s. lt_irrefl (square f num * den')
      (lt_of_le_of_lt squares_grow
      (lt_of_le_of_lt (le_of_eq (ap (λ (x : ℕ). x * den) (sym e) ∙ ap (λ (x : ℕ). x * x * den' * den) (sym s) ∙ mul_right_comm (R.whole * R.whole) den' den))
      (mul-lt-mul_of_pos_right l D'))))

  digits_grow : 2 * R.whole + R.digit ≤ 2 * R'.whole + R'.digit
  digits_grow = go R.rest R'.rest
    where
      go : LeftOver R.digit (R.whole * R.whole * den) (square f num)
          → LeftOver R'.digit (R'.whole * R'.whole * den') (square f num')
          → 2 * R.whole + R.digit ≤ 2 * R'.whole + R'.digit
      go (nothing d e) t = omega (arith, wholes_grow)
      go (something d i) (nothing d' e) = omega (arith, exact_after i e)
      go (something d i) (something d' i') = omega (arith, wholes_grow)

pub root_mono : (f : Format) (num den num' den' : ℕ) → 0 < den → 0 < den' → num * den' ≤ num' * den → T (le (root_of f num den) (root_of f num' den'))
root_mono f num den num' den' D D' h =
    let R = rounded f num den D in
    let R' = rounded f num' den' D' in
    subst₂ (λ (y z : Float). T (le y z)) (sym R.value) (sym R'.value)
    (round_mono f (2 * R.whole + R.digit) (2 * scale f) (2 * R'.whole + R'.digit) (2 * scale f) (two_scale_pos f) (two_scale_pos f)
    (mul-le-mul_right (2 * scale f) (digits_grow f num den num' den' D D' h R R')))
