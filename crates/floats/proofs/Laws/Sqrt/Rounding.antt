-- `round` by the leading digits of its fraction: with one digit more than the format keeps, that digit alone decides, except at a tie.
-- So two fractions that agree in their whole part at a fine enough scale, and of which neither is that whole part, round alike. Assumes nothing.
use Rattle.std.proofs.Common.{le_of_eq, ◌≡◌, ℕ, suc, ◌+◌, ◌-◌, ◌*◌, ◌/◌, ◌%◌, ◌^◌, ◌<◌, ◌≤◌, Bool, T, sym, ap, ◌∙◌, subst, ap₂, lt_of_le_of_lt, le_of_lt, lt_irrefl, mod-lt, mul_assoc, mul_comm, add-mul, lt_of_mul-lt-mul_right, mul-pos, one-mul, div-add-mod', div-mul-le_self, mul-div_cancel, mul_left_comm, arith, pow_pos, pow-add}
use Prim.Native.Nat.{compare, Ordering}
use native.Mathlib.Nat.{lt-div-mul-add, div-div-eq-div-mul, mul-div-mul_right, div-eq_of_lt-le, pow-succ'}
use lib.Ieee.{Format, prec, low, size, nearest, units, round}
use lib.Ieee.Fits.{round_is, two}
use lib.Ieee.Nearest.{closest}
use Rattle.floats.proofs.Laws.Nearest.{compared}

-- ---- h is the whole part of 2 a / b; it is odd and nothing is left over exactly at a tie
same_whole : (h g b n : ℕ) → h * b ≤ n → n < (h + 1) * b → g * b ≤ n → n < (g + 1) * b → h ≡ g
same_whole h g b n h_le h_lt g_le g_lt =
    let x : h < g + 1 = lt_of_mul-lt-mul_right b (lt_of_le_of_lt h_le g_lt) in
    let y : g < h + 1 = lt_of_mul-lt-mul_right b (lt_of_le_of_lt g_le h_lt) in
    omega arith

doubles : (w b : ℕ) → (2 * w * b ≡ 2 * (w * b)) × ((2 * w + 1) * b ≡ 2 * (w * b) + b) × ((2 * w + 1 + 1) * b ≡ 2 * (w * b) + b + b)
doubles w b = (mul_assoc 2 w b, simp (add-mul, one-mul, mul_assoc), simp (add-mul, one-mul, mul_assoc))

nearest_by_halves : (w t b a h : ℕ) → t < b → w * b + t ≡ a → h * b ≤ a * 2 → a * 2 < (h + 1) * b → (h % 2 ≡ 1 → h * b ≡ a * 2 → ⊥) → nearest w (compare (t * 2) b) ≡ (h + 1) / 2
nearest_by_halves w t b a h T parts at_least below no_tie = compared (λ (o : Ordering). nearest w o ≡ (h + 1) / 2) (t * 2) b down tie up
  where
    down : t * 2 < b → w ≡ (h + 1) / 2
    down l =
        let d = doubles w b in
        let e : h ≡ 2 * w = same_whole h (2 * w) b (a * 2) at_least below (omega arith) (omega arith) in
        omega arith

    odd : b ≤ t * 2 → h ≡ 2 * w + 1
    odd l = let d = doubles w b in same_whole h (2 * w + 1) b (a * 2) at_least below (omega arith) (omega arith)

    tie : t * 2 ≡ b → w + w % 2 ≡ (h + 1) / 2
    tie q =
        let d = doubles w b in
        let e = odd (le_of_eq (sym q)) in
        let whole : (2 * w + 1) * b ≡ a * 2 = omega arith in
        absurd (no_tie (omega arith) (ap (λ (x : ℕ). x * b) e ∙ whole))

    up : b < t * 2 → suc w ≡ (h + 1) / 2
    up g = let e = odd (le_of_lt g) in omega arith

closest_by_halves : (a b h : ℕ) → 0 < b → a * 2 / b ≡ h → (h % 2 ≡ 1 → h * b ≡ a * 2 → ⊥) → closest a b ≡ (h + 1) / 2
closest_by_halves a b h B is no_tie =
    nearest_by_halves (a / b) (a % b) b a h (mod-lt a B) (div-add-mod' a b)
    (subst (λ (x : ℕ). x * b ≤ a * 2) is (div-mul-le_self (a * 2) b))
    (subst (λ (x : ℕ). a * 2 < (x + 1) * b) is (rw (add-mul, one-mul) (lt-div-mul-add B)))
    no_tie

-- ---- `round`, by the whole part r of the fraction at the scale 2 ^ (low + prec)

-- what is dropped of r / 2 ^ prec, the whole part in units of the format's smallest value
abbrev pub dropped : Format → ℕ → ℕ
dropped f r = size (r / 2 ^ prec f) - prec f

-- the digits that the format keeps, and one more
abbrev pub halves : Format → ℕ → ℕ
halves f r = r / 2 ^ (prec f - 1 + dropped f r)

-- 2 ^ p is twice 2 ^ (p - 1)
pub twice_pow : (p : ℕ) → 2 ≤ p → 2 ^ p ≡ 2 * 2 ^ (p - 1)
twice_pow p h = ap (λ (x : ℕ). 2 ^ x) (before p h) ∙ pow-succ' 2 (p - 1)
  where
    before : (p : ℕ) → 2 ≤ p → p ≡ suc (p - 1)
    before p h = omega arith

module _ (f : Format) (s : Bool) (a b r : ℕ) (B : 0 < b) (is : a * 2 ^ (low f + prec f) / b ≡ r) where
  whole_is : a * 2 ^ low f / b ≡ r / 2 ^ prec f
  whole_is =
      sym (mul-div-mul_right (a * 2 ^ low f) b (pow_pos (prec f)))
      ∙ ap (λ (x : ℕ). x / (b * 2 ^ prec f)) (mul_assoc a (2 ^ low f) (2 ^ prec f) ∙ ap (λ (x : ℕ). a * x) (sym (pow-add 2 (low f) (prec f))))
      ∙ sym (div-div-eq-div-mul (a * 2 ^ (low f + prec f)) b (2 ^ prec f))
      ∙ ap (λ (x : ℕ). x / 2 ^ prec f) is

  -- the numerator with one digit more, brought to the scale of r
  at_scale : a * 2 ^ low f * 2 * 2 ^ (prec f - 1) ≡ a * 2 ^ (low f + prec f)
  at_scale =
      mul_assoc (a * 2 ^ low f) 2 (2 ^ (prec f - 1))
      ∙ ap (λ (x : ℕ). a * 2 ^ low f * x) (sym (twice_pow (prec f) (two f)))
      ∙ mul_assoc a (2 ^ low f) (2 ^ prec f)
      ∙ ap (λ (x : ℕ). a * x) (sym (pow-add 2 (low f) (prec f)))

  unit_at_scale : (c k : ℕ) → c * (b * 2 ^ k) * 2 ^ (prec f - 1) ≡ c * 2 ^ (prec f - 1 + k) * b
  unit_at_scale c k = simp (pow-add, mul_assoc, mul_comm, mul_left_comm)

  halves_is : (k : ℕ) → a * 2 ^ low f * 2 / (b * 2 ^ k) ≡ r / 2 ^ (prec f - 1 + k)
  halves_is k =
      sym (mul-div-mul_right (a * 2 ^ low f * 2) (b * 2 ^ k) (pow_pos (prec f - 1)))
      ∙ ap₂ (λ (x y : ℕ). x / y) at_scale (simp (pow-add, mul_assoc, mul_comm, mul_left_comm))
      ∙ sym (div-div-eq-div-mul (a * 2 ^ (low f + prec f)) b (2 ^ (prec f - 1 + k)))
      ∙ ap (λ (x : ℕ). x / 2 ^ (prec f - 1 + k)) is

  pub round_by_digits : (halves f r % 2 ≡ 1 → halves f r * 2 ^ (prec f - 1 + dropped f r) * b ≡ a * 2 ^ (low f + prec f) → ⊥)
      → round f s a b ≡ units f s ((halves f r + 1) / 2) (dropped f r)
  round_by_digits no_tie =
      let k = dropped f r in
      let h = halves f r in
      round_is f s a b
      ∙ ap (λ (w : ℕ). units f s (closest (a * 2 ^ low f) (b * 2 ^ (size w - prec f))) (size w - prec f)) whole_is
      ∙ ap (λ (q : ℕ). units f s q k)
      (closest_by_halves (a * 2 ^ low f) (b * 2 ^ k) h (mul-pos B (pow_pos k)) (halves_is k)
      (λ o e. no_tie o (sym (unit_at_scale h k) ∙ ap (λ (x : ℕ). x * 2 ^ (prec f - 1)) e ∙ at_scale)))

-- a fraction strictly between r and r + 1 at that scale is at no tie
round_between : (f : Format) (s : Bool) (a b r : ℕ) → 0 < b → r * b < a * 2 ^ (low f + prec f) → a * 2 ^ (low f + prec f) < (r + 1) * b
    → round f s a b ≡ units f s ((halves f r + 1) / 2) (dropped f r)
round_between f s a b r B above below =
    let A = a * 2 ^ (low f + prec f) in
    let c = halves f r * 2 ^ (prec f - 1 + dropped f r) in
    let is : A / b ≡ r = div-eq_of_lt-le b (le_of_lt above) below in
    round_by_digits f s a b r B is
    (λ o e. lt_irrefl A (subst (λ (x : ℕ). x < A) (ap (λ (x : ℕ). x * b) (sym is ∙ ap (λ (x : ℕ). x / b) (sym e) ∙ mul-div_cancel c B) ∙ e) above))

-- so the point halfway between r and r + 1 stands for all of them
pub round_as_middle : (f : Format) (s : Bool) (a b r : ℕ) → 0 < b → r * b < a * 2 ^ (low f + prec f) → a * 2 ^ (low f + prec f) < (r + 1) * b
    → round f s a b ≡ round f s (2 * r + 1) (2 * 2 ^ (low f + prec f))
round_as_middle f s a b r B above below =
    let S = 2 ^ (low f + prec f) in
    let P : 0 < S = pow_pos (low f + prec f) in
    round_between f s a b r B above below ∙ sym (round_between f s (2 * r + 1) (2 * S) r (mul-pos (pow_pos 1) P) (after r S P) (before r S P))
  where
    after : (r S : ℕ) → 0 < S → r * (2 * S) < (2 * r + 1) * S
    after r S P = let e : r * (2 * S) ≡ 2 * (r * S) = mul_left_comm r 2 S in simp (add-mul, one-mul, mul_assoc) (omega arith)

    before : (r S : ℕ) → 0 < S → (2 * r + 1) * S < (r + 1) * (2 * S)
    before r S P = let e : r * (2 * S) ≡ 2 * (r * S) = mul_left_comm r 2 S in simp (add-mul, one-mul, mul_assoc) (omega arith)
