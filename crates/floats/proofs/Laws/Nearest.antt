-- A fraction rounded to the nearest whole number, a tie to the even one: without a branch (`closest_by_half`), with an even number added
-- (`closest_add`), and between whole numbers (`closest_le`, `closest_ge`). Nothing here is about floats. Assumes nothing.
use Rattle.std.proofs.Common.{◌≡◌, ℕ, zero, suc, ◌+◌, ◌-◌, ◌*◌, ◌/◌, ◌%◌, ◌<◌, ◌≤◌, not, T, refl, ap, ◌∙◌, le_trans, mod-lt, div-lt_iff_lt-mul, div-add-mod', le-div_iff_mul-le, arith, eqb→eq, leb→le}
use Prim.Native.Nat.{compare, Ordering}
use native.Mathlib.Nat.{div-eq_of_lt, div-eq_of_lt-le, mul-add-div_right, mul-add-mod_self_right}
use lib.Arith.{lt_of_le-ne}
use lib.Dec.{is_le, compare_is_eq, nleb→lt}
use lib.Ieee.{nearest}
use lib.Ieee.Fits.{eq→eqb, nearest-le}
use lib.Ieee.Nearest.{closest, nearest-ge}

-- ---- the three ways a comparison can end
pub compared : (P : Ordering → Type 0) (a b : ℕ) → (a < b → P Ordering.lt) → (a ≡ b → P Ordering.eq) → (b < a → P Ordering.gt) → P (compare a b)
compared P a b l e g = go (compare a b) (leb→le a b) (nleb→lt a b) (eqb→eq a b) eq→eqb
  where
    go : (o : Ordering) → (T (is_le o) → a ≤ b) → (T (not (is_le o)) → b < a) → (T (compare_is_eq o) → a ≡ b) → (a ≡ b → T (compare_is_eq o)) → P o
    go Ordering.lt le gt eq ne = l (lt_of_le-ne (le tt) ne)
    go Ordering.eq le gt eq ne = e (eq tt)
    go Ordering.gt le gt eq ne = g (gt tt)

-- ---- half the divisor, less one where the quotient is even, is added before the division
module _ (q r h : ℕ) (H : 0 < h) (R : r < 2 * h) where
  none_up : r * 2 < 2 * h → (r + (h - 1) + q % 2) / (2 * h) ≡ 0
  none_up l = div-eq_of_lt (omega arith)

  one_up : h < r → (r + (h - 1) + q % 2) / (2 * h) ≡ 1
  one_up l = div-eq_of_lt-le (2 * h) (omega arith) (omega arith)

  tie_up : (b : ℕ) → b < 2 → r ≡ h → (r + (h - 1) + b) / (2 * h) ≡ b
  tie_up zero B e = div-eq_of_lt (omega arith)
  tie_up (suc zero) B e = div-eq_of_lt-le (2 * h) (omega arith) (omega arith)
  tie_up (suc (suc b)) B e = absurd (omega arith)

  half_up : q + (r + (h - 1) + q % 2) / (2 * h) ≡ nearest q (compare (r * 2) (2 * h))
  half_up =
      compared (λ (o : Ordering). q + (r + (h - 1) + q % 2) / (2 * h) ≡ nearest q o) (r * 2) (2 * h)
      (λ l. rw (none_up l) (omega arith))
      (λ e. rw (tie_up (q % 2) (omega arith) (omega arith)) refl)
      (λ g. rw (one_up (omega arith)) (omega arith))

regroup : (a w r b c : ℕ) → w + r ≡ a → a + b + c ≡ w + (r + b + c)
regroup a w r b c e = omega arith

pub closest_by_half : (a h : ℕ) → 0 < h → (a + (h - 1) + a / (2 * h) % 2) / (2 * h) ≡ closest a (2 * h)
closest_by_half a h H =
    let u = 2 * h in
    let U : 0 < u = omega arith in
    ap (λ (x : ℕ). x / u) (regroup a (a / u * u) (a % u) (h - 1) (a / u % 2) (div-add-mod' a u))
    ∙ mul-add-div_right U (a / u) (a % u + (h - 1) + a / u % 2)
    ∙ half_up (a / u) (a % u) h H (mod-lt a U)

-- ---- an even number added
nearest_add : (w q : ℕ) (o : Ordering) → w % 2 ≡ 0 → nearest (w + q) o ≡ w + nearest q o
nearest_add w q Ordering.lt e = refl
nearest_add w q Ordering.eq e = omega arith
nearest_add w q Ordering.gt e = omega arith

pub closest_add : (w a b : ℕ) → 0 < b → w % 2 ≡ 0 → closest (w * b + a) b ≡ w + closest a b
closest_add w a b B e = rw (mul-add-div_right B w a, mul-add-mod_self_right w b a) (nearest_add w (a / b) (compare (a % b * 2) b) e)

-- ---- between whole numbers
pub closest_le : (w a b : ℕ) → 0 < b → a < w * b → closest a b ≤ w
closest_le w a b B h = le_trans (nearest-le (a / b) (compare (a % b * 2) b)) ((div-lt_iff_lt-mul B).1 h)

pub closest_ge : (w a b : ℕ) → 0 < b → w * b ≤ a → w ≤ closest a b
closest_ge w a b B h = le_trans ((le-div_iff_mul-le B).1 h) (nearest-ge (a / b) (compare (a % b * 2) b))
