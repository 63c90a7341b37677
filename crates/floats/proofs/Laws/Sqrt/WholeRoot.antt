-- `whole_root n` is the one number r with r² ≤ n < (r + 1)². It grows with n, and a root cut down by c is the root of n cut down by c². Assumes nothing.
use Rattle.std.proofs.Common.{ap, pow-suc, ◌≡◌, ℕ, zero, suc, ◌+◌, ◌*◌, ◌/◌, ◌^◌, ◌<◌, ◌≤◌, Bool, true, false, cond, not, T, leb, sym, ◌∙◌, subst, zero-le, le_trans, le_of_eq, lt_of_lt_of_le, lt_of_le_of_lt, add_assoc, div-lt_iff_lt-mul, add-mul, mul-le-mul, mul-pos, one-mul, lt_of_not-le, le-div_iff_mul-le, zero-add, mul-one, mul-add, not-le_of_lt, le-mul_of_pos_right, div-mul-le_self, add-one-le, arith, leb→le, pow_pos}
use native.Mathlib.Nat.{pow-zero, mul-mul-mul_comm, lt-div-mul-add, two-pow-succ}
use lib.Dec.{nleb→lt}
use lib.Ieee.{size}
use lib.Ieee.Digits.{size-lt}
use Rattle.floats.specs.Sqrt.{root_digits, whole_root}

-- r² ≤ n < (r + 1)²
abbrev pub IsRoot : ℕ → ℕ → Type 0
IsRoot r n = (r * r ≤ n) × (n < (r + 1) * (r + 1))

pub square_is : (a : ℕ) → a ^ 2 ≡ a * a
square_is a = pow-suc a 1 ∙ ap (λ (x : ℕ). x * a) (pow-suc a 0 ∙ ap (λ (x : ℕ). x * a) (pow-zero a) ∙ one-mul a)

pub next_square : (r : ℕ) → (r + 1) * (r + 1) ≡ r * r + 2 * r + 1
next_square r = mul-add (r + 1) r 1 ∙ rw (add-mul, mul-one, one-mul) (sum (r * r) r)
  where
    sum : (s r : ℕ) → s + r + (r + 1) ≡ s + 2 * r + 1
    sum s r = omega arith

pub lt_of_squares : {a b : ℕ} → a * a < b * b → a < b
lt_of_squares h = lt_of_not-le (λ g. not-le_of_lt h (mul-le-mul g g))

pub le_of_squares : {r n m : ℕ} → r * r ≤ n → n < (m + 1) * (m + 1) → r ≤ m
le_of_squares {r} {n} {m} h k = below (lt_of_squares (lt_of_le_of_lt h k))
  where
    below : r < m + 1 → r ≤ m
    below l = omega arith

pub root_unique : {r q n : ℕ} → IsRoot r n → IsRoot q n → r ≡ q
root_unique {r} {q} h k =
    let a : r ≤ q = le_of_squares h.0 k.1 in
    let b : q ≤ r = le_of_squares k.0 h.1 in
    omega arith

root_digits_is : (k n r : ℕ) → r * r ≤ n → n < (r + 2 ^ k) * (r + 2 ^ k) → IsRoot (root_digits k n r) n
unfolding root_digits
root_digits_is zero n r h l = (h, l)
root_digits_is (suc k) n r h l = go (leb ((r + 2 ^ k) * (r + 2 ^ k)) n) (leb→le ((r + 2 ^ k) * (r + 2 ^ k)) n) (nleb→lt ((r + 2 ^ k) * (r + 2 ^ k)) n) (root_digits_is k n)
  where
    two_halves : r + 2 ^ suc k ≡ r + 2 ^ k + 2 ^ k
    two_halves = rw two-pow-succ (sym (add_assoc r (2 ^ k) (2 ^ k)))

    go : (b : Bool) → (T b → (r + 2 ^ k) * (r + 2 ^ k) ≤ n) → (T (not b) → n < (r + 2 ^ k) * (r + 2 ^ k))
        → ((q : ℕ) → q * q ≤ n → n < (q + 2 ^ k) * (q + 2 ^ k) → IsRoot (root_digits k n q) n)
        → IsRoot (root_digits k n (cond b (r + 2 ^ k) r)) n
    go true a b ih = ih (r + 2 ^ k) (a tt) (subst (λ (x : ℕ). n < x * x) two_halves l)
    go false a b ih = ih r h (b tt)

pub whole_root_is : (n : ℕ) → IsRoot (whole_root n) n
unfolding whole_root
whole_root_is n = root_digits_is (size n) n 0 zero-le (rw zero-add (lt_of_lt_of_le (size-lt n) (le-mul_of_pos_right (2 ^ size n) (pow_pos (size n)))))

pub whole_root_unique : {r n : ℕ} → IsRoot r n → r ≡ whole_root n
whole_root_unique {r} {n} h = root_unique h (whole_root_is n)

pub whole_root_mono : {m n : ℕ} → m ≤ n → whole_root m ≤ whole_root n
whole_root_mono {m} {n} h = le_of_squares (le_trans (whole_root_is m).0 h) (whole_root_is n).1

pub whole_root_div : (n c : ℕ) → 0 < c → whole_root n / c ≡ whole_root (n / (c * c))
whole_root_div n c C =
    let r = whole_root n in
    let q = r / c in
    let low : q * c ≤ r = div-mul-le_self r c in
    let high : r + 1 ≤ (q + 1) * c = rw (add-mul, one-mul) (add-one-le (lt-div-mul-add C)) in
    whole_root_unique (
      (le-div_iff_mul-le (mul-pos C C)).1 (le_trans (le_of_eq (mul-mul-mul_comm q q c c)) (le_trans (mul-le-mul low low) (whole_root_is n).0)),
      (div-lt_iff_lt-mul (mul-pos C C)).1 (lt_of_lt_of_le (whole_root_is n).1 (le_trans (mul-le-mul high high) (le_of_eq (sym (mul-mul-mul_comm (q + 1) (q + 1) c c))))),
    )
