-- `floats::rem::rem` meets its contract: by the definition's own cases where x or y is no finite number or y is 0, and else by whole numbers.
-- Assumes nothing.
use Rattle.std.proofs.Common.{◌≡◌, ℕ, ◌-◌, ◌*◌, ◌/◌, ◌%◌, ◌^◌, ◌<◌, ◌≤◌, Bool, cond, pos, false, true, T, sym, ap, ap₂, ◌∙◌, inl, inr, arith, mod-lt}
use Rattle.std.proofs.lemmas.Float.{T_from_true}
use lib.Ieee.{Float, binary32, fits, is_nan, neg, rem, mul, round, of_int}
use lib.Ieee.Exact.{HasValue}
use Rattle.floats.specs.Compare.{is_negative}
use Rattle.floats.proofs.Laws.Order.{number}
use Rattle.floats.proofs.Laws.Special.{quiet_nan, is_nan_lem}
use Rattle.floats.proofs.Laws.Sizes.{up_to_infinite}
use Rattle.floats.proofs.Laws.Digits.{size, digits, place, scaled_int, rem_by_digits, rem_of_nan, rem_by_nan, rem_of_infinity, rem_by_zero, rem_of_smaller_pattern}
use Rattle.floats.proofs.rem.rem.Goals as goal

is_number : (x : Float) → is_nan x ≡ false → T (number x)
is_number x h = rw h tt

pub returns-then-is_nan : goal.returns-then-is_nan
returns-then-is_nan c =
    let e = is_nan_lem c.args.x (sym c.is_nan.ensures.value ∙ c.if-is_nan.true) in
    e ∙ sym (ap (λ (z : Float). rem binary32 z c.args.y) e ∙ rem_of_nan binary32 c.args.y)

pub returns-then-is_nan-2 : goal.returns-then-is_nan-2
returns-then-is_nan-2 c =
    let e = is_nan_lem c.args.y (sym c.is_nan-2.ensures.value ∙ c.if-is_nan-2.true) in
    e ∙ sym (ap (rem binary32 c.args.x) e ∙ rem_by_nan binary32 c.args.x)

pub returns-then-a-eq-INFINITE : goal.returns-then-a-eq-INFINITE
returns-then-a-eq-INFINITE c =
    quiet_nan
    ∙ sym (elim c.then-a-eq-INFINITE.either [
      | inl h ↦ rem_of_infinity c.args.x c.args.y (T_from_true _ c.well_formed.0.1) (sym c.size_bits-a.ensures ∙ h)
      | inr h ↦ rem_by_zero c.args.x c.args.y (T_from_true _ c.well_formed.1.0.1) (sym c.size_bits-b.ensures ∙ h.1)
    ])

pub returns-then-a-b : goal.returns-then-a-b
returns-then-a-b c =
    let l : size binary32 c.args.x < size binary32 c.args.y = omega arith in
    sym (rem_of_smaller_pattern binary32 c.args.x c.args.y (T_from_true _ c.well_formed.0.1) (T_from_true _ c.well_formed.1.0.1)
    (is_number c.args.y (sym c.is_nan-2.ensures.value ∙ c.if-is_nan-2.false)) l)

-- ---- by digits

below_infinite : (x : Float) (a : ℕ) → fits binary32 x ≡ true → is_nan x ≡ false → a ≡ size binary32 x → (a ≡ 255 * 2 ^ 23 → ⊥) → a < 255 * 2 ^ 23
below_infinite x a p n e h = let l : size binary32 x ≤ 255 * 2 ^ 23 = up_to_infinite binary32 x (T_from_true _ p) (is_number x n) in omega arith

small_place : (b : ℕ) → b < 255 * 2 ^ 23 → b / 2 ^ 23 - 1 < 254
small_place b h = omega arith

pub power-requires : goal.power-requires
power-requires c =
    let l = below_infinite c.args.x c.size_bits-a.result c.well_formed.0.1 (sym c.is_nan.ensures.value ∙ c.if-is_nan.false) c.size_bits-a.ensures c.if-a-eq-INFINITE.false in
    rw c.place-low.ensures (small_place c.size_bits-b.result (omega arith))

remainder_small : (n b r : ℕ) → 0 < b → r ≡ n % digits binary32 b → r ≤ 2 ^ 24
remainder_small n b r h e = let l : n % digits binary32 b < digits binary32 b = mod-lt n (omega arith) in omega arith

by_digits : (x y : Float) (a b r k : ℕ) (s : Bool) (v w : Float) → fits binary32 x ≡ true → fits binary32 y ≡ true
    → a ≡ size binary32 x → b ≡ size binary32 y → a < 255 * 2 ^ 23 → 0 < b → b ≤ a
    → r ≡ digits binary32 a * 2 ^ (place binary32 a - k) % digits binary32 b → k ≡ place binary32 b → s ≡ is_negative x
    → v ≡ cond s (neg (of_int binary32 (pos r))) (of_int binary32 (pos r)) → HasValue w false (2 ^ k) (2 ^ 149) → mul binary32 v w ≡ rem binary32 x y
by_digits x y a b r k s v w p q d e h B l is at sign made scale =
    ap (λ (z : Float). mul binary32 z w) made
    ∙ scaled_int s r k w (remainder_small (digits binary32 a * 2 ^ (place binary32 a - k)) b r B is) scale
    ∙ ap₂ (λ (t : Bool) (n : ℕ). round binary32 t n (2 ^ 149)) sign
    (ap₂ (λ (n j : ℕ). n * 2 ^ j) (is ∙ ap (λ (j : ℕ). digits binary32 a * 2 ^ (place binary32 a - j) % digits binary32 b) at) at)
    ∙ sym (rem_by_digits binary32 x y a b (T_from_true _ p) (T_from_true _ q) d e h B l)

pub returns : goal.returns
returns c =
    let a = c.size_bits-a.result in
    let b = c.size_bits-b.result in
    let l = below_infinite c.args.x a c.well_formed.0.1 (sym c.is_nan.ensures.value ∙ c.if-is_nan.false) c.size_bits-a.ensures c.if-a-eq-INFINITE.false in
    by_digits c.args.x c.args.y a b c.shifted_mod-r.result c.place-low.result c.is_negative.result c.with_sign.result c.power.result
    c.well_formed.0.1 c.well_formed.1.0.1 c.size_bits-a.ensures c.size_bits-b.ensures l (omega arith) c.if-a-b.false
    (c.shifted_mod-r.ensures
    ∙ ap₂ (λ (m n : ℕ). m % n) (ap₂ (λ (m i : ℕ). m * 2 ^ (i - c.place-low.result)) c.digits.ensures c.place.ensures) c.digits-2.ensures)
    c.place-low.ensures c.is_negative.ensures
    (c.with_sign.ensures ∙ ap (λ (z : Float). cond c.is_negative.result (neg z) z) c.nearest_u32_to_f32.ensures) c.power.ensures
