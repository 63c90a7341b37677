-- What is laid reads back, and is as long as its layout; the floats from a byte on, one by one. Assumes nothing.
use Prim.Native.Nat.{ℕ, zero, suc, ◌+◌, ◌*◌, ◌/◌, ◌%◌, ◌^◌, ◌<◌}
use native.Mathlib.Omega.{arith}
use native.Mathlib.Nat.{div-div-eq-div-mul, div-add-mod}
use mathlib.Core.Path.{◌≡◌, refl, ap, ◌∙◌}
use mathlib.Core.List.{List, [], ◌∷◌, ◌++◌, map, append_assoc}
use lib.Dec.{T}
use lib.ListN.{length, drop, get_or, length-append}
use lib.Seq.{drop_at, get_or-append_seam, get_or-append-add}
use lib.Ieee.{Float, binary32, fits, to_bits}
use lib.Ieee.Bits.{of_bits-to_bits, of_bits-fits, to_bits-lt}
use Rattle.floats.specs.Bits.{le_word}
use Rattle.records.specs.Layout.{float_at, float_bytes, size, Takes, reads_from, reads, floats_from}
use Rattle.records.specs.Layout.{Value, number, mark, parts_of, laid, Fit, given}

-- ---- a float

word_back : (x : ℕ) → x < 2 ^ 32 → le_word (x % 256) (x / 256 % 256) (x / 65536 % 256) (x / 16777216 % 256) ≡ x
word_back x small =
    let two : x / 256 / 256 ≡ x / 65536 = div-div-eq-div-mul x 256 256 in
    let three : x / 65536 / 256 ≡ x / 16777216 = div-div-eq-div-mul x 65536 256 in
    let a : 256 * (x / 256) + x % 256 ≡ x = div-add-mod x 256 in
    let b : 256 * (x / 65536) + x / 256 % 256 ≡ x / 256 = rw two at (div-add-mod (x / 256) 256) in
    let c : 256 * (x / 16777216) + x / 65536 % 256 ≡ x / 65536 = rw three at (div-add-mod (x / 65536) 256) in
    let top : x / 16777216 % 256 ≡ x / 16777216 = omega arith in
    omega (arith, a, b, c, top)

pub float_back : (x : Float) → T (fits binary32 x) → (front more : List ℕ) → float_at (front ++ (float_bytes x ++ more)) (length front) ≡ x
unfolding float_at
float_back x fit front more =
    rw (get_or-append_seam, get_or-append-add, get_or-append-add, get_or-append-add, word_back (to_bits binary32 x) (to_bits-lt binary32 x fit))
    (of_bits-to_bits binary32 x fit)

pub float_at_fits : (bytes : List ℕ) (at : ℕ) → T (fits binary32 (float_at bytes at))
unfolding float_at
float_at_fits bytes at = of_bits-fits binary32 _

-- ---- what is laid

pub laid_size : (values : List Value) → length (laid values) ≡ size (parts_of values)
unfolding laid
laid_size [] = refl
laid_size (number x ∷ values) = omega (arith, laid_size values)
laid_size (mark m ∷ values) = omega (arith, laid_size values)

pub laid_append : (front back : List Value) → laid (front ++ back) ≡ laid front ++ laid back
unfolding laid
laid_append [] back = refl
laid_append (number x ∷ front) back = ap (λ (l : List ℕ). float_bytes x ++ l) (laid_append front back)
laid_append (mark m ∷ front) back = ap (λ (l : List ℕ). m ∷ l) (laid_append front back)

-- what is laid in two parts, and the second part by itself
pub laid_parts : (front back : List Value) (more : List ℕ) → laid (front ++ back) ++ more ≡ laid front ++ (laid back ++ more)
laid_parts front back more = rw (laid_append front back) (append_assoc (laid front) (laid back) more)

pub laid_behind : (front back : List Value) (more : List ℕ) → drop (size (parts_of front)) (laid (front ++ back) ++ more) ≡ laid back ++ more
laid_behind front back more = rw (laid_parts front back more) (drop_at (laid front) (laid back ++ more) (size (parts_of front)) (laid_size front))

pub fit_parts : (front back : List Value) → Fit (front ++ back) → Fit front × Fit back
fit_parts [] back fit = (tt, fit)
fit_parts (number x ∷ front) back fit = let (first, second) = fit_parts front back fit.1 in ((fit.0, first), second)
fit_parts (mark m ∷ front) back fit = fit_parts front back fit

pub read_back_from : {A : Type 0} (values : List Value) → Fit values → (front more : List ℕ) (f : Takes (parts_of values) A)
    → reads_from (parts_of values) (length front) f (front ++ (laid values ++ more)) ≡ given values f
unfolding laid
read_back_from [] fit front more f = refl
read_back_from (number x ∷ values) fit front more f =
    let onward = read_back_from values fit.1 (front ++ float_bytes x) more (f x) in
    rw (float_back x fit.0 front (laid values ++ more)) (rw (append_assoc, length-append) at onward)
read_back_from (mark m ∷ values) fit front more f =
    let onward = read_back_from values fit (front ++ (m ∷ [])) more (f m) in
    rw get_or-append_seam (rw (append_assoc, length-append) at onward)

pub read_back : {A : Type 0} (values : List Value) → Fit values → (more : List ℕ) (f : Takes (parts_of values) A)
    → reads (parts_of values) f (laid values ++ more) ≡ given values f
read_back values fit more f = read_back_from values fit [] more f

-- ---- floats in a row

pub floats_counted : (at n : ℕ) (bytes : List ℕ) → length (floats_from at n bytes) ≡ n
unfolding floats_from
floats_counted at zero bytes = refl
floats_counted at (suc n) bytes = ap suc (floats_counted (at + 4) n bytes)

pub floats_at : (at n k : ℕ) (bytes : List ℕ) (d : Float) → k < n → get_or (floats_from at n bytes) k d ≡ float_at bytes (at + 4 * k)
unfolding floats_from
floats_at at zero k bytes d below = absurd (omega arith)
floats_at at (suc n) zero bytes d below = ap (float_at bytes) (omega arith)
floats_at at (suc n) (suc k) bytes d below = floats_at (at + 4) n k bytes d (omega arith) ∙ ap (float_at bytes) (omega arith)

-- one float more
pub floats_last : (at n : ℕ) (bytes : List ℕ) → floats_from at (suc n) bytes ≡ floats_from at n bytes ++ (float_at bytes (at + 4 * n) ∷ [])
unfolding floats_from
floats_last at zero bytes = ap (λ (place : ℕ). float_at bytes place ∷ []) (omega arith)
floats_last at (suc n) bytes =
    ap (λ (l : List Float). float_at bytes at ∷ l) (floats_last (at + 4) n bytes)
    ∙ ap (λ (place : ℕ). float_at bytes at ∷ (floats_from (at + 4) n bytes ++ (float_at bytes place ∷ []))) (omega arith)

-- Floats laid in a row read back.
pub floats_back_from : (values : List Float) → Fit (map number values) → (front more : List ℕ)
    → floats_from (length front) (length values) (front ++ (laid (map number values) ++ more)) ≡ values
unfolding floats_from laid
floats_back_from [] fit front more = refl
floats_back_from (x ∷ values) fit front more =
    let onward = floats_back_from values fit.1 (front ++ float_bytes x) more in
    rw (float_back x fit.0 front (laid (map number values) ++ more)) (ap (λ (l : List Float). x ∷ l) (rw (append_assoc, length-append) at onward))

pub floats_back : (values : List Float) → Fit (map number values) → (more : List ℕ)
    → floats_from 0 (length values) (laid (map number values) ++ more) ≡ values
floats_back values fit more = floats_back_from values fit [] more
