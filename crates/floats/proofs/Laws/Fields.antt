-- What a bit pattern is worth, by its fields, over both formats. Assumes nothing.
use Rattle.std.proofs.Common.{◌≡◌, ℕ, zero, suc, ◌+◌, ◌-◌, ◌*◌, ◌/◌, ◌%◌, ◌^◌, ◌<◌, min, Bool, true, false, not, cond, eqb, leb, sym, refl, true≢false, div-lt_iff_lt-mul, zero-add, zero-mul, arith, pow_pos, eq-eqb, ne_eqb, le-leb}
use lib.Ieee.{nan, inf, Format, binary32, binary64, prec, emax, low, odd, neg, is_nan, hid, ones, top, of_fields, of_bits}
use borrow.Author.Tests.{lt-leb}
use lib.Ieee.Exact.{HasValue, odd_sign}

one : (x : ℕ) → min 1 (suc x) ≡ 1
one x = omega arith

before : (x : ℕ) → suc x - 1 ≡ x
before x = omega arith

once : (h t : ℕ) → h + t ≡ 1 * h + t
once h t = omega arith

below_ones : (o x : ℕ) → suc x < o → suc x ≡ o → ⊥
below_ones o x h e = omega arith

-- a field of 0 has no leading digit, and counts as a field of 1
fields_value : (f : Format) (s : Bool) (x t : ℕ) → x < ones f → HasValue (of_fields f s x t) s ((min 1 x * hid f + t) * 2 ^ (x - 1)) (2 ^ low f)
unfolding of_fields
fields_value f s zero t h = rw (zero-mul, zero-add) (odd_sign (prec f) s t 0 (low f))
fields_value f s (suc x) t h =
    rw (ne_eqb (suc x) (ones f) (below_ones (ones f) x h), one x, before x, sym (once (hid f) t)) (odd_sign (prec f) s (hid f + t) x (low f))

pub of_bits_value : (f : Format) (b : ℕ) → b % top f < ones f * hid f
    → HasValue (of_bits f b) (leb (top f) b) ((min 1 (b % top f / hid f) * hid f + b % hid f) * 2 ^ (b % top f / hid f - 1)) (2 ^ low f)
unfolding of_bits
of_bits_value f b h = fields_value f (leb (top f) b) (b % top f / hid f) (b % hid f) ((div-lt_iff_lt-mul (pow_pos (prec f - 1))).1 h)

-- what is neither a NaN nor below the infinity is the infinity
fields_top : (f : Format) (s : Bool) (x t : ℕ) → suc x ≡ ones f → is_nan (of_fields f s (suc x) t) ≡ false → of_fields f s (suc x) t ≡ inf s
unfolding of_fields is_nan
fields_top f s x t e = rw (eq-eqb (suc x) (ones f) e) (go (eqb t 0))
  where
    go : (b : Bool) → is_nan (cond b (inf s) nan) ≡ false → cond b (inf s) nan ≡ inf s
    go true n = refl
    go false n = absurd (true≢false n)

pub of_bits_infinite : (f : Format) (b : ℕ) → b % top f / hid f ≡ ones f → is_nan (of_bits f b) ≡ false → of_bits f b ≡ inf (leb (top f) b)
unfolding of_bits
of_bits_infinite f b e = at (b % top f / hid f) e
  where
    no_field : (o : ℕ) → 0 ≡ 2 * o + 1 → ⊥
    no_field o h = omega arith

    at : (x : ℕ) → x ≡ ones f → is_nan (of_fields f (leb (top f) b) x (b % hid f)) ≡ false → of_fields f (leb (top f) b) x (b % hid f) ≡ inf (leb (top f) b)
    at zero h = absurd (no_field (emax f) h)
    at (suc x) h = fields_top f (leb (top f) b) x (b % hid f) h

-- ---- a pattern below the sign's bit, and with it: the same float with its sign flipped
neg_odd : (p : ℕ) (s : Bool) (q k l : ℕ) → neg (odd p s q k l) ≡ odd p (not s) q k l
unfolding neg odd
neg_odd p s zero k l = refl
neg_odd p s (suc q) k l = refl

neg_fields : (f : Format) (s : Bool) (x t : ℕ) → neg (of_fields f s x t) ≡ of_fields f (not s) x t
unfolding of_fields neg
neg_fields f s zero t = neg_odd (prec f) s t 0 (low f)
neg_fields f s (suc x) t = go (eqb (suc x) (ones f)) (eqb t 0)
  where
    go : (a b : Bool) → neg (cond a (cond b (inf s) nan) (odd (prec f) s (hid f + t) x (low f))) ≡ cond a (cond b (inf (not s)) nan) (odd (prec f) (not s) (hid f + t) x (low f))
    go true true = refl
    go true false = refl
    go false b = neg_odd (prec f) s (hid f + t) x (low f)

pub negated : (f : Format) (b : ℕ) → b < top f → neg (of_bits f b) ≡ of_bits f (b + top f)
unfolding of_bits
negated f b h =
    rw (lt-leb (top f) b h, le-leb (top f) (b + top f) (omega arith), same_size f b, same_digits f b)
    (neg_fields f false (b % top f / hid f) (b % hid f))
  where
    same_size : (g : Format) (c : ℕ) → (c + top g) % top g ≡ c % top g
    same_size binary32 c = omega arith
    same_size binary64 c = omega arith

    same_digits : (g : Format) (c : ℕ) → (c + top g) % hid g ≡ c % hid g
    same_digits binary32 c = omega arith
    same_digits binary64 c = omega arith
