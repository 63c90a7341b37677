-- The values that a format holds: each is a number of at most `prec` digits, shifted, in units of the format's smallest value, `round` leaves it as it is, and a positive one has
-- exactly `prec` digits in finer units (`Full`), as in a wider format (`NormalIn`). The bit pattern is read off the digits. Assumes nothing.
use Rattle.std.proofs.Common.{◌≡◌, ℕ, suc, Bool, ℤ, le_antisymm, ◌+◌, ◌-◌, ◌*◌, ◌^◌, ◌<◌, ◌≤◌, true, false, T, sym, refl, ap, ◌∙◌, subst, le_trans, le_of_eq, lt_of_lt_of_le, lt_of_le_of_lt, mul-le-mul_right, mul_assoc, mul-lt-mul_of_pos_right, lt_of_not-le, zero-add, mul_right_comm, not-le_of_lt, arith, pow_pos, pow_mono, pow-add, shl_lt}
use native.Mathlib.Nat.{eq_of_mul-eq-mul_right}
use lib.Ieee.{Float, fin, Format, prec, emax, low, up, down, size, round, fits, le, hid, to_bits, inf, nan}
use lib.Ieee.Digits.{size-lt, size-le, size_reaches}
use lib.Ieee.Fits.{two, two-le_pos}
use lib.Ieee.Exact.{HasValue}
use lib.Ieee.Scale.{finite, overflow}
use lib.Ieee.Positive.{num, den, den_pos, positive, positive-finite, own_value, first_pos, value_pos}
use Rattle.floats.proofs.Laws.Order
use Rattle.floats.proofs.Laws.Order.{eq→same}
use Rattle.floats.proofs.Laws.Round
use Rattle.floats.proofs.Laws.Round.{up_power, down_power, fits→holds, value_sign, round_of_fin, round_of_value}
use Rattle.floats.proofs.Laws.Pattern.{to_bits_of_value, digits_pattern}

-- ---- in units of the smallest value

-- The size of x is digits * 2 ^ place units, with no more digits than the format keeps, and below the first power of two that is too large.
pub record InUnits (f : Format) (x : Float) : Type 0 where
  pub digits : ℕ
  pub place : ℕ
  pub few : digits < 2 ^ prec f
  pub equals : num x * 2 ^ low f ≡ digits * 2 ^ place * den x
  pub inside : digits * 2 ^ place < overflow f

pub in_units : (f : Format) (x : Float) → T (fits f x) → T (finite x) → InUnits f x
in_units f (fin s m e) fit t =
    let h = fits→holds f s m e fit in
    let u = Round.in_units f m (up e) (down e) (up_power e) (down_power e) h in
    record {
      digits = m;
      place = u.0;
      few = h.digits;
      equals = mul_assoc m (up e) (2 ^ low f) ∙ ap (λ (x : ℕ). m * x) u.1 ∙ sym (mul_assoc m (2 ^ u.0) (down e));
      inside = u.2;
    }
in_units f nan fit t = elim t [ ]
in_units f (inf _) fit t = elim t [ ]

-- a value of the format is not changed by rounding
pub round_own : (f : Format) (s : Bool) (m : ℕ) (e : ℤ) → T (fits f (fin s m e)) → round f s (m * up e) (down e) ≡ fin s m e
round_own f s m e h = round_of_fin f s m e h

-- ---- the bit pattern of a normal value, which has all the digits that the format keeps
pub size_is : (n z : ℕ) → 2 ^ z ≤ n → n < 2 ^ suc z → size n ≡ suc z
size_is n z at_least below = le_antisymm (size-le n (suc z) below) (lt_of_not-le (λ (g : size n ≤ z). not-le_of_lt (lt_of_lt_of_le (size-lt n) (pow_mono g)) at_least))

-- a number of p digits with k zeros after it
pub size_shifted : (p q k : ℕ) → 2 ≤ p → 2 ^ (p - 1) ≤ q → q < 2 ^ p → size (q * 2 ^ k) ≡ p + k
size_shifted p q k P at_least below =
    size_is (q * 2 ^ k) (p - 1 + k)
    (le_trans (le_of_eq (pow-add 2 (p - 1) k)) (mul-le-mul_right (2 ^ k) at_least))
    (subst (λ (x : ℕ). q * 2 ^ k < 2 ^ x) (one_more p k P) (shl_lt p k below))
    ∙ sym (one_more p k P)
  where
    one_more : (p k : ℕ) → 2 ≤ p → p + k ≡ suc (p - 1 + k)
    one_more p k h = omega arith

pub to_bits_normal : (f : Format) (x : Float) (q k : ℕ) → hid f ≤ q → q < 2 ^ prec f → HasValue x false (q * 2 ^ k) (2 ^ low f) → to_bits f x ≡ k * hid f + q
to_bits_normal f x q k at_least below v =
    to_bits_of_value f x false (q * 2 ^ k) v ∙ zero-add _ ∙ digits_pattern (prec f) k q (two-le_pos (prec f) (two f)) below (λ (K : 0 < k). at_least)

-- ---- a positive value with all of its format's digits

-- a number above 0 with at most p digits, shifted until it has p
shifted_full : (p m : ℕ) → 0 < m → m < 2 ^ p → (i : ℕ) × (i < p) × (2 ^ (p - 1) ≤ m * 2 ^ i) × (m * 2 ^ i < 2 ^ p)
shifted_full p m M h =
    let z = size m in
    let i = p - z in
    let some : 0 < z = lt_of_not-le (λ (g : z ≤ 0). not-le_of_lt (lt_of_lt_of_le (size-lt m) (pow_mono g)) M) in
    let z_le : z ≤ p = size-le m p h in (
      i,
      omega arith,
      le_trans (le_of_eq (ap (λ (x : ℕ). 2 ^ x) (lower z p some z_le) ∙ pow-add 2 (z - 1) i)) (mul-le-mul_right (2 ^ i) (size_reaches m (z - 1) (omega arith))),
      subst (λ (x : ℕ). m * 2 ^ i < 2 ^ x) (upper z p z_le) (shl_lt z i (size-lt m)),
    )
  where
    lower : (z p : ℕ) → 0 < z → z ≤ p → p - 1 ≡ z - 1 + (p - z)
    lower z p Z h = omega arith

    upper : (z p : ℕ) → z ≤ p → z + (p - z) ≡ p
    upper z p h = omega arith

pub value_of : (x : Float) (a c : ℕ) → T (positive x) → num x * c ≡ a * den x → HasValue x false a c
value_of (fin false m d) a c p e = (refl, e)
value_of nan a c p e = elim p [ ]
value_of (inf _) a c p e = elim p [ ]
value_of (fin true m d) a c p e = elim p [ ]

-- one fraction at two scales: num / den is m * 2 ^ i over 2 ^ l, and m * 2 ^ j over 2 ^ s
pub rescaled : (num den m i l s j : ℕ) → num * 2 ^ l ≡ m * 2 ^ i * den → i + s ≡ j + l → num * 2 ^ s ≡ m * 2 ^ j * den
rescaled num den m i l s j h e =
    let powers : 2 ^ i * 2 ^ s ≡ 2 ^ j * 2 ^ l = simp pow-add at (ap (λ (x : ℕ). 2 ^ x) e) in
    eq_of_mul-eq-mul_right (2 ^ l) (pow_pos l) (num * 2 ^ s) (m * 2 ^ j * den)
    (mul_right_comm num (2 ^ s) (2 ^ l) ∙ ap (λ (x : ℕ). x * 2 ^ s) h ∙ before m (2 ^ i) den (2 ^ s) ∙ ap (λ (x : ℕ). m * den * x) powers ∙ sym (before m (2 ^ j) den (2 ^ l)))
  where
    before : (m i den s : ℕ) → m * i * den * s ≡ m * den * (i * s)
    before m i den s = omega arith

-- In units of 2 ^ -(low + prec), of which the smallest value has a number of more than prec digits, x is digits * 2 ^ place.
pub record Full (f : Format) (x : Float) : Type 0 where
  pub digits : ℕ
  pub place : ℕ
  pub full : hid f ≤ digits
  pub few : digits < 2 ^ prec f
  pub placed : 0 < place
  pub equals : num x * 2 ^ (low f + prec f) ≡ digits * 2 ^ place * den x
  pub inside : digits * 2 ^ place < 2 ^ (low f + suc (emax f) + prec f)

pub in_full : (f : Format) (x : Float) → T (fits f x) → T (positive x) → Full f x
in_full f x fit p =
    let u = in_units f x fit (positive-finite x p) in
    let own = value_of x (u.digits * 2 ^ u.place) (2 ^ low f) p u.equals in
    let some = first_pos u.digits (2 ^ u.place) (value_pos x (u.digits * 2 ^ u.place) (2 ^ low f) p (pow_pos (low f)) own) in
    let s = shifted_full (prec f) u.digits some u.few in
    go u.digits u.place s.0 u.equals u.inside s.1 s.2 s.3
  where
    go : (m j i : ℕ) → num x * 2 ^ low f ≡ m * 2 ^ j * den x → m * 2 ^ j < overflow f → i < prec f → hid f ≤ m * 2 ^ i → m * 2 ^ i < 2 ^ prec f → Full f x
    go m j i equals inside I full few =
        let k = j + (prec f - i) in
        let split : m * 2 ^ (i + k) ≡ m * 2 ^ i * 2 ^ k = ap (λ (y : ℕ). m * y) (pow-add 2 i k) ∙ sym (mul_assoc m (2 ^ i) (2 ^ k)) in
        let moved : m * 2 ^ i * 2 ^ k ≡ m * 2 ^ j * 2 ^ prec f =
        sym split ∙ ap (λ (y : ℕ). m * 2 ^ y) (omega arith) ∙ ap (λ (y : ℕ). m * y) (pow-add 2 j (prec f)) ∙ sym (mul_assoc m (2 ^ j) (2 ^ prec f)) in
        record {
          digits = m * 2 ^ i;
          place = k;
          full = full;
          few = few;
          placed = omega arith;
          equals = rescaled (num x) (den x) m j (low f) (low f + prec f) (i + k) equals (omega arith) ∙ ap (λ (y : ℕ). y * den x) split;
          inside = lt_of_le_of_lt (le_of_eq moved)
              (lt_of_lt_of_le (mul-lt-mul_of_pos_right inside (pow_pos (prec f))) (le_of_eq (sym (pow-add 2 (low f + suc (emax f)) (prec f)))));
        }

-- ---- a positive value of the format f in a wider format g, where it is normal

-- In g the size of x is digits * 2 ^ (prec g - prec f) * 2 ^ place units, and the first factor has all of f's digits.
pub record NormalIn (f g : Format) (x : Float) : Type 0 where
  pub digits : ℕ
  pub place : ℕ
  pub full : hid f ≤ digits
  pub few : digits < 2 ^ prec f
  pub equals : num x * 2 ^ low g ≡ digits * 2 ^ (prec g - prec f) * 2 ^ place * den x
  pub bits : to_bits g x ≡ place * hid g + digits * 2 ^ (prec g - prec f)
  pub low_place : low g < place + low f + prec g
  pub high_place : place + prec g ≤ suc (emax f) + low g

pow_lt_back : (a b : ℕ) → 2 ^ a < 2 ^ b → a < b
pow_lt_back a b h = lt_of_not-le (λ (g : b ≤ a). not-le_of_lt h (pow_mono g))

-- x has p digits j places up, over the lowest place l with p places more: its places in a wider format of q digits and the lowest place k, as numbers
places : (j p q l k : ℕ) → 2 ≤ p → 0 < j → p ≤ q → l + q ≤ suc k
    → (j + k ≡ q - p + (j + k - (l + q)) + (l + p)) × (k < j + k - (l + q) + l + q) × (q - 1 ≡ p - 1 + (q - p)) × (p + (q - p) ≡ q)
places j p q l k some placed wider deeper = omega arith

top_place : (j p q l k e : ℕ) → 2 ≤ p → p - 1 + j < l + suc e + p → l + q ≤ suc k → 0 < j → j + k - (l + q) + q ≤ suc e + k
top_place j p q l k e some h deeper placed = omega arith

pub normal_in : (f g : Format) (x : Float) → T (fits f x) → T (positive x) → prec f ≤ prec g → low f + prec g ≤ suc (low g) → NormalIn f g x
normal_in f g x fit p wider deeper =
    let u = in_full f x fit p in
    let P = prec g - prec f in
    let k = u.place + low g - (low f + prec g) in
    let n = places u.place (prec f) (prec g) (low f) (low g) (two f) u.placed wider deeper in
    let eq : num x * 2 ^ low g ≡ u.digits * 2 ^ P * 2 ^ k * den x =
    rescaled (num x) (den x) u.digits u.place (low f + prec f) (low g) (P + k) u.equals n.0
    ∙ ap (λ (y : ℕ). y * den x) (ap (λ (y : ℕ). u.digits * y) (pow-add 2 P k) ∙ sym (mul_assoc u.digits (2 ^ P) (2 ^ k))) in
    let at_least : hid g ≤ u.digits * 2 ^ P =
    le_trans (le_of_eq (ap (λ (y : ℕ). 2 ^ y) n.2 ∙ pow-add 2 (prec f - 1) P)) (mul-le-mul_right (2 ^ P) u.full) in
    record {
      digits = u.digits;
      place = k;
      full = u.full;
      few = u.few;
      equals = eq;
      bits = to_bits_normal g x (u.digits * 2 ^ P) k at_least
          (subst (λ (y : ℕ). u.digits * 2 ^ P < 2 ^ y) n.3 (shl_lt (prec f) P u.few))
          (value_of x (u.digits * 2 ^ P * 2 ^ k) (2 ^ low g) p eq);
      low_place = n.1;
      high_place = top_place u.place (prec f) (prec g) (low f) (low g) (emax f) (two f)
          (pow_lt_back (prec f - 1 + u.place) (low f + suc (emax f) + prec f)
          (lt_of_le_of_lt (le_trans (le_of_eq (pow-add 2 (prec f - 1) u.place)) (mul-le-mul_right (2 ^ u.place) u.full)) u.inside))
          deeper u.placed;
    }

-- ---- positive values

pub round_of : (f : Format) (y : Float) → T (positive y) → T (fits f y) → round f false (num y) (den y) ≡ y
round_of f y p fit = round_of_value f y false (num y) (den y) (den_pos y) fit (own_value y p)

pub le_antisymm_positive : (f : Format) (x y : Float) → T (fits f x) → T (fits f y) → T (positive x) → T (positive y) → T (le x y) → T (le y x) → x ≡ y
le_antisymm_positive f x y fit fit' p q h k =
    eq→same f x y fit fit' (Order.float_le_antisymm x y h k) (value_sign x false (num x) (den x) (own_value x p) ∙ sym (value_sign y false (num y) (den y) (own_value y q)))
