-- Laws of min, max, clamp and signum, and of abs what proofs/Laws/Order.antt leaves: which of their arguments they give, and the bounds that hold of it.
-- Assumes nothing.
use Rattle.std.proofs.Common.{◌≡◌, Bool, true, false, cond, ◌&&◌, T, ◌⊎◌, pos, sym, refl, ap, ◌∙◌, subst, inl, inr, ⊎_elim}
use lib.Dec.{not_T}
use lib.Ieee.{Float, nan, inf, fin, Format, binary32, binary64, is_nan, fits, neg, lt, le}
use lib.Ieee.Bits.{is_true, is_false}
use lib.Ieee.Scale.{finite}
use Rattle.floats.specs.Compare.{abs, is_negative, signum}
use Rattle.floats.specs.MinMax.{min, max, clamp}
use Rattle.floats.proofs.Laws.Special.{is_nan_lem}
use Rattle.floats.proofs.Laws.Order.{number, nan_or_number, +0, -0, nan_left, nan_right, le_numbers, lt_numbers, lt→le, float_le_refl, le_or_lt, lt_excludes, le_lt_trans, lt_le_trans, float_le_trans, lt_neg, neg_neg, neg_nan, neg_number, neg_le, neg_lt, abs_is, abs_le, abs_positive, greatest_only, inf_greatest, finite_between}

-- ---- what a test says of the arms of a `cond`
not_lt : (x y : Float) → T (le x y) → lt y x ≡ false
not_lt x y h = is_false (lt y x) (not_T (lt y x) (λ (t : T (lt y x)). lt_excludes y x t h))

not_nan : (x : Float) → T (number x) → x ≡ nan → ⊥
not_nan x p e = unfold is_nan in subst (λ (z : Float). T (number z)) e p

same_number : (x y : Float) → T (number x) → T (number y) → is_nan x ≡ is_nan y
same_number x y p q = is_false (is_nan x) p ∙ sym (is_false (is_nan y) q)

and_true : (b : Bool) → b && true ≡ b
and_true true = refl
and_true false = refl

-- ---- min

pub min_nan_left : (y : Float) → min nan y ≡ y
unfolding min is_nan
min_nan_left y = refl

pub min_nan_right : (x : Float) → min x nan ≡ x
unfolding min
min_nan_right x = rw (nan_left x).0 (other (is_nan x) (is_nan_lem x))
  where
    other : (b : Bool) → (b ≡ true → x ≡ nan) → cond b nan x ≡ x
    other true e = sym (e refl)
    other false e = refl

pub min_left : (x y : Float) → T (le x y) → min x y ≡ x
unfolding min
min_left x y h = rw (is_false (is_nan x) (le_numbers x y h).0, not_lt x y h)

pub min_right : (x y : Float) → T (lt y x) → min x y ≡ y
unfolding min
min_right x y h = rw (is_false (is_nan x) (lt_numbers y x h).1, is_true (lt y x) h)

-- any property of min, by these four
pub min_cases : (P : Float → Type 0) (x y : Float) → (x ≡ nan → P y) → (y ≡ nan → P x) → (T (le x y) → P x) → (T (lt y x) → P y) → P (min x y)
min_cases P x y a b c d =
    ⊎_elim (λ e. subst P (sym (ap (λ (z : Float). min z y) e ∙ min_nan_left y)) (a e))
    (λ p. ⊎_elim (λ e. subst P (sym (ap (min x) e ∙ min_nan_right x)) (b e))
    (λ q. ⊎_elim (λ h. subst P (sym (min_left x y h)) (c h)) (λ h. subst P (sym (min_right x y h)) (d h)) (le_or_lt x y p q))
    (nan_or_number y))
    (nan_or_number x)

-- it is one of the two, so it has each property that both have, as `fits f` and `finite`
pub min_keeps : (P : Float → Type 0) (x y : Float) → P x → P y → P (min x y)
min_keeps P x y p q = min_cases P x y (λ _. q) (λ _. p) (λ _. p) (λ _. q)

pub min_one_of : (x y : Float) → (min x y ≡ x) ⊎ (min x y ≡ y)
min_one_of x y = min_keeps (λ (z : Float). (z ≡ x) ⊎ (z ≡ y)) x y (inl refl) (inr refl)

pub min_le_left : (x y : Float) → T (number x) → T (le (min x y) x)
min_le_left x y p = min_cases (λ (z : Float). T (le z x)) x y (λ e. absurd (not_nan x p e)) (λ _. float_le_refl x p) (λ _. float_le_refl x p) (lt→le y x)

pub min_le_right : (x y : Float) → T (number y) → T (le (min x y) y)
min_le_right x y q = min_cases (λ (z : Float). T (le z y)) x y (λ _. float_le_refl y q) (λ e. absurd (not_nan y q e)) (λ h. h) (λ _. float_le_refl y q)

pub min_mono : (x x' y y' : Float) → T (le x x') → T (le y y') → T (le (min x y) (min x' y'))
min_mono x x' y y' h k =
    min_keeps (λ (z : Float). T (le (min x y) z)) x' y' (float_le_trans (min x y) x x' (min_le_left x y (le_numbers x x' h).0) h)
    (float_le_trans (min x y) y y' (min_le_right x y (le_numbers y y' k).0) k)

pub min_nan : (x y : Float) → is_nan (min x y) ≡ is_nan x && is_nan y
unfolding is_nan
min_nan x y =
    min_cases (λ (z : Float). is_nan z ≡ is_nan x && is_nan y) x y
    (λ e. rw e)
    (λ e. rw e (sym (and_true (is_nan x))))
    (λ h. rw (is_false (is_nan x) (le_numbers x y h).0))
    (λ h. rw (is_false (is_nan x) (lt_numbers y x h).1, is_false (is_nan y) (lt_numbers y x h).0))

-- ---- max is min under a change of sign
pub max_by_min : (x y : Float) → max x y ≡ neg (min (neg x) (neg y))
unfolding min max
max_by_min x y = rw (neg_nan x, lt_neg y x) (go (is_nan x) (lt x y))
  where
    go : (n b : Bool) → cond n y (cond b y x) ≡ neg (cond n (neg y) (cond b (neg y) (neg x)))
    go true b = sym (neg_neg y)
    go false true = sym (neg_neg y)
    go false false = sym (neg_neg x)

pub max_nan_left : (y : Float) → max nan y ≡ y
unfolding neg
max_nan_left y = max_by_min nan y ∙ ap neg (min_nan_left (neg y)) ∙ neg_neg y

pub max_nan_right : (x : Float) → max x nan ≡ x
unfolding neg
max_nan_right x = max_by_min x nan ∙ ap neg (min_nan_right (neg x)) ∙ neg_neg x

pub max_left : (x y : Float) → T (le y x) → max x y ≡ x
max_left x y h = max_by_min x y ∙ ap neg (min_left (neg x) (neg y) (neg_le y x h)) ∙ neg_neg x

pub max_right : (x y : Float) → T (lt x y) → max x y ≡ y
max_right x y h = max_by_min x y ∙ ap neg (min_right (neg x) (neg y) (neg_lt x y h)) ∙ neg_neg y

pub max_keeps : (P : Float → Type 0) (x y : Float) → P x → P y → P (max x y)
max_keeps P x y p q =
    subst P (sym (max_by_min x y)) (min_keeps (λ (z : Float). P (neg z)) (neg x) (neg y) (subst P (sym (neg_neg x)) p) (subst P (sym (neg_neg y)) q))

pub max_one_of : (x y : Float) → (max x y ≡ x) ⊎ (max x y ≡ y)
max_one_of x y = max_keeps (λ (z : Float). (z ≡ x) ⊎ (z ≡ y)) x y (inl refl) (inr refl)

pub max_ge_left : (x y : Float) → T (number x) → T (le x (max x y))
max_ge_left x y p = rw (max_by_min x y) (rw neg_neg at (neg_le (min (neg x) (neg y)) (neg x) (min_le_left (neg x) (neg y) (subst T (sym (neg_number x)) p))))

pub max_ge_right : (x y : Float) → T (number y) → T (le y (max x y))
max_ge_right x y q = rw (max_by_min x y) (rw neg_neg at (neg_le (min (neg x) (neg y)) (neg y) (min_le_right (neg x) (neg y) (subst T (sym (neg_number y)) q))))

pub max_mono : (x x' y y' : Float) → T (le x x') → T (le y y') → T (le (max x y) (max x' y'))
max_mono x x' y y' h k =
    rw (max_by_min x y, max_by_min x' y') (neg_le (min (neg x') (neg y')) (min (neg x) (neg y)) (min_mono (neg x') (neg x) (neg y') (neg y) (neg_le x x' h) (neg_le y y' k)))

pub max_nan : (x y : Float) → is_nan (max x y) ≡ is_nan x && is_nan y
max_nan x y = rw (max_by_min x y, neg_nan, min_nan, neg_nan, neg_nan)

-- ---- clamp, for bounds in order

-- whatever the bounds, it is one of the three
pub clamp_keeps : (P : Float → Type 0) (x low high : Float) → P x → P low → P high → P (clamp x low high)
unfolding clamp
clamp_keeps P x low high p q r = one_of high _ _ r (one_of low x _ q p)
  where
    one_of : (y z : Float) (b : Bool) → P y → P z → P (cond b y z)
    one_of y z true p q = p
    one_of y z false p q = q

pub clamp_nan_at : (low high : Float) → clamp nan low high ≡ nan
unfolding clamp le
clamp_nan_at low high = rw (nan_right high).0

-- a value within the bounds stays as it is, a zero with its sign
pub clamp_inside : (x low high : Float) → T (le low x) → T (le x high) → clamp x low high ≡ x
unfolding clamp
clamp_inside x low high h k = rw (not_lt low x h, not_lt x high k)

module _ (x low high : Float) (b : T (le low high)) where
  pub clamp_below : T (lt x low) → clamp x low high ≡ low
  unfolding clamp
  clamp_below h = rw (is_true (lt x low) h, not_lt low high b)

  pub clamp_above : T (lt high x) → clamp x low high ≡ high
  unfolding clamp
  clamp_above h = rw (not_lt low x (lt→le low x (le_lt_trans low high x b h)), is_true (lt high x) h)

  -- any property of clamp, by these four
  pub clamp_cases : (P : Float → Type 0) → (x ≡ nan → P x) → (T (lt x low) → P low) → (T (lt high x) → P high) → (T (le low x) → T (le x high) → P x)
      → P (clamp x low high)
  clamp_cases P n l h i = ⊎_elim at_nan numbers (nan_or_number x)
    where
      at_nan : x ≡ nan → P (clamp x low high)
      at_nan e = subst P (e ∙ sym (ap (λ (z : Float). clamp z low high) e ∙ clamp_nan_at low high)) (n e)

      numbers : T (number x) → P (clamp x low high)
      numbers p =
          ⊎_elim (λ a. ⊎_elim (λ c. subst P (sym (clamp_inside x low high a c)) (i a c)) (λ c. subst P (sym (clamp_above c)) (h c)) (le_or_lt x high p (le_numbers low high b).1))
          (λ a. subst P (sym (clamp_below a)) (l a))
          (le_or_lt low x (le_numbers low high b).0 p)

  pub clamp_nan : is_nan (clamp x low high) ≡ is_nan x
  clamp_nan =
      clamp_cases (λ (z : Float). is_nan z ≡ is_nan x)
      (λ _. refl)
      (λ h. same_number low x (lt_numbers x low h).1 (lt_numbers x low h).0)
      (λ h. same_number high x (lt_numbers high x h).0 (lt_numbers high x h).1)
      (λ _ _. refl)

  pub clamp_at_least : T (number x) → T (le low (clamp x low high))
  clamp_at_least p = clamp_cases (λ (z : Float). T (le low z)) (λ e. absurd (not_nan x p e)) (λ _. float_le_refl low (le_numbers low high b).0) (λ _. b) (λ a _. a)

  pub clamp_at_most : T (number x) → T (le (clamp x low high) high)
  clamp_at_most p = clamp_cases (λ (z : Float). T (le z high)) (λ e. absurd (not_nan x p e)) (λ _. b) (λ _. float_le_refl high (le_numbers low high b).1) (λ _ c. c)

  pub clamp_finite : T (finite low) → T (finite high) → T (number x) → T (finite (clamp x low high))
  clamp_finite p q n = finite_between low (clamp x low high) high p q (clamp_at_least n) (clamp_at_most n)

  pub clamp_idempotent : clamp (clamp x low high) low high ≡ clamp x low high
  clamp_idempotent =
      ⊎_elim (λ e. subst (λ (z : Float). clamp (clamp z low high) low high ≡ clamp z low high) (sym e) (ap (λ (z : Float). clamp z low high) (clamp_nan_at low high)))
      (λ p. clamp_inside (clamp x low high) low high (clamp_at_least p) (clamp_at_most p))
      (nan_or_number x)

pub clamp_neg : (x low high : Float) → T (le low high) → clamp (neg x) (neg high) (neg low) ≡ neg (clamp x low high)
unfolding neg
clamp_neg x low high b =
    clamp_cases x low high b (λ (z : Float). clamp (neg x) (neg high) (neg low) ≡ neg z)
    (λ e. rw e (clamp_nan_at (neg high) (neg low)))
    (λ h. clamp_above (neg x) (neg high) (neg low) (neg_le low high b) (neg_lt x low h))
    (λ h. clamp_below (neg x) (neg high) (neg low) (neg_le low high b) (neg_lt high x h))
    (λ h k. clamp_inside (neg x) (neg high) (neg low) (neg_le x high k) (neg_le low x h))

pub clamp_mono : (x y low high : Float) → T (le low high) → T (le x y) → T (le (clamp x low high) (clamp y low high))
clamp_mono x y low high b h =
    let p = (le_numbers x y h).0 in
    let q = (le_numbers x y h).1 in
    clamp_cases x low high b (λ (z : Float). T (le z (clamp y low high)))
    (λ e. absurd (not_nan x p e))
    (λ _. clamp_at_least y low high b q)
    (λ k. rw (clamp_above y low high b (lt_le_trans high x y k h)) (float_le_refl high (le_numbers low high b).1))
    (λ a c. clamp_cases y low high b (λ (z : Float). T (le x z)) (λ e. absurd (not_nan y q e)) (λ k. absurd (lt_excludes y low k (float_le_trans low x y a h))) (λ _. c) (λ _ _. h))

-- between -b and b the size is at most b
pub clamp_size : (x b : Float) → T (le (neg b) b) → T (number x) → T (le (abs (clamp x (neg b) b)) b)
clamp_size x b h p = (abs_le (clamp x (neg b) b) b).1 (clamp_at_least x (neg b) b h p, clamp_at_most x (neg b) b h p)

-- ---- clamp at the infinities, and at a zero
pub clamp_greatest : (low high : Float) → T (le low high) → clamp (inf false) low high ≡ high
unfolding is_nan
clamp_greatest low high b =
    let p = le_numbers low high b in
    ⊎_elim (λ k. clamp_inside (inf false) low high (inf_greatest low p.0) k ∙ sym (greatest_only high k))
    (clamp_above (inf false) low high b)
    (le_or_lt (inf false) high tt p.1)

pub clamp_least : (low high : Float) → T (le low high) → clamp (inf true) low high ≡ low
unfolding neg
clamp_least low high b =
    rw (neg_neg, neg_neg, clamp_greatest (neg high) (neg low) (neg_le low high b), neg_neg) at (clamp_neg (inf false) (neg high) (neg low) (neg_le low high b))

pub clamp_negative_zero : clamp -0 +0 (fin false 1 (pos 0)) ≡ -0
unfolding clamp lt
clamp_negative_zero = refl

-- ---- abs
pub abs_same : (x : Float) → is_negative x ≡ false → abs x ≡ x
abs_same x e = rw (abs_is, e)

pub abs_idempotent : (x : Float) → abs (abs x) ≡ abs x
abs_idempotent x = abs_same (abs x) (abs_positive x)

-- ---- signum
pub signum_nan : (x : Float) → is_nan (signum x) ≡ is_nan x
unfolding signum is_nan
signum_nan nan = refl
signum_nan (inf s) = refl
signum_nan (fin s m e) = refl

pub signum_finite : (x : Float) → finite (signum x) ≡ number x
unfolding signum is_nan
signum_finite nan = refl
signum_finite (inf s) = refl
signum_finite (fin s m e) = refl

pub signum_fits : (f : Format) (x : Float) → T (fits f (signum x))
unfolding signum fits
signum_fits f nan = tt
signum_fits binary32 (inf s) = tt
signum_fits binary64 (inf s) = tt
signum_fits binary32 (fin s m e) = tt
signum_fits binary64 (fin s m e) = tt

pub signum_neg : (x : Float) → signum (neg x) ≡ neg (signum x)
unfolding signum neg
signum_neg nan = refl
signum_neg (inf s) = refl
signum_neg (fin s m e) = refl

pub signum_size : (x : Float) → T (number x) → abs (signum x) ≡ fin false 1 (pos 0)
unfolding signum abs is_nan
signum_size (inf s) p = refl
signum_size (fin s m e) p = refl
signum_size nan p = elim p [ ]
