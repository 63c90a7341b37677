-- `copter::config::lowest_broken` meets its contract: the search through the pairs of a field and its value ends where the definition's does. Assumes
-- nothing.
use Rattle.std.proofs.Common.{rules, ◌≡◌, ℕ, zero, suc, ◌+◌, ◌-◌, ◌<◌, length, drop, get_or, [], ◌∷◌, add-one, Bool, true, false, cond, not, List, Float, refl, ap, ◌∙◌, arith}
use Rattle.std.proofs.Math.ListN.{drop_of_length-le}
use Rattle.std.proofs.Math.Seq.{drop-cons}
use Rattle.std.proofs.lemmas.Iterator.{YieldsList-from_slice, YieldsList-from_zip}
use Rattle.std.proofs.lemmas.Iterator.Search.{position_from_yields_List}
use Rattle.std.proofs.lemmas.List.{get_or-map}
use Rattle.std.proofs.lemmas.Slice.Zip.{length-zip}
use Rattle.std.specs.Float.{nan}
use Rattle.std.specs.List.{zip, position_or_len, position}
use Rattle.std.specs.Option.{option_map}
use Rattle.std.specs.Prelude.{Some, None, nat_lt}
use Rattle.copter.specs.declared.config.Field.{Field}
use Rattle.copter.specs.declared.config.Rule.TheVariants.{Anything}
use Rattle.copter.specs.Config.{keeps, field, fields, rules as field_rules, nth, rule, lowest, lowest_broken}
use Rattle.copter.proofs.Laws.Config.{fields_counted}
use Rattle.copter.proofs.config.lowest_broken.Goals as goal

abbrev breaks : Field × Float → Bool
breaks pair = not (keeps pair.0.0 pair.1)

any : Field
any = field Anything 0

module _ (values : List Float) (full : length values ≡ 50) where
  -- the fields after the k-th, each with its value
  abbrev pairs : ℕ → List (Field × Float)
  pairs k = zip (drop k fields) (drop k values)

  its_rule : (k : ℕ) → k < 50 → rule (suc k) (nth values (suc k)) ≡ keeps (get_or fields k any).0 (get_or values k nan)
  unfolding rule field_rules
  its_rule k inside =
      let before : suc k - 1 ≡ k = omega arith in
      rw (before, get_or-map (λ (f : Field). f.0) fields k any Anything (rw fields_counted inside))

  one_more : (k : ℕ) → k < 50 → pairs k ≡ (get_or fields k any, get_or values k nan) ∷ pairs (suc k)
  one_more k inside = rw (drop-cons values k nan (rw full inside), drop-cons fields k any (rw fields_counted inside))

  -- the search over the fields and the one over the pairs end alike
  lowest_is : (d k : ℕ) → k + d ≡ 50 → lowest values (suc k) d ≡ suc k + position_or_len breaks (pairs k)
  unfolding lowest
  lowest_is zero k all =
      let none : drop k fields ≡ [] = drop_of_length-le fields (rw fields_counted (omega arith)) in
      rw none (omega arith)
  lowest_is (suc d) k all =
      let inside : k < 50 = omega arith in
      rw (its_rule k inside, one_more k inside) (
      case (keeps (get_or fields k any).0 (get_or values k nan)) (lowest_is d (suc k) (omega arith)))
    where
      later : ℕ
      later = lowest values (suc (suc k)) d

      left : ℕ
      left = position_or_len breaks (pairs (suc k))

      case : (kept : Bool) → later ≡ suc (suc k) + left → cond kept later (suc k) ≡ suc k + cond (not (not kept)) (1 + left) 0
      case true same = omega (arith, same)
      case false same = omega arith

  -- the place of a pair is one less than the field's number
  numbered : option_map (λ (n : ℕ). n + 1) (position breaks (zip fields values)) ≡ lowest_broken values
  unfolding lowest_broken
  numbered =
      let first : lowest values 1 50 ≡ suc at = omega (arith, lowest_is 50 0 refl) in
      rw (first, length-zip fields values, fields_counted, full) (case (nat_lt at 50))
    where
      at : ℕ
      at = position_or_len breaks (zip fields values)

      case : (inside : Bool) → option_map (λ (n : ℕ). n + 1) (cond inside (Some at) None) ≡ cond inside (Some (suc at)) None
      case true = ap Some (add-one at)
      case false = refl

pub returns : goal.returns
unfolding fields
returns c =
    let values = c.args.fields.now in
    let found : c.position.result ≡ position breaks (zip fields values) =
    position_from_yields_List breaks c.position.new.self _ c.position.result c.position.ensures.ran
    (YieldsList-from_zip {s = c.zip.result} (YieldsList-from_slice fields cc) (YieldsList-from_slice values cc))
    (λ x b q k. search rules) in
    let moved : c.map.result ≡ option_map (λ (n : ℕ). n + 1) c.position.result = search rules in
    let full : length values ≡ 50 = search rules in
    moved ∙ ap (option_map (λ (n : ℕ). n + 1)) found ∙ numbered values full
