-- What every call keeps holds after any list of calls. Assumes nothing.
use mathlib.Core.List.{List, [], ◌∷◌, foldl}

module _ {S C : Type 0} (call : S → C → S) (P : S → Type 0) (keeps : (s : S) (c : C) → P s → P (call s c)) where
  pub kept_by_calls : (s : S) (calls : List C) → P s → P (foldl call s calls)
  kept_by_calls s [] p = p
  kept_by_calls s (c ∷ calls) p = kept_by_calls (call s c) calls (keeps s c p)
