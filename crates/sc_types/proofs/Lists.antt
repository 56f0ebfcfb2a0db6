-- Two lists of types that are gone through side by side.
use Rattle.std.proofs.Common.{◌≡◌, ℕ, ◌≤◌, Bool, true, false, suc, ◌&&◌, List, [], ◌∷◌, map, length, drop, min, arith, refl, ap, inl, inr}
use Rattle.std.proofs.lemmas.List.{drop_all}
use Rattle.std.proofs.lemmas.Bool.{cases_lt}
use Rattle.sc_tree.specs.declared.ctype.CType.{CType}
use Rattle.sc_typed.specs.Types.{each_fits, with_each, Composing}

and_false : (b c : Bool) → false ≡ c → false ≡ (b && c)
and_false true c h = h
and_false false c h = refl

-- lists of different lengths do not fit
pub each_fits-length : {A : Type 0} (fit : A → CType → Bool) (f : CType → A) (xs ts : List CType) → (length xs ≡ length ts → ⊥) → false ≡ each_fits fit (map f xs) ts
each_fits-length fit f [] [] h = absurd (h refl)
each_fits-length fit f [] (t ∷ ts) h = refl
each_fits-length fit f (x ∷ xs) [] h = refl
each_fits-length fit f (x ∷ xs) (t ∷ ts) h = and_false (fit (f x) t) (each_fits fit (map f xs) ts) (each_fits-length fit f xs ts (λ e. h (ap suc e)))

with_nothing : (cs : List Composing) → with_each cs [] ≡ []
with_nothing [] = refl
with_nothing (c ∷ cs) = refl

-- behind the end of one list there is nothing
pub with_each_end : (f : CType → Composing) (xs ts : List CType) (i : ℕ) → min (length xs) (length ts) ≤ i → with_each (map f (drop i xs)) (drop i ts) ≡ []
with_each_end f xs ts i h = elim (cases_lt i (length xs)) [
  | inl below ↦ (let e : drop i ts ≡ [] = drop_all i ts (omega arith) in rw e (with_nothing (map f (drop i xs))))
  | inr above ↦ (let e : drop i xs ≡ [] = drop_all i xs above in rw e)
]
