-- What the temps of a graph have in the gates: each a value of its type, or the place of an object of its type. It is said
-- of the temps that an expression names: where it is read, others may not have been kept yet.
use Rattle.std.specs.Prelude.{◌≡◌, ℕ, max, Bool, true, false, Some, List, [], ◌∷◌, map, slice_get, slice_index_or}
use Rattle.gl_store.specs.declared.values.Val.{Val}
use Rattle.gl_store.specs.declared.values.Val.TheVariants as val
use Rattle.gl_store.specs.Meets.{Meets, val_kind, val_top}
use Rattle.run_store.specs.Concrete.{Cell, Nothing}
use Rattle.sc_world.specs.Tree.{Ty, is_void}
use Rattle.sc_world.specs.Source.{Source}
use Rattle.sc_world.specs.Layout.{Layout}
use Rattle.sc_world.specs.Eval.{Want, Value, Place'}
use Rattle.flow_graph.specs.Conditions.{InTemp, among}
use Rattle.flow_types.specs.Kinds as flow
use Rattle.run_laws.specs.Fits.{IsPlaceOf}
use Rattle.gate_places.specs.Places.{wanted_kind}

-- one more than the greatest gate of the temps
unfoldable pub temps_top : List Val → ℕ
temps_top [] = 0
temps_top (x ∷ xs) = max (val_top x) (temps_top xs)

-- of a value of type `void` nothing is said
abbrev pub is_blank : Want → Ty → Bool
is_blank Value t = is_void t
is_blank Place' t = false

-- the gates of what is wanted of an expression of that type are those of a number of its width, or of a pointer
abbrev pub HasKindFor : Source → Want → Ty → Val → Type 0
HasKindFor s want t x = is_blank want t ≡ false → val_kind x ≡ wanted_kind s want t

abbrev pub HasKind : Source → flow.Kind → Val → Type 0
HasKind s (flow.ValueOf t) x = HasKindFor s Value t x
HasKind s (flow.PlaceOf t) x = HasKindFor s Place' t x

-- the gates under a number
abbrev pub temp_at : List Val → ℕ → Val
temp_at xs n = slice_index_or xs n val.Unit

-- a number is one of those that an expression names
abbrev pub IsNamed : ℕ → (named : List ℕ) → Type 0
IsNamed n named = among (InTemp n) (map InTemp named) ≡ true

abbrev pub HaveKinds : Source → List flow.Kind → List Val → (named : List ℕ) → Type 0
HaveKinds s ks xs named = (n : ℕ) → IsNamed n named → (k : flow.Kind) → slice_get ks n ≡ Some k → HasKind s k (temp_at xs n)

module _ (v : ℕ → Bool) (on : Bool) (p : Layout) where
  -- The gates have the cell. That of a place leads to an object of its type where the run goes on.
  abbrev pub IsKept : flow.Kind → Val → Cell → Type 0
  IsKept (flow.ValueOf t) x c = Meets v x c
  IsKept (flow.PlaceOf t) x c = Meets v x c × (on ≡ true → IsPlaceOf p t c)

  abbrev pub AreKept : List flow.Kind → List Val → List Cell → (named : List ℕ) → Type 0
  AreKept ks xs cs named =
      (n : ℕ) → IsNamed n named → (k : flow.Kind) → slice_get ks n ≡ Some k → IsKept k (temp_at xs n) (slice_index_or cs n Nothing)
