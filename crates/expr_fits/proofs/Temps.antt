-- The kind of the temp with a number.
use Rattle.std.proofs.Common.{◌≡◌, ℕ, zero, suc, List, [], ◌∷◌, map, slice_get, refl}
use Rattle.std.specs.Prelude.{Option, Some, None}
use Rattle.flow_types.specs.Kinds as flow
use Rattle.expr_fits.specs.declared.kinds.Kind.{Kind}
use Rattle.expr_fits.specs.Kept.{kind, kinds_of}

abbrev pub kind_if : Option Kind → Option flow.Kind
kind_if None = None
kind_if (Some k) = Some (kind k)

pub get_kind : (ks : List Kind) (n : ℕ) → slice_get (kinds_of ks) n ≡ kind_if (slice_get ks n)
get_kind [] n = refl
get_kind (k ∷ ks) zero = refl
get_kind (k ∷ ks) (suc n) = get_kind ks n
