-- The types of what calls give.
use Rattle.std.proofs.Common.{◌≡◌, ℕ, ◌^◌, true, false, ◌&&◌, ◌||◌, refl}
use Rattle.std.proofs.lemmas.Bool.{ltb-true}
use Rattle.gl_sets.proofs.BoolLemmas.{both}
use Rattle.run_store.specs.Concrete.{Numbers, Pointers}
use Rattle.sc_world.specs.Tree.{Ty, Void, Bool', Int, Ptr, is_integer, is_pointer, is_void, int_bits}
use Rattle.sc_world.specs.Source.{Source, Try}
use Rattle.sc_world.specs.World.{kind_of_type}
use Rattle.std.specs.Prelude.{Some}
use Rattle.sc_world.specs.Eval.{Value}
use Rattle.run_laws.specs.Fits.{may_give}
use Rattle.gate_places.specs.Places.{wanted_kind}
use Rattle.gate_acts.specs.Acts.{TryFits, zero_kind}
use Rattle.tr_call.specs.Calls.{fits_width, has_gates}

-- The kinds of values of types.

pub integer_wanted : (s : Source) (t : Ty) → is_integer t ≡ true → Numbers (int_bits s.widths t) ≡ wanted_kind s Value t
integer_wanted s Bool' e = refl
integer_wanted s (Int k) e = refl
integer_wanted s _ e = cc

pub pointer_wanted : (s : Source) (t : Ty) → is_pointer t ≡ true → Pointers ≡ wanted_kind s Value t
pointer_wanted s (Ptr t) e = refl
pointer_wanted s _ e = cc

pub zero_wanted : (s : Source) (t : Ty) → (is_integer t || is_void t) ≡ true → is_void t ≡ false → zero_kind s t ≡ wanted_kind s Value t
zero_wanted s Bool' e off = refl
zero_wanted s (Int k) e off = refl
zero_wanted s Void e off = cc
zero_wanted s _ e off = cc

pub given_wanted : (s : Source) (t : Ty) → may_give t ≡ true → is_void t ≡ false → kind_of_type s (Some t) ≡ wanted_kind s Value t
given_wanted s Bool' e off = refl
given_wanted s (Int k) e off = refl
given_wanted s (Ptr t) e off = refl
given_wanted s Void e off = cc
given_wanted s _ e off = cc

-- Both numbers of a try fit its type.
pub try_fits : (s : Source) (t : Ty) (success failure : ℕ) → has_gates s t (Try success failure) ≡ true → TryFits s t success failure
try_fits s t success failure e =
    let fits = (both (is_integer t) (fits_width s t success && fits_width s t failure) e).1 in
    let each = both (fits_width s t success) (fits_width s t failure) fits in
    record {
      success_fits = ltb-true success (2 ^ int_bits s.widths t) each.0;
      failure_fits = ltb-true failure (2 ^ int_bits s.widths t) each.1;
    }

pub try_integer : (s : Source) (t : Ty) (success failure : ℕ) → has_gates s t (Try success failure) ≡ true → is_integer t ≡ true
try_integer s t success failure e = (both (is_integer t) (fits_width s t success && fits_width s t failure) e).0
