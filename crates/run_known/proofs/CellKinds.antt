-- The kind of a cell that the choice gives to a written cell.
use Rattle.std.proofs.Common.{◌≡◌, ℕ, Bool, true, false, Option, Some, None, nat_eq, if◌then◌else◌, refl}
use Rattle.run_store.specs.Concrete.{Numbers, Pointers, Number, kind_of}
use Rattle.sc_world.specs.World.{Env, bit_at, number_at, null, target_or_null}
use Rattle.sc_world.specs.Known.{Written, written_cell}

pointer_kind : (b : Bool) (object : Option ℕ) → kind_of (if b then target_or_null object else null) ≡ Pointers
pointer_kind false object = refl
pointer_kind true None = refl
pointer_kind true (Some at) = refl

kind_by : (is : Bool) (b : Bool) (object : Option ℕ) (width n : ℕ)
    → kind_of (if is then (if b then target_or_null object else null) else Number width n) ≡ (if is then Pointers else Numbers width)
kind_by true b object width n = pointer_kind b object
kind_by false b object width n = refl

pub kind_of_written : (env : Env) (x : Written) → kind_of (written_cell env x) ≡ (if nat_eq x.width 0 then Pointers else Numbers x.width)
kind_of_written env x = kind_by (nat_eq x.width 0) (bit_at env.choice x.bit) x.object x.width (number_at env.choice x.bit x.width)
