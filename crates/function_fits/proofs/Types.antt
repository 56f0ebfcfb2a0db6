-- What the tests of types say.
use Rattle.std.proofs.Common.{◌≡◌, Bool, true, false, not, ◌&&◌, ◌||◌, sym}
use Rattle.std.proofs.lemmas.Bool.{and_parts, and_from, true≢false}
use Rattle.std.specs.Prelude.{Some}
use Rattle.sc_tree.specs.declared.op.BinaryOp.{BinaryOp}
use Rattle.sc_world.specs.Tree.{Ty, is_integer, same_type}
use Rattle.sc_world.specs.Eval.{Want, Value, Place'}
use Rattle.run_laws.specs.Fits.{TypesMeet, operands_fit, in_one_type, gives_truth, IsRead}
use Rattle.expr_fits.specs.Here as here
use Rattle.expr_fits.proofs.Same.{types_one}

pub read : (want : Want) → here.is_read want ≡ true → IsRead want
read Value h = tt
read Place' h = absurd (true≢false (sym h))

-- what is so unless b is so where b is
pub unless : (b c : Bool) → not b || c ≡ true → b ≡ true → c ≡ true
unless true c h is = h
unless false c h is = absurd (true≢false (sym is))

or_so : (b c : Bool) → b || c ≡ true → b ≡ false → c ≡ true
or_so true c h is = absurd (true≢false is)
or_so false c h is = h

pub reads_and : (want : Want) (b : Bool) → here.is_read want && b ≡ true → IsRead want × (b ≡ true)
reads_and want b h = let parts = and_parts (here.is_read want) b h in (read want parts.0, parts.1)

pub same_and : (u t : Ty) (b : Bool) → same_type u t && b ≡ true → (u ≡ t) × (b ≡ true)
same_and u t b h = let parts = and_parts (same_type u t) b h in (types_one u t parts.0, parts.1)

pub both_same : (u v t : Ty) → same_type u t && same_type v t ≡ true → (u ≡ t) × (v ≡ t)
both_same u v t h = let parts = same_and u t (same_type v t) h in (parts.0, types_one v t parts.1)

pub meets : (o : BinaryOp) (u v t : Ty) → here.types_meet o u v t ≡ true → TypesMeet o u v t
meets o u v t h =
    let parts = and_parts (not (in_one_type o && is_integer u) || same_type u v) (gives_truth o || same_type t u) h in
    record {
      same = λ one whole. types_one u v (unless (in_one_type o && is_integer u) (same_type u v) parts.0 (and_from (in_one_type o) (is_integer u) one whole));
      keeps = λ none. types_one t u (or_so (gives_truth o) (same_type t u) parts.1 none);
    }

-- `++`, `--` and the signs
pub counts : (want : Want) (u t : Ty) → here.count_fits want u t ≡ true → IsRead want × (u ≡ t) × (is_integer t ≡ true)
counts want u t h =
    let parts = reads_and want (same_type u t && is_integer t) h in
    let types = same_and u t (is_integer t) parts.1 in
    (parts.0, types.0, types.1)

-- `+=` and its kin
pub combines : (o : BinaryOp) (w u v t : Ty) → here.assign_fits (Some o) w u v t ≡ true
    → (u ≡ t) × (is_integer t ≡ true) × (is_integer w ≡ true) × (is_integer v ≡ true) × TypesMeet o w v w
combines o w u v t h =
    let x = same_and u t (is_integer t && (is_integer w && (is_integer v && here.types_meet o w v w))) h in
    let y = and_parts (is_integer t) (is_integer w && (is_integer v && here.types_meet o w v w)) x.1 in
    let z = and_parts (is_integer w) (is_integer v && here.types_meet o w v w) y.1 in
    let k = and_parts (is_integer v) (here.types_meet o w v w) z.1 in
    (x.0, y.0, z.0, k.0, meets o w v w k.1)

pub operates : (o : BinaryOp) (u v t : Ty) → here.binary_fits o u v t ≡ true
    → (is_integer t ≡ true) × (operands_fit o u v ≡ true) × TypesMeet o u v t
operates o u v t h =
    let x = and_parts (is_integer t) (operands_fit o u v && here.types_meet o u v t) h in
    let y = and_parts (operands_fit o u v) (here.types_meet o u v t) x.1 in
    (x.0, y.0, meets o u v t y.1)
