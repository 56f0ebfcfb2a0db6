-- What expressions do once the expressions in them are evaluated, in the words of evaluation: `++` and `--` at a
-- place (C11 6.5.2.4, 6.5.3.1), `p [ k ]` and `p -> m` of a pointer (C11 6.5.2.1, 6.5.2.3).
use Rattle.std.specs.Prelude.{nat_eq}
use Rattle.sc_base.specs.declared.pos.NameId.{NameId}
use Rattle.sc_tree.specs.declared.op.Step.{Step}
use Rattle.run_store.specs.Concrete.{Cell}
use Rattle.sc_world.specs.declared.run.Reason.TheVariants as reason
use Rattle.sc_world.specs.Tree.{Ty, target_or_void}
use Rattle.sc_world.specs.World.{Run, Env, ◌>>=◌, done, unless, load, store, dereference, number_of}
use Rattle.sc_world.specs.Eval.{Want, wanted, counted, member, place_of}

-- the new value is stored, and is what the expression gives
abbrev pub pre_counted : Env → Step → Ty → (place : Cell) → Run Cell
pre_counted env s t p = do
  old ← load (place_of p)
  v ← counted env s t old
  _ ← store (place_of p) v
  done v

-- the new value is stored, and the old one is what the expression gives
abbrev pub post_counted : Env → Step → Ty → (place : Cell) → Run Cell
post_counted env s t p = do
  old ← load (place_of p)
  v ← counted env s t old
  _ ← store (place_of p) v
  done old

-- of a pointer only `p [ 0 ]` is there
abbrev pub pointer_index : Env → Want → Ty → (pointer index : Cell) → Run Cell
pointer_index env want t p k = do
  at ← dereference env t p
  _ ← unless (nat_eq (number_of k) 0) reason.Index
  wanted want t at

-- the member of what a pointer of that type points to
abbrev pub member_behind : Env → Want → (pointer_type t : Ty) → NameId → (pointer : Cell) → Run Cell
member_behind env want u t n p = do
  at ← dereference env (target_or_void u) p
  k ← member env n at
  wanted want t k
