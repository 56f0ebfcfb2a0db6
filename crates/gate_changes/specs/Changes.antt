-- What compound assignment, `++` and `--` make of values, for every choice; and which types they take.
use Rattle.std.specs.Prelude.{◌≡◌, ℕ, ◌≤◌, Bool, Some, List, length}
use Rattle.bit_net.specs.declared.nodes.Node.{Node}
use Rattle.bit_net.specs.Runs.{Runs}
use Rattle.gl_store.specs.declared.values.Val.{Val}
use Rattle.gl_store.specs.declared.stores.Location.{Location}
use Rattle.gl_store.specs.Meets.{Meets, val_kind, val_top}
use Rattle.gate_runs.specs.declared.ends.Ends.{Ends}
use Rattle.gate_runs.specs.Stands.{Does}
use Rattle.run_store.specs.Concrete.{Cell}
use Rattle.sc_tree.specs.declared.op.BinaryOp.{BinaryOp}
use Rattle.sc_tree.specs.declared.op.Step.{Step}
use Rattle.sc_world.specs.Tree.{Ty}
use Rattle.sc_world.specs.Source.{Source}
use Rattle.sc_world.specs.Layout.{Layout}
use Rattle.sc_world.specs.World.{kind_of_type}
use Rattle.sc_world.specs.Eval as eval
use Rattle.tr_expr.specs.Plain.{BinaryFits, ConvertFits}
use Rattle.gate_places.specs.Places.{env_of}

-- `+=` and its kin: the value on the left is converted to the type in which the operator works, and the result back
pub record CombineFits (s : Source) (o : BinaryOp) (works t right : Ty) : Type 0 where
  pub into : ConvertFits t works
  pub operator : BinaryFits s o works right works
  pub back : ConvertFits works t

-- the value of `+=` and its kin, of type t, where the operator works in another type
pub record Combines (s : Source) (ns : List Node) (o : BinaryOp) (works t : Ty) (x y : Val) (old new : Ends) (r : Val) : Type 0 where
  pub below : val_top r ≤ length ns
  pub kind : val_kind r ≡ kind_of_type s (Some t)
  pub does : (choice v : ℕ → Bool) → Runs ns choice v → (locations : List Location) (p : Layout) (bits : List Bool) (temps : List Cell) (turn : ℕ)
      (c d : Cell) → Meets v x c → Meets v y d
      → Does v locations old (eval.combined (env_of s p bits temps turn) o works t c d) locations new (Meets v r)

-- the value of `++` or `--`
pub record Counts (s : Source) (ns : List Node) (by : Step) (t : Ty) (x : Val) (old new : Ends) (r : Val) : Type 0 where
  pub below : val_top r ≤ length ns
  pub kind : val_kind r ≡ kind_of_type s (Some t)
  pub does : (choice v : ℕ → Bool) → Runs ns choice v → (locations : List Location) (p : Layout) (bits : List Bool) (temps : List Cell) (turn : ℕ)
      (c : Cell) → Meets v x c → Does v locations old (eval.counted (env_of s p bits temps turn) by t c) locations new (Meets v r)
