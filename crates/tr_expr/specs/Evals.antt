-- What the gates of a construct promise, for every choice.
use Rattle.std.specs.Prelude.{◌≡◌, ℕ, ◌≤◌, Bool, true, false, not, Some, List, length}
use Rattle.bit_net.specs.declared.nodes.Node.{Node}
use Rattle.bit_net.specs.Runs.{Runs}
use Rattle.gl_store.specs.declared.values.Val.{Val}
use Rattle.gl_store.specs.declared.stores.Location.{Location}
use Rattle.gl_store.specs.Meets.{Meets, val_kind, val_top}
use Rattle.gate_runs.specs.declared.ends.Ends.{Ends}
use Rattle.gate_runs.specs.Stands.{Does}
use Rattle.run_store.specs.Concrete.{Cell}
use Rattle.sc_tree.specs.declared.op.BinaryOp.{BinaryOp}
use Rattle.sc_tree.specs.declared.op.UnaryOp.{UnaryOp}
use Rattle.sc_tree.specs.declared.op.UnaryOp.TheVariants as sign
use Rattle.sc_world.specs.Tree.{Ty}
use Rattle.sc_world.specs.Source.{Source}
use Rattle.sc_world.specs.Layout.{Layout}
use Rattle.sc_world.specs.World.{Env, kind_of_type, is_true}
use Rattle.sc_world.specs.Eval as eval
use Rattle.gate_places.specs.Places.{env_of}

-- the value of a conversion
pub record IsConverted (s : Source) (ns : List Node) (from to : Ty) (x r : Val) : Type 0 where
  pub below : val_top r ≤ length ns
  pub kind : val_kind r ≡ kind_of_type s (Some to)
  pub value : (choice v : ℕ → Bool) → Runs ns choice v → (p : Layout) (bits : List Bool) (temps : List Cell) (turn : ℕ) (c : Cell) → Meets v x c
      → Meets v r (eval.convert (env_of s p bits temps turn) from to c)

abbrev pub is_sign : UnaryOp → Bool
is_sign sign.Plus = true
is_sign sign.Minus = true
is_sign sign.Complement = true
is_sign _ = false

-- what `!`, `+`, `-` and `~` make of a value
abbrev pub of_unary : Env → UnaryOp → Ty → Cell → Cell
of_unary env sign.Not t c = eval.truth_cell env t (not (is_true c))
of_unary env o t c = eval.signed_as env o t c

pub record IsOfUnary (s : Source) (ns : List Node) (o : UnaryOp) (t : Ty) (x r : Val) : Type 0 where
  pub below : val_top r ≤ length ns
  pub kind : val_kind r ≡ kind_of_type s (Some t)
  pub value : (choice v : ℕ → Bool) → Runs ns choice v → (p : Layout) (bits : List Bool) (temps : List Cell) (turn : ℕ) (c : Cell) → Meets v x c
      → Meets v r (of_unary (env_of s p bits temps turn) o t c)

-- the value of an operator on two values, and where the run stands behind it
pub record Operates (s : Source) (ns : List Node) (o : BinaryOp) (operands whole : Ty) (x y : Val) (old new : Ends) (r : Val) : Type 0 where
  pub below : val_top r ≤ length ns
  pub kind : val_kind r ≡ kind_of_type s (Some whole)
  pub does : (choice v : ℕ → Bool) → Runs ns choice v → (locations : List Location) (p : Layout) (bits : List Bool) (temps : List Cell) (turn : ℕ)
      (c d : Cell) → Meets v x c → Meets v y d
      → Does v locations old (eval.operated (env_of s p bits temps turn) o operands whole c d) locations new (Meets v r)
