-- What an operator on two values promises, for every choice.
use Rattle.std.specs.Prelude.{◌≡◌, ℕ, ◌<◌, ◌≤◌, Bool, true, false, List, length}
use Rattle.bit_net.specs.declared.nodes.Gate.{Gate}
use Rattle.bit_net.specs.declared.nodes.Node.{Node}
use Rattle.bit_net.specs.Runs.{Runs}
use Rattle.gl_store.specs.declared.values.Val.{Val}
use Rattle.gl_store.specs.declared.values.Val.TheVariants as val
use Rattle.gl_store.specs.declared.stores.Location.{Location}
use Rattle.gl_store.specs.Meets.{Meets, val_kind, val_top}
use Rattle.gate_runs.specs.declared.ends.Ends.{Ends}
use Rattle.gate_runs.specs.Stands.{Does}
use Rattle.run_store.specs.Concrete.{Cell, Numbers}
use Rattle.sc_tree.specs.declared.op.BinaryOp.{BinaryOp}
use Rattle.sc_world.specs.Tree.{Ty, int_bits, has_sign}
use Rattle.sc_world.specs.World.{Env}
use Rattle.sc_world.specs.Eval as eval
use Rattle.gate_values.specs.Operators.{is_shift, is_test}

-- Two words that are the operands of an operator: of one width, but for the count of a shift. The result has their
-- width, but where it is the truth of a test.
pub record AreWords (op : BinaryOp) (bits : ℕ) (a b : List Gate) : Type 0 where
  pub some : 0 < length a
  pub small : length a ≤ 64
  pub counts : 0 < length b
  pub count : length b ≤ 64
  pub same : is_shift op ≡ false → length a ≡ length b
  pub keeps : is_test op ≡ false → bits ≡ length a

abbrev pub AreOperands : BinaryOp → (bits : ℕ) → Val → Val → Type 0
AreOperands op bits (val.Word a) (val.Word b) = AreWords op bits a.bits.items b.bits.items
AreOperands op bits _ _ = Unit {0}

-- two numbers or two pointers
abbrev pub are_alike : Val → Val → Bool
are_alike (val.Word a) (val.Word b) = true
are_alike (val.Set a) (val.Set b) = true
are_alike _ _ = false

-- the types of the operands and of the result have these widths and this sign
pub record HasTypes (env : Env) (t u : Ty) (s : Bool) (bits : ℕ) (a : Val) : Type 0 where
  pub sign : has_sign t ≡ s
  pub result : int_bits env.source.widths u ≡ bits
  pub width : (width : ℕ) → val_kind a ≡ Numbers width → int_bits env.source.widths t ≡ width

pub record DoesOperate (ns : List Node) (op : BinaryOp) (sign : Bool) (bits : ℕ) (a b : Val) (old new : Ends) (r : Val) : Type 0 where
  pub below : val_top r ≤ length ns
  pub kind : are_alike a b ≡ true → val_kind r ≡ Numbers bits
  pub does : (choice v : ℕ → Bool) → Runs ns choice v → (locations : List Location) (env : Env) (t u : Ty) (x y : Cell) → HasTypes env t u sign bits a
      → Meets v a x → Meets v b y → Does v locations old (eval.operated env op t u x y) locations new (Meets v r)
