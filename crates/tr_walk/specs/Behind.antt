-- What the gates of an operator promise behind those of its operands. Whichever operands have given these, of the types and
-- for the wants of its own: the expression over them does what its evaluation does.
use Rattle.std.specs.Prelude.{◌≡◌, List, length}
use Rattle.bit_net.specs.declared.nodes.Node.{Node}
use Rattle.bit_net.specs.Runs.{Grown}
use Rattle.gl_sets.specs.declared.sets.Set.{Set}
use Rattle.gl_store.specs.declared.values.Val.{Val}
use Rattle.gl_store.specs.declared.stores.Location.{Location}
use Rattle.gate_changes.specs.Changes.{Counts}
use Rattle.gate_places.specs.Places.{DoesFind}
use Rattle.gate_runs.specs.declared.ends.Ends.{Ends}
use Rattle.gate_runs.specs.Stands.{AreEnds}
use Rattle.gate_steps.specs.Steps.{DoesStore}
use Rattle.sc_tree.specs.declared.op.Step.{Step}
use Rattle.sc_world.specs.Tree.{Ty, Exp, type_of}
use Rattle.sc_world.specs.Eval.{Want, Value}
use Rattle.expr_fits.specs.declared.around.Around.{Around}
use Rattle.expr_fits.specs.Around.{layout_of, source_of}
use Rattle.expr_fits.specs.Fits.{CanWalk}
use Rattle.expr_fits.specs.Operands.{first_operand, first_wanted, second_operand, second_wanted, with_operands}
use Rattle.tr_walk.specs.declared.operators.Change.{Change}
use Rattle.tr_walk.specs.declared.operators.Sides.{Sides}
use Rattle.tr_walk.specs.Walks.{Walks}

pub record BehindOne (a : Around) (before ns : List Node) (want : Want) (e : Exp) (mid new : List Location) (mid_gates new_gates : Ends) (x r : Val) : Type 0 where
  pub walks : (first second : Exp) (old : List Location) (old_gates : Ends)
      → type_of first ≡ type_of (first_operand e) → CanWalk a want (with_operands e first second)
      → Walks a before (first_wanted e) first old mid old_gates mid_gates x
      → Walks a ns want (with_operands e first second) old new old_gates new_gates r

pub record BehindBoth (a : Around) (before ns : List Node) (want : Want) (e : Exp) (mid new : List Location) (mid_gates new_gates : Ends) (xs : Sides) (r : Val) : Type 0 where
  pub walks : (start : List Node) (first second : Exp) (old between : List Location) (old_gates between_gates : Ends) → Grown start before
      → type_of first ≡ type_of (first_operand e) → type_of second ≡ type_of (second_operand e) → CanWalk a want (with_operands e first second)
      → Walks a start (first_wanted e) first old between old_gates between_gates xs.left
      → Walks a before (second_wanted e) second between mid between_gates mid_gates xs.right
      → Walks a ns want (with_operands e first second) old new old_gates new_gates r

-- A number at a place is read, counted up or down, and stored again: one step after the other, each over the net of its own.
pub record Changes (a : Around) (before ns : List Node) (d : Step) (t : Ty) (place : Set) (old new : List Location) (old_gates new_gates : Ends) (r : Change) : Type 0 where
  pub read : List Node
  pub counted : List Node
  pub first : Grown before read
  pub second : Grown read counted
  pub third : Grown counted ns
  pub ends : AreEnds counted new_gates
  pub bads : length new_gates.bads.items ≡ length old_gates.bads.items
  pub finds : DoesFind (source_of a) (layout_of a) read old Value t place.pairs.items r.before
  pub counts : Counts (source_of a) counted d t r.before old_gates new_gates r.after
  pub stores : DoesStore ns new_gates place.pairs.items r.after old new
