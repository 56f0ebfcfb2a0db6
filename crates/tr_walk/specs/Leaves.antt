-- What a value promises to become in another type.
use Rattle.std.specs.Prelude.{ℕ, ◌≤◌, Bool, List, length}
use Rattle.bit_net.specs.declared.nodes.Node.{Node}
use Rattle.bit_net.specs.Runs.{Runs}
use Rattle.gl_store.specs.declared.values.Val.{Val}
use Rattle.gl_store.specs.Meets.{Meets, val_top}
use Rattle.run_store.specs.Concrete.{Cell}
use Rattle.sc_world.specs.Tree.{Ty}
use Rattle.sc_world.specs.Source.{Source}
use Rattle.sc_world.specs.Layout.{Layout}
use Rattle.sc_world.specs.Eval as eval
use Rattle.gate_places.specs.Places.{env_of}
use Rattle.expr_fits.specs.Temps.{HasKindFor}

-- the value of one type in another one, which may be `void`
pub record Converts (s : Source) (ns : List Node) (from to : Ty) (x r : Val) : Type 0 where
  pub below : val_top r ≤ length ns
  pub kind : HasKindFor s eval.Value to r
  pub value : (choice v : ℕ → Bool) → Runs ns choice v → (p : Layout) (bits : List Bool) (temps : List Cell) (turn : ℕ) (c : Cell) → Meets v x c
      → Meets v r (eval.convert (env_of s p bits temps turn) from to c)
