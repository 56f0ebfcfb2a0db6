-- What is left of a database that was closed.
use Rattle.std.specs.Prelude.{ℕ, List, Option, None, slice_index_or}
use Rattle.std.specs.declared.alloc.Global.{Global}
use Rattle.std.specs.declared.sync.Arc.{Arc}
use Rattle.summary_db.specs.declared.closed.Closed.{Closed}
use Rattle.summary_db.specs.declared.pass.Pass.{Pass}

module _ {W O : Type 0} where
  -- the outputs that can still be taken, function by function
  abbrev pub outputs : Closed W O → List (Option (Arc O Global))
  outputs closed = closed.outputs.items

  -- the output of f, where it can still be taken
  abbrev pub output_at : Closed W O → ℕ → Option (Arc O Global)
  output_at closed f = slice_index_or (outputs closed) f None

  -- the pass that closed the database, as it was then
  abbrev pub closing_pass : Closed W O → Pass W O
  closing_pass closed = closed.pass.value
