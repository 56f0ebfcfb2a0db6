-- What the calls of a run read, in any turn of the loops round them.
use Rattle.std.specs.Prelude.{ℕ}
use Rattle.sc_world.specs.World.{Env}

abbrev pub reads_at : Env → (turn : ℕ) → Env
reads_at env t = record env { turn = t }
