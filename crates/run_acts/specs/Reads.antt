-- What the calls of a function's runs read, in a turn of the loops round them.
use Rattle.std.specs.Prelude.{ℕ, List, [], Bool}
use denote.Ref.{Bor}
use Rattle.sc_world.specs.World.{Env}
use Rattle.layout_base.specs.declared.ground.Ground.{Ground}
use Rattle.layout_base.specs.declared.layout.Places.{Places}
use Rattle.layout_base.specs.Seen.{ground_of, layout_of}

abbrev pub reads_of : Ground → Bor Places → (choice : List Bool) → (turn : ℕ) → Env
reads_of g p choice turn = record { source = (ground_of g).source; layout = layout_of p.now; choice = choice; temps = []; turn = turn }
