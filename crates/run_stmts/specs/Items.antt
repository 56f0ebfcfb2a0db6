-- One item of a block: where the run goes on behind it.
use Rattle.std.specs.Prelude.{if◌then◌else◌}
use Rattle.sc_world.specs.Tree.{Stm}
use Rattle.sc_world.specs.World.{Run, Env, ◌>>=◌, done}
use Rattle.sc_world.specs.Exec.{Flow, Next, Breaks, Continues, GoesTo, Returns, Seek, Here, AtLabel, found, exec}

-- something is sought among the items behind, or they are left
pub data After : Type 0 where
  Seeks : Seek → After
  Ends : Flow → After

abbrev pub behind : Flow → After
behind Next = Seeks Here
behind (GoesTo n) = Seeks (AtLabel n)
behind Breaks = Ends Breaks
behind Continues = Ends Continues
behind (Returns v) = Ends (Returns v)

-- an item is passed, or executed where it is what is sought
abbrev pub one_item : Stm → Seek → Env → Run After
one_item s seek env = if found seek s then (exec s env >>= λ f. done (behind f)) else done (Seeks seek)
