-- The runs of a function, told by gates: for each choice how its run ends, and where it comes to the function's end, with which store and
-- which result. And when a gate tells what runs answer to a question.
use Rattle.std.specs.Prelude.{◌≡◌, ℕ, ◌<◌, ◌≤◌, Bool, false, Some, List, ◌++◌, length, map, Result, Ok, Err}
use Rattle.bit_net.specs.declared.nodes.Node.{Node}
use Rattle.bit_net.specs.Circuit.{input_count}
use Rattle.bit_net.specs.Runs.{Runs}
use Rattle.gl_store.specs.Meets.{Meets, MeetsAll, val_kind, val_top, kinds, locations_top}
use Rattle.run_store.specs.Concrete.{Cell, Kind, Numbers}
use Rattle.sc_world.specs.Tree.{is_void}
use Rattle.sc_world.specs.Source.{Source}
use Rattle.sc_world.specs.Layout.{Layout, Location}
use Rattle.sc_world.specs.World.{World, Ended, kind_of_type, bit_at, state_width}
use Rattle.sc_world.specs.Exec.{run}
use Rattle.sc_world.specs.Paths.{Texts}
use Rattle.sc_world.specs.Shows.{Query, says}
use Rattle.sc_world.specs.Verdict.{run_over}
use Rattle.flow_ends.specs.declared.encoded.Encoded.{Encoded}
use Rattle.flow_ends.specs.Fates.{NoneEnded, HasEnded, AreFates}

-- how a run went, and the world then
abbrev pub TellsRun : (v : ℕ → Bool) → Encoded → Result Cell Ended × World → Type 0
TellsRun v e (Ok c, w) = NoneEnded v e.fates × MeetsAll v e.store.locations.items w.places × Meets v e.result c
TellsRun v e (Err x, w) = HasEnded v e.fates x w

-- the kinds of the cells of all locations, and of their states behind them
abbrev pub kinds_of : Source → List Location → List Kind
kinds_of s ls = map (λ l. kind_of_type s l.type) ls ++ map (λ l. Numbers state_width) ls

-- Every run is told, of choices that have no bits beyond those of the layout, and none is made up: the inputs of the net are just the bits
-- of the choice.
pub record IsEncoded (s : Source) (p : Layout) (ns : List Node) (e : Encoded) : Type 0 where
  pub inputs : input_count ns ≡ p.bits
  pub fates : AreFates ns (length p.locations) e.fates
  pub store : locations_top e.store.locations.items ≤ length ns
  pub kinds : kinds e.store.locations.items ≡ kinds_of s p.locations
  pub result : val_top e.result ≤ length ns
  -- a function without a result gives no cell of which anything is said
  pub kind : is_void s.result ≡ false → val_kind e.result ≡ kind_of_type s (Some s.result)
  pub tells : (bits : List Bool) → length bits ≤ p.bits → (v : ℕ → Bool) → Runs ns (bit_at bits) v → TellsRun v e (run s p bits)

-- the gate holds for exactly the choices whose run answers yes
pub record IsAnswer (s : Source) (x : Texts) (ns : List Node) (q : Query) (gate : ℕ) : Type 0 where
  pub below : gate < length ns
  pub says : (bits : List Bool) → length bits ≤ x.layout.bits → (v : ℕ → Bool) → Runs ns (bit_at bits) v → v gate ≡ says x (run_over s x.layout bits) q
