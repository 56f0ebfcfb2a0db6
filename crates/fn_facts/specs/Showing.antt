-- When a gate shows something of runs: for every choice that has no bits beyond those of the layout it holds exactly where that is so of the
-- run of the choice.
use Rattle.std.specs.Prelude.{◌≡◌, ℕ, ◌<◌, ◌≤◌, ◌^◌, ◌-◌, Bool, List, length, Result, Ok}
use Rattle.bit_net.specs.declared.nodes.Gate.{Gate}
use Rattle.bit_net.specs.declared.nodes.Node.{Node}
use Rattle.bit_net.specs.Circuit.{input_count}
use Rattle.bit_net.specs.Runs.{Runs}
use Rattle.bit_words.specs.Number.{number, top}
use Rattle.gl_store.specs.declared.values.Val.{Val}
use Rattle.gl_store.specs.Meets.{Meets, val_top, locations_top}
use Rattle.run_store.specs.Concrete.{Cell}
use Rattle.sc_world.specs.Tree.{Ty}
use Rattle.sc_world.specs.Source.{Source}
use Rattle.sc_world.specs.Layout.{Layout}
use Rattle.sc_world.specs.World.{World, Ended, bit_at, is_true}
use Rattle.sc_world.specs.Exec.{run}
use Rattle.sc_world.specs.Shows.{Over}
use Rattle.run_world.specs.Seen.{env}
use Rattle.flow_ends.specs.Fates.{AreFates}
use Rattle.flow_ends.specs.Encoded.{TellsRun}
use Rattle.error_laws.specs.Errors.{IsErrorOf}
use Rattle.fn_facts.specs.declared.around.Around.{Around}
use Rattle.fn_facts.specs.declared.shared.Shared.{Shared}
use Rattle.fn_facts.specs.Seen.{over, bits_from, errs_known, given}

-- the runs of a function end by errors at its locations alone
pub record HasErrorsOf (s : Source) (p : Layout) : Type 0 where
  pub error : (bits : List Bool) → length bits ≤ p.bits → IsErrorOf p (run s p bits).0

-- the gates tell of a run of that choice how it ended, and the world then
pub record Told (a : Around) (v : ℕ → Bool) (bits : List Bool) (r : Result Cell Ended) (w : World) : Type 0 where
  pub few : length bits ≤ (env a.here).layout.bits
  pub tells : TellsRun v a.encoded.now (r, w)
  pub error : IsErrorOf (env a.here).layout r

-- the gates of the runs are gates of the net, whose inputs are the bits of the choice
pub record IsReady (a : Around) (ns : List Node) : Type 0 where
  pub inputs : (env a.here).layout.bits ≤ input_count ns
  pub few : length a.here.places.now.locations.items < 2 ^ 32
  pub fates : AreFates ns (length (env a.here).layout.locations) a.encoded.now.fates
  pub store : locations_top a.encoded.now.store.locations.items ≤ length ns
  pub result : val_top a.encoded.now.result ≤ length ns

-- What of a run is true or not.
abbrev pub Fact : Type 0
Fact = Over → Bool

-- the gate holds exactly where the fact is one of the run
pub record Shows (a : Around) (ns : List Node) (of : Fact) (gate : ℕ) : Type 0 where
  pub below : gate < length ns
  pub value : (bits : List Bool) (v : ℕ → Bool) (r : Result Cell Ended) (w : World) → Runs ns (bit_at bits) v → Told a v bits r w
      → v gate ≡ of (over a bits r w)

-- the same of runs that come to the function's end; nothing is said of others
pub record ShowsAtExit (a : Around) (ns : List Node) (of : Fact) (gate : ℕ) : Type 0 where
  pub below : gate < length ns
  pub value : (bits : List Bool) (v : ℕ → Bool) (c : Cell) (w : World) → Runs ns (bit_at bits) v → Told a v bits (Ok c) w
      → v gate ≡ of (over a bits (Ok c) w)

-- the word is a number of the run
pub record ShowsNumber (a : Around) (ns : List Node) (of : Over → ℕ) (word : List Gate) : Type 0 where
  pub below : top word ≤ length ns
  pub value : (bits : List Bool) (v : ℕ → Bool) (r : Result Cell Ended) (w : World) → Runs ns (bit_at bits) v → Told a v bits r w
      → number v word ≡ of (over a bits r w)

pub record ShowsNumberAtExit (a : Around) (ns : List Node) (of : Over → ℕ) (word : List Gate) : Type 0 where
  pub below : top word ≤ length ns
  pub value : (bits : List Bool) (v : ℕ → Bool) (c : Cell) (w : World) → Runs ns (bit_at bits) v → Told a v bits (Ok c) w
      → number v word ≡ of (over a bits (Ok c) w)

-- the gate holds where the value is neither 0 nor null
pub record IsTruth (ns : List Node) (val : Val) (gate : ℕ) : Type 0 where
  pub below : gate < length ns
  pub value : (choice v : ℕ → Bool) → Runs ns choice v → (c : Cell) → Meets v val c → v gate ≡ is_true c

-- what all rows of a function read
pub record AreShared (a : Around) (ns : List Node) (s : Shared) : Type 0 where
  pub given : ShowsNumber a ns given s.given.bits.items
  pub truth : IsTruth ns a.encoded.now.result s.truth.at
  pub known : Shows a ns (λ o. errs_known o.ended) s.known.at

-- the bits of the parameters before the one with number k, where those of types ts are left
pub record BitsSoFar (a : Around) (ns : List Node) (k : ℕ) (ts : List Ty) (word : List Gate) : Type 0 where
  pub few : length word ≤ 3
  pub below : top word ≤ length ns
  pub value : (bits : List Bool) (v : ℕ → Bool) (r : Result Cell Ended) (w : World) → Runs ns (bit_at bits) v → Told a v bits r w
      → bits_from (over a bits r w) (number v word) (3 - length word) k ts ≡ given (over a bits r w)
