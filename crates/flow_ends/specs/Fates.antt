-- What gates tell of the ends of runs, and what is told of them by a step.
use Rattle.std.specs.Prelude.{◌≡◌, ℕ, ◌<◌, ◌≤◌, Bool, true, false, not, ◌&&◌, ◌||◌, Some, List, length}
use Rattle.bit_net.specs.declared.nodes.Node.{Node}
use Rattle.bit_net.specs.Runs.{Runs, Always}
use Rattle.gl_store.specs.declared.stores.Location.{Location}
use Rattle.gl_store.specs.Meets.{MeetsAll}
use Rattle.gate_runs.specs.declared.ends.Ends.{Ends}
use Rattle.gate_runs.specs.Standing.{is_bad}
use Rattle.gate_runs.specs.Stands.{told, gates_top}
use Rattle.run_store.specs.Concrete.{Place, flag_at}
use Rattle.run_store.specs.declared.Flag.TheVariants as flag
use Rattle.sc_world.specs.World.{World, Ended, Error, Inner, Aside}
use Rattle.flow_ends.specs.declared.fates.Fates.{Fates}

abbrev pub is_error : Ended → Bool
is_error (Error at) = true
is_error (Inner at) = true
is_error (Aside r) = false

-- whether a step ended the run, which had touched the location then
abbrev pub is_touched : (v : ℕ → Bool) → Fates → ℕ → Bool
is_touched v f l = v f.stopped.at && told v f.touched.items l

-- no run has ended before the function's end
pub record NoneEnded (v : ℕ → Bool) (fates : Fates) : Type 0 where
  pub over : v fates.over.at ≡ false
  pub bads : (l : ℕ) → told v fates.bads.items l ≡ false
  pub touched : (l : ℕ) → is_touched v fates l ≡ false

-- The run ended so, in this world: one gate says where an error was, and where there was one, a gate says of each location whether the
-- run has touched it.
pub record HasEnded (v : ℕ → Bool) (fates : Fates) (e : Ended) (w : World) : Type 0 where
  pub over : v fates.over.at ≡ true
  pub bads : (l : ℕ) → l < length fates.bads.items → told v fates.bads.items l ≡ is_bad l (Some e)
  pub touched : is_error e ≡ true → (l : ℕ) → l < length fates.touched.items → is_touched v fates l ≡ flag_at w.places l flag.Touched

-- A run that a step ended is over. Of any other one what is kept of a location is what was noted last.
pub record AreNoted (v : ℕ → Bool) (f : Fates) : Type 0 where
  pub over : v f.stopped.at ≡ true → v f.over.at ≡ true
  pub noted : v f.stopped.at ≡ false → (l : ℕ) → told v f.touched.items l ≡ told v f.noted.items l

-- gates of the net, one of each sort for each location
pub record AreFates (ns : List Node) (locations : ℕ) (f : Fates) : Type 0 where
  pub over : f.over.at < length ns
  pub bads : gates_top f.bads.items ≤ length ns
  pub stopped : f.stopped.at < length ns
  pub touched : gates_top f.touched.items ≤ length ns
  pub noted : gates_top f.noted.items ≤ length ns
  pub each_bad : length f.bads.items ≡ locations
  pub each_touched : length f.touched.items ≡ locations
  pub each_noted : length f.noted.items ≡ locations
  pub are_noted : Always ns (λ choice v. AreNoted v f)

pub record NoFates (ns : List Node) (locations : ℕ) (f : Fates) : Type 0 where
  pub are : AreFates ns locations f
  pub none : (choice v : ℕ → Bool) → Runs ns choice v → NoneEnded v f

-- whether a run ends now: it was not over before, and the step begins and does not go on
abbrev pub ends_now : (over on live : Bool) → Bool
ends_now over on live = not over && (on && not live)

-- how a step ended that began where a gate holds
pub record TellsStep (v : ℕ → Bool) (stored : List Location) (on : ℕ) (ends : Ends) (old new : Fates) : Type 0 where
  pub over : v new.over.at ≡ (v old.over.at || ends_now (v old.over.at) (v on) (v ends.live.at))
  pub bads : (l : ℕ) → l < length old.bads.items → told v new.bads.items l ≡ (told v old.bads.items l || (ends_now (v old.over.at) (v on) (v ends.live.at) && told v ends.bads.items l))
  pub touched : (ps : List Place) → MeetsAll v stored ps → (l : ℕ) → l < length old.touched.items
      → is_touched v new l ≡ (is_touched v old l || (ends_now (v old.over.at) (v on) (v ends.live.at) && flag_at ps l flag.Touched))
  pub untouched : ends_now (v old.over.at) (v on) (v ends.live.at) ≡ false → (l : ℕ) → l < length old.touched.items → is_touched v new l ≡ is_touched v old l
