-- When gates tell, for the values v of the gates, where a run stands; and when a step of gates does what a step of
-- runs does.
use Rattle.std.specs.Prelude.{◌≡◌, ℕ, suc, zero, ◌+◌, ◌<◌, ◌≤◌, max, Bool, false, List, [], ◌∷◌, length, if◌then◌else◌}
use Rattle.bit_net.specs.declared.nodes.Gate.{Gate}
use Rattle.bit_net.specs.declared.nodes.Node.{Node}
use Rattle.bit_net.specs.Runs.{Runs}
use Rattle.gl_store.specs.declared.stores.Location.{Location}
use Rattle.gl_store.specs.Meets.{MeetsAll}
use Rattle.sc_world.specs.declared.run.Reason.{Reason}
use Rattle.sc_world.specs.World.{World, Ended, Error, Inner, Aside, Run, done, ends}
use Rattle.gate_runs.specs.declared.ends.Ends.{Ends}
use Rattle.gate_runs.specs.Standing.{Standing, On, Over, world_of, is_on, end_of, after, is_aside, is_bad, reasons}

-- the value of the gate with a number, false where there is none
unfoldable pub told : (v : ℕ → Bool) → List Gate → ℕ → Bool
told v [] k = false
told v (g ∷ gs) zero = v g.at
told v (g ∷ gs) (suc k) = told v gs k

-- one more than the greatest gate
unfoldable pub gates_top : List Gate → ℕ
gates_top [] = 0
gates_top (g ∷ gs) = max (g.at + 1) (gates_top gs)

-- one gate holds where the run goes on, one for each reason where it was set aside for it, and one for each location
-- where it ended by an error there
pub record Tells {A : Type 0} (v : ℕ → Bool) (gates : Ends) (s : Standing A) : Type 0 where
  pub live : v gates.live.at ≡ is_on s
  pub asides : (k : ℕ) → k < reasons → told v gates.asides.items k ≡ is_aside k (end_of s)
  pub bads : (k : ℕ) → k < length gates.bads.items → told v gates.bads.items k ≡ is_bad k (end_of s)

-- what the run gave, or anything where it is over
abbrev pub IsGiven : {A : Type 0} → Standing A → A → Type 0
IsGiven (On a w) x = a ≡ x
IsGiven (Over e w) x = Unit {0}

-- The guarded store is the world's, the gates tell where the run stands, and what it gave is good. Something good is
-- there also where the run is over, so that a value always is of its kind.
pub record Stands {A : Type 0} (v : ℕ → Bool) (locations : List Location) (gates : Ends) (Good : A → Type 0) (s : Standing A) : Type 0 where
  pub store : MeetsAll v locations (world_of s).places
  pub tells : Tells v gates s
  pub given : A
  pub good : Good given
  pub is : IsGiven s given

abbrev pub Any : {A : Type 0} → A → Type 0
Any a = Unit {0}

-- The step from the old gates to the new ones does what the step of the run does, wherever the run stands: where it is
-- over, nothing is done.
pub record Does {A : Type 0} (v : ℕ → Bool) (old : List Location) (old_gates : Ends) (m : Run A) (new : List Location) (new_gates : Ends) (Good : A → Type 0) : Type 0 where
  pub does : (s : Standing (Unit {0})) → Stands v old old_gates Any s → Stands v new new_gates Good (after s (λ u. m))

-- the gates of a run are gates of the net, one for each reason
pub record AreEnds (ns : List Node) (gates : Ends) : Type 0 where
  pub live : gates.live.at < length ns
  pub asides : gates_top gates.asides.items ≤ length ns
  pub bads : gates_top gates.bads.items ≤ length ns
  pub each : length gates.asides.items ≡ reasons

-- a run that ends so where the test holds
abbrev pub ends_where : (World → Bool) → Ended → Run (Unit {0})
ends_where test e w = (if test w then ends e else done tt) w

-- a run that is set aside where the test holds
abbrev pub aside_where : (World → Bool) → Reason → Run (Unit {0})
aside_where test r = ends_where test (Aside r)

-- the run ends for that reason where the gate holds and the run goes on
pub record IsEndedWhere (ns : List Node) (when : ℕ) (reason : Reason) (old new : Ends) : Type 0 where
  pub does : (choice v : ℕ → Bool) → Runs ns choice v → (locations : List Location) (test : World → Bool)
      → ((w : World) → MeetsAll v locations w.places → v when ≡ test w) → Does v locations old (aside_where test reason) locations new Any

-- the run ends by an error at that location, which callers know or not, where the gate holds and the run goes on
pub record HasFailedWhere (ns : List Node) (when at : ℕ) (old new : Ends) : Type 0 where
  pub outer : (choice v : ℕ → Bool) → Runs ns choice v → (locations : List Location) (test : World → Bool)
      → ((w : World) → MeetsAll v locations w.places → v when ≡ test w) → Does v locations old (ends_where test (Error at)) locations new Any
  pub inner : (choice v : ℕ → Bool) → Runs ns choice v → (locations : List Location) (test : World → Bool)
      → ((w : World) → MeetsAll v locations w.places → v when ≡ test w) → Does v locations old (ends_where test (Inner at)) locations new Any

-- a run that begins where a gate holds, and never comes here where it does not
pub record HasBegun (ns : List Node) (begins : ℕ) (gates : Ends) : Type 0 where
  pub live : gates.live.at ≡ begins
  pub asides : (choice v : ℕ → Bool) → Runs ns choice v → (k : ℕ) → told v gates.asides.items k ≡ false
  pub bads : (choice v : ℕ → Bool) → Runs ns choice v → (k : ℕ) → told v gates.bads.items k ≡ false
