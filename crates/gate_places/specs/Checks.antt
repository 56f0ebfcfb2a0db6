-- What is asked of a pointer before it is followed: whether its target fails a check, and the reason for which the run is
-- then set aside.
use Rattle.std.specs.Prelude.{◌≡◌, ℕ, zero, suc, ◌<◌, Bool, true, false, not, List, All, length}
use Rattle.bit_net.specs.declared.nodes.Gate.{Gate}
use Rattle.bit_net.specs.declared.nodes.Node.{Node}
use Rattle.bit_net.specs.Runs.{Runs}
use Rattle.gl_sets.specs.declared.pairs.Pair.{Pair}
use Rattle.gl_sets.specs.Guards.{Points, Tests}
use Rattle.gl_store.specs.declared.stores.Location.{Location}
use Rattle.gl_store.specs.Meets.{MeetsAll}
use Rattle.run_store.specs.declared.Flag.TheVariants as flag
use Rattle.run_store.specs.Concrete.{Place, flag_at}
use Rattle.sc_world.specs.declared.run.Reason.{Reason}
use Rattle.sc_world.specs.declared.run.Reason.TheVariants as reason
use Rattle.sc_world.specs.Tree.{Ty}
use Rattle.sc_world.specs.Layout.{Layout, location, is_stub, has_type}
use Rattle.gate_runs.specs.declared.ends.Ends.{Ends}
use Rattle.gate_runs.specs.Stands.{Does, Any, aside_where}
use Rattle.gate_places.specs.declared.checks.Check.{Check}
use Rattle.gate_places.specs.declared.checks.Check.TheVariants as check

-- the target of null fails the first check; a stub, or what is no location, the second; a freed object the third; a
-- location of another type than t the last
abbrev pub is_null_check : Check → Bool
is_null_check check.Null = true
is_null_check _ = false

abbrev pub fails_at : Check → Layout → Ty → List Place → (at : ℕ) → Bool
fails_at check.Null p t ps at = false
fails_at check.Reach p t ps at = is_stub (location p at)
fails_at check.Freed p t ps at = flag_at ps (location p at).root flag.Freed
fails_at check.Type p t ps at = not (has_type (location p at) t)

abbrev pub fails : Check → Layout → Ty → List Place → (target : ℕ) → Bool
fails c p t ps zero = is_null_check c
fails c p t ps (suc at) = fails_at c p t ps at

abbrev pub reason_of : Check → Reason
reason_of check.Null = reason.Null
reason_of check.Reach = reason.Reach
reason_of check.Freed = reason.Freed
reason_of check.Type = reason.Type

-- the gate holds where the test of the store does
pub record IsTest (ns : List Node) (locations : List Location) (test : List Place → Bool) (gate : ℕ) : Type 0 where
  pub below : gate < length ns
  pub value : (choice v : ℕ → Bool) → Runs ns choice v → (ps : List Place) → MeetsAll v locations ps → v gate ≡ test ps

-- a gate for each pair, which holds where its target fails the test
pub record HaveTests (ns : List Node) (locations : List Location) (test : List Place → ℕ → Bool) (pairs : List Pair) (tests : List Gate) : Type 0 where
  pub wide : length tests ≡ length pairs
  pub below : All (λ g. g.at < length ns) tests
  pub holds : (choice v : ℕ → Bool) → Runs ns choice v → (ps : List Place) → MeetsAll v locations ps → Tests v pairs tests (λ t. test ps t)

-- the run is set aside where the target of the pointer fails the check
pub record DoesCheck (ns : List Node) (p : Layout) (t : Ty) (locations : List Location) (which : Check) (pointer : List Pair) (old new : Ends) : Type 0 where
  pub does : (choice v : ℕ → Bool) → Runs ns choice v → (target : ℕ) → Points v pointer target
      → Does v locations old (aside_where (λ w. fails which p t w.places target) (reason_of which)) locations new Any
