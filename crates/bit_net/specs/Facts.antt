-- What is known of gates: facts that a gate holds or that it does not. They are learnt from a gate that is taken to hold, by the nodes
-- behind it, and read to put an earlier gate in the place of another one that has the same value where the facts are true.
use Rattle.std.specs.Prelude.{◌≡◌, ℕ, ◌<◌, Bool, true, List, length, Some, slice_get}
use Rattle.bit_net.specs.declared.nodes.Node.{Node}
use Rattle.bit_net.specs.declared.facts.Fact.{Fact}
use Rattle.bit_net.specs.Runs.{Runs}

-- each of the facts is true where gate g has the value v g
pub record AllHold (v : ℕ → Bool) (facts : List Fact) : Type 0 where
  pub each : (k : ℕ) (f : Fact) → slice_get facts k ≡ Some f → v f.gate.at ≡ f.holds

-- wherever the facts are true gate g has this value
pub record IsFact (facts : List Fact) (g : ℕ) (b : Bool) : Type 0 where
  pub value : (v : ℕ → Bool) → AllHold v facts → v g ≡ b

-- facts that were true stay so with the new ones, wherever gate g has this value
pub record Notes (g : ℕ) (b : Bool) (old new : List Fact) : Type 0 where
  pub hold : (v : ℕ → Bool) → v g ≡ b → AllHold v old → AllHold v new

-- the facts are true for every choice for which gate g holds
pub record AreKnown (ns : List Node) (g : ℕ) (facts : List Fact) : Type 0 where
  pub hold : (choice v : ℕ → Bool) → Runs ns choice v → v g ≡ true → AllHold v facts

-- facts that were true stay so with the new ones, for every choice for which gate g has this value
pub record Learns (ns : List Node) (g : ℕ) (b : Bool) (old new : List Fact) : Type 0 where
  pub hold : (choice v : ℕ → Bool) → Runs ns choice v → v g ≡ b → AllHold v old → AllHold v new

-- gate `new` has the value of gate `old` for every choice for which the facts are true
pub record IsSeen (ns : List Node) (facts : List Fact) (old new : ℕ) : Type 0 where
  pub below : new < length ns
  pub same : (choice v : ℕ → Bool) → Runs ns choice v → AllHold v facts → v new ≡ v old
