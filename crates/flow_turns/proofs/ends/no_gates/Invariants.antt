use Rattle.std.proofs.Common.{◌≡◌, ℕ, ◌≤◌, Bool, false, length}
use Rattle.bit_net.specs.Runs.{Runs}
use Rattle.gate_runs.specs.Stands.{told, gates_top}
use Rattle.flow_turns.proofs.ends.no_gates.Given as goal

-- so far as many gates as turns, none of which holds
abbrev pub invariant-loop : goal.invariant-loop
invariant-loop l =
    record {
      len : length l.gates.items ≡ l.counter;
      below : gates_top l.gates.items ≤ length l.net;
      none : (choice v : ℕ → Bool) → Runs l.net choice v → (k : ℕ) → told v l.gates.items k ≡ false;
    }
