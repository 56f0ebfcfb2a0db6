use Rattle.std.proofs.Common.{◌≡◌, ◌≤◌, ◌&&◌, length}
use Rattle.bit_net.specs.Runs.{Grown, Always}
use Rattle.gate_runs.specs.Stands.{told, gates_top}
use Rattle.flow_ends.proofs.Telling.{ToldSoFar}
use Rattle.flow_ends.proofs.fates.also_each.Given as goal

-- the first gates hold also where the others do
abbrev pub invariant-loop-k : goal.invariant-loop-k
invariant-loop-k l =
    record {
      grown : Grown l.fn.net l.net;
      len : length l.gates ≡ length l.fn.gates;
      top : gates_top l.gates ≤ length l.net;
      so_far : Always l.net (λ choice v. ToldSoFar v l.k (λ j. v l.now.at && told v l.others j) l.fn.gates l.gates);
    }
