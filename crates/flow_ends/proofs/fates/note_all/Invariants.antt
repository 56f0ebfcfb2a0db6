use Rattle.std.proofs.Common.{◌≡◌, ◌≤◌, length}
use Rattle.bit_net.specs.Runs.{Grown, Always}
use Rattle.gate_runs.specs.Stands.{gates_top}
use Rattle.flow_ends.proofs.Noting.{NotesSoFar}
use Rattle.flow_ends.proofs.fates.note_all.Given as goal

-- the first locations are noted
abbrev pub invariant-loop-k : goal.invariant-loop-k
invariant-loop-k l =
    record {
      grown : Grown l.fn.net l.net;
      touched : length l.touched ≡ length l.fn.touched;
      noted : length l.noted ≡ length l.fn.noted;
      touched_top : gates_top l.touched ≤ length l.net;
      noted_top : gates_top l.noted ≤ length l.net;
      so_far : Always l.net (λ choice v. NotesSoFar v l.stopped.at l.k l.store.locations.items l.fn.touched l.fn.noted l.touched l.noted);
    }
