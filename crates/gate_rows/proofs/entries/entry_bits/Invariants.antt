use Rattle.bit_net.specs.Runs.{Grown}
use Rattle.gate_rows.proofs.Entering.{AreFirstBits}
use Rattle.gate_rows.proofs.entries.entry_bits.Given as goal

-- the bits of the arguments so far
abbrev pub invariant-loop-i : goal.invariant-loop-i
invariant-loop-i l =
    record {
      grown : Grown l.fn.net l.net;
      so_far : AreFirstBits l.net l.fn.args l.i l.bits.items;
    }
