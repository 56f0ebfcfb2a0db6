use Rattle.std.proofs.Common.{take}
use Rattle.bit_net.specs.Runs.{Grown, Gives}
use Rattle.flow_ways.specs.Held.{any}
use Rattle.flow_ways.proofs.ways.any_of.Given as goal

-- the gate so far holds where the gate of one of the first ways does
abbrev pub invariant-loop-way : goal.invariant-loop-way
invariant-loop-way l = record {
  grown : Grown l.fn.net l.net;
  so_far : Gives l.net l.all.at (λ choice v. any v (take l.way-index l.ways));
}
