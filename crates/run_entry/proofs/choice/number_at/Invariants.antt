use Rattle.std.proofs.Common.{◌≡◌, ◌+◌, ◌-◌, ◌^◌, ◌<◌}
use Rattle.sc_world.specs.World.{number_from, number_at}
use Rattle.run_entry.proofs.choice.number_at.Given as goal

abbrev pub invariant-loop-k : goal.invariant-loop-k
invariant-loop-k l = record {
  value : number_from (l.width - l.k) l.choice (l.at + l.k) l.number ≡ number_at l.choice l.at l.width;
  bound : l.number < 2 ^ l.k;
}
