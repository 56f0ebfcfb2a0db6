use Rattle.std.proofs.Common.{◌≡◌, length}
use Rattle.flow_turns.specs.Ends.{AreBlank}
use Rattle.flow_turns.proofs.ends.no_slots.Given as goal

abbrev pub invariant-loop : goal.invariant-loop
invariant-loop l = record {
  len : length l.slots.items ≡ l.counter;
  blank : AreBlank l.slots.items;
}
