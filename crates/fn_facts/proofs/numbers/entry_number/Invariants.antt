use Rattle.std.proofs.Common.{◌≡◌, drop}
use Rattle.bit_net.specs.Runs.{Grown}
use Rattle.sc_world.specs.Programs.{types_of}
use Rattle.fn_facts.specs.Showing.{BitsSoFar, IsReady}
use Rattle.fn_facts.proofs.numbers.entry_number.Given as goal

-- the bits so far, and the types of the parameters behind
abbrev pub invariant-loop-param : goal.invariant-loop-param
invariant-loop-param l =
    record {
      grown : Grown l.fn.net l.net;
      ready : IsReady l.around l.net;
      count : l.k ≡ l.param-index;
      so_far : BitsSoFar l.around l.net l.k (types_of (drop l.param-index l.params)) l.bits.items;
    }
