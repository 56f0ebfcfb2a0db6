use Rattle.std.proofs.Common.{◌≡◌, ◌<◌, ◌≤◌, drop}
use Rattle.sc_world.specs.Programs.{types_of}
use Rattle.run_answers.specs.Seen.{over, bits_from, size_of, given}
use Rattle.run_answers.proofs.entry.given.Given as goal

-- the bits so far, and those of the parameters behind
abbrev pub invariant-loop-param : goal.invariant-loop-param
invariant-loop-param l = record {
  bits : bits_from (over l.over) l.bits.number l.bits.left l.k (types_of (drop l.param-index l.params))
      ≡ given (over l.fn.over);
  left : l.bits.left ≤ 3;
  number : l.bits.number < size_of l.bits.left;
  count : l.k ≡ l.param-index;
}
