use Rattle.std.proofs.Common.{◌≡◌, drop}
use Rattle.sc_jumps.specs.Jumps.{gotos_lead}
use Rattle.sc_jumps.proofs.check.gotos_lead.Given as goal

abbrev pub invariant-loop-goto : goal.invariant-loop-goto
invariant-loop-goto l = gotos_lead l.jumps (drop l.goto-index l.jumps.gotos) l.walk ≡ gotos_lead l.fn.jumps l.fn.jumps.gotos l.fn.walk
