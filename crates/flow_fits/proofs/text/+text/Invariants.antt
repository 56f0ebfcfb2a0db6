use Rattle.std.proofs.Common.{◌≡◌, drop}
use Rattle.sc_flow.specs.Seen.{structs_of}
use Rattle.sc_gather.specs.Seen.{arguments_of}
use Rattle.flow_exits.specs.Marks.{marked}
use Rattle.flow_fits.specs.Text.{all_named}
use Rattle.flow_fits.proofs.text.+text.Given as goal

-- the arguments from there on name marked temps
abbrev pub invariant-all_marked-loop-e : goal.invariant-all_marked-loop-e
invariant-all_marked-loop-e l =
    all_named (marked l.marks) (arguments_of (structs_of l.here) (drop l.e-index l.args))
    ≡ all_named (marked l.fn.marks) (arguments_of (structs_of l.fn.here) l.fn.args)
