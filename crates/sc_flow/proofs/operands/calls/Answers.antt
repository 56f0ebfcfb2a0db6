-- The count of the arguments is that of the list.
use Rattle.sc_flow.specs.Seen.{structs_of}
use Rattle.sc_flow.proofs.Easy.{count_is}
use Rattle.sc_flow.proofs.operands.calls.Goals as goal

pub returns : goal.returns
returns c =
    rw (count_is (structs_of c.args.here.now) c.args.args.now, ← c.len.ensures, ← c.in_ok-count.ensures) c.call_node.ensures
