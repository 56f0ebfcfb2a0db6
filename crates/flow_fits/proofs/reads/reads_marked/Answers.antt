use Rattle.std.proofs.Common.{sym, ◌∙◌, ap}
use Rattle.sc_flow.specs.Seen.{node, all_of, structs_of}
use Rattle.flow_exits.specs.Marks.{marked}
use Rattle.flow_fits.specs.Voids.{node_reads}
use Rattle.flow_fits.proofs.Marking.{slots_pass}
use Rattle.flow_fits.proofs.reads.reads_marked.Goals as goal

pub returns-in-Fill : goal.returns-in-Fill
returns-in-Fill c =
    let test = marked c.args.flags.now in
    sym (ap (λ n. node_reads test (node (structs_of c.args.here.now) n)) c.in-Fill.is ∙ slots_pass test (all_of c.in-Fill.slots))
