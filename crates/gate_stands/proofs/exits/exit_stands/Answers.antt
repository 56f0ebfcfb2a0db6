use Rattle.std.proofs.Common.{ap, ◌∙◌}
use Rattle.gate_rows.specs.Sought.{is_side}
use Rattle.gate_stands.proofs.Ending.{is_exit, sought_below}
use Rattle.gate_stands.proofs.exits.exit_stands.Goals as goal

pub has_row-requires : goal.has_row-requires
has_row-requires c =
    let q = c.sought_row-sought.ensures in
    record {
      sought =
          sought_below _ c.sought_row-sought.result c.args.bits.now c.args.given.now c.kind_side-to.result q.given q.before q.outcome q.after c.requires.bits
          c.requires.outcome
          (c.kind_side-to.ensures.below _ c.requires.kind);
    }

pub returns-clause-ok : goal.returns-clause-ok
returns-clause-ok c =
    let q = c.sought_row-sought.ensures in
    is_exit c.has_row.new.net c.sought_row-sought.result c.args.bits.now c.args.given.now c.args.rows.now _
    c.in_ok-r.ensures.ok q.given q.outcome (λ v x. ap (λ s. is_side v s x) q.before)
    (λ v x. ap (λ s. is_side v s x) q.after ∙ c.kind_side-to.ensures.value v x)
