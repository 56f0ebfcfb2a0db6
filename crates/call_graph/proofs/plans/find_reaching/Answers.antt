use Rattle.std.proofs.Common.{◌≡◌, length, ap, sym, ◌∙◌}
use Rattle.call_graph.specs.Tables.{entry}
use Rattle.call_graph.proofs.Evident.{evident}
use Rattle.call_graph.proofs.Entries.{entry_before}
use Rattle.call_graph.proofs.plans.find_reaching.Goals as goal

pub returns-then-is_evidence : goal.returns-then-is_evidence
returns-then-is_evidence c f g inside call =
    evident c.args.rows.now c.in_ok-evidence.evidence c.requires (sym c.is_evidence.ensures ∙ c.if-is_evidence.true) f g inside call

pub returns-in_ok-table_of : goal.returns-in_ok-table_of
returns-in_ok-table_of c f g inside call =
    ap (λ t. entry t g f) c.in_ok-table_of.ensures
    ∙ entry_before c.args.rows.now (length c.args.rows.now) g f (c.requires.inside f g call) inside
