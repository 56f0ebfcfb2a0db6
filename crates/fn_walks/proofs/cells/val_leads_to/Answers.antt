use Rattle.std.proofs.Common.{sym, subst}
use Rattle.gl_store.specs.declared.values.Val.{Val}
use Rattle.fn_walks.specs.Seen.{leads_to}
use Rattle.fn_walks.specs.Walks.{ShowsOf}
use Rattle.fn_walks.proofs.Making.{set_leads, unit_leads, word_leads}
use Rattle.fn_walks.proofs.cells.val_leads_to.Goals as goal

pub returns-in-Word-clause-ok : goal.returns-in-Word-clause-ok
returns-in-Word-clause-ok c =
    subst (λ (x : Val). ShowsOf c.args.around.now c.args.net.now x (λ o y. leads_to o y c.args.n) c.constant.result.at) (sym c.in-Word.is)
    (word_leads _ _ _ c.args.n _ c.constant.ensures)

pub returns-in-Unit-clause-ok : goal.returns-in-Unit-clause-ok
returns-in-Unit-clause-ok c =
    subst (λ (x : Val). ShowsOf c.args.around.now c.args.net.now x (λ o y. leads_to o y c.args.n) c.constant-in-Unit.result.at) (sym c.in-Unit.is)
    (unit_leads _ _ c.args.n _ c.constant-in-Unit.ensures)

pub returns-in_ok-leads-in-Set-clause-ok : goal.returns-in_ok-leads-in-Set-clause-ok
returns-in_ok-leads-in-Set-clause-ok c =
    subst (λ (x : Val). ShowsOf c.args.around.now c.set_leads_to.new.net x (λ o y. leads_to o y c.args.n) c.in_ok-leads-in-Set.leads.at)
    (sym c.in-Set.is) (set_leads _ _ _ c.args.n _ c.in_ok-leads-in-Set.ensures.ok)
