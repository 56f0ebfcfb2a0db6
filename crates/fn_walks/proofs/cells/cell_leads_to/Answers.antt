use Rattle.std.proofs.Common.{List, ap, subst, arith}
use Rattle.gl_store.specs.declared.stores.Location.{Location as Guarded}
use Rattle.gl_store.specs.Meets.{locations_top}
use Rattle.fn_walks.specs.Seen.{leads_to}
use Rattle.fn_walks.specs.Walks.{ShowsCell}
use Rattle.fn_walks.proofs.Making.{cell_shown}
use Rattle.fn_walks.proofs.cells.cell_leads_to.Goals as goal

pub stored_leads_to-requires : goal.stored_leads_to-requires
stored_leads_to-requires c =
    record { stored = omega (arith, ap locations_top c.as_slice-stored.ensures.value, c.requires.ready.store) }

pub returns-clause-ok : goal.returns-clause-ok
returns-clause-ok c =
    cell_shown _ _ c.args.at c.args.n _
    (subst (λ (ls : List Guarded). ShowsCell c.args.around.now c.stored_leads_to.new.net ls c.args.at (λ o x. leads_to o x c.args.n) c.in_ok-leads.leads.at)
    c.as_slice-stored.ensures.value c.in_ok-leads.ensures.ok)
