use Rattle.std.proofs.Common.{sym, subst}
use Rattle.gl_store.specs.declared.values.Val.{Val}
use Rattle.fn_walks.specs.Seen.{is_fresh}
use Rattle.fn_walks.specs.Walks.{ShowsOf}
use Rattle.fn_walks.proofs.Fating.{set_fresh, unit_fresh, word_fresh}
use Rattle.fn_walks.proofs.fates.is_fresh.Goals as goal

pub returns-in-Word-clause-ok : goal.returns-in-Word-clause-ok
returns-in-Word-clause-ok c =
    subst (λ (x : Val). ShowsOf c.args.around.now c.args.net.now x (λ o y. is_fresh o c.args.walk.now.from y) c.constant.result.at) (sym c.in-Word.is)
    (word_fresh _ _ c.args.walk.now.from _ _ c.constant.ensures)

pub returns-in-Unit-clause-ok : goal.returns-in-Unit-clause-ok
returns-in-Unit-clause-ok c =
    subst (λ (x : Val). ShowsOf c.args.around.now c.args.net.now x (λ o y. is_fresh o c.args.walk.now.from y) c.constant-in-Unit.result.at)
    (sym c.in-Unit.is) (unit_fresh _ _ c.args.walk.now.from _ c.constant-in-Unit.ensures)

pub returns-in_ok-fresh-in-Set-clause-ok : goal.returns-in_ok-fresh-in-Set-clause-ok
returns-in_ok-fresh-in-Set-clause-ok c =
    subst
    (λ (x : Val). ShowsOf c.args.around.now c.is_fresh_set.new.net x (λ o y. is_fresh o c.args.walk.now.from y) c.in_ok-fresh-in-Set.fresh.at)
    (sym c.in-Set.is) (set_fresh _ _ c.args.walk.now.from _ _ c.in_ok-fresh-in-Set.ensures.ok)
