use Rattle.std.proofs.Common.{◌&&◌, ◌∙◌, sym, subst}
use Rattle.fn_facts.specs.declared.around.Around.{Around}
use Rattle.fn_facts.specs.Seen.{begins, ends_so}
use Rattle.fn_facts.specs.Showing.{Shows}
use Rattle.fn_facts.proofs.Growing.{shows_grows}
use Rattle.sc_world.specs.Shows.{exits, has_lock_row}
use Rattle.fn_questions.proofs.facts.Facts.locks.Goals as goal

pub has_lock_row-requires-clause-begins : goal.has_lock_row-requires-clause-begins
has_lock_row-requires-clause-begins c =
    subst (λ (a : Around). Shows a c.ends.new.net (λ o. begins o c.args.at c.args.row) c.in_ok-begins.begins.at)
    (sym (c.ends.ensures.around ∙ c.begins.ensures.around))
    (shows_grows _ _ _ (λ o. begins o c.args.at c.args.row) _ c.in_ok-ends.ensures.grown c.in_ok-begins.ensures.ok)

pub has_lock_row-requires-clause-ends : goal.has_lock_row-requires-clause-ends
has_lock_row-requires-clause-ends c =
    subst (λ (a : Around). Shows a c.ends.new.net (λ o. exits o && ends_so o c.args.at c.args.row) c.in_ok-ends.ends.at) (sym c.ends.ensures.around)
    c.in_ok-ends.ensures.ok

pub returns-clause-ok : goal.returns-clause-ok
returns-clause-ok c =
    subst (λ (a : Around). Shows a c.has_lock_row.new.net (λ o. has_lock_row o c.args.at c.args.row) c.in_ok-locks.locks.at)
    (c.ends.ensures.around ∙ c.begins.ensures.around) c.in_ok-locks.ensures.ok
