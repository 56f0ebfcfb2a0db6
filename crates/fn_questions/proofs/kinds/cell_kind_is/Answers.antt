use Rattle.std.proofs.Common.{List, ap, subst, arith}
use Rattle.gl_store.specs.declared.stores.Location.{Location as Guarded}
use Rattle.gl_store.specs.Meets.{locations_top}
use Rattle.sc_world.specs.Known.{same_state}
use Rattle.fn_walks.specs.Seen.{kind}
use Rattle.fn_walks.specs.Walks.{ShowsCell}
use Rattle.fn_questions.proofs.Kinding.{cell_kind_shown}
use Rattle.fn_questions.proofs.kinds.cell_kind_is.Goals as goal

pub stored_kind_is-requires-clause-stored : goal.stored_kind_is-requires-clause-stored
stored_kind_is-requires-clause-stored c = omega (arith, ap locations_top c.as_slice-stored.ensures.value, c.requires.ready.store)

pub returns-clause-ok : goal.returns-clause-ok
returns-clause-ok c =
    cell_kind_shown _ _ c.args.walk.now.from c.args.wanted c.args.at _ c.requires.from
    (subst
    (λ (ls : List Guarded).
    ShowsCell c.args.around.now c.stored_kind_is.new.net ls c.args.at (λ o x. same_state c.args.wanted (kind o c.args.walk.now.from x))
    c.in_ok-kind.kind.at)
    c.as_slice-stored.ensures.value c.in_ok-kind.ensures.ok)
