use Rattle.sum_rows.specs.declared.row.State.TheVariants as state
use Rattle.fn_facts.proofs.Growing.{exit_grows}
use Rattle.fn_walks.proofs.Fating.{escaped_shown, fate_of, freed_shown, held_shown, other_fate_shown}
use Rattle.fn_walks.proofs.Reaching.{walk_grows}
use Rattle.fn_walks.proofs.fates.fate_is.Goals as goal

pub is_escaped-requires-clause-walk : goal.is_escaped-requires-clause-walk
is_escaped-requires-clause-walk c = walk_grows _ _ _ _ c.in_ok-kept.ensures.grown c.requires.walk

pub is_escaped-requires-in-Held-clause-walk : goal.is_escaped-requires-in-Held-clause-walk
is_escaped-requires-in-Held-clause-walk c = walk_grows _ _ _ _ c.in_ok-kept.ensures.grown c.requires.walk

pub returns-in-Freed-clause-ok : goal.returns-in-Freed-clause-ok
returns-in-Freed-clause-ok c =
    fate_of _ _ c.args.wanted state.Freed c.args.at _ c.in-Freed.is
    (freed_shown _ _ c.args.at _ (exit_grows _ _ _ _ _ c.in_ok-kept.ensures.grown c.has-freed.ensures))

pub returns-in_ok-is-in-Escaped-clause-ok : goal.returns-in_ok-is-in-Escaped-clause-ok
returns-in_ok-is-in-Escaped-clause-ok c =
    fate_of _ _ c.args.wanted state.Escaped c.args.at _ c.in-Escaped.is
    (escaped_shown _ _ _ _ _ c.args.at _ _ _ _ c.in_ok-kept.ensures.grown c.in_ok-escaped-in-Escaped.ensures.grown
    c.in_ok-is-in-Escaped.ensures.grown c.has-freed.ensures c.in_ok-kept.ensures.ok c.in_ok-escaped-in-Escaped.ensures.ok
    c.in_ok-is-in-Escaped.ensures.ok)

pub returns-in_ok-is-in-Held-clause-ok : goal.returns-in_ok-is-in-Held-clause-ok
returns-in_ok-is-in-Held-clause-ok c =
    fate_of _ _ c.args.wanted state.Held c.args.at _ c.in-Held.is
    (held_shown _ _ _ _ _ _ c.args.at _ _ _ _ _ c.in_ok-kept.ensures.grown c.in_ok-escaped-in-Held.ensures.grown
    c.in_ok-held-in-Held.ensures.grown c.in_ok-is-in-Held.ensures.grown c.has-freed.ensures c.in_ok-kept.ensures.ok
    c.in_ok-escaped-in-Held.ensures.ok c.in_ok-held-in-Held.ensures.ok c.in_ok-is-in-Held.ensures.ok)

pub returns-in-Nil : goal.returns-in-Nil
returns-in-Nil c =
    record {
      grown = c.in_ok-kept.ensures.grown;
      ok = other_fate_shown _ _ c.args.wanted c.args.at _ c.in-Nil.is c.constant.ensures;
    }
