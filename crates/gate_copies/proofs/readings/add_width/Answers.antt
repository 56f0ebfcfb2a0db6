use Rattle.std.proofs.Common.{sym, ap, subst, length, ◌∙◌}
use Rattle.std.proofs.lemmas.List.{length-map}
use Rattle.gl_sets.specs.Sets.{IsMoved}
use Rattle.run_world.specs.Seen as seen
use Rattle.gate_copies.specs.Widths.{leads_to_some, of_width}
use Rattle.gate_copies.proofs.Counting.{read_skip, read_more}
use Rattle.gate_copies.proofs.readings.add_width.Goals as goal

pub moved-requires-clause-wide : goal.moved-requires-clause-wide
moved-requires-clause-wide c =
    ap length (c.as_slice-2.ensures.value ∙ c.in_ok-same.ensures)
    ∙ length-map c.args.targets.now (λ t. of_width (seen.env c.args.here.now).source (seen.env c.args.here.now).layout c.args.number t) ∙ c.requires.wide

pub returns-then-not-is_some-clause-ok : goal.returns-then-not-is_some-clause-ok
returns-then-not-is_some-clause-ok c =
    read_skip (seen.env c.args.here.now).source (seen.env c.args.here.now).layout c.args.store.now.locations.items c.args.from.now.pairs.items c.args.targets.now
    _ c.in_ok-same.same.items c.args.vals.now.items c.args.number c.in_ok-same.ensures
    (ap leads_to_some (sym c.as_slice.ensures.value) ∙ sym c.leads_to_some-is_some.ensures ∙ c.if-not-is_some.true) c.requires.vals

pub returns-clause-ok : goal.returns-clause-ok
returns-clause-ok c =
    read_more (seen.env c.args.here.now).source (seen.env c.args.here.now).layout c.args.store.now.locations.items c.args.from.now.pairs.items c.args.targets.now
    c.args.net.now c.moved.new.net c.read_width.new.net c.in_ok-same.same.items c.in_ok-pointer.pointer.pairs.items c.in_ok-guarded.guarded c.args.vals.now.items _
    c.args.number c.requires.laid c.requires.number c.in_ok-pointer.ensures.grown c.in_ok-guarded.ensures.grown c.in_ok-same.ensures
    (subst (λ ts. IsMoved c.moved.new.net c.args.from.now.pairs.items ts c.in_ok-pointer.pointer.pairs.items) c.as_slice-2.ensures.value c.in_ok-pointer.ensures.ok)
    c.in_ok-guarded.ensures.ok c.in_ok-push.ensures.items c.requires.vals
