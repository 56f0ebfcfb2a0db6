use Rattle.std.proofs.Common.{◌<◌, length, sym, ap, subst, ◌∙◌, arith}
use Rattle.std.proofs.lemmas.List.{get_or_read}
use Rattle.bit_net.specs.declared.nodes.Gate.{Gate}
use Rattle.reach_net.proofs.RowLemmas.{gate_below, holds_at_place}
use Rattle.fn_facts.specs.Showing.{ShowsAtExit}
use Rattle.fn_walks.specs.Seen.{leads}
use Rattle.fn_walks.proofs.Reaching.{over_shown}
use Rattle.fn_walks.proofs.walking.comes_over.Goals as goal

pub index-here-requires : goal.index-here-requires
index-here-requires c = omega (arith, c.requires.place, c.requires.walk.found.wide)

pub and-requires-clause-a : goal.and-requires-clause-a
and-requires-clause-a c =
    let walk = c.args.walk.now in
    let low : c.args.i < length walk.found.items = omega (arith, c.requires.place, c.requires.walk.found.wide) in
    omega (
      arith,
      gate_below walk.found.items c.args.i c.index-here.result.now low,
      ap (λ (g : Gate). g.at) c.index-here.ensures,
      c.requires.walk.found.below,
      c.in_ok-step.ensures.grown.longer,
    )

pub returns-clause-ok : goal.returns-clause-ok
returns-clause-ok c =
    let walk = c.args.walk.now in
    let low : c.args.i < length walk.found.items = omega (arith, c.requires.place, c.requires.walk.found.wide) in
    over_shown c.args.around.now c.args.net.now c.leads.new.net c.and.new.self walk c.args.n c.args.i c.index-here.result.now.at c.in_ok-step.step.at
    c.in_ok-comes.comes.at c.requires.place c.requires.walk c.in_ok-step.ensures.grown c.in_ok-comes.ensures.grown
    (λ v.
    ap (λ (g : Gate). v g.at) c.index-here.ensures ∙ sym (holds_at_place v walk.found.items c.args.i c.index-here.result.now low))
    (subst (λ m. ShowsAtExit c.args.around.now c.leads.new.net (λ o. leads o m c.args.n) c.in_ok-step.step.at)
    (get_or_read walk.through.items c.args.i c.index-from.result.now c.requires.place c.index-from.ensures 0) c.in_ok-step.ensures.ok)
    c.in_ok-comes.ensures.ok
