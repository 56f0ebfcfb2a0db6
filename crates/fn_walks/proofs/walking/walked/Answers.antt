use Rattle.std.proofs.Common.{ℕ, List, length, sym, ap, subst, ◌∙◌, arith}
use Rattle.reach_net.specs.Walks.{rows_of, EachWide}
use Rattle.reach_net.proofs.RowLemmas.{length-rows_of}
use Rattle.fn_walks.specs.Walks.{AreRoots, AreSteps}
use Rattle.fn_walks.proofs.Reaching.{walk_shown}
use Rattle.fn_walks.proofs.walking.walked.Goals as goal

pub reached-requires-clause-count : goal.reached-requires-clause-count
reached-requires-clause-count c =
    omega (
      arith,
      length-rows_of c.in_ok-steps.steps.items,
      c.in_ok-steps.ensures.ok.each,
      ap length c.as_slice.ensures.value,
      c.in_ok-roots.ensures.ok.wide,
      ap length c.as_slice-2.ensures.value,
    )

pub reached-requires-clause-wide : goal.reached-requires-clause-wide
reached-requires-clause-wide c =
    subst (λ (n : ℕ). EachWide n (rows_of c.in_ok-steps.steps.items))
    (ap length c.as_slice.ensures.value ∙ sym (c.in_ok-roots.ensures.ok.wide ∙ ap length c.as_slice-2.ensures.value)) c.in_ok-steps.ensures.ok.wide

pub reached-requires-clause-points : goal.reached-requires-clause-points
reached-requires-clause-points c = omega (arith, c.in_ok-steps.ensures.ok.below, c.in_ok-roots.ensures.grown.longer)

pub reached-requires-clause-roots : goal.reached-requires-clause-roots
reached-requires-clause-roots c = c.in_ok-roots.ensures.ok.below

pub returns-clause-ok : goal.returns-clause-ok
returns-clause-ok c =
    walk_shown c.args.around.now c.steps.new.net c.roots.new.net c.reached.new.net _ (rows_of c.in_ok-steps.steps.items) c.in_ok-roots.roots.items
    c.requires.objects c.in_ok-through.ensures c.in_ok-roots.ensures.grown c.in_ok-found.ensures.grown
    (subst (λ (ms : List ℕ). AreSteps c.args.around.now c.steps.new.net ms (length ms) (rows_of c.in_ok-steps.steps.items)) c.as_slice.ensures.value
    c.in_ok-steps.ensures.ok)
    (subst (λ (ms : List ℕ). AreRoots c.args.around.now c.roots.new.net c.args.from ms c.in_ok-roots.roots.items) c.as_slice-2.ensures.value
    c.in_ok-roots.ensures.ok)
    c.in_ok-found.ensures.ok
