use Rattle.std.proofs.Common.{ℕ, Bool, refl}
use Rattle.gl_sets.specs.Sets.{chosen_guard}
use Rattle.gl_sets.proofs.MadeLemmas.{made_grown, made_same_target}
use Rattle.gl_sets.proofs.JoinLemmas.{chosen_value}
use Rattle.gl_sets.proofs.sets.join_target.Goals as goal

pub returns-clause-ok : goal.returns-clause-ok
returns-clause-ok c seen s =
    let of = λ (v : ℕ → Bool) (t : ℕ). chosen_guard v c.args.c.at c.args.a.now.pairs.items c.args.b.now.pairs.items t in
    made_same_target _ of seen _ _ c.args.pair refl
    (c.in_ok-add_target.ensures of seen
    (chosen_value _ _ _ _ _ _ _ _ _ c.in_ok-guard.ensures.grown c.in_ok-guard.ensures.ok c.points.ensures c.points-2.ensures)
    (made_grown _ _ of seen _ c.in_ok-guard.ensures.grown s))
