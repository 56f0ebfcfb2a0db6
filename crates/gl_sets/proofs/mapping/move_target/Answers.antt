use Rattle.std.proofs.Common.{ℕ, Bool, refl, arith}
use Rattle.gl_sets.specs.Guards.{guard, with_targets}
use Rattle.gl_sets.proofs.MadeLemmas.{made_grown}
use Rattle.gl_sets.proofs.MoveLemmas.{moved_more}
use Rattle.gl_sets.proofs.mapping.move_target.Goals as goal

pub returns-clause-ok : goal.returns-clause-ok
returns-clause-ok c s =
    let of = λ (v : ℕ → Bool) (t : ℕ). guard v (with_targets c.args.ps.now c.args.targets.now) t in
    moved_more _ c.args.ps.now c.args.targets.now c.args.i record { guard = record { at = 0 }; target = 0 } 0 _ _ c.requires.place (omega arith) refl
    (c.in_ok-add_target.ensures of _ c.in_ok-guard.ensures.ok.value (made_grown _ _ of _ _ c.in_ok-guard.ensures.grown s))
