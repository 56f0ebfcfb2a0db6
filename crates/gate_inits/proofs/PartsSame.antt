-- The part that a value in braces sets is the same for every choice.
use Rattle.std.proofs.Common.{◌≡◌, ℕ, Bool, Option, Some, None, List, [], ◌∷◌, refl, ◌∙◌, ap}
use Rattle.run_store.specs.Concrete.{Cell}
use Rattle.sc_typed.specs.declared.stmt.InitStep.{InitStep}
use Rattle.sc_typed.specs.declared.stmt.InitStep.TheVariants as into
use Rattle.sc_world.specs.World.{Env}
use Rattle.sc_world.specs.Exec.{part_into, part_if, part_along, part_at}
use Rattle.gate_places.specs.Places.{env_of}

module _ (e : Env) (bits : List Bool) (temps : List Cell) (turn : ℕ) where
  into_same : (at : ℕ) (s : InitStep) → part_into e at s ≡ part_into (env_of e.source e.layout bits temps turn) at s
  into_same at (into.Field n) = refl
  into_same at (into.Elem n) = refl

  pub along_same : (ss : List InitStep) (at : ℕ) → part_along e ss at ≡ part_along (env_of e.source e.layout bits temps turn) ss at
  along_same [] at = refl
  along_same (s ∷ ss) at = ap (λ o. part_if o (part_along e ss)) (into_same at s) ∙ by (part_into (env_of e.source e.layout bits temps turn) at s) (λ k. along_same ss k)
    where
      by : (o : Option ℕ) → ((k : ℕ) → part_along e ss k ≡ part_along (env_of e.source e.layout bits temps turn) ss k)
          → part_if o (part_along e ss) ≡ part_if o (part_along (env_of e.source e.layout bits temps turn) ss)
      by None rest = refl
      by (Some k) rest = rest k
