-- What the calls of a run read in the turn at hand.
use Rattle.std.proofs.Common.{◌≡◌, ℕ, refl, ap, ◌∙◌}
use Rattle.sc_world.specs.World.{Env}
use Rattle.run_world.specs.declared.pointers.Here.{Here}
use Rattle.run_world.specs.Seen.{env}
use Rattle.run_inits.specs.Reads.{reads_at}

-- the turn of what is read is that at hand
turn_here : (h : Here) → reads_at (env h) h.turn ≡ env h
unfolding env
turn_here h = refl

pub read_here : (f : ℕ → Env) (h : Here) → f ≡ reads_at (env h) → f h.turn ≡ env h
read_here f h e = ap (λ g. g h.turn) e ∙ turn_here h
