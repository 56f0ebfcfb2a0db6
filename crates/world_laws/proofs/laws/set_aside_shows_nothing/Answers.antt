-- Each question asks for an exit, an error or its location.
use Rattle.sc_world.specs.Verdict.{run_over}
use Rattle.world_laws.proofs.Bounded.{bounded}
use Rattle.world_laws.proofs.laws.set_aside_shows_nothing.Goals as goal

pub returns : goal.returns
returns g s x q c h = bounded x (run_over s x.layout c) q h
