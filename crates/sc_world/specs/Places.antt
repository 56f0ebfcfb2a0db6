-- The locations and the choices of a function, or the limit that it passes: of nodes first, then of locations.
use Rattle.std.specs.Prelude.{ℕ, Bool, Option, Some, None, List, [], ◌∷◌, Result, Ok, Err, length}
use Rattle.sc_base.specs.declared.skip.LimitKind.{LimitKind}
use Rattle.sc_base.specs.declared.skip.LimitKind.TheVariants as limit
use Rattle.sc_world.specs.Build.{Build, Built, ◌>>=◌, done}
use Rattle.sc_world.specs.Source.{Source}
use Rattle.sc_world.specs.Gather.{Found, nothing_found, gather_function}
use Rattle.sc_world.specs.Layout.{Layout, no_layout}
use Rattle.sc_world.specs.Objects.{Ground, Laying, count, lay_params, lay_globals, lay_locals, lay_literals, levels}
use Rattle.sc_world.specs.Occurrences.{occur_all, number_all}

abbrev pub lay_out : Ground → Laying (Unit {0})
lay_out g = do
  _ ← lay_params 0 g.source.params g
  _ ← lay_globals 0 g.source.globals g
  entered ← count
  _ ← lay_locals 0 g.source.locals g
  _ ← lay_literals g.found.literals
  _ ← levels g.source.reach 0 entered g
  _ ← occur_all 0 g.found.sites g
  number_all 0 g.found.sites g

abbrev pub laid : {A : Type 0} → Built Layout A → Result Layout LimitKind
laid (Ok (a, p)) = Ok p
laid (Err e) = Err e

abbrev pub places_of : Source → Built Found (Unit {0}) → Result Layout LimitKind
places_of s (Ok (u, f)) = laid (lay_out (record { source = s; found = f }) (record no_layout { sites = f.sites }))
places_of s (Err e) = Err e

abbrev pub places : Source → Result Layout LimitKind
places s = places_of s (gather_function s nothing_found)
