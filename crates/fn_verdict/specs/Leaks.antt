-- Lost objects, one for each place of a call.
use Rattle.std.specs.Prelude.{List, [], ◌∷◌, ◌++◌, if◌then◌else◌}
use Rattle.std.specs.List.{list_any}
use Rattle.sc_base.specs.declared.pos.Pos.{Pos}
use Rattle.sum_rows.specs.declared.report.Report.{Report}
use Rattle.sum_rows.specs.declared.report.Report.TheVariants as report
use Rattle.sc_world.specs.Gather.{Site}
use Rattle.sc_world.specs.Layout.{same_pos}
use Rattle.sc_world.specs.Shows as asks
use Rattle.sc_world.specs.Verdict.{Answers}

abbrev pub with_pos : Pos → List Pos → List Pos
with_pos p ps = if list_any (same_pos p) ps then ps else ps ++ p ∷ []

-- the places of calls, each once, in order
abbrev pub places_of_calls : List Pos → List Site → List Pos
places_of_calls ps [] = ps
places_of_calls ps (c ∷ cs) = places_of_calls (with_pos c.pos ps) cs

abbrev pub leak : Answers → Pos → List Report
leak q p = if q.some (asks.Leaks p) then report.Leak p (q.shown (asks.Leaks p)) ∷ [] else []
