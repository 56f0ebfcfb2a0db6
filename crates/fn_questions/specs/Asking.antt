-- When every question to the runs of a function may be asked.
use Rattle.std.specs.Prelude.{◌≡◌, nat_lt, Bool, ◌&&◌, ◌||◌, List, length, IfSome, All}
use Rattle.bit_net.specs.declared.nodes.Node.{Node}
use Rattle.flow_ends.specs.Encoded.{IsEncoded}
use Rattle.location_texts.specs.Seen.{texts}
use Rattle.run_world.specs.Seen.{env}
use Rattle.sc_world.specs.Source.{Source}
use Rattle.sc_world.specs.Layout.{Layout}
use Rattle.sc_world.specs.Shows.{exits}
use Rattle.error_laws.specs.Errors.{all_of_params}
use Rattle.walk_laws.specs.Objects.{HasObjects}
use Rattle.fn_facts.specs.declared.around.Around.{Around}
use Rattle.fn_facts.specs.Seen.{begins, ends_so}
use Rattle.fn_facts.specs.Showing.{AreShared, HasErrorsOf, IsReady, Shows}
use Rattle.fn_walks.specs.declared.roots.From.{From}
use Rattle.fn_walks.specs.Walks.{IsWalk}
use Rattle.fn_questions.specs.declared.facts.Begun.{Begun}
use Rattle.fn_questions.specs.declared.facts.Ended.{Ended}
use Rattle.fn_questions.specs.declared.facts.Facts.{Facts}

-- there is a location, or no call acts by a summary with an item of a location that is reached from a global
abbrev pub errs_at_locations : Source → Layout → Bool
errs_at_locations s p = nat_lt 0 (length p.locations) || all_of_params s p

-- the gate holds exactly where the row of the location begins so
abbrev pub ShowsBegin : Around → List Node → Begun → Type 0
ShowsBegin a ns b = Shows a ns (λ o. begins o b.at b.row) b.gate.at

-- the gate holds exactly where the run comes to the function's end, and the row of the location ends so
abbrev pub ShowsEnd : Around → List Node → Ended → Type 0
ShowsEnd a ns e = Shows a ns (λ o. exits o && ends_so o e.at e.row) e.gate.at

-- what was made of the runs is right in the net
pub record AreFacts (ns : List Node) (f : Facts) : Type 0 where
  pub ready : IsReady f.around ns
  pub objects : HasObjects (env f.around.here).layout
  pub shared : AreShared f.around ns f.shared
  pub begun : IfSome f.begun (ShowsBegin f.around ns)
  pub ended : All (ShowsEnd f.around ns) f.ended.items
  pub walk : IfSome f.walk (IsWalk f.around ns)

-- the walks that were asked for last begin there
abbrev pub HasWalk : Facts → From → Type 0
HasWalk f from = IfSome f.walk (λ w. w.from ≡ from)

-- The gates tell the runs of the function, texts are of its layout, and its runs end by errors at its locations alone. It stays so while the
-- net grows.
pub record IsReadyToAsk (ns : List Node) (f : Facts) : Type 0 where
  pub facts : AreFacts ns f
  pub texts : (texts f.texts).layout ≡ (env f.around.here).layout
  pub encoded : IsEncoded (env f.around.here).source (env f.around.here).layout ns f.around.encoded.now
  pub errors : HasErrorsOf (env f.around.here).source (env f.around.here).layout
