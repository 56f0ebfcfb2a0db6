-- What tells who reaches whom.
use Rattle.std.specs.Prelude.{◌≡◌, ℕ, ◌<◌, nat_le, ◌&&◌, Bool, List, length, Contains}
use Rattle.plan_core.specs.declared.plan.Edge.{Edge}
use Rattle.plan_core.specs.Graph.{callees, reaches}
use Rattle.call_graph.specs.declared.plans.Reaching.{Reaching}
use Rattle.call_graph.specs.declared.plans.Reaching.TheVariants.{Components, Table}
use Rattle.call_graph.specs.Evidence as evidence
use Rattle.call_graph.specs.Tables.{entry}

-- whether the callee of an edge reaches its caller
abbrev pub is_back : Reaching → (f g : ℕ) → Bool
is_back (Components e) f g = evidence.is_back e f g
is_back (Table t) f g = entry t g f

-- an edge is cut where its callee reaches its caller and does not stand behind it
abbrev pub cuts : Reaching → (f g : ℕ) → Bool
cuts r f g = is_back r f g && nat_le g f

-- it tells the truth of each edge
abbrev pub Tells : List (List ℕ) → Reaching → Type 0
Tells rows r = (f g : ℕ) → f < length rows → Contains (callees rows f) g → is_back r f g ≡ reaches rows g f

abbrev pub edge : ℕ → ℕ → Edge
edge f g = record { caller = f; callee = g }
