-- Whether the graph of a function has gates, as a test of what `CanEncode` asks.
use Rattle.std.specs.Prelude.{Bool, true, false, not, ◌&&◌, ◌||◌, Some, None, List, [], ◌∷◌}
use Rattle.run_laws.specs.Fits.{is_scalar}
use Rattle.sc_world.specs.Source.{Source}
use Rattle.sc_world.specs.Layout.{Layout}
use Rattle.flow_graph.specs.Nodes.{Node, Keep, KeepCells, CallOf, Update, Set, Fill, Branch, Choose, Mark, MarkSwitch, Exit, SetAside}
use Rattle.flow_exits.specs.Exits.{flow_in_gates}
use Rattle.function_fits.specs.Functions.{function_fits}
use Rattle.flow_fits.specs.Voids.{reads_no_void}

-- the function ends there with a value
abbrev pub gives : Node → Bool
gives (Keep want t e next) = false
gives (KeepCells n e next) = false
gives (CallOf c args t next) = false
gives (Update u want at old right t next) = false
gives (Set n e next) = false
gives (Fill n xs slots next) = false
gives (Branch t hit miss) = false
gives (Choose t n hit miss) = false
gives (Mark p x next) = false
gives (MarkSwitch p t from next) = false
gives (Exit None) = false
gives (Exit (Some t)) = true
gives (SetAside r) = false

abbrev pub gives_none : List Node → Bool
gives_none [] = true
gives_none (n ∷ ns) = not (gives n) && gives_none ns

-- a function that gives a value gives a number or a pointer
abbrev pub gives_scalars : Source → List Node → Bool
gives_scalars s nodes = is_scalar s.result || gives_none nodes

abbrev pub can_encode : Source → Layout → Bool
can_encode s p = function_fits s p && (gives_scalars s (flow_in_gates s p).nodes && reads_no_void (flow_in_gates s p).nodes)
