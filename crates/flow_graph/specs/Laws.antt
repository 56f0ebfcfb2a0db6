-- What holds of every graph.
use Rattle.std.specs.Prelude.{◌≡◌, ◌<◌, ℕ, suc, Bool, List, [], ◌∷◌, length}
use Rattle.sc_world.specs.Source.{Source}
use Rattle.sc_world.specs.Layout.{Layout}
use Rattle.sc_world.specs.World.{entry_world}
use Rattle.sc_world.specs.Exec.{run}
use Rattle.flow_graph.specs.Nodes.{Node, Keep, KeepCells, CallOf, Update, Set, Fill, Branch, Choose, Mark, MarkSwitch, Exit, SetAside, walk}
use Rattle.flow_graph.specs.Unrolled.{flow}

-- the walk of a function's graph is its run, for every choice
abbrev pub WalksAreRuns : Type 0
WalksAreRuns =
    (s : Source) (p : Layout) (choice : List Bool) → walk s p choice (flow s).nodes (entry_world s p choice) ≡ run s p choice

-- a number of a node that stands behind node `at`, where there are `count`
abbrev pub IsBehind : (at count next : ℕ) → Type 0
IsBehind at count next = (at < next) × (next < count)

abbrev pub GoesOn : (at count : ℕ) → Node → Type 0
GoesOn at count (Keep want t e next) = IsBehind at count next
GoesOn at count (KeepCells n e next) = IsBehind at count next
GoesOn at count (CallOf c args t next) = IsBehind at count next
GoesOn at count (Update u want place old right t next) = IsBehind at count next
GoesOn at count (Set n e next) = IsBehind at count next
GoesOn at count (Fill n xs slots next) = IsBehind at count next
GoesOn at count (Branch t hit miss) = IsBehind at count hit × IsBehind at count miss
GoesOn at count (Choose t n hit miss) = IsBehind at count hit × IsBehind at count miss
GoesOn at count (Mark p x next) = IsBehind at count next
GoesOn at count (MarkSwitch p t from next) = IsBehind at count next
GoesOn at count (Exit from) = Unit {0}
GoesOn at count (SetAside r) = Unit {0}

abbrev pub AllGoOn : (first count : ℕ) → List Node → Type 0
AllGoOn first count [] = Unit {0}
AllGoOn first count (n ∷ ns) = GoesOn first count n × AllGoOn (suc first) count ns

-- each node goes on at greater numbers of the graph, so that it has no cycle; and there is a first node
abbrev pub HasNoCycle : Type 0
HasNoCycle = (s : Source) → AllGoOn 0 (length (flow s).nodes) (flow s).nodes × (0 < length (flow s).nodes)
