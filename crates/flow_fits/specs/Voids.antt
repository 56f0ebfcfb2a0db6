-- Graphs that read no value of type `void` but to drop it, as a test: some node keeps something in each other temp that is read.
use Rattle.std.specs.Prelude.{ℕ, nat_eq, Bool, true, false, ◌&&◌, ◌||◌, if◌then◌else◌, Option, Some, None, List, [], ◌∷◌}
use Rattle.sc_world.specs.Tree.{is_void, type_of}
use Rattle.sc_world.specs.Eval.{Value, Place'}
use Rattle.flow_graph.specs.Nodes.{Node, Keep, KeepCells, CallOf, Update, Set, Fill, Branch, Choose, Mark, MarkSwitch, Exit, SetAside}
use Rattle.flow_graph.specs.Conditions.{Held, InTemp, InSlot, read_by}
use Rattle.flow_exits.specs.Exits.{is_that}
use Rattle.flow_turns.specs.Before.{drops}

-- the temp in which a node keeps something: a place, or a value of another type than `void`
abbrev pub filled_by : Node → Option ℕ
filled_by (Keep Value t e next) = if is_void (type_of e) then None else Some t
filled_by (Keep Place' t e next) = Some t
filled_by (KeepCells n e next) = None
filled_by (CallOf c args t next) = if is_void c.result then None else Some t
filled_by (Update u want at old right t next) = Some t
filled_by (Set n e next) = None
filled_by (Fill n xs slots next) = None
filled_by (Branch t hit miss) = None
filled_by (Choose t n hit miss) = None
filled_by (Mark p x next) = None
filled_by (MarkSwitch p t from next) = None
filled_by (Exit from) = None
filled_by (SetAside r) = None

-- some node keeps something in the temp
abbrev pub is_filled : List Node → ℕ → Bool
is_filled [] m = false
is_filled (n ∷ ns) m = is_that m (filled_by n) || is_filled ns m

-- each temp among these passes
abbrev pub each_temp : (ℕ → Bool) → List Held → Bool
each_temp test [] = true
each_temp test (InTemp m ∷ hs) = test m && each_temp test hs
each_temp test (InSlot m ∷ hs) = each_temp test hs

-- each temp that a node reads passes, if the node does not drop what it reads
abbrev pub node_reads : (ℕ → Bool) → Node → Bool
node_reads test n = drops n || each_temp test (read_by n)

-- each temp that one of the nodes reads passes
abbrev pub each_read : (ℕ → Bool) → List Node → Bool
each_read test [] = true
each_read test (n ∷ ns) = node_reads test n && each_read test ns

abbrev pub reads_no_void : List Node → Bool
reads_no_void nodes = each_read (is_filled nodes) nodes
