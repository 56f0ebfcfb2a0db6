-- What contracts see of the data of the code: as what the definitions are made of.
use Rattle.std.specs.Prelude.{ℕ, ◌-◌, Bool, true, false, Option, Some, None, List, [], ◌∷◌, ◌++◌, length, drop, map, reverse}
use Rattle.sc_typed.specs.declared.expr.TExpr.{TExpr}
use Rattle.sc_flow.specs.declared.node.Want.{Want}
use Rattle.sc_flow.specs.declared.node.Want.TheVariants as want
use Rattle.sc_flow.specs.declared.node.Expression.{Expression}
use Rattle.sc_flow.specs.declared.node.Expression.TheVariants as expr
use Rattle.sc_flow.specs.declared.node.Numbers.{Numbers}
use Rattle.sc_flow.specs.declared.node.Calling.{Calling}
use Rattle.sc_flow.specs.declared.node.Updating.{Updating}
use Rattle.sc_flow.specs.declared.node.Node.{Node}
use Rattle.sc_flow.specs.declared.node.Node.TheVariants as code
use Rattle.sc_flow.specs.declared.growing.Growing.{Growing}
use Rattle.sc_gather.specs.declared.context.Context.{Context}
use Rattle.sc_gather.specs.Seen.{source_of}
use Rattle.sc_world.specs.Tree.{Exp, Number, Temp, TempPlace}
use Rattle.sc_world.specs.Source.{Struct}
use Rattle.sc_world.specs.View.{type, exp, given}
use Rattle.sc_world.specs.Eval as eval
use Rattle.flow_graph.specs.Nodes as graph
use Rattle.flow_graph.specs.Growing as grow
use Rattle.flow_graph.specs.Expressions as part
use Rattle.sc_flow.specs.declared.aims.Aim.{Aim}
use Rattle.sc_flow.specs.declared.aims.Aim.TheVariants as aims
use Rattle.sc_flow.specs.declared.aims.Goal.{Goal}
use Rattle.sc_flow.specs.declared.aims.Sides.{Sides}
use Rattle.flow_graph.specs.Statements as stmt
use Rattle.flow_graph.specs.Unrolled as whole
use Rattle.sc_flow.specs.Over.{over}
use Rattle.sc_flow.specs.declared.targets.Ways.{Ways}
use Rattle.scopes.specs.Frames.{Frames}
use Rattle.sc_flow.specs.declared.blocks.Chosen.{Chosen}
use Rattle.sc_flow.specs.declared.blocks.Opened.{Opened}
use Rattle.sc_flow.specs.declared.conditions.Tested.{Tested}
use Rattle.sc_flow.specs.declared.conditions.Tested.TheVariants as tested
use Rattle.sc_flow.specs.declared.initialisers.Taker.{Taker}
use Rattle.sc_flow.specs.declared.initialisers.Taker.TheVariants as taker
use Rattle.sc_flow.specs.declared.flow.Flow.{Flow}
use Rattle.sum_rows.specs.declared.report.What.{What}
use Rattle.sum_rows.specs.declared.report.What.TheVariants as what
use denote.Ref.{Bor}

abbrev pub structs_of : Context → List Struct
structs_of c = (source_of c).structs

abbrev pub want_of : Want → eval.Want
want_of want.Value = eval.Value
want_of want.Place = eval.Place'

abbrev pub truth : Bool → ℕ
truth true = 1
truth false = 0

abbrev pub expression : List Struct → Expression → Exp
expression structs (expr.Source e) = exp structs e.now
expression structs (expr.Over e x y) = over (exp structs e.now) x y
expression structs (expr.Temp x t) = Temp x (type t.now)
expression structs (expr.TempPlace x t) = TempPlace x (type t.now)
expression structs (expr.Former x t) = TempPlace x (part.as_scalar (type t.now))
expression structs (expr.Truth b t) = Number (truth b) (type t.now)
expression structs expr.Nothing = part.nothing

abbrev pub all_of : Numbers → List ℕ
all_of n = grow.numbers n.first n.count

abbrev pub calling : List Struct → Calling → graph.Calling
calling structs c =
    record { place = c.place; callee = exp structs c.callee.now; result = type c.result.now; turn = c.turn }

abbrev pub updating : Updating → graph.Updating
updating u = record { op = u.op; works = type u.works.now; ctype = type u.ctype.now }

abbrev pub node : List Struct → Node → graph.Node
node structs (code.Keep want temp e next) = graph.Keep (want_of want) temp (expression structs e) next
node structs (code.KeepCells slot e next) = graph.KeepCells slot (expression structs e) next
node structs (code.Call c args temp next) = graph.CallOf (calling structs c) (all_of args) temp next
node structs (code.Update u want place former right temp next) =
    graph.Update (updating u) (want_of want) place former right temp next
node structs (code.Set n e next) = graph.Set n (expression structs e) next
node structs (code.Fill n xs slots next) = graph.Fill n (map (given structs) xs.now) (all_of slots) next
node structs (code.Branch from hit miss) = graph.Branch from hit miss
node structs (code.Choose from number hit miss) = graph.Choose from number hit miss
node structs (code.Mark pos event next) = graph.Mark pos event next
node structs (code.MarkSwitch pos t from next) = graph.MarkSwitch pos (type t.now) from next
node structs (code.Exit from) = graph.Exit from
node structs (code.SetAside reason) = graph.SetAside reason

-- the newest node first
unfoldable pub growing : List Struct → Growing → grow.Growing
growing structs g = record { nodes = reverse (map (node structs) g.nodes.items); temps = g.temps; slots = g.slots }

-- a graph without what was made since it had so many nodes and temps
abbrev pub back : (nodes temps : ℕ) → grow.Growing → grow.Growing
back n t g = record { nodes = drop (length g.nodes - n) g.nodes; temps = t; slots = g.slots }

abbrev pub aim : Aim → part.Aim
aim (aims.Into want temp next) = part.Into (want_of want) temp next
aim (aims.Test hit miss) = part.Test hit miss

abbrev pub goal : Goal → part.Goal
goal k = record { want = want_of k.want; temp = k.temp; next = k.next }

abbrev pub sides : Sides → part.Sides
sides c = record { hit = c.hit; miss = c.miss }

-- a label with its node
abbrev pub target : ℕ × ℕ → stmt.Target
target l = record { name = record { at = l.0 }; at = l.1 }

-- those of blocks, from the innermost outwards, and then those beyond them
abbrev pub through : List (List (ℕ × ℕ)) → List (ℕ × ℕ) → List (ℕ × ℕ)
through [] beyond = beyond
through (b ∷ bs) beyond = b ++ through bs beyond

-- the nearest label first
unfoldable pub labels : Frames ℕ → List stmt.Target
labels f = map target (through f.blocks (f.fresh ++ f.file))

abbrev pub targets : Ways → Frames ℕ → stmt.Targets
targets k ls = record { next = k.next; leave = k.leave; again = k.again; lost = k.lost; labels = labels ls }

abbrev pub chosen : Chosen → stmt.Chosen
chosen c = record { number = c.number; at = c.at }

-- the first case first
unfoldable pub cases : List Chosen → List stmt.Chosen
cases cs = reverse (map chosen cs)

abbrev pub opened : Opened → Frames ℕ → stmt.Opened
opened o ls = record { at = o.at; labels = labels ls; cases = cases o.cases.items; default = o.default }

-- the node that takes what an initialiser gives
abbrev pub taking : Taker → Exp → (next : ℕ) → graph.Node
taking (taker.Local n) = graph.Set n
taking (taker.Slot n) = graph.KeepCells n

-- the event of a condition
abbrev pub event_of : Tested → Bool → What
event_of tested.If holds = what.If holds
event_of tested.Loop holds = what.Loop holds

abbrev pub expression_if : List Struct → Option (Bor TExpr) → Option Exp
expression_if structs None = None
expression_if structs (Some e) = Some (exp structs e.now)

abbrev pub flow : List Struct → Flow → whole.Flow
flow structs f = record { nodes = map (node structs) f.nodes; temps = f.temps; slots = f.slots }
