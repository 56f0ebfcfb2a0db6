-- What a function gives where it ends. A call of type `void` and a cast to `void` give nothing. Where a graph gives no other values, its ends
-- with a value may as well be ends without one: so `return f();` in a function of type `void` is `f(); return;`.
use Rattle.std.specs.Prelude.{ℕ, nat_eq, Bool, true, false, not, ◌&&◌, ◌||◌, if◌then◌else◌, Option, Some, None, List, [], ◌∷◌, map}
use Rattle.sc_world.specs.Tree.{Exp, Comma, Cast, Convert, is_array, is_void, type_of}
use Rattle.sc_world.specs.Source.{Source, Effect, Operation, Try, Allocate, Release, Ends, Expect, Known, Unknown}
use Rattle.sc_world.specs.Layout.{Layout, site_at}
use Rattle.sc_world.specs.Eval.{Value, Place'}
use Rattle.flow_graph.specs.Nodes.{Node, Keep, KeepCells, CallOf, Update, Set, Fill, Branch, Choose, Mark, MarkSwitch, Exit, SetAside}
use Rattle.flow_graph.specs.Unrolled.{Flow, flow}

-- Which nodes keep nothing.

-- a cast to `void`, of what is no array
abbrev pub casts_away : Exp → Bool
casts_away (Comma a b t) = casts_away b
casts_away (Cast a t) = is_void t && not (is_array (type_of a))
casts_away (Convert a t) = is_void t && not (is_array (type_of a))
casts_away _ = false

-- whether a call of type `void` that does this gives nothing
abbrev pub is_without_value : Effect → Bool
is_without_value (Operation n) = true
is_without_value (Try success failure) = false
is_without_value (Allocate zeroed) = false
is_without_value Release = true
is_without_value Ends = true
is_without_value Expect = false
is_without_value (Known k) = true
is_without_value Unknown = true

abbrev pub keeps_nothing : Layout → Node → Bool
keeps_nothing p (Keep Value t e next) = casts_away e
keeps_nothing p (Keep Place' t e next) = false
keeps_nothing p (KeepCells n e next) = false
keeps_nothing p (CallOf c args t next) = is_void c.result && is_without_value (site_at p c.place.token).site.effect
keeps_nothing p (Update u want at old right t next) = false
keeps_nothing p (Set n e next) = false
keeps_nothing p (Fill n xs slots next) = false
keeps_nothing p (Branch t hit miss) = false
keeps_nothing p (Choose t n hit miss) = false
keeps_nothing p (Mark q x next) = false
keeps_nothing p (MarkSwitch q t from next) = false
keeps_nothing p (Exit from) = false
keeps_nothing p (SetAside r) = false

-- Graphs.

-- the temp in which a node keeps something
abbrev pub kept_in : Node → Option ℕ
kept_in (Keep want t e next) = Some t
kept_in (KeepCells n e next) = None
kept_in (CallOf c args t next) = Some t
kept_in (Update u want at old right t next) = Some t
kept_in (Set n e next) = None
kept_in (Fill n xs slots next) = None
kept_in (Branch t hit miss) = None
kept_in (Choose t n hit miss) = None
kept_in (Mark q x next) = None
kept_in (MarkSwitch q t from next) = None
kept_in (Exit from) = None
kept_in (SetAside r) = None

-- the temp whose value the function gives at a node
abbrev pub given_at : Node → Option ℕ
given_at (Keep want t e next) = None
given_at (KeepCells n e next) = None
given_at (CallOf c args t next) = None
given_at (Update u want at old right t next) = None
given_at (Set n e next) = None
given_at (Fill n xs slots next) = None
given_at (Branch t hit miss) = None
given_at (Choose t n hit miss) = None
given_at (Mark q x next) = None
given_at (MarkSwitch q t from next) = None
given_at (Exit from) = from
given_at (SetAside r) = None

abbrev pub is_that : ℕ → Option ℕ → Bool
is_that m None = false
is_that m (Some t) = nat_eq m t

-- the value of the temp is given at some node
abbrev pub is_given : List Node → ℕ → Bool
is_given [] m = false
is_given (n ∷ ns) m = is_that m (given_at n) || is_given ns m

abbrev pub passes : (ℕ → Bool) → Option ℕ → Bool
passes given None = false
passes given (Some t) = given t

-- what a node keeps in a temp that is given is nothing
abbrev pub gives_nothing : Layout → (given : ℕ → Bool) → Node → Bool
gives_nothing p given n = keeps_nothing p n || not (passes given (kept_in n))

abbrev pub all_give_nothing : Layout → (given : ℕ → Bool) → List Node → Bool
all_give_nothing p given [] = true
all_give_nothing p given (n ∷ ns) = gives_nothing p given n && all_give_nothing p given ns

abbrev pub without_value : Node → Node
without_value (Keep want t e next) = Keep want t e next
without_value (KeepCells n e next) = KeepCells n e next
without_value (CallOf c args t next) = CallOf c args t next
without_value (Update u want at old right t next) = Update u want at old right t next
without_value (Set n e next) = Set n e next
without_value (Fill n xs slots next) = Fill n xs slots next
without_value (Branch t hit miss) = Branch t hit miss
without_value (Choose t n hit miss) = Choose t n hit miss
without_value (Mark q x next) = Mark q x next
without_value (MarkSwitch q t from next) = MarkSwitch q t from next
without_value (Exit from) = Exit None
without_value (SetAside r) = SetAside r

-- where all that the nodes give is nothing, they give it without a value
abbrev pub ending : Layout → List Node → List Node
ending p nodes = if all_give_nothing p (is_given nodes) nodes then map without_value nodes else nodes

-- The graph of which gates are made.
abbrev pub ending_flow : Layout → Flow → Flow
ending_flow p f = record { nodes = ending p f.nodes; temps = f.temps; slots = f.slots }

abbrev pub flow_in_gates : Source → Layout → Flow
flow_in_gates s p = ending_flow p (flow s)
