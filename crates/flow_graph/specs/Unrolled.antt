-- The graph of a function. Node 0 is its entry.
use Rattle.std.specs.Prelude.{ℕ, ◌+◌, ◌-◌, None, List, [], map, length, drop}
use Rattle.sum_rows.specs.declared.report.What.TheVariants as what
use Rattle.sc_world.specs.Tree.{Stm}
use Rattle.sc_world.specs.Source.{Source}
use Rattle.sc_world.specs.Exec.{end_of}
use Rattle.flow_graph.specs.Nodes.{Node, Keep, KeepCells, CallOf, Update, Set, Fill, Branch, Choose, Mark, MarkSwitch, Exit, SetAside}
use Rattle.flow_graph.specs.Growing.{Growing, empty, Build, ◌>>=◌, put}
use Rattle.flow_graph.specs.Statements.{Targets, unroll_stm}

-- Behind the body the run ends, and so it does at a `break`, a `continue` and a label that lead nowhere.
abbrev pub all_at : ℕ → Targets
all_at n = record { next = n; leave = n; again = n; lost = n; labels = [] }

abbrev pub body : (depth : ℕ) → Stm → Build ℕ
body depth s = do
  out ← put (Exit None)
  end ← put (Mark (end_of s) what.End out)
  unroll_stm depth s 0 (all_at end)

-- the body, with its first node, as it grew
abbrev pub grown : (depth : ℕ) → Stm → ℕ × Growing
grown depth s = body depth s empty

-- Numbers from the other end: the entry, the newest node that counts, has number 0.
abbrev pub turned : (entry : ℕ) → Node → Node
turned n (Keep want t e next) = Keep want t e (n - next)
turned n (KeepCells k e next) = KeepCells k e (n - next)
turned n (CallOf c args t next) = CallOf c args t (n - next)
turned n (Update u want at old right t next) = Update u want at old right t (n - next)
turned n (Set k e next) = Set k e (n - next)
turned n (Fill k xs slots next) = Fill k xs slots (n - next)
turned n (Branch t hit miss) = Branch t (n - hit) (n - miss)
turned n (Choose t m hit miss) = Choose t m (n - hit) (n - miss)
turned n (Mark p x next) = Mark p x (n - next)
turned n (MarkSwitch p t from next) = MarkSwitch p t from (n - next)
turned n (Exit from) = Exit from
turned n (SetAside r) = SetAside r

-- nodes newer than the entry are left out
abbrev pub cut : ℕ × Growing → List Node
cut (entry, g) = map (turned entry) (drop (length g.nodes - (entry + 1)) g.nodes)

pub record Flow : Type 0 where
  pub nodes : List Node
  pub temps : ℕ
  pub slots : ℕ

abbrev pub flow_of : ℕ × Growing → Flow
flow_of (entry, g) = record { nodes = cut (entry, g); temps = g.temps; slots = g.slots }

abbrev pub flow : Source → Flow
flow s = flow_of (grown s.depth s.body)
