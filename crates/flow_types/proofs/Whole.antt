-- The finished graph: its nodes are those that grew, numbered from the other end.
use Rattle.std.proofs.Common.{ℕ, zero, suc, ◌+◌, ◌-◌, List, [], ◌∷◌, length, map, drop, refl}
use Rattle.std.specs.Prelude.{Some, None}
use Rattle.sum_rows.specs.declared.report.What.TheVariants as what
use Rattle.sc_world.specs.Source.{Source}
use Rattle.sc_world.specs.Layout.{Layout}
use Rattle.sc_world.specs.Exec.{end_of}
use Rattle.run_laws.specs.Functions.{FunctionFits}
use Rattle.flow_graph.specs.Nodes.{Node, Keep, KeepCells, CallOf, Update, Set, Fill, Branch, Choose, Mark, MarkSwitch, Exit, SetAside}
use Rattle.flow_graph.specs.Growing.{Growing, empty, put}
use Rattle.flow_graph.specs.Unrolled.{all_at, grown, turned}
use Rattle.flow_types.specs.Kinds.{Kinds}
use Rattle.flow_types.specs.Nodes.{NodeFits, AllFit, TempsAreOfOneType}
use Rattle.flow_types.proofs.Kept as kept
use Rattle.flow_types.proofs.Statements.{statement_steps}

module _ (s : Source) (p : Layout) where
  module _ (k : Kinds) where
    fits_turned : (entry : ℕ) (n : Node) → NodeFits s p k n → NodeFits s p k (turned entry n)
    fits_turned entry (Keep want t e next) h = h
    fits_turned entry (KeepCells n e next) h = h
    fits_turned entry (CallOf c args t next) h = h
    fits_turned entry (Update u want at old right t next) h = h
    fits_turned entry (Set n e next) h = h
    fits_turned entry (Fill n xs slots next) h = h
    fits_turned entry (Branch t hit miss) h = h
    fits_turned entry (Choose t n hit miss) h = h
    fits_turned entry (Mark q x next) h = h
    fits_turned entry (MarkSwitch q t from next) h = h
    fits_turned entry (Exit None) h = h
    fits_turned entry (Exit (Some t)) h = h
    fits_turned entry (SetAside r) h = h

    all_turned : (entry : ℕ) (ns : List Node) → AllFit s p k ns → AllFit s p k (map (turned entry) ns)
    all_turned entry [] h = tt
    all_turned entry (n ∷ ns) h = (fits_turned entry n h.0, all_turned entry ns h.1)

    all_drop : (j : ℕ) (ns : List Node) → AllFit s p k ns → AllFit s p k (drop j ns)
    all_drop zero ns h = h
    all_drop (suc j) [] h = tt
    all_drop (suc j) (n ∷ ns) h = all_drop j ns h.1

  -- behind the body the run ends
  abbrev at_end : Growing
  at_end = (put (Mark (end_of s.body) what.End 0) (put (Exit None) empty).1).1

  abbrev nothing : Kinds
  nothing = record { temps = []; slots = [] }

  at_first : kept.Good s p nothing at_end
  at_first = record { temps = refl; slots = refl; nodes = (tt, (tt, tt)) }

  made : FunctionFits s p → kept.Made s p nothing (grown s.depth s.body).1
  made h = statement_steps s p s.depth s.body 0 h.body (all_at 1) at_end nothing at_first

pub of_one_type : TempsAreOfOneType
of_one_type s p h =
    let whole = grown s.depth s.body in
    let m = made s p h in
    record {
      kinds = m.kinds;
      temps = m.good.temps;
      slots = m.good.slots;
      nodes =
          all_turned s p m.kinds whole.0 (drop (length whole.1.nodes - (whole.0 + 1)) whole.1.nodes)
          (all_drop s p m.kinds (length whole.1.nodes - (whole.0 + 1)) whole.1.nodes m.good.nodes);
    }
