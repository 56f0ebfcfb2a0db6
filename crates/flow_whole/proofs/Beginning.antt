-- What a graph of which gates are made is, before its first node and behind its last.
use Rattle.std.proofs.Common.{◌≡◌, ℕ, ◌<◌, Bool, true, false, if◌then◌else◌, List, [], ◌∷◌, length, map, refl, sym, ◌∙◌, ap, subst, arith}
use Rattle.bit_net.specs.declared.nodes.Node.{Node as Gates}
use Rattle.sc_world.specs.Source.{Source}
use Rattle.sc_world.specs.Layout.{Layout}
use Rattle.sc_world.specs.World.{entry_world}
use Rattle.flow_graph.specs.Nodes.{Node}
use Rattle.flow_graph.specs.Conditions.{NodesAreFine, WhatIsReadWasKept, AllFine}
use Rattle.flow_graph.specs.Laws.{AllGoOn, HasNoCycle, WalksAreRuns}
use Rattle.flow_graph.specs.Unrolled.{flow, Flow as Graph}
use Rattle.flow_exits.specs.Ended.{ends_without, ended}
use Rattle.flow_exits.specs.Exits.{is_given, all_give_nothing, ending_flow, flow_in_gates}
use Rattle.flow_exits.specs.Laws.{NodesStay, WalksStay}
use Rattle.flow_turns.specs.Before.{IsFit, IsBefore}
use Rattle.flow_turns.specs.Ends.{AreRuns, CanBegin}
use Rattle.flow_turns.specs.declared.before.Before.{Before}
use Rattle.sc_flow.specs.declared.flow.Flow.{Flow}
use Rattle.sc_flow.specs.declared.node.Calling.{Calling}
use Rattle.sc_flow.specs.declared.node.Expression.{Expression}
use Rattle.sc_flow.specs.declared.node.Node.{Node as Code}
use Rattle.sc_flow.specs.declared.node.Node.TheVariants as code
use Rattle.sc_flow.specs.Seen as seen
use Rattle.flow_gates.specs.Graph.{CanEncode, nodes_of}
use Rattle.flow_whole.specs.Whole.{HasGates, AllHaveGates}

pub same_nodes : (s : Source) (p : Layout) (f : Flow) → seen.flow s.structs f ≡ flow_in_gates s p → nodes_of s f ≡ (flow_in_gates s p).nodes
same_nodes s p f e = ap (λ (g : Graph). g.nodes) e

pub fit_of : (s : Source) (p : Layout) (f : Flow) (c : CanEncode s p) → seen.flow s.structs f ≡ flow_in_gates s p → HasNoCycle → NodesAreFine → NodesStay
    → IsFit s p c.types.kinds (nodes_of s f)
fit_of s p f c e cycle fine stay =
    let as_good = stay p (flow s).nodes in
    let new = (flow_in_gates s p).nodes in
    subst (IsFit s p c.types.kinds) (sym (same_nodes s p f e)) (record {
      on = subst (λ (k : ℕ). AllGoOn 0 k new) (sym as_good.count) (as_good.on 0 (length (flow s).nodes) (cycle s).0);
      fine =
          subst (λ (k : ℕ). AllFine (length c.types.kinds.temps) k new) (sym c.types.slots)
          (subst (λ (k : ℕ). AllFine k (flow s).slots new) (sym c.types.temps) (as_good.fine (flow s).temps (flow s).slots (fine s)));
      types = as_good.fit s c.types.kinds c.types.nodes;
      void = c.void;
      scalar = c.scalar;
    })

pub can_begin : (s : Source) (p : Layout) (f : Flow) → seen.flow s.structs f ≡ flow_in_gates s p → HasNoCycle → WhatIsReadWasKept → NodesStay → CanBegin (nodes_of s f)
can_begin s p f e cycle kept stay =
    let as_good = stay p (flow s).nodes in
    subst CanBegin (sym (same_nodes s p f e)) (record {
      some = subst (λ (k : ℕ). 0 < k) (sym as_good.count) (cycle s).1;
      kept = λ m. as_good.kept m 0 0 (kept s m);
    })

pub are_runs : (s : Source) (p : Layout) → WalksStay → WalksAreRuns → AreRuns s p (flow_in_gates s p).nodes
are_runs s p stay runs choice = stay s p choice (flow s).nodes (entry_world s p choice) ∙ runs s p choice

length_map : {A B : Type 0} (f : A → B) (xs : List A) → length (map f xs) ≡ length xs
length_map f [] = refl
length_map f (x ∷ xs) = omega (arith, length_map f xs)

pub at_end : (s : Source) (p : Layout) (f : Flow) (ns : List Gates) (x : Before) (at : ℕ) → seen.flow s.structs f ≡ flow_in_gates s p → at ≡ length f.nodes
    → IsBefore s p (nodes_of s f) at ns x → IsBefore s p (flow_in_gates s p).nodes (length (flow_in_gates s p).nodes) ns x
at_end s p f ns x at e end h =
    subst (λ (n : List Node). IsBefore s p n (length n) ns x) (same_nodes s p f e)
    (subst (λ (i : ℕ). IsBefore s p (nodes_of s f) i ns x) (end ∙ sym (length_map (seen.node s.structs) f.nodes)) h)

-- The graph of the function, as it is seen by what reads it.

pub fine_as : (s t : Source) (f : Flow) → t ≡ s → AllFine f.temps f.slots (nodes_of s f) → AllFine f.temps f.slots (map (seen.node t.structs) f.nodes)
fine_as s t f e h = subst (λ (x : Source). AllFine f.temps f.slots (map (seen.node x.structs) f.nodes)) (sym e) h

pub nodes_as : (s t : Source) (p q r : Layout) (ns ms : List Code) → t ≡ s → q ≡ p → r ≡ q → ms ≡ ended t.structs r ns → ms ≡ ended s.structs p ns
nodes_as s t p q r ns ms e f g h = h ∙ ap (λ (l : Layout). ended t.structs l ns) (g ∙ f) ∙ ap (λ (x : Source). ended x.structs p ns) e

pub seen_as : (s t : Source) (p q r : Layout) (f g : Flow) → t ≡ s → q ≡ p → r ≡ q → seen.flow t.structs g ≡ ending_flow r (seen.flow t.structs f)
    → seen.flow s.structs g ≡ ending_flow p (seen.flow s.structs f)
seen_as s t p q r f g e to_layout same h =
    subst (λ (x : Source). seen.flow x.structs g ≡ ending_flow p (seen.flow x.structs f)) e
    (h ∙ ap (λ (l : Layout). ending_flow l (seen.flow t.structs f)) (same ∙ to_layout))

pub fine_of : (s : Source) (f : Flow) → seen.flow s.structs f ≡ flow s → NodesAreFine → AllFine f.temps f.slots (nodes_of s f)
fine_of s f e fine = subst (λ (g : Graph). AllFine g.temps g.slots g.nodes) (sym e) (fine s)

-- Ends without a value have gates where ends with one have.
module _ (takes : Expression → Bool) (makes : Calling → Bool) where
  gates_at_end : (n : Code) → HasGates takes makes n → HasGates takes makes (ends_without n)
  gates_at_end (code.Keep want temp e next) h = h
  gates_at_end (code.KeepCells slot e next) h = h
  gates_at_end (code.Call c args temp next) h = h
  gates_at_end (code.Update u want place former right temp next) h = h
  gates_at_end (code.Set n e next) h = h
  gates_at_end (code.Fill n xs slots next) h = h
  gates_at_end (code.Branch from hit miss) h = h
  gates_at_end (code.Choose from number hit miss) h = h
  gates_at_end (code.Mark pos event next) h = h
  gates_at_end (code.MarkSwitch pos t from next) h = h
  gates_at_end (code.Exit from) h = tt
  gates_at_end (code.SetAside reason) h = h

  gates_at_ends : (ns : List Code) → AllHaveGates takes makes ns → AllHaveGates takes makes (map (λ n. ends_without n) ns)
  gates_at_ends [] h = tt
  gates_at_ends (n ∷ ns) h = (gates_at_end n h.0, gates_at_ends ns h.1)

  gates_either : (b : Bool) (ns : List Code) → AllHaveGates takes makes ns → AllHaveGates takes makes (if b then map (λ n. ends_without n) ns else ns)
  gates_either true ns h = gates_at_ends ns h
  gates_either false ns h = h

  pub gates_ended : (s : Source) (p : Layout) (ns ms : List Code) → ms ≡ ended s.structs p ns → AllHaveGates takes makes ns → AllHaveGates takes makes ms
  gates_ended s p ns ms e h =
      subst (AllHaveGates takes makes) (sym e)
      (gates_either (all_give_nothing p (is_given (map (seen.node s.structs) ns)) (map (seen.node s.structs) ns)) ns h)
