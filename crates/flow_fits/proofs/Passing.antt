-- A function that passes the test has gates.
use Rattle.std.proofs.Common.{inl, inr, ◌≡◌, ℕ, zero, suc, Bool, true, false, not, ◌&&◌, List, [], ◌∷◌, slice_get, refl, sym, ◌∙◌, ap}
use Rattle.std.specs.Prelude.{Some}
use Rattle.std.proofs.lemmas.Bool.{and_parts, or_cases, true≢false}
use Rattle.run_laws.specs.Fits.{is_scalar}
use Rattle.run_laws.specs.Functions.{FunctionFits}
use Rattle.sc_world.specs.Source.{Source}
use Rattle.sc_world.specs.Layout.{Layout}
use Rattle.flow_graph.specs.Nodes.{Node, Exit}
use Rattle.flow_graph.specs.Unrolled.{flow}
use Rattle.flow_exits.specs.Exits.{flow_in_gates}
use Rattle.flow_exits.specs.Laws.{NodesStay}
use Rattle.flow_types.specs.Nodes.{TempsAreOfOneType}
use Rattle.flow_turns.specs.Before.{GivesScalars}
use Rattle.flow_gates.specs.Graph.{CanEncode}
use Rattle.function_fits.specs.Functions.{function_fits}
use Rattle.flow_fits.specs.Encodable as test
use Rattle.flow_fits.specs.Encodable.{gives, gives_none, gives_scalars}
use Rattle.flow_fits.specs.Voids.{reads_no_void}
use Rattle.flow_fits.proofs.Voids.{no_void}

no_exit : (ns : List Node) (at m : ℕ) → gives_none ns ≡ true → slice_get ns at ≡ Some (Exit (Some m)) → ⊥
no_exit [] at m h e = absurd (cc)
no_exit (n ∷ ns) zero m h e =
    let same : n ≡ Exit (Some m) = cc in
    let x = and_parts (not (gives n)) (gives_none ns) h in
    true≢false (sym (sym (ap (λ k. not (gives k)) same) ∙ x.0))
no_exit (n ∷ ns) (suc at) m h e = no_exit ns at m (and_parts (not (gives n)) (gives_none ns) h).1 e

scalars : (s : Source) (ns : List Node) → gives_scalars s ns ≡ true → GivesScalars s ns
scalars s ns h at m e = elim (or_cases (is_scalar s.result) (gives_none ns) h) [
  | inl is ↦ is
  | inr none ↦ absurd (no_exit ns at m none e)
]

dropped : (x y : Bool) → false ≡ (x && (false && y))
dropped true y = refl
dropped false y = refl

module _ (s : Source) (p : Layout) (ns : List Node) (same : ns ≡ (flow_in_gates s p).nodes) where
  -- b: what the test of results answered, for these nodes
  module _ (b : Bool) (is : b ≡ gives_scalars s ns) where
    gives_is : b ≡ gives_scalars s (flow_in_gates s p).nodes
    gives_is = is ∙ ap (gives_scalars s) same

    pub refused : b ≡ false → false ≡ test.can_encode s p
    refused fails =
        dropped (function_fits s p) (reads_no_void (flow_in_gates s p).nodes)
        ∙ ap (λ x. function_fits s p && (x && reads_no_void (flow_in_gates s p).nodes)) (sym fails ∙ gives_is)

    -- r: what the test of reads answered
    module _ (scalar : b ≡ true) (r : Bool) (reads : r ≡ reads_no_void ns) where
      pub answered : (a : Bool) → a ≡ function_fits s p → a ≡ true → r ≡ test.can_encode s p
      answered a fits holds =
          reads ∙ ap reads_no_void same ∙ ap (λ x. x && reads_no_void (flow_in_gates s p).nodes) (sym scalar ∙ gives_is)
          ∙ ap (λ x. x && (gives_scalars s (flow_in_gates s p).nodes && reads_no_void (flow_in_gates s p).nodes)) (sym holds ∙ fits)

      pub passes : TempsAreOfOneType → NodesStay → FunctionFits s p → r ≡ true → CanEncode s p
      passes law stay fits holds =
          let types = law s p fits in
          record {
            types = types;
            void = no_void s p types.kinds (flow_in_gates s p).nodes ((stay p (flow s).nodes).fit s types.kinds types.nodes) (sym (ap reads_no_void same) ∙ sym reads ∙ holds);
            scalar = scalars s (flow_in_gates s p).nodes (sym gives_is ∙ scalar);
          }
