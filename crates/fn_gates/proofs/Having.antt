-- What the tests at run time tell of which functions have gates.
use Rattle.std.specs.Prelude.{◌≡◌, ℕ, ◌<◌, ◌≤◌, ◌^◌, Bool, true, false, length}
use Rattle.std.proofs.Common.{arith, sym, subst, ◌∙◌}
use Rattle.sc_world.specs.Source.{Source}
use Rattle.sc_world.specs.Layout.{Layout}
use Rattle.flow_graph.specs.Unrolled.{flow as graph_of}
use Rattle.flow_fits.specs.Encodable.{can_encode}
use Rattle.sc_flow.specs.Seen.{flow as seen_as}
use Rattle.sc_flow.specs.declared.flow.Flow.{Flow}
use Rattle.tr_flow.specs.Taken.{all_have}
use Rattle.fn_gates.specs.Having.{HaveGates, LackGates, Many, Cannot, Lacks}

pub cannot : (s : Source) (p q : Layout) (can : Bool) → q ≡ p → can ≡ can_encode s q → can ≡ false → LackGates s p
cannot s p q can same exactly never = Cannot (subst (λ r. can_encode s r ≡ false) same (sym exactly ∙ never))

-- what a test finds of the nodes holds in the source and the layout of which it is asked
elsewhere : (s t : Source) (p q : Layout) (graph : Flow) (b : Bool) → t ≡ s → q ≡ p → all_have t q graph.nodes ≡ b → all_have s p graph.nodes ≡ b
elsewhere s t p q graph b here same is =
    subst (λ r. all_have s r graph.nodes ≡ b) same (subst (λ u. all_have u q graph.nodes ≡ b) here is)

pub lacks : (s t : Source) (p q : Layout) (graph : Flow) (have : Bool) → t ≡ s → q ≡ p → seen_as s.structs graph ≡ graph_of s
    → have ≡ all_have t q graph.nodes → have ≡ false → LackGates s p
lacks s t p q graph have here same unrolled exactly never =
    Lacks graph unrolled (elsewhere s t p q graph false here same (sym exactly ∙ never))

pub has : (s t : Source) (p q r : Layout) (graph : Flow) (can have : Bool) → t ≡ s → q ≡ p → r ≡ p → length p.locations < 2 ^ 32
    → can ≡ can_encode s r → can ≡ true → seen_as s.structs graph ≡ graph_of s
    → have ≡ all_have t q graph.nodes → have ≡ true → HaveGates s p
has s t p q r graph can have here same laid few can_exactly fits unrolled exactly all = record {
  few = few;
  can = subst (λ l. can_encode s l ≡ true) laid (sym can_exactly ∙ fits);
  graph = graph;
  unrolled = unrolled;
  have = elsewhere s t p q graph true here same (sym exactly ∙ all);
}

pub many : (s : Source) (p : Layout) (k : ℕ) → k ≡ length p.locations → 4294967296 ≤ k → LackGates s p
many s p k is over = Many (omega (arith, is, over))
