-- The nodes of one loop, turn by turn.
use Rattle.std.proofs.Common.{◌≡◌, ℕ, zero, suc, ◌+◌, ◌-◌, ◌*◌, List, [], ◌∷◌, length, map, drop, refl, sym, ap, subst, ◌∙◌, arith}
use Rattle.std.specs.Prelude.{Some, None}
use Rattle.std.proofs.lemmas.List.{length-map}
use Rattle.sum_rows.specs.declared.report.What.TheVariants as what
use Rattle.sc_world.specs.Source.{Source}
use Rattle.flow_graph.specs.Nodes.{Node, Mark, Exit}
use Rattle.flow_graph.specs.Growing.{Growing}
use Rattle.flow_graph.specs.Statements.{Targets, test_or_true, with_step, dropped_if, turn_of, while_turns, unroll_stm}
use Rattle.flow_graph.specs.Unrolled.{grown, turned, flow_of, flow}
use Rattle.flow_sizes.specs.Loop.{at, below, up, inner, loop}

-- nothing is cut off where the newest node is the first one
newest_first : (r : ℕ × Growing) (n : Node) (ns : List Node) → r.1.nodes ≡ n ∷ ns → r.0 ≡ length ns → length (flow_of r).nodes ≡ suc (length ns)
newest_first r n ns h e =
    let many : length r.1.nodes ≡ suc (length ns) = ap length h in
    let none : length r.1.nodes - (r.0 + 1) ≡ 0 = omega (arith, many, e) in
    ap (λ j. length (map (turned r.0) (drop j r.1.nodes))) none ∙ (length-map r.1.nodes (turned r.0) ∙ many)

module _ (depth turn : ℕ) where
  turns : (left t : ℕ) (k : Targets) (g : Growing)
      → length (while_turns left t (λ t. test_or_true (Some below) (turn_of turn (depth + 1) t) (at 47))
      (λ t. with_step (unroll_stm depth inner (turn_of turn depth t)) (dropped_if (Some up) (turn_of turn depth t))) k g).1.nodes
      ≡ length g.nodes + 5 + 11 * left
  turns zero t k g = omega arith
  turns (suc more) t k g = omega (arith, turns more (t + 1) k g)

-- what stands behind the loop, and the loop
abbrev behind : Targets
behind = record { next = 1; leave = 1; again = 1; lost = 1; labels = [] }

abbrev at_end : Growing
at_end = record { nodes = Mark (at 84) what.End 0 ∷ Exit None ∷ []; temps = 0; slots = 0 }

abbrev unrolled_loop : (depth : ℕ) → Growing
unrolled_loop depth =
    (while_turns depth 0 (λ t. test_or_true (Some below) (turn_of 0 (depth + 1) t) (at 47))
    (λ t. with_step (unroll_stm depth inner (turn_of 0 depth t)) (dropped_if (Some up) (turn_of 0 depth t))) behind at_end).1

-- three nodes stand in front of it
with_front : (depth : ℕ) → length (flow_of (grown depth loop)).nodes ≡ suc (suc (suc (length (unrolled_loop depth).nodes)))
with_front depth = newest_first (grown depth loop) _ _ refl refl

whole : (depth : ℕ) → length (flow_of (grown depth loop)).nodes ≡ 10 + 11 * depth
whole depth = with_front depth ∙ omega (arith, turns depth 0 depth 0 behind at_end)

pub counted : (s : Source) → s.body ≡ loop → length (flow s).nodes ≡ 10 + 11 * s.depth
counted s h = subst (λ b. length (flow_of (grown s.depth b)).nodes ≡ 10 + 11 * s.depth) (sym h) (whole s.depth)
