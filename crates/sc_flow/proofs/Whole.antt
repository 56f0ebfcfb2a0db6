-- The body of a function with what stands behind it.
use Rattle.std.proofs.Common.{◌≡◌, ℕ, List, [], ap, ◌∙◌}
use Rattle.sc_base.specs.declared.pos.Pos.{Pos}
use Rattle.sc_world.specs.Tree.{Stm}
use Rattle.sc_world.specs.Exec.{end_of}
use Rattle.flow_graph.specs.Growing.{Growing}
use Rattle.flow_graph.specs.Statements.{Target, unroll_stm}
use Rattle.flow_graph.specs.Unrolled.{all_at, body}
use Rattle.sc_flow.specs.Steps.{ending}

pub body_is : (d depth : ℕ) (x b : Stm) (p : Pos) (labels : List Target) (end : ℕ) (g made : Growing) → d ≡ depth → x ≡ b → p ≡ end_of x
    → labels ≡ [] → (end, made) ≡ ending p g
    → unroll_stm d x 0 (record { next = end; leave = end; again = end; lost = end; labels = labels }) made ≡ body depth b g
body_is d depth x b p labels end g made same_depth same place none ended =
    ap (λ l. unroll_stm d x 0 (record { next = end; leave = end; again = end; lost = end; labels = l }) made) none
    ∙ (ap (λ r. unroll_stm d x 0 (all_at r.0) r.1) ended
    ∙ (ap (λ q. unroll_stm d x 0 (all_at (ending q g).0) (ending q g).1) place
    ∙ (ap (λ y. unroll_stm d y 0 (all_at (ending (end_of y) g).0) (ending (end_of y) g).1) same
    ∙ ap (λ e. unroll_stm e b 0 (all_at (ending (end_of b) g).0) (ending (end_of b) g).1) same_depth)))
