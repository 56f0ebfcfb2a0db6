use Rattle.std.proofs.Common.{◌≡◌, ◌-◌}
use Rattle.sc_tree.specs.declared.grammar.Naming.TheVariants as naming
use Rattle.sc_parse_front.specs.Front.{is_ellipsis}
use Rattle.sc_parse_expr.specs.Reading.{inner_head, enrolled, listed_params}
use Rattle.sc_parse_expr.specs.Reading.{some_heads}
use Rattle.sc_parse_expr.specs.Nests.{below}
use Rattle.sc_parse_expr.proofs.Steps.{commas_then}
use Rattle.sc_parse_expr.proofs.grammar.Grammar.heads.Given as goal

-- what is still to be read gives what all gives
abbrev pub invariant-loop-turn : goal.invariant-loop-turn
invariant-loop-turn g l =
    some_heads l.self.types.now l.self.limit (below l.self.types.now l.self.limit) l.fn.tokens
    ≡ commas_then (inner_head l.self.types.now l.self.limit (below l.self.types.now l.self.limit) naming.Optional) enrolled is_ellipsis
    (listed_params l.self.types.now l.self.limit (below l.self.types.now l.self.limit)) (l._turn-end - l._turn)
    (record { heads = l.all; named = l.named }) l.height l.tokens
