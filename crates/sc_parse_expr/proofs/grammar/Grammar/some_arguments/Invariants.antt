use Rattle.std.proofs.Common.{◌≡◌, ◌-◌}
use Rattle.sc_tree.specs.declared.grammar.Level.TheVariants.{Assignment}
use Rattle.sc_parse_expr.specs.Reading.{inner_expr, with_tree, never}
use Rattle.sc_parse_expr.specs.Reading.{some_arguments}
use Rattle.sc_parse_expr.specs.Nests.{below}
use Rattle.sc_parse_expr.proofs.Steps.{commas_then, items_of}
use Rattle.sc_parse_expr.proofs.grammar.Grammar.some_arguments.Given as goal

-- what is still to be read gives what all gives
abbrev pub invariant-loop-turn : goal.invariant-loop-turn
invariant-loop-turn g l =
    some_arguments l.self.types.now l.self.limit (below l.self.types.now l.self.limit) l.fn.tokens
    ≡ commas_then (inner_expr l.self.types.now l.self.limit (below l.self.types.now l.self.limit) Assignment) with_tree never items_of
    (l._turn-end - l._turn) l.all l.height l.tokens
