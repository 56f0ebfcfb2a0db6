use Rattle.std.proofs.Common.{◌≡◌, subst, sym, arith}
use Rattle.sc_parse_expr.specs.Gives.{Gives}
use Rattle.sc_parse_expr.proofs.Steps.{parse_by, parse_zero}
use Rattle.sc_parse_expr.proofs.parse.+parse.Goals as goal

pub returns-then-limit-eq0 : goal.returns-then-limit-eq0
returns-then-limit-eq0 t c = let none : c.args.limit ≡ 0 = omega arith in parse_zero c.args.types.now c.args.limit c.args.wanted c.args.tokens.now none

pub returns : goal.returns
returns t c =
    subst (λ o. Gives o c.wanted.result c.wanted.new.tokens) (sym
    (parse_by c.args.types.now c.args.limit c.args.wanted c.args.tokens.now (omega arith))) c.wanted.ensures
