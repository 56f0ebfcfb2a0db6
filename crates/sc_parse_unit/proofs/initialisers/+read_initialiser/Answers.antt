use Rattle.std.proofs.Common.{◌≡◌, subst, sym, arith}
use Rattle.sc_parse_expr.specs.Gives.{Gives}
use Rattle.sc_parse_unit.proofs.Turns.{initialiser_by_limit, initialiser_of_none}
use Rattle.sc_parse_unit.proofs.initialisers.+read_initialiser.Goals as goal

pub returns-then-limit-eq0 : goal.returns-then-limit-eq0
returns-then-limit-eq0 t c = let none : c.args.limit ≡ 0 = omega arith in initialiser_of_none c.args.types.now c.args.limit c.args.tokens.now none

pub returns : goal.returns
returns t c =
    subst (λ o. Gives o c.initialiser.result c.initialiser.new.tokens)
    (sym (initialiser_by_limit c.args.types.now c.args.limit c.args.tokens.now (omega arith))) c.initialiser.ensures
