use Rattle.std.proofs.Common.{◌+◌, drop, ◌∙◌, ap}
use Rattle.std.specs.Option.{option_copied}
use Rattle.sc_typing.specs.Tables as tables
use Rattle.sc_declarations.specs.Declarations.{declarators}
use Rattle.sc_declarations.proofs.Joined.{joined}
use Rattle.sc_declarations.proofs.Going.{one_more}
use Rattle.sc_declarations.proofs.declarations.declarators.Goals as goal

pub loop-d-preserved : goal.loop-d-preserved
loop-d-preserved c = (
  ap (λ ms. joined ms (declarators (tables.here_of c.args.here.now) c.args.at_file c.args.words.now (option_copied c.args.t) (drop (c.loop-d.d-index + 1) c.args.parts.now) c.declarator_of.new.walk)) c.in_ok-push.ensures.ok
      ∙ one_more (tables.here_of c.args.here.now) c.args.at_file c.args.words.now (option_copied c.args.t) c.args.parts.now c.loop-d.d-index c.d-item.result c.loop-d.made c.in_ok-x.x
      c.loop-d.walk c.declarator_of.new.walk c.loop-d-test.true c.d-item.is c.in_ok-x.ensures.declared
      ∙ c.loop-d.invariant.0,
  c.in_ok-x.ensures.tied,
)
