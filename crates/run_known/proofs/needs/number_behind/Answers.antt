use Rattle.std.proofs.Common.{◌∙◌, ap}
use Rattle.std.proofs.lemmas.List.{take_rest}
use Rattle.sc_world.specs.World.{number_at}
use Rattle.run_known.proofs.Bits.{number_drop}
use Rattle.run_known.proofs.needs.number_behind.Goals as goal

pub returns-else-is_empty : goal.returns-else-is_empty
returns-else-is_empty c =
    c.number_at.ensures.value
    ∙ (ap (λ bits. number_at bits c.args.bit c.args.width) (take_rest c.args.choice.now 1) ∙ number_drop c.args.choice.now c.args.bit c.args.width)
