use Rattle.std.proofs.Common.{◌≡◌, [], ap, ◌∙◌, refl}
use Rattle.sc_gather.specs.Seen.{source_of, arguments_of}
use Rattle.sc_world.specs.Programs.{source_by}
use Rattle.sc_world.specs.View.{exp, type}
use Rattle.program_plan.specs.Marks.{is_unknown}
use Rattle.program_plan.proofs.Meanings.{tells}
use Rattle.program_plan.proofs.expressions.means_body.Goals as goal

pub returns : goal.returns
unfolding source_of source_by
returns c =
    let here = c.args.here.now in
    let f = c.args.f.now in
    let structs = (source_of here).structs in
    c.is_unknown.ensures
    ∙ (ap is_unknown c.effect.ensures
    ∙ tells (source_by here.program.now here.machine.now here.tries here.function [] [] here.depth here.reach) (exp structs f)
    (arguments_of structs []) (type f.ctype) refl)
