use Rattle.std.proofs.Common.{◌≡◌, List, [], ap, sym, ◌∙◌, drop}
use Rattle.std.proofs.lemmas.List.{drop_all}
use Rattle.sc_typed.specs.declared.program.Param.{Param}
use Rattle.sc_world.specs.Programs.{types_of}
use Rattle.run_answers.specs.Seen.{over, bits_from}
use Rattle.run_answers.proofs.Bits.{bits_none}
use Rattle.run_answers.proofs.entry.given.Goals as goal

pub returns : goal.returns
returns c =
    let none : drop c.loop-param.param-index c.params-params.result.now ≡ [] =
    drop_all c.loop-param.param-index c.params-params.result.now c.loop-param-test.false in
    sym (bits_none (over c.args.over.now) c.loop-param.bits.number c.loop-param.bits.left c.loop-param.k)
    ∙ (ap (λ (ps : List Param). bits_from (over c.args.over.now) c.loop-param.bits.number c.loop-param.bits.left
    c.loop-param.k (types_of ps)) (sym none)
    ∙ c.loop-param.invariant.bits)
