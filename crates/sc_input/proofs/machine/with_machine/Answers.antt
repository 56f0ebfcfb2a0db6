use Rattle.std.proofs.Common.{rules, ◌≡◌, length}
use Rattle.fsm_spec.specs.Reading.{spelled, Machine}
use Rattle.sc_input.specs.Input.{so_far}
use Rattle.sc_input.proofs.Growing.{begins_with}
use Rattle.sc_input.proofs.machine.with_machine.Goals as goal

pub returns-in-Ok-clause-begins : goal.returns-in-Ok-clause-begins
returns-in-Ok-clause-begins g c =
    let spells : spelled c.in_ok-bytes.bytes.items ≡ Machine c.in-Ok.machine = search rules in
    let count : c.len.result ≡ length c.in_ok-bytes.bytes.items = search rules in
    begins_with (g.F.Files.held c.args.files.now) c.args.name.now c.in_ok-bytes.bytes.items c.in-Ok.machine c.len.result (so_far c.nothing_but.result)
    c.in_ok-bytes.ensures.read spells count c.nothing_but.ensures
