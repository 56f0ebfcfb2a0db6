use Rattle.sc_tree.specs.declared.ctype.Widths.TheVariants.{Ilp32}
use Rattle.encode_tests.proofs.Wholeness.{whole_if_given}
use Rattle.encode_tests.proofs.setting.checked.Goals as goal

pub returns-in-Ok : goal.returns-in-Ok
returns-in-Ok c =
    whole_if_given (record { names = c.args.names; files = c.args.files; units = c.args.units.now; widths = Ilp32; machine = c.args.machine })
    c.in-Ok.program c.in-Ok.ensures c.whole_machines.ensures.lock c.requires
