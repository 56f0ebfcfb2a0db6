-- With the bytes that are left, the name is whole.
use Rattle.std.proofs.Common.{◌≡◌, ◌++◌, drop, option_map}
use Rattle.line_marks.specs.Names.{name_from}
use Rattle.line_marks.specs.declared.names.Within.TheVariants as within
use Rattle.line_marks.proofs.names.read_name.Given as goal

abbrev pub invariant-loop-at : goal.invariant-loop-at
invariant-loop-at l =
    option_map (λ rest. l.name.items ++ rest) (name_from l.within (drop l.at l.bytes)) ≡ name_from within.Plain l.bytes
