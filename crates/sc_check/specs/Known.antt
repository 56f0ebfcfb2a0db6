-- The answer from what is known behind the first walk, as the code makes it.
use Rattle.std.specs.Prelude.{ℕ, Option, Some, None, [], length, if◌then◌else◌}
use Rattle.sc_typed.specs.declared.program.Program.{Program}
use Rattle.sc_program.specs.Bodies.{first_clash, is_too_many}
use Rattle.sc_check.specs.declared.checking.Known.{Known}
use Rattle.sc_check.specs.Heres.{known_here}
use Rattle.sc_check.specs.Typed.{Sources, Answer, Duplicate, TooMany, Typed, walk_files, nothing_made, no_walk, program_of}

-- the second walk begins with the structs as the first left them
abbrev pub program_known : Sources → Known → Program
program_known s k =
    program_of s
    (walk_files (known_here s.widths k.builtins k.first.structs k.first.records k.bodies) nothing_made s.units
    (record no_walk { structs = k.first.structs }))

-- with the name of a function whose body is a second one, if there is one
abbrev pub answer_if : Option ℕ → Sources → Known → Answer
answer_if (Some name) s k = Duplicate name
answer_if None s k =
    if is_too_many (length k.bodies) then TooMany (length k.bodies) else Typed (program_known s k)

abbrev pub answer_known : Sources → Known → Answer
answer_known s k = answer_if (first_clash [] k.bodies) s k
