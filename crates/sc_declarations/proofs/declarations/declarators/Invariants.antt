-- The declarators so far, with those that are left, are all of them; the numbers have the keys of the globals.
use Rattle.std.proofs.Common.{◌≡◌, drop}
use Rattle.std.specs.Option.{option_copied}
use Rattle.sc_declare.specs.Numbers.{keys_of}
use Rattle.sc_typing.specs.Tables.{here_of}
use Rattle.sc_declarations.specs.Declarations.{declarators}
use Rattle.sc_declarations.proofs.Joined.{joined}
use Rattle.sc_declarations.proofs.declarations.declarators.Given as goal

abbrev pub invariant-loop-d : goal.invariant-loop-d
invariant-loop-d l =
    (joined l.made (declarators (here_of l.here) l.at_file l.words (option_copied l.t) (drop l.d-index l.parts) l.walk)
    ≡ declarators (here_of l.fn.here) l.fn.at_file l.fn.words (option_copied l.fn.t) l.fn.parts l.fn.walk)
    × (l.numbers ≡ keys_of l.walk.globals)
