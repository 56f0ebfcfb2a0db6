use Rattle.std.proofs.Common.{◌≡◌, ℕ, ◌||◌, drop}
use Rattle.sc_check.specs.Bodied.{has_pair}
use Rattle.sc_check.specs.Typed.{is_local_function}
use Rattle.sc_check.proofs.bodied.LocalFunctions.of.Given as goal

abbrev pub invariant-loop-file : goal.invariant-loop-file
invariant-loop-file l =
    (f n : ℕ)
    → (has_pair l.all f n || is_local_function (drop l.file-index l.locals) f n) ≡ is_local_function l.fn.locals f n
