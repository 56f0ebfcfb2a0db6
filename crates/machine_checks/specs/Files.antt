-- Files that are checked without a machine file, and with one that spells the machine of locks.
use Rattle.std.specs.Prelude.{Some, None}
use Rattle.fsm_spec.specs.Lock.{locks}
use Rattle.sc_check.specs.Typed.{Sources, Answer, Duplicate, TooMany, Typed}
use Rattle.machine_laws.specs.Tries.{with_file}

abbrev pub sources_without : Sources → Sources
sources_without s = record s { machine = None }

abbrev pub sources_with : Sources → Sources
sources_with s = record s { machine = Some locks }

-- the same answer, with the machine of locks in the program that was typed
abbrev pub with_lock : Answer → Answer
with_lock (Duplicate name) = Duplicate name
with_lock (TooMany functions) = TooMany functions
with_lock (Typed p) = Typed (with_file p)
