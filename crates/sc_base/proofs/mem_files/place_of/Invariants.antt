-- No file so far has that name, so it is looked for in what is left.
use Rattle.std.proofs.Common.{◌≡◌, drop}
use Rattle.sc_base.specs.Held.{bytes_of}
use Rattle.sc_base.specs.Memory.{named_bytes}
use Rattle.sc_base.proofs.mem_files.place_of.Given as goal

abbrev pub invariant-loop-place : goal.invariant-loop-place
invariant-loop-place l = bytes_of l.name (named_bytes l.files) ≡ bytes_of l.name (named_bytes (drop l.place l.files))
