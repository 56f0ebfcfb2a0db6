use Rattle.std.proofs.Common.{◌≡◌, ◌++◌, map, take}
use Rattle.top_answers.specs.Lines.{shown_byte}
use Rattle.top_answers.proofs.lines.put_name.Given as goal

-- the bytes so far stand behind those that were there
abbrev pub invariant-loop-byte : goal.invariant-loop-byte
invariant-loop-byte l = l.out.items ≡ l.fn.out.items ++ map shown_byte (take l.byte-index l.name)
