use Rattle.std.proofs.Common.{◌≡◌, ◌++◌, map, string_bytes}
use Rattle.name_interner.proofs.Interner.into_names.Given as goal

-- the texts in the table and those that are left are all texts
abbrev pub invariant-loop-text : goal.invariant-loop-text
invariant-loop-text l = map string_bytes (l.table.items ++ l.text-iterator) ≡ l.fn.self
