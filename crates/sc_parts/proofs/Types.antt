-- The types of parameters, one after the other.
use Rattle.std.proofs.Common.{Option, Some, None, List, ◌++◌}
use Rattle.sc_tree.specs.declared.ctype.CType.{CType}

-- the types so far, and those still to come
abbrev pub joined : List CType → Option (List CType) → Option (List CType)
joined ts None = None
joined ts (Some us) = Some (ts ++ us)
