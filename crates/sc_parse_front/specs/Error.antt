-- What a call says that may refuse.
use Rattle.std.specs.Prelude.{◌≡◌, Bool, true, false, List, Option, Some, None, Result, Ok, Err}
use Rattle.sc_tree.specs.declared.token.Token.{Token}
use Rattle.sc_parse_front.specs.declared.error.ParseError.{ParseError}
use Rattle.sc_parse_front.specs.declared.error.ParseError.TheVariants.{Memory, NoMatch}
use Rattle.sc_parse_front.specs.Front.{behind}

-- The call goes behind the first token where it was found to be the wanted one, and else refuses.
abbrev pub Passes : Bool → Result (Unit {0}) ParseError → List Token → List Token → Type 0
Passes found (Ok x) old new = (found ≡ true) × (new ≡ behind old)
Passes found (Err NoMatch) old new = found ≡ false
Passes found (Err Memory) old new = ⊥

-- The call makes what the option has, or refuses where it has nothing.
abbrev pub Makes : {A : Type 0} → Option A → Result A ParseError → Type 0
Makes o (Ok x) = o ≡ Some x
Makes o (Err NoMatch) = o ≡ None
Makes o (Err Memory) = Unit
