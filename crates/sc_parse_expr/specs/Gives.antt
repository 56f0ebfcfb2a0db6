-- What a call says of the reading function that it stands for.
use Rattle.std.specs.Prelude.{◌≡◌, ℕ, suc, nat_lt, Bool, true, false, List, Option, Some, None, Result, Ok, Err}
use Rattle.sc_tree.specs.declared.token.Token.{Token}
use Rattle.sc_parse_expr.specs.declared.found.Found.{Found}
use Rattle.sc_parse_front.specs.declared.error.ParseError.{ParseError}
use Rattle.sc_parse_front.specs.declared.error.ParseError.TheVariants.{Memory, NoMatch}
use Rattle.sc_parse_expr.specs.Read.{Read, read}

-- The call gives what is read, with the tokens that are left then, or that nothing is read; where memory
-- is refused it says nothing.
abbrev pub Gives : {A : Type 0} → Option (Read A) → Result (Found A) ParseError → List Token → Type 0
Gives o (Ok x) left = o ≡ Some (read x.it x.height left)
Gives o (Err NoMatch) left = o ≡ None
Gives o (Err Memory) left = Unit

-- A tree over parts of that height is made where the limit allows one more, and else refused.
abbrev pub Grows : {A : Type 0} → ℕ → A → ℕ → Result (Found A) ParseError → Type 0
Grows limit it below (Ok x) = (nat_lt below limit ≡ true) × (x.it ≡ it) × (x.height ≡ suc below)
Grows limit it below (Err NoMatch) = nat_lt below limit ≡ false
Grows limit it below (Err Memory) = Unit

-- As `Gives`, where the call gives what is read in a form of its own.
abbrev pub GivesAs : {A B : Type 0} → (A → B) → Option (Read B) → Result (Found A) ParseError → List Token → Type 0
GivesAs seen o (Ok x) left = o ≡ Some (read (seen x.it) x.height left)
GivesAs seen o (Err NoMatch) left = o ≡ None
GivesAs seen o (Err Memory) left = Unit
