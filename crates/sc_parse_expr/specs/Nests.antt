-- A function value that reads the parts of a tree, which are lower by one.
use Rattle.std.specs.Prelude.{◌≤◌, ◌-◌, ℕ, List, Result}
use Rattle.std.specs.declared.alloc.Global.{Global}
use denote.Ref.{Bor, MutBor}
use Rattle.sc_base.specs.declared.pos.NameId.{NameId}
use Rattle.sc_tree.specs.declared.token.Token.{Token}
use Rattle.sc_parse_expr.specs.declared.found.Wanted.{Wanted}
use Rattle.sc_parse_expr.specs.declared.found.Phrase.{Phrase}
use Rattle.sc_parse_expr.specs.declared.found.Found.{Found}
use Rattle.sc_parse_front.specs.declared.error.ParseError.{ParseError}
use Rattle.sc_parse_expr.specs.Read.{Parse}
use Rattle.sc_parse_expr.specs.Reading.{parse}
use Rattle.sc_parse_expr.specs.Gives.{Gives}
use Rattle.sc_parse_expr.specs.declared.grammar.Grammar.{Grammar}

-- what is read of the parts of a tree
abbrev pub below : List NameId → ℕ → Wanted → Parse Phrase
below types limit w ts = parse types (limit - 1) w ts

-- a reading with the typedef names and the limit of the grammar, over parts of one less
abbrev pub under : {F A : Type 0} → Grammar F → (List NameId → ℕ → (Wanted → Parse Phrase) → A) → A
under g reading = reading g.types.now g.limit (below g.types.now g.limit)

pub record Nests (limit : ℕ) (pre : Global → Bor (List NameId) → MutBor (List Token) → ℕ → Wanted → Type 0)
    (post : Global → Bor (List NameId) → MutBor (List Token) → ℕ → Wanted → Result (Found Phrase) ParseError → MutBor (List Token) → Type 0) : Type 0 where
  pub some : 1 ≤ limit
  pub callable : (alloc : Global) (names : Bor (List NameId)) (old : MutBor (List Token)) (w : Wanted) → pre alloc names old (limit - 1) w
  pub reads : (alloc : Global) (names : Bor (List NameId)) (old new : MutBor (List Token)) (w : Wanted) (r : Result (Found Phrase) ParseError)
      → post alloc names old (limit - 1) w r new → Gives (parse names.now (limit - 1) w old.now) r new.now

-- The parts of a tree are read by the function of the grammar.
abbrev pub ReadsParts : {F : Type 0} → Grammar F → (F → Global → Bor (List NameId) → MutBor (List Token) → ℕ → Wanted → Type 0)
    → (F → Global → Bor (List NameId) → MutBor (List Token) → ℕ → Wanted → Result (Found Phrase) ParseError → MutBor (List Token) → Type 0) → Type 0
ReadsParts g pre post = Nests g.limit (pre g.inner) (post g.inner)
