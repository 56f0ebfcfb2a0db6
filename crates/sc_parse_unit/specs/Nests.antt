-- A function value that reads the parts of a tree, which are lower by one.
use Rattle.std.specs.Prelude.{◌≤◌, ◌-◌, ℕ, List, Some, Result}
use Rattle.std.specs.declared.alloc.Global.{Global}
use denote.Ref.{Bor, MutBor}
use Rattle.sc_base.specs.declared.pos.NameId.{NameId}
use Rattle.sc_tree.specs.declared.token.Token.{Token}
use Rattle.sc_tree.specs.declared.expr.Expr.{Expr}
use Rattle.sc_tree.specs.declared.decl.Init.{Init}
use Rattle.sc_tree.specs.declared.stmt.Stmt.{Stmt}
use Rattle.sc_tree.specs.declared.grammar.Level.TheVariants.{Whole}
use Rattle.sc_tree.specs.Tables.{◌>>=◌}
use Rattle.sc_parse_expr.specs.declared.found.Found.{Found}
use Rattle.sc_parse_front.specs.declared.error.ParseError.{ParseError}
use Rattle.sc_parse_expr.specs.Read.{Parse, read}
use Rattle.sc_parse_expr.specs.Reading.Parse.{expr_at}
use Rattle.sc_parse_expr.specs.Gives.{Gives}
use Rattle.sc_parse_unit.specs.declared.initialisers.Initialisers.{Initialisers}
use Rattle.sc_parse_unit.specs.declared.parts.Statements.{Statements}
use Rattle.sc_parse_unit.specs.Reading.{initialiser, statement}

-- what is read of the initialisers in an initialiser, and of the statements in a statement
abbrev pub inner_init : List NameId → ℕ → Parse Init
inner_init types limit ts = initialiser types (limit - 1) ts

abbrev pub inner_stmt : List NameId → ℕ → Parse Stmt
inner_stmt types limit ts = statement types (limit - 1) ts

-- a reading with the typedef names of the value and one less than its limit, over parts of that limit
abbrev pub in_initialiser : {F A : Type 0} → Initialisers F → (List NameId → ℕ → Parse Init → A) → A
in_initialiser all reading = reading all.types.now (all.limit - 1) (inner_init all.types.now all.limit)

abbrev pub in_statement : {F A : Type 0} → Statements F → (List NameId → ℕ → Parse Stmt → A) → A
in_statement all reading = reading all.types.now (all.limit - 1) (inner_stmt all.types.now all.limit)

-- what is read of the expressions in a statement
abbrev pub inner_whole : List NameId → ℕ → Parse Expr
inner_whole types limit ts = expr_at types (limit - 1) Whole ts >>= λ a. Some (read a.it.tree a.height a.rest)

-- it may be called at one less, and gives what is read there
pub record Nests {A : Type 0} (reading : List NameId → ℕ → Parse A) (limit : ℕ) (pre : Global → Bor (List NameId) → MutBor (List Token) → ℕ → Type 0)
    (post : Global → Bor (List NameId) → MutBor (List Token) → ℕ → Result (Found A) ParseError → MutBor (List Token) → Type 0) : Type 0 where
  pub some : 1 ≤ limit
  pub callable : (alloc : Global) (names : Bor (List NameId)) (old : MutBor (List Token)) → pre alloc names old (limit - 1)
  pub reads : (alloc : Global) (names : Bor (List NameId)) (old new : MutBor (List Token)) (r : Result (Found A) ParseError)
      → post alloc names old (limit - 1) r new → Gives (reading names.now (limit - 1) old.now) r new.now

-- The initialisers in an initialiser are read by the function of the value.
abbrev pub ReadsInitialisers : {F : Type 0} → Initialisers F → (F → Global → Bor (List NameId) → MutBor (List Token) → ℕ → Type 0)
    → (F → Global → Bor (List NameId) → MutBor (List Token) → ℕ → Result (Found Init) ParseError → MutBor (List Token) → Type 0) → Type 0
ReadsInitialisers all pre post = Nests initialiser all.limit (pre all.inner) (post all.inner)

-- The statements in a statement are read by the function of the value.
abbrev pub ReadsStatements : {F : Type 0} → Statements F → (F → Global → Bor (List NameId) → MutBor (List Token) → ℕ → Type 0)
    → (F → Global → Bor (List NameId) → MutBor (List Token) → ℕ → Result (Found Stmt) ParseError → MutBor (List Token) → Type 0) → Type 0
ReadsStatements all pre post = Nests statement all.limit (pre all.inner) (post all.inner)
