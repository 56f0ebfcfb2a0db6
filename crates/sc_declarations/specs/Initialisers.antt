-- Initialisers of locals (C11 6.7.9): their expressions are typed, and the values go to the object as `sc_fill` says.
-- Designators, braces inside braces and a string for an array are not taken.
use Rattle.std.specs.Prelude.{Bool, true, false, ◌&&◌, if◌then◌else◌, Option, Some, None, is_some, List, [], ◌∷◌, map}
use Rattle.std.specs.List.{list_all}
use Rattle.sc_base.specs.declared.pos.Pos.{Pos}
use Rattle.sc_base.specs.declared.skip.Unsupported.TheVariants as u
use Rattle.sc_tree.specs.declared.ctype.CType.{CType}
use Rattle.sc_tree.specs.declared.expr.Aggregate.{Aggregate}
use Rattle.sc_tree.specs.declared.expr.Base.{Base}
use Rattle.sc_tree.specs.declared.expr.Declarator.{Declarator}
use Rattle.sc_tree.specs.declared.expr.EnumSpec.{EnumSpec}
use Rattle.sc_tree.specs.declared.expr.Enumerator.{Enumerator}
use Rattle.sc_tree.specs.declared.expr.Expr.{Expr, Expr-F, out-Expr}
use Rattle.sc_tree.specs.declared.expr.Head.{Head}
use Rattle.sc_tree.specs.declared.expr.Member.{Member}
use Rattle.sc_tree.specs.declared.expr.Part.{Part}
use Rattle.sc_tree.specs.declared.expr.Specs.{Specs}
use Rattle.sc_tree.specs.declared.decl.Designator.{Designator}
use Rattle.sc_tree.specs.declared.decl.Init.{Init, Init-F, out-Init}
use Rattle.sc_tree.specs.declared.decl.InitItem.{InitItem, out-InitItem}
use Rattle.sc_typed.specs.declared.expr.TExpr.{TExpr}
use Rattle.sc_typed.specs.declared.stmt.TInit.{TInit}
use Rattle.sc_rules.specs.Walks.{Check, ◌>>=◌, done, unsupported}
use Rattle.sc_fill.specs.Initialisers.{in_front, is_array_if, one, one_value, spread_if}
use Rattle.sc_typing.specs.Here.{Here}
use Rattle.sc_typing.specs.Shapes.{Typing}
use Rattle.sc_typing.specs.Typing.{typing}

-- the value of an item in braces, where it is an expression without designators
abbrev pub expression_in : List Designator → Init-F Init InitItem → Option Expr
expression_in [] (Init-F.One e) = Some e
expression_in _ _ = None

abbrev pub item_expression : InitItem → Option Expr
item_expression x = expression_in (out-InitItem x).designators (out-Init (out-InitItem x).init)

abbrev pub item_expressions : List InitItem → Option (List Expr)
item_expressions [] = Some []
item_expressions (x ∷ xs) = in_front (item_expression x) (item_expressions xs)

-- those items that are expressions without designators, and whether all are
abbrev pub with_expression : Option Expr → List Expr → List Expr
with_expression None es = es
with_expression (Some e) es = e ∷ es

abbrev pub expressions_there : List InitItem → List Expr
expressions_there [] = []
expressions_there (x ∷ xs) = with_expression (item_expression x) (expressions_there xs)

abbrev pub all_expressions : List InitItem → Bool
all_expressions xs = list_all (λ x. is_some (item_expression x)) xs

-- whether an expression is a string as it is written, a wide one too
abbrev pub is_text : Expr-F Base Declarator Expr Aggregate EnumSpec Enumerator Head Member Part Specs → Bool
is_text (Expr-F.Str ss p) = true
is_text _ = false

-- a string that has no type, as a wide one: for an array it is not taken as any other string
abbrev pub no_value : Pos → Option CType → (text : Bool) → Check (Option TExpr)
no_value at t text = if text && is_array_if t then unsupported u.Init at else done None

abbrev pub as_they_stand : List Typing → Check (List (Option TExpr))
as_they_stand [] = done []
as_they_stand (e ∷ es) = do
  x ← e.run
  xs ← as_they_stand es
  done (x ∷ xs)

module _ (here : Here) where
  abbrev pub values : List Expr → Check (List (Option TExpr))
  values es = as_they_stand (map (typing here) es)

  abbrev pub list_initialiser : Pos → Option CType → Option (List Expr) → Check (Option TInit)
  list_initialiser at t None = unsupported u.Init at
  list_initialiser at t (Some es) = values es >>= λ xs. spread_if here.widths at t xs

  abbrev pub value_given : Pos → Option CType → (text : Bool) → Option TExpr → Check (Option TExpr)
  value_given at t text None = no_value at t text
  value_given at t text (Some x) = one_value here.widths at t x

  abbrev pub one_initialiser : Pos → Option CType → Expr → Check (Option TInit)
  one_initialiser at t e = do
    x ← (typing here e).run
    v ← value_given at t (is_text (out-Expr e)) x
    done (one v)

  abbrev pub initialiser_layer : Pos → Option CType → Init-F Init InitItem → Check (Option TInit)
  initialiser_layer at t (Init-F.One e) = one_initialiser at t e
  initialiser_layer at t (Init-F.List items) = list_initialiser at t (item_expressions items)

  -- the initialiser of a local of type t, whose name stands at `at`; None where its type has no size
  abbrev pub initialiser : Pos → Option CType → Init → Check (Option TInit)
  initialiser at t x = initialiser_layer at t (out-Init x)
