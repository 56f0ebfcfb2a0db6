-- Which bodies leave nothing behind (C11 6.7): those in which no variable with linkage is declared, and no type is
-- written with a new tag, with members or enumerators, or with the parameters of a function.
use Rattle.std.specs.Prelude.{Bool, true, false, not, ◌&&◌, Option, Some, None, List, [], ◌∷◌}
use Rattle.sc_base.specs.declared.pos.NameId.{NameId}
use Rattle.sc_tree.specs.declared.expr.Expr.{Expr, Expr-F}
use Rattle.sc_tree.specs.declared.expr.Head.{Head, Head-F}
use Rattle.sc_tree.specs.declared.expr.Specs.{Specs, Specs-F, out-Specs}
use Rattle.sc_tree.specs.declared.expr.Base.{Base, Base-F}
use Rattle.sc_tree.specs.declared.expr.Base.TheFolds.{fold-Base, fold-Declarator, fold-Expr, fold-Aggregate, fold-EnumSpec, fold-Head, fold-Specs}
use Rattle.sc_tree.specs.declared.expr.Aggregate.{Aggregate, Aggregate-F}
use Rattle.sc_tree.specs.declared.expr.Member.{Member-F}
use Rattle.sc_tree.specs.declared.expr.Part.{Part-F}
use Rattle.sc_tree.specs.declared.expr.EnumSpec.{EnumSpec, EnumSpec-F}
use Rattle.sc_tree.specs.declared.expr.Enumerator.{Enumerator-F}
use Rattle.sc_tree.specs.declared.expr.Declarator.{Declarator, Declarator-F}
use Rattle.sc_tree.specs.declared.decl.Decl.{Decl}
use Rattle.sc_tree.specs.declared.decl.InitDeclarator.{InitDeclarator}
use Rattle.sc_tree.specs.declared.decl.Init.{Init, Init-F, out-Init}
use Rattle.sc_tree.specs.declared.decl.InitItem.{InitItem}
use Rattle.sc_tree.specs.declared.stmt.ForHead.{ForHead}
use Rattle.sc_tree.specs.declared.stmt.ForStart.{ForStart}
use Rattle.sc_tree.specs.declared.stmt.ForStart.TheVariants as start
use Rattle.sc_tree.specs.declared.stmt.Stmt.{Stmt, Stmt-F}
use Rattle.sc_tree.specs.declared.stmt.Stmt.TheFolds.{fold-Stmt}
use Rattle.scopes.specs.Frames.{Frames}
use Rattle.sc_rules.specs.declared.walk.Tag.{Tag}
use Rattle.sc_rules.specs.declared.walk.TagKind.{TagKind}
use Rattle.sc_rules.specs.declared.walk.TagKind.TheVariants as tag
use Rattle.sc_parts.specs.Fields.{aggregate_kind}
use Rattle.sc_declare.specs.Storage.{has_extern}
use Rattle.sc_declarations.specs.Declarations.{is_alone}
use Rattle.sc_declarations.specs.Initialisers.{item_expression}
use Rattle.plain_bodies.specs.Tagged.{is_tagged}

abbrev pub all_of : List Bool → Bool
all_of [] = true
all_of (b ∷ bs) = b && all_of bs

-- Types and expressions.

abbrev pub base_plain : Base-F Bool Bool Bool Bool Bool Bool Bool Bool Bool Bool → Bool
base_plain (Base-F.Words t) = true
base_plain (Base-F.Struct a) = a
base_plain (Base-F.Enum e) = e
base_plain (Base-F.Named name at) = true

abbrev pub declarator_plain : Declarator-F Bool Bool Bool Bool Bool Bool Bool Bool Bool Bool → Bool
declarator_plain (Declarator-F.«Declarator::Name» n) = true
declarator_plain (Declarator-F.Pointer d) = d
declarator_plain (Declarator-F.Array d None) = d
declarator_plain (Declarator-F.Array d (Some n)) = d && n
declarator_plain (Declarator-F.Func d hs variadic) = false

abbrev pub specs_plain : Specs-F Bool Bool Bool Bool Bool Bool Bool Bool Bool Bool → Bool
specs_plain s = s.base

abbrev pub head_plain : Head-F Bool Bool Bool Bool Bool Bool Bool Bool Bool Bool → Bool
head_plain h = h.specs && h.declarator

abbrev pub expr_plain : Expr-F Bool Bool Bool Bool Bool Bool Bool Bool Bool Bool → Bool
expr_plain (Expr-F.Comma a b p) = a && b
expr_plain (Expr-F.Assign o a b p) = a && b
expr_plain (Expr-F.Cond a b c p) = a && (b && c)
expr_plain (Expr-F.Binary o a b p) = a && b
expr_plain (Expr-F.Cast h a p) = h && a
expr_plain (Expr-F.Unary o a p) = a
expr_plain (Expr-F.PreInc s a p) = a
expr_plain (Expr-F.SizeofExpr a p) = a
expr_plain (Expr-F.SizeofType h p) = h
expr_plain (Expr-F.Index a b p) = a && b
expr_plain (Expr-F.Call f es p) = f && all_of es
expr_plain (Expr-F.Field a name arrow p) = a
expr_plain (Expr-F.PostInc s a p) = a
expr_plain (Expr-F.«Expr::Name» name p) = true
expr_plain (Expr-F.Int t p) = true
expr_plain (Expr-F.Char c p) = true
expr_plain (Expr-F.Odd p) = true
expr_plain (Expr-F.Str ss p) = true

-- what stands in a struct, a union or an enumeration

abbrev pub enumerator_plain : Enumerator-F Bool Bool Bool Bool Bool Bool Bool Bool Bool Bool → Bool
enumerator_plain e = false

abbrev pub member_plain : Member-F Bool Bool Bool Bool Bool Bool Bool Bool Bool Bool → Bool
member_plain m = false

abbrev pub part_plain : Part-F Bool Bool Bool Bool Bool Bool Bool Bool Bool Bool → Bool
part_plain p = false

abbrev pub named : Frames Tag → TagKind → Option NameId → Bool
named tags k None = false
named tags k (Some name) = is_tagged tags k name

abbrev pub mentioned : Frames Tag → TagKind → Option NameId → (body : Option (List Bool)) → Bool
mentioned tags k name None = named tags k name
mentioned tags k name (Some xs) = false

module _ (tags : Frames Tag) where
  -- a type that names a tag that stands
  abbrev pub aggregate_plain : Aggregate-F Bool Bool Bool Bool Bool Bool Bool Bool Bool Bool → Bool
  aggregate_plain a = mentioned tags (aggregate_kind a.union) a.tag a.body

  abbrev pub enum_plain : EnumSpec-F Bool Bool Bool Bool Bool Bool Bool Bool Bool Bool → Bool
  enum_plain e = mentioned tags tag.Enum e.tag e.body

  abbrev pub plain : Expr → Bool
  plain = fold-Expr Bool Bool Bool Bool Bool Bool Bool Bool Bool Bool
      base_plain declarator_plain expr_plain aggregate_plain enum_plain enumerator_plain head_plain member_plain part_plain specs_plain

  abbrev pub plain_base : Base → Bool
  plain_base = fold-Base Bool Bool Bool Bool Bool Bool Bool Bool Bool Bool
      base_plain declarator_plain expr_plain aggregate_plain enum_plain enumerator_plain head_plain member_plain part_plain specs_plain

  abbrev pub plain_declarator : Declarator → Bool
  plain_declarator = fold-Declarator Bool Bool Bool Bool Bool Bool Bool Bool Bool Bool
      base_plain declarator_plain expr_plain aggregate_plain enum_plain enumerator_plain head_plain member_plain part_plain specs_plain

  abbrev pub plain_specs : Specs → Bool
  plain_specs = fold-Specs Bool Bool Bool Bool Bool Bool Bool Bool Bool Bool
      base_plain declarator_plain expr_plain aggregate_plain enum_plain enumerator_plain head_plain member_plain part_plain specs_plain

  abbrev pub plain_head : Head → Bool
  plain_head = fold-Head Bool Bool Bool Bool Bool Bool Bool Bool Bool Bool
      base_plain declarator_plain expr_plain aggregate_plain enum_plain enumerator_plain head_plain member_plain part_plain specs_plain

  abbrev pub plain_aggregate : Aggregate → Bool
  plain_aggregate = fold-Aggregate Bool Bool Bool Bool Bool Bool Bool Bool Bool Bool
      base_plain declarator_plain expr_plain aggregate_plain enum_plain enumerator_plain head_plain member_plain part_plain specs_plain

  abbrev pub plain_enum : EnumSpec → Bool
  plain_enum = fold-EnumSpec Bool Bool Bool Bool Bool Bool Bool Bool Bool Bool
      base_plain declarator_plain expr_plain aggregate_plain enum_plain enumerator_plain head_plain member_plain part_plain specs_plain

  -- Declarations and initialisers.

  abbrev pub plain_part_if : Option Expr → Bool
  plain_part_if None = false
  plain_part_if (Some e) = plain e

  abbrev pub plain_items : List InitItem → Bool
  plain_items [] = true
  plain_items (x ∷ xs) = plain_part_if (item_expression x) && plain_items xs

  abbrev pub init_plain : Init-F Init InitItem → Bool
  init_plain (Init-F.One e) = plain e
  init_plain (Init-F.List items) = plain_items items

  abbrev pub plain_init : Option Init → Bool
  plain_init None = true
  plain_init (Some x) = init_plain (out-Init x)

  abbrev pub plain_parts : List InitDeclarator → Bool
  plain_parts [] = true
  plain_parts (d ∷ ds) = (plain_declarator d.declarator && plain_init d.init) && plain_parts ds

  -- a declaration in a body, without linkage
  abbrev pub plain_declaration : Decl → Bool
  plain_declaration d =
      (not (is_alone d.parts) && not (has_extern (out-Specs d.specs).storage)) && (plain_specs d.specs && plain_parts d.parts)

  -- Statements.

  abbrev pub plain_if : Option Expr → Bool
  plain_if None = true
  plain_if (Some e) = plain e

  abbrev pub plain_start : ForStart → Bool
  plain_start start.Nothing = true
  plain_start (start.Expr e) = plain e
  plain_start (start.Decl d at) = plain_declaration d

  abbrev pub loop_plain : ForHead → (body : Bool) → Bool
  loop_plain h x = plain_start h.start && (plain_if h.test && (plain_if h.step && x))

  abbrev pub stmt_plain : Stmt-F Bool → Bool
  stmt_plain (Stmt-F.Block xs from to) = all_of xs
  stmt_plain (Stmt-F.Decl d at) = plain_declaration d
  stmt_plain (Stmt-F.Expr e at) = plain_if e
  stmt_plain (Stmt-F.If e x None at) = plain e && x
  stmt_plain (Stmt-F.If e x (Some y) at) = plain e && (x && y)
  stmt_plain (Stmt-F.While e x at) = plain e && x
  stmt_plain (Stmt-F.Do x e at) = x && plain e
  stmt_plain (Stmt-F.For h x at) = loop_plain h x
  stmt_plain (Stmt-F.Switch e xs at to) = plain e && all_of xs
  stmt_plain (Stmt-F.Case e at) = plain e
  stmt_plain (Stmt-F.Default at) = true
  stmt_plain (Stmt-F.Goto name at) = true
  stmt_plain (Stmt-F.Break at) = true
  stmt_plain (Stmt-F.Continue at) = true
  stmt_plain (Stmt-F.Return e at) = plain_if e
  stmt_plain (Stmt-F.Label name x at) = x

  abbrev pub plain_statement : Stmt → Bool
  plain_statement = fold-Stmt Bool stmt_plain
