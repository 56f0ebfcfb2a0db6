-- To which structs and globals types, expressions and bodies lead: those that they name, and the structs to which the
-- members of these lead.
use Rattle.std.specs.Prelude.{ℕ, Option, Some, None, List, [], ◌∷◌, ◌++◌, map}
use Rattle.std.specs.List.{flat_map}
use Rattle.sc_tree.specs.declared.ctype.CType.{CType, CType-F}
use Rattle.sc_tree.specs.declared.ctype.CType.TheFolds.{fold-CType, fold-Signature}
use Rattle.sc_tree.specs.declared.ctype.Signature.{Signature, Signature-F}
use Rattle.sc_typed.specs.declared.expr.TExpr.{TExpr, TExpr-F}
use Rattle.sc_typed.specs.declared.expr.What.{What-F}
use Rattle.sc_typed.specs.declared.expr.What.TheFolds.{fold-TExpr}
use Rattle.sc_typed.specs.declared.stmt.TStmt.{TStmt, TStmt-F}
use Rattle.sc_typed.specs.declared.stmt.TStmt.TheFolds.{fold-TStmt}
use Rattle.sc_typed.specs.declared.stmt.TForStart.{TForStart}
use Rattle.sc_typed.specs.declared.stmt.TForStart.TheVariants as start
use Rattle.sc_typed.specs.declared.stmt.TInit.{TInit}
use Rattle.sc_typed.specs.declared.stmt.TInit.TheVariants as init
use Rattle.sc_typed.specs.declared.stmt.TInitItem.{TInitItem}
use Rattle.sc_typed.specs.declared.stmt.TDeclarator.{TDeclarator}
use Rattle.sc_typed.specs.declared.stmt.Declared.{Declared}
use Rattle.sc_typed.specs.declared.stmt.Declared.TheVariants as declared
use Rattle.sc_typed.specs.declared.program.TBody.{TBody}
use Rattle.sc_typed.specs.declared.program.TBody.TheVariants as body
use Rattle.sc_typed.specs.declared.program.Param.{Param}
use Rattle.sc_typed.specs.declared.program.FieldDef.{FieldDef}
use Rattle.sc_typed.specs.declared.program.StructDef.{StructDef}

-- what is named: structs by their numbers, and globals by theirs
pub record Named : Type 0 where
  pub structs : List ℕ
  pub globals : List ℕ

abbrev pub nothing : Named
nothing = record { structs = []; globals = [] }

infixl 20 ◌∪◌
abbrev pub ◌∪◌ : Named → Named → Named
a ∪ b = record { structs = a.structs ++ b.structs; globals = a.globals ++ b.globals }

abbrev pub all_of : List Named → Named
all_of [] = nothing
all_of (a ∷ bs) = a ∪ all_of bs

abbrev pub structs_alone : List ℕ → Named
structs_alone ns = record { structs = ns; globals = [] }

abbrev pub the_global : ℕ → Named
the_global n = record { structs = []; globals = n ∷ [] }

-- Types.

abbrev pub all_structs : List (List ℕ) → List ℕ
all_structs [] = []
all_structs (ns ∷ rest) = ns ++ all_structs rest

abbrev pub in_params : Option (List (List ℕ)) → List ℕ
in_params None = []
in_params (Some ts) = all_structs ts

abbrev pub type_step : CType-F (List ℕ) (List ℕ) → List ℕ
type_step CType-F.Void = []
type_step CType-F.Bool = []
type_step (CType-F.Int k) = []
type_step (CType-F.Ptr t) = t
type_step (CType-F.Array t n) = t
type_step (CType-F.Struct n) = n ∷ []
type_step (CType-F.Union n) = n ∷ []
type_step (CType-F.Func s) = s
type_step (CType-F.Opaque k) = []

abbrev pub signature_step : Signature-F (List ℕ) (List ℕ) → List ℕ
signature_step s = s.result ++ in_params s.params

abbrev pub in_type : CType → List ℕ
in_type = fold-CType (List ℕ) (List ℕ) type_step signature_step

abbrev pub in_signature : Signature → List ℕ
in_signature = fold-Signature (List ℕ) (List ℕ) type_step signature_step

-- Expressions: what they name, and what their types do.

abbrev pub what_step : What-F Named Named → Named
what_step (What-F.Comma a b) = a ∪ b
what_step (What-F.Assign o works a b) = a ∪ b ∪ structs_alone (in_type works)
what_step (What-F.Cond a b c) = a ∪ b ∪ c
what_step (What-F.Binary o a b) = a ∪ b
what_step (What-F.Cast a) = a
what_step (What-F.Unary o a) = a
what_step (What-F.PreInc s a) = a
what_step (What-F.PostInc s a) = a
what_step (What-F.SizeofExpr a n) = a
what_step (What-F.SizeofType n) = nothing
what_step (What-F.Index a b) = a ∪ b
what_step (What-F.Call f es) = f ∪ all_of es
what_step (What-F.Field a s n arrow) = a ∪ structs_alone (s ∷ [])
what_step (What-F.Param n) = nothing
what_step (What-F.Local n) = nothing
what_step (What-F.Global n) = the_global n
what_step (What-F.Function n body) = nothing
what_step (What-F.Int n) = nothing
what_step (What-F.Char c) = nothing
what_step (What-F.Str n) = nothing
what_step (What-F.Convert a) = a
what_step (What-F.Temp n) = nothing
what_step (What-F.TempPlace n) = nothing

abbrev pub exp_step : TExpr-F Named Named → Named
exp_step e = structs_alone (in_type e.ctype) ∪ e.what

abbrev pub in_exp : TExpr → Named
in_exp = fold-TExpr Named Named what_step exp_step

abbrev pub in_exp_if : Option TExpr → Named
in_exp_if None = nothing
in_exp_if (Some e) = in_exp e

-- Bodies.

abbrev pub in_init : TInit → Named
in_init (init.One e) = in_exp e
in_init (init.Braces xs) = all_of (map (λ (x : TInitItem). in_exp x.value) xs)

abbrev pub in_init_if : Option TInit → Named
in_init_if None = nothing
in_init_if (Some x) = in_init x

abbrev pub in_declared : Declared → Named
in_declared (declared.Local n) = nothing
in_declared (declared.Global n) = the_global n
in_declared declared.Function = nothing

abbrev pub in_declarator : TDeclarator → Named
in_declarator d = in_declared d.declared ∪ in_init_if d.init

abbrev pub in_start : TForStart → Named
in_start start.Nothing = nothing
in_start (start.Expr e) = in_exp e
in_start (start.Decl ds p) = all_of (map in_declarator ds)

abbrev pub stm_step : TStmt-F Named → Named
stm_step (TStmt-F.Block xs begin end) = all_of xs
stm_step (TStmt-F.Decl ds p) = all_of (map in_declarator ds)
stm_step (TStmt-F.Expr e p) = in_exp_if e
stm_step (TStmt-F.If e x None p) = in_exp e ∪ x
stm_step (TStmt-F.If e x (Some y) p) = in_exp e ∪ x ∪ y
stm_step (TStmt-F.While e x p) = in_exp e ∪ x
stm_step (TStmt-F.Do x e p) = x ∪ in_exp e
stm_step (TStmt-F.For f c n x p) = in_start f ∪ in_exp_if c ∪ in_exp_if n ∪ x
stm_step (TStmt-F.Switch e xs p end) = in_exp e ∪ all_of xs
stm_step (TStmt-F.Case n e p) = in_exp e
stm_step (TStmt-F.Default p) = nothing
stm_step (TStmt-F.Goto n p) = nothing
stm_step (TStmt-F.Break p) = nothing
stm_step (TStmt-F.Continue p) = nothing
stm_step (TStmt-F.Return e p) = in_exp_if e
stm_step (TStmt-F.Label n x p) = x

abbrev pub in_stm : TStmt → Named
in_stm = fold-TStmt Named stm_step

abbrev pub in_body : TBody → Named
in_body (body.Tree s) = in_stm s
in_body (body.Skipped skip) = nothing

abbrev pub in_variables : List Param → List ℕ
in_variables ps = flat_map (λ (p : Param). in_type p.ctype) ps

-- Structs: those that the members of a struct name.

abbrev pub in_members : Option (List FieldDef) → List ℕ
in_members None = []
in_members (Some fs) = flat_map (λ (m : FieldDef). in_type m.ctype) fs

abbrev pub struct_rows : List StructDef → List (List ℕ)
struct_rows ss = map (λ (s : StructDef). in_members s.fields) ss
