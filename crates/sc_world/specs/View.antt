-- The trees of typing as the plain trees on which definitions match: types, expressions, initialisers and statements.
-- A member of a struct goes by its name here, where typing has the numbers of the struct and of the member.
use Rattle.std.specs.Prelude.{ℕ, Bool, true, false, Option, Some, None, List, [], ◌∷◌, map, slice_index_or}
use Rattle.sc_base.specs.declared.pos.NameId.{NameId}
use Rattle.sc_tree.specs.declared.op.BinaryOp.{BinaryOp}
use Rattle.sc_tree.specs.declared.op.BinaryOp.TheVariants as binary
use Rattle.sc_tree.specs.declared.op.AssignOp.{AssignOp}
use Rattle.sc_tree.specs.declared.op.AssignOp.TheVariants as assign
use Rattle.sc_tree.specs.declared.ctype.CType.{CType, CType-F}
use Rattle.sc_tree.specs.declared.ctype.CType.TheFolds.{fold-CType}
use Rattle.sc_tree.specs.declared.ctype.Signature.{Signature-F}
use Rattle.sc_tree.specs.declared.expr.Place.{Place}
use Rattle.sc_typed.specs.declared.expr.TExpr.{TExpr, TExpr-F}
use Rattle.sc_typed.specs.declared.expr.What.{What-F}
use Rattle.sc_typed.specs.declared.expr.What.TheFolds.{fold-TExpr}
use Rattle.sc_typed.specs.declared.stmt.TStmt.{TStmt, TStmt-F}
use Rattle.sc_typed.specs.declared.stmt.TStmt.TheFolds.{fold-TStmt}
use Rattle.sc_typed.specs.declared.stmt.TForStart.{TForStart}
use Rattle.sc_typed.specs.declared.stmt.TForStart.TheVariants as start
use Rattle.sc_typed.specs.declared.stmt.TInit.{TInit}
use Rattle.sc_typed.specs.declared.stmt.TInit.TheVariants as init
use Rattle.sc_typed.specs.declared.stmt.TInitItem.{TInitItem}
use Rattle.sc_typed.specs.declared.stmt.TDeclarator.{TDeclarator}
use Rattle.sc_typed.specs.Arith.{wrapped}
use Rattle.sc_world.specs.Tree.{Ty, Tys, Void, Bool', Int, Ptr, Array, Struct, Union, Func, Opaque, NoTypes, Types, Exp, Comma, Assign, Cond, Binary, Cast, Unary, PreInc, PostInc, SizeofExpr, SizeofType, Index, Call, Field, Param, Local, Global, Function, Number, Str, Convert, Temp, TempPlace, Exps, NoExps, Exps', Given, Init, NoInit, One, Braces, Dec, Start, NoStart, Begin, Declare, Stm, Block, Decl, Evaluate, If, IfElse, While, Do, For, Switch, Case, Default, Goto, Break, Continue, Return, Label, Stms, NoStms, Stms'}
use Rattle.sc_world.specs.Source.{Member, Struct as StructOf}

-- Types (C11 6.2.5).

abbrev pub types : List Ty → Tys
types [] = NoTypes
types (t ∷ ts) = Types t (types ts)

abbrev pub func : Ty → Option (List Ty) → Bool → Ty
func t None variadic = Func t false NoTypes variadic
func t (Some ts) variadic = Func t true (types ts) variadic

abbrev pub type_step : CType-F Ty Ty → Ty
type_step CType-F.Void = Void
type_step CType-F.Bool = Bool'
type_step (CType-F.Int k) = Int k
type_step (CType-F.Ptr t) = Ptr t
type_step (CType-F.Array t n) = Array t n
type_step (CType-F.Struct n) = Struct n
type_step (CType-F.Union n) = Union n
type_step (CType-F.Func t) = t
type_step (CType-F.Opaque k) = Opaque k

abbrev pub signature_step : Signature-F Ty Ty → Ty
signature_step s = func s.result s.params s.variadic

abbrev pub type : CType → Ty
type = fold-CType Ty Ty type_step signature_step

-- Expressions (C11 6.5).

-- the operator of `+=` and its kin
abbrev pub operator : AssignOp → Option BinaryOp
operator assign.Set = None
operator assign.Mul = Some binary.Mul
operator assign.Div = Some binary.Div
operator assign.Rem = Some binary.Rem
operator assign.Add = Some binary.Add
operator assign.Sub = Some binary.Sub
operator assign.ShiftLeft = Some binary.ShiftLeft
operator assign.ShiftRight = Some binary.ShiftRight
operator assign.BitAnd = Some binary.BitAnd
operator assign.BitXor = Some binary.BitXor
operator assign.BitOr = Some binary.BitOr

abbrev pub exps : List Exp → Exps
exps [] = NoExps
exps (e ∷ es) = Exps' e (exps es)

-- the name of a member; the first name of the program for a member that is not there or has no name, which no
-- expression of a typed program accesses
abbrev pub name_or_first : Option NameId → NameId
name_or_first None = record { at = 0 }
name_or_first (Some n) = n

abbrev pub no_member : Member
no_member = record { name = None; type = Void }

abbrev pub no_struct : StructOf
no_struct = record { union = false; members = [] }

abbrev pub member_name : List StructOf → (number member : ℕ) → NameId
member_name structs s n =
    name_or_first (slice_index_or (slice_index_or structs s no_struct).members n no_member).name

-- an expression of that form, type and place
abbrev pub exp_step : List StructOf → What-F (Ty → Place → Exp) Exp → Ty → Place → Exp
exp_step structs (What-F.Comma a b) t p = Comma a b t
exp_step structs (What-F.Assign o works a b) t p = Assign (operator o) (type works) a b t
exp_step structs (What-F.Cond a b c) t p = Cond a b c t
exp_step structs (What-F.Binary o a b) t p = Binary o a b t
exp_step structs (What-F.Cast a) t p = Cast a t
exp_step structs (What-F.Unary o a) t p = Unary o a t
exp_step structs (What-F.PreInc s a) t p = PreInc s a t
exp_step structs (What-F.PostInc s a) t p = PostInc s a t
exp_step structs (What-F.SizeofExpr a n) t p = SizeofExpr a n t
exp_step structs (What-F.SizeofType n) t p = SizeofType n t
exp_step structs (What-F.Index a b) t p = Index a b t
exp_step structs (What-F.Call f es) t p = Call p f (exps es) t
exp_step structs (What-F.Field a s n arrow) t p = Field a (member_name structs s n) arrow t
exp_step structs (What-F.Param n) t p = Param n t
exp_step structs (What-F.Local n) t p = Local n t
exp_step structs (What-F.Global n) t p = Global n t
exp_step structs (What-F.Function n body) t p = Function n body t
exp_step structs (What-F.Int n) t p = Number n t
exp_step structs (What-F.Char c) t p = Number (wrapped 32 c) t
exp_step structs (What-F.Str n) t p = Str p t
exp_step structs (What-F.Convert a) t p = Convert a t
exp_step structs (What-F.Temp n) t p = Temp n t
exp_step structs (What-F.TempPlace n) t p = TempPlace n t

abbrev pub placed : TExpr-F (Ty → Place → Exp) Exp → Exp
placed e = e.what (type e.ctype) e.place

abbrev pub exp : List StructOf → TExpr → Exp
exp structs = fold-TExpr (Ty → Place → Exp) Exp (exp_step structs) placed

abbrev pub exp_if : List StructOf → Option TExpr → Option Exp
exp_if structs None = None
exp_if structs (Some e) = Some (exp structs e)

-- Declarations in bodies (C11 6.7).

abbrev pub given : List StructOf → TInitItem → Given
given structs x = record { value = exp structs x.value; way = x.way }

abbrev pub init_of : List StructOf → TInit → Init
init_of structs (init.One e) = One (exp structs e)
init_of structs (init.Braces xs) = Braces (map (given structs) xs)

abbrev pub init_if : List StructOf → Option TInit → Init
init_if structs None = NoInit
init_if structs (Some x) = init_of structs x

abbrev pub dec : List StructOf → TDeclarator → Dec
dec structs d = record { declared = d.declared; init = init_if structs d.init }

abbrev pub start_of : List StructOf → TForStart → Start
start_of structs start.Nothing = NoStart
start_of structs (start.Expr e) = Begin (exp structs e)
start_of structs (start.Decl ds p) = Declare (map (dec structs) ds)

-- Statements (C11 6.8).

abbrev pub stms : List Stm → Stms
stms [] = NoStms
stms (s ∷ ss) = Stms' s (stms ss)

abbrev pub stm_step : List StructOf → TStmt-F Stm → Stm
stm_step structs (TStmt-F.Block xs begin end) = Block (stms xs) end
stm_step structs (TStmt-F.Decl ds p) = Decl (map (dec structs) ds)
stm_step structs (TStmt-F.Expr e p) = Evaluate (exp_if structs e)
stm_step structs (TStmt-F.If e x None p) = If p (exp structs e) x
stm_step structs (TStmt-F.If e x (Some y) p) = IfElse p (exp structs e) x y
stm_step structs (TStmt-F.While e x p) = While p (exp structs e) x
stm_step structs (TStmt-F.Do x e p) = Do p x (exp structs e)
stm_step structs (TStmt-F.For f c n x p) = For p (start_of structs f) (exp_if structs c) (exp_if structs n) x
stm_step structs (TStmt-F.Switch e xs p end) = Switch p (exp structs e) (stms xs)
stm_step structs (TStmt-F.Case n e p) = Case n (exp structs e)
stm_step structs (TStmt-F.Default p) = Default
stm_step structs (TStmt-F.Goto n p) = Goto p n
stm_step structs (TStmt-F.Break p) = Break
stm_step structs (TStmt-F.Continue p) = Continue
stm_step structs (TStmt-F.Return e p) = Return p (exp_if structs e)
stm_step structs (TStmt-F.Label n x p) = Label n x

abbrev pub stm : List StructOf → TStmt → Stm
stm structs = fold-TStmt Stm (stm_step structs)
