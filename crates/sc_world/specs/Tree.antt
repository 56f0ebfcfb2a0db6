-- Typed programs as plain data, on which definitions match: types, expressions and statements. Each expression
-- ends with its type.
use Rattle.std.specs.Prelude.{ℕ, ◌*◌, nat_eq, Bool, true, false, not, ◌&&◌, ◌||◌, Option, Some, None, List, [], ◌∷◌, ℤ, map, if◌then◌else◌}
use Rattle.sc_base.specs.declared.pos.Pos.{Pos}
use Rattle.sc_base.specs.declared.pos.NameId.{NameId}
use Rattle.sc_tree.specs.declared.op.BinaryOp.{BinaryOp}
use Rattle.sc_tree.specs.declared.op.UnaryOp.{UnaryOp}
use Rattle.sc_tree.specs.declared.op.AssignOp.{AssignOp}
use Rattle.sc_tree.specs.declared.op.Step.{Step}
use Rattle.sc_tree.specs.declared.ctype.IntKind.{IntKind}
use Rattle.sc_tree.specs.declared.ctype.IntKind.TheVariants as kind
use Rattle.sc_tree.specs.declared.ctype.OpaqueKind.{OpaqueKind}
use Rattle.sc_tree.specs.declared.ctype.Widths.{Widths}
use Rattle.sc_tree.specs.declared.expr.Place.{Place}
use Rattle.sc_typed.specs.declared.stmt.Declared.{Declared}
use Rattle.sc_typed.specs.declared.stmt.InitStep.{InitStep}
use Rattle.sc_typed.specs.Kinds.{same_kind, is_signed, kind_bits, word_bytes, promoted}
use Rattle.sc_typed.specs.Types.{same_length, same_opaque, same_flag}

mutual
  -- Types (C11 6.2.5). The parameters of a function are not known where its brackets are empty.
  pub data Ty : Type 0 where
    Void : Ty
    Bool' : Ty
    Int : IntKind → Ty
    Ptr : Ty → Ty
    Array : Ty → (length : Option ℕ) → Ty
    Struct : ℕ → Ty
    Union : ℕ → Ty
    Func : (result : Ty) → (known : Bool) → Tys → (variadic : Bool) → Ty
    Opaque : OpaqueKind → Ty

  pub data Tys : Type 0 where
    NoTypes : Tys
    Types : Ty → Tys → Tys

abbrev mutual
  -- whether two types are one
  pub same_type : Ty → Ty → Bool
  same_type Void Void = true
  same_type Bool' Bool' = true
  same_type (Int k) (Int l) = same_kind k l
  same_type (Ptr t) (Ptr u) = same_type t u
  same_type (Array t n) (Array u m) = same_type t u && same_length n m
  same_type (Struct m) (Struct n) = nat_eq m n
  same_type (Union m) (Union n) = nat_eq m n
  same_type (Func t k ts v) (Func u l us w) = same_type t u && (same_flag k l && (same_types ts us && same_flag v w))
  same_type (Opaque k) (Opaque l) = same_opaque k l
  same_type _ _ = false

  pub same_types : Tys → Tys → Bool
  same_types NoTypes NoTypes = true
  same_types (Types t ts) (Types u us) = same_type t u && same_types ts us
  same_types _ _ = false

abbrev pub is_integer : Ty → Bool
is_integer Bool' = true
is_integer (Int k) = true
is_integer _ = false

abbrev pub is_pointer : Ty → Bool
is_pointer (Ptr t) = true
is_pointer _ = false

abbrev pub is_array : Ty → Bool
is_array (Array t n) = true
is_array _ = false

abbrev pub is_void : Ty → Bool
is_void Void = true
is_void _ = false

abbrev pub is_bool : Ty → Bool
is_bool Bool' = true
is_bool _ = false

-- what a pointer points to
abbrev pub target : Ty → Option Ty
target (Ptr t) = Some t
target _ = None

abbrev pub target_or_void : Ty → Ty
target_or_void (Ptr t) = t
target_or_void _ = Void

-- the bits of a value of an integer type; 0 of any other type
abbrev pub int_bits : Widths → Ty → ℕ
int_bits w Bool' = 1
int_bits w (Int k) = kind_bits w k
int_bits w _ = 0

-- whether its values have a sign
abbrev pub has_sign : Ty → Bool
has_sign (Int k) = is_signed k
has_sign _ = false

-- the type in which `++` counts
abbrev pub promoted_type : Ty → Ty
promoted_type (Int k) = Int (promoted k)
promoted_type t = Int kind.Int

mutual
  -- Expressions (C11 6.5), each with its type at the end.
  pub data Exp : Type 0 where
    Comma : Exp → Exp → Ty → Exp
    -- with the operator of `+=` and its kin, none for `=`, and the type in which it works
    Assign : Option BinaryOp → (works : Ty) → Exp → Exp → Ty → Exp
    Cond : Exp → Exp → Exp → Ty → Exp
    Binary : BinaryOp → Exp → Exp → Ty → Exp
    Cast : Exp → Ty → Exp
    Unary : UnaryOp → Exp → Ty → Exp
    PreInc : Step → Exp → Ty → Exp
    PostInc : Step → Exp → Ty → Exp
    SizeofExpr : Exp → ℕ → Ty → Exp
    SizeofType : ℕ → Ty → Exp
    Index : Exp → Exp → Ty → Exp
    Call : Place → Exp → Exps → Ty → Exp
    Field : Exp → NameId → (arrow : Bool) → Ty → Exp
    Param : ℕ → Ty → Exp
    Local : ℕ → Ty → Exp
    Global : ℕ → Ty → Exp
    Function : NameId → (body : Option ℕ) → Ty → Exp
    Number : ℕ → Ty → Exp
    Str : Place → Ty → Exp
    Convert : Exp → Ty → Exp
    Temp : ℕ → Ty → Exp
    TempPlace : ℕ → Ty → Exp

  pub data Exps : Type 0 where
    NoExps : Exps
    Exps' : Exp → Exps → Exps

abbrev pub type_of : Exp → Ty
type_of (Comma a b t) = t
type_of (Assign o w a b t) = t
type_of (Cond a b c t) = t
type_of (Binary o a b t) = t
type_of (Cast a t) = t
type_of (Unary o a t) = t
type_of (PreInc s a t) = t
type_of (PostInc s a t) = t
type_of (SizeofExpr a n t) = t
type_of (SizeofType n t) = t
type_of (Index a b t) = t
type_of (Call p f es t) = t
type_of (Field a n arrow t) = t
type_of (Param n t) = t
type_of (Local n t) = t
type_of (Global n t) = t
type_of (Function n b t) = t
type_of (Number n t) = t
type_of (Str p t) = t
type_of (Convert a t) = t
type_of (Temp n t) = t
type_of (TempPlace n t) = t

-- An initialiser: one value, or values in braces, each with the way to the part that it sets.
pub record Given : Type 0 where
  pub value : Exp
  pub way : Option (List InitStep)

pub data Init : Type 0 where
  NoInit : Init
  One : Exp → Init
  Braces : List Given → Init

-- a declarator in a body: what it declares, and its initialiser
pub record Dec : Type 0 where
  pub declared : Declared
  pub init : Init

pub data Start : Type 0 where
  NoStart : Start
  Begin : Exp → Start
  Declare : List Dec → Start

mutual
  -- Statements (C11 6.8), with the places that events name.
  pub data Stm : Type 0 where
    Block : Stms → (end : Pos) → Stm
    Decl : List Dec → Stm
    Evaluate : Option Exp → Stm
    If : Pos → Exp → Stm → Stm
    IfElse : Pos → Exp → Stm → Stm → Stm
    While : Pos → Exp → Stm → Stm
    Do : Pos → Stm → Exp → Stm
    For : Pos → Start → Option Exp → Option Exp → Stm → Stm
    Switch : Pos → Exp → Stms → Stm
    Case : ℕ → Exp → Stm
    Default : Stm
    Goto : Pos → NameId → Stm
    Break : Stm
    Continue : Stm
    Return : Pos → Option Exp → Stm
    Label : NameId → Stm → Stm

  pub data Stms : Type 0 where
    NoStms : Stms
    Stms' : Stm → Stms → Stms
