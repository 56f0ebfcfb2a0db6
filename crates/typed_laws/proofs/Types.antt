-- Types as typing has them and as runs have them: they are of the same sorts.
use Rattle.std.proofs.Common.{◌≡◌, ℕ, Bool, true, false, ◌&&◌, ◌||◌, List, [], ◌∷◌, map, refl, sym, ap, subst, ◌∙◌}
use Rattle.std.specs.Prelude.{Option, Some, None}
use Rattle.sc_tree.specs.declared.ctype.CType.{CType, CType-F, out-CType, roll-CType}
use Rattle.sc_tree.specs.declared.ctype.CType.TheVariants as ty
use Rattle.sc_tree.specs.declared.ctype.CType.TheFolds as folds
use Rattle.sc_tree.specs.declared.ctype.Signature.{Signature, Signature-F, out-Signature}
use Rattle.sc_tree.specs.declared.ctype.IntKind.{IntKind}
use Rattle.sc_typed.specs.Types as typed
use Rattle.sc_world.specs.Tree as tree
use Rattle.sc_world.specs.Tree.{Ty, Void, Int, Ptr, Array, Struct, Func}
use Rattle.sc_world.specs.View.{type, type_step, signature_step, func}
use Rattle.run_laws.specs.Fits as fits

-- a signature, as runs have it
abbrev pub of_signature : Signature → Ty
of_signature = folds.fold-Signature Ty Ty type_step signature_step

abbrev pub seen : CType-F CType Signature → Ty
seen f = type_step (folds.map-CType CType Signature Ty Ty type of_signature f)

pub type_out : (t : CType) → type t ≡ seen (out-CType t)
type_out t = folds.fold_out-CType Ty Ty type_step signature_step t

pub type_roll : (f : CType-F CType Signature) → type (roll-CType f) ≡ seen f
type_roll f = folds.fold-roll-CType Ty Ty type_step signature_step f

pub signature_out : (x : Signature) → of_signature x ≡ signature_step (folds.map-Signature CType Signature Ty Ty type of_signature (out-Signature x))
signature_out x = folds.fold_out-Signature Ty Ty type_step signature_step x

-- Sorts.

-- a function, whatever its parameters
func_is : (P : Ty → Bool) (b : Bool) → ((r : Ty) (known : Bool) (ts : tree.Tys) (v : Bool) → P (Func r known ts v) ≡ b) → (r : Ty) (ts : Option (List Ty)) (v : Bool) → P (func r ts v) ≡ b
func_is P b h r None v = h r false tree.NoTypes v
func_is P b h r (Some ts) v = h r true _ v

func_seen : (P : Ty → Bool) (b : Bool) → ((r : Ty) (known : Bool) (ts : tree.Tys) (v : Bool) → P (Func r known ts v) ≡ b) → (x : Signature) → P (of_signature x) ≡ b
func_seen P b h x = ap P (signature_out x) ∙ func_is P b h _ _ _

integer_layer : (f : CType-F CType Signature) → tree.is_integer (seen f) ≡ typed.is_integer_layer f
integer_layer CType-F.Void = refl
integer_layer CType-F.Bool = refl
integer_layer (CType-F.Int k) = refl
integer_layer (CType-F.Ptr t) = refl
integer_layer (CType-F.Array t n) = refl
integer_layer (CType-F.Struct n) = refl
integer_layer (CType-F.Union n) = refl
integer_layer (CType-F.Func x) = func_seen tree.is_integer false (λ r known ts v. refl) x
integer_layer (CType-F.Opaque k) = refl

pub integer_seen : (t : CType) → tree.is_integer (type t) ≡ typed.is_integer t
integer_seen t = ap tree.is_integer (type_out t) ∙ integer_layer (out-CType t)

pointer_layer : (f : CType-F CType Signature) → tree.is_pointer (seen f) ≡ typed.is_pointer_layer f
pointer_layer CType-F.Void = refl
pointer_layer CType-F.Bool = refl
pointer_layer (CType-F.Int k) = refl
pointer_layer (CType-F.Ptr t) = refl
pointer_layer (CType-F.Array t n) = refl
pointer_layer (CType-F.Struct n) = refl
pointer_layer (CType-F.Union n) = refl
pointer_layer (CType-F.Func x) = func_seen tree.is_pointer false (λ r known ts v. refl) x
pointer_layer (CType-F.Opaque k) = refl

pub pointer_seen : (t : CType) → tree.is_pointer (type t) ≡ typed.is_pointer t
pointer_seen t = ap tree.is_pointer (type_out t) ∙ pointer_layer (out-CType t)

array_layer : (f : CType-F CType Signature) → tree.is_array (seen f) ≡ typed.is_array_layer f
array_layer CType-F.Void = refl
array_layer CType-F.Bool = refl
array_layer (CType-F.Int k) = refl
array_layer (CType-F.Ptr t) = refl
array_layer (CType-F.Array t n) = refl
array_layer (CType-F.Struct n) = refl
array_layer (CType-F.Union n) = refl
array_layer (CType-F.Func x) = func_seen tree.is_array false (λ r known ts v. refl) x
array_layer (CType-F.Opaque k) = refl

pub array_seen : (t : CType) → tree.is_array (type t) ≡ typed.is_array t
array_seen t = ap tree.is_array (type_out t) ∙ array_layer (out-CType t)

void_layer : (f : CType-F CType Signature) → tree.is_void (seen f) ≡ typed.is_void_layer f
void_layer CType-F.Void = refl
void_layer CType-F.Bool = refl
void_layer (CType-F.Int k) = refl
void_layer (CType-F.Ptr t) = refl
void_layer (CType-F.Array t n) = refl
void_layer (CType-F.Struct n) = refl
void_layer (CType-F.Union n) = refl
void_layer (CType-F.Func x) = func_seen tree.is_void false (λ r known ts v. refl) x
void_layer (CType-F.Opaque k) = refl

pub void_seen : (t : CType) → tree.is_void (type t) ≡ typed.is_void t
void_seen t = ap tree.is_void (type_out t) ∙ void_layer (out-CType t)

bool_layer : (f : CType-F CType Signature) → tree.is_bool (seen f) ≡ typed.is_bool_layer f
bool_layer CType-F.Void = refl
bool_layer CType-F.Bool = refl
bool_layer (CType-F.Int k) = refl
bool_layer (CType-F.Ptr t) = refl
bool_layer (CType-F.Array t n) = refl
bool_layer (CType-F.Struct n) = refl
bool_layer (CType-F.Union n) = refl
bool_layer (CType-F.Func x) = func_seen tree.is_bool false (λ r known ts v. refl) x
bool_layer (CType-F.Opaque k) = refl

pub bool_seen : (t : CType) → tree.is_bool (type t) ≡ typed.is_bool t
bool_seen t = ap tree.is_bool (type_out t) ∙ bool_layer (out-CType t)

function_layer : (f : CType-F CType Signature) → fits.is_function (seen f) ≡ typed.is_function_layer f
function_layer CType-F.Void = refl
function_layer CType-F.Bool = refl
function_layer (CType-F.Int k) = refl
function_layer (CType-F.Ptr t) = refl
function_layer (CType-F.Array t n) = refl
function_layer (CType-F.Struct n) = refl
function_layer (CType-F.Union n) = refl
function_layer (CType-F.Func x) = func_seen fits.is_function true (λ r known ts v. refl) x
function_layer (CType-F.Opaque k) = refl

pub function_seen : (t : CType) → fits.is_function (type t) ≡ typed.is_function t
function_seen t = ap fits.is_function (type_out t) ∙ function_layer (out-CType t)

either_same : (a b c d : Bool) → a ≡ c → b ≡ d → (a || b) ≡ (c || d)
either_same a b c d e f = ap (λ x. x || b) e ∙ ap (λ y. c || y) f

pub scalar_seen : (t : CType) → fits.is_scalar (type t) ≡ typed.is_scalar t
scalar_seen t = either_same (tree.is_integer (type t)) (tree.is_pointer (type t)) (typed.is_integer t) (typed.is_pointer t) (integer_seen t) (pointer_seen t)

-- Types that are built.

pub type_pointer : (t : CType) → type (ty.Ptr t) ≡ Ptr (type t)
type_pointer t = ap type (sym (ty.rolls-Ptr t)) ∙ type_roll (CType-F.Ptr t)

pub type_int : (k : IntKind) → type (ty.Int k) ≡ Int k
type_int k = ap type (sym (ty.rolls-Int k)) ∙ type_roll (CType-F.Int k)

pub type_void : type ty.Void ≡ Void
type_void = ap type (sym ty.rolls-Void) ∙ type_roll CType-F.Void

pub type_array : (t : CType) (n : Option ℕ) → type (ty.Array t n) ≡ Array (type t) n
type_array t n = ap type (sym (ty.rolls-Array t n)) ∙ type_roll (CType-F.Array t n)
