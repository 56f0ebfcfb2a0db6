-- An easy expression is one node; and how many arguments a call has.
use Rattle.std.proofs.Common.{◌≡◌, ℕ, Bool, true, false, suc, List, [], ◌∷◌, length, refl, ap, ◌∙◌}
use Rattle.std.specs.Prelude.{if◌then◌else◌, Option, Some, None}
use Rattle.std.proofs.lemmas.Bool.{false≢true}
use Rattle.sc_typed.specs.declared.expr.TExpr.{TExpr}
use Rattle.sc_world.specs.Tree.{Exp, Comma, Assign, Cond, Binary, Cast, Unary, PreInc, PostInc, SizeofExpr, SizeofType, Index, Call, Field, Param, Local, Global, Function, Number, Str, Convert, Temp, TempPlace, Ty, type_of, is_array}
use Rattle.sc_world.specs.Eval.{Value, Place', is_logical}
use Rattle.sc_tree.specs.declared.op.BinaryOp.{BinaryOp}
use Rattle.sc_tree.specs.declared.op.UnaryOp.{UnaryOp}
use Rattle.sc_tree.specs.declared.op.UnaryOp.TheVariants as sign
use Rattle.sc_flow.specs.Steps as steps
use Rattle.sc_world.specs.Source.{Struct}
use Rattle.sc_gather.specs.Seen.{arguments_of}
use Rattle.flow_graph.specs.Growing.{Growing, ◌>>=◌}
use Rattle.flow_graph.specs.Expressions.{easy, unroll, kept, Aim, Into, Part, plainly, comma, count, one, two, logical, assigning, binary, converted, unary, indexed, is_scalar}

plain : (e : Exp) (hard : Part) (aim : Aim) (g : Growing) → easy e ≡ true → plainly e hard aim g ≡ kept e aim g
plain e hard aim g h = ap (λ b. (if b then kept e aim else hard aim) g) h

pub easy_is_kept : (e : Exp) (turn : ℕ) (aim : Aim) (g : Growing) → easy e ≡ true → unroll e turn aim g ≡ kept e aim g
easy_is_kept (Comma a b t) turn aim g h = plain (Comma a b t) (comma (unroll a turn) (unroll b turn)) aim g h
easy_is_kept (Assign o w a b t) turn aim g h = plain (Assign o w a b t) (assigning o w a b t (unroll a turn) (unroll b turn)) aim g h
easy_is_kept (Cond a b c t) turn aim g h = absurd (false≢true h)
easy_is_kept (Binary o a b t) turn aim g h = plain (Binary o a b t) (binary o a b t (unroll a turn) (unroll b turn)) aim g h
easy_is_kept (Cast a t) turn aim g h = plain (Cast a t) (converted a (λ x. Cast x t) (unroll a turn)) aim g h
easy_is_kept (Unary o a t) turn aim g h = plain (Unary o a t) (unary o a t (unroll a turn)) aim g h
easy_is_kept (PreInc s a t) turn aim g h = plain (PreInc s a t) (one Place' (unroll a turn) (λ x. PreInc s (TempPlace x (type_of a)) t)) aim g h
easy_is_kept (PostInc s a t) turn aim g h = plain (PostInc s a t) (one Place' (unroll a turn) (λ x. PostInc s (TempPlace x (type_of a)) t)) aim g h
easy_is_kept (SizeofExpr a n t) turn aim g h = plain (SizeofExpr a n t) (kept (SizeofType n t)) aim g h
easy_is_kept (SizeofType n t) turn aim g h = refl
easy_is_kept (Index a b t) turn aim g h = plain (Index a b t) (indexed a b t (unroll a turn) (unroll b turn)) aim g h
easy_is_kept (Call p f es t) turn aim g h = absurd (false≢true h)
easy_is_kept (Field a n true t) turn aim g h = plain (Field a n true t) (one Value (unroll a turn) (λ x. Field (Temp x (type_of a)) n true t)) aim g h
easy_is_kept (Field a n false t) turn aim g h = plain (Field a n false t) (one Place' (unroll a turn) (λ x. Field (TempPlace x (type_of a)) n false t)) aim g h
easy_is_kept (Param n t) turn aim g h = refl
easy_is_kept (Local n t) turn aim g h = refl
easy_is_kept (Global n t) turn aim g h = refl
easy_is_kept (Function n b t) turn aim g h = refl
easy_is_kept (Number n t) turn aim g h = refl
easy_is_kept (Str p t) turn aim g h = refl
easy_is_kept (Convert a t) turn aim g h = plain (Convert a t) (converted a (λ x. Convert x t) (unroll a turn)) aim g h
easy_is_kept (Temp n t) turn aim g h = absurd (false≢true h)
easy_is_kept (TempPlace n t) turn aim g h = absurd (false≢true h)

pub count_is : (structs : List Struct) (es : List TExpr) → count (arguments_of structs es) ≡ length es
count_is structs [] = refl
count_is structs (e ∷ es) = ap suc (count_is structs es)

skip : (e : Exp) (m : Part) (aim : Aim) (g : Growing) → easy e ≡ false → plainly e m aim g ≡ m aim g
skip e m aim g h = ap (λ b. (if b then kept e aim else m aim) g) h

assign_is : (c : Bool) (works : Ty) (a b : Exp) (t : Ty) (l r : Part) (aim : Aim) (g : Growing)
    → (if c then two Place' l Value r (λ x y. Assign None works (TempPlace x (type_of a)) (Temp y (type_of b)) t)
    else two Place' l Place' r (λ x y. Assign None works (TempPlace x (type_of a)) (TempPlace y (type_of b)) t)) aim g
    ≡ (steps.two (λ x y. Assign None works (TempPlace x (type_of a)) (if c then Temp y (type_of b) else TempPlace y (type_of b)) t) aim
    >>= λ s. r (Into (if c then Value else Place') s.right s.next) >>= λ second. l (Into Place' s.left second)) g
assign_is true works a b t l r aim g = refl
assign_is false works a b t l r aim g = refl

assigning_is : (o : Option BinaryOp) (works : Ty) (a b : Exp) (t : Ty) (l r : Part) (aim : Aim) (g : Growing)
    → assigning o works a b t l r aim g ≡ steps.assign_hard o works a b t l r aim g
assigning_is None works a b t l r aim g = assign_is (is_scalar t) works a b t l r aim g
assigning_is (Some o) works a b t l r aim g = refl

binary_is : (c : Bool) (o : BinaryOp) (a b : Exp) (t : Ty) (l r : Part) (aim : Aim) (g : Growing)
    → (if c then logical o t l r else two Value l Value r (λ x y. Binary o (Temp x (type_of a)) (Temp y (type_of b)) t)) aim g
    ≡ (if c then logical o t l r else steps.with_two (Binary o a b t) Value l Value r) aim g
binary_is true o a b t l r aim g = refl
binary_is false o a b t l r aim g = refl

cast_is : (c : Bool) (a : Exp) (whole : Exp → Exp) (l : Part) (aim : Aim) (g : Growing)
    → (if c then one Place' l (λ x. whole (TempPlace x (type_of a))) else one Value l (λ x. whole (Temp x (type_of a)))) aim g
    ≡ (steps.one (λ x. whole (if c then TempPlace x (type_of a) else Temp x (type_of a))) aim
    >>= λ s. l (Into (if c then Place' else Value) s.operand s.next)) g
cast_is true a whole l aim g = refl
cast_is false a whole l aim g = refl

index_is : (c : Bool) (a b : Exp) (t : Ty) (l r : Part) (aim : Aim) (g : Growing)
    → (if c then two Place' l Value r (λ x y. Index (TempPlace x (type_of a)) (Temp y (type_of b)) t)
    else two Value l Value r (λ x y. Index (Temp x (type_of a)) (Temp y (type_of b)) t)) aim g
    ≡ (steps.two (λ x y. Index (if c then TempPlace x (type_of a) else Temp x (type_of a)) (Temp y (type_of b)) t) aim
    >>= λ s. r (Into Value s.right s.next) >>= λ second. l (Into (if c then Place' else Value) s.left second)) g
index_is true a b t l r aim g = refl
index_is false a b t l r aim g = refl

unary_is : (o : UnaryOp) (a : Exp) (t : Ty) (l : Part) (aim : Aim) (g : Growing)
    → unary o a t l aim g ≡ steps.unary_hard o a t l aim g
unary_is sign.Address a t l aim g = refl
unary_is sign.Deref a t l aim g = refl
unary_is sign.Plus a t l aim g = refl
unary_is sign.Minus a t l aim g = refl
unary_is sign.Complement a t l aim g = refl
unary_is sign.Not a t l aim g = refl

pub hard_is : (e : Exp) (turn : ℕ) (aim : Aim) (g : Growing) → easy e ≡ false → unroll e turn aim g ≡ steps.hard e turn aim g
hard_is (Comma a b t) turn aim g h = skip (Comma a b t) (comma (unroll a turn) (unroll b turn)) aim g h
hard_is (Assign o w a b t) turn aim g h =
    skip (Assign o w a b t) (assigning o w a b t (unroll a turn) (unroll b turn)) aim g h
    ∙ assigning_is o w a b t (unroll a turn) (unroll b turn) aim g
hard_is (Cond a b c t) turn aim g h = refl
hard_is (Binary o a b t) turn aim g h =
    skip (Binary o a b t) (binary o a b t (unroll a turn) (unroll b turn)) aim g h
    ∙ binary_is (is_logical o) o a b t (unroll a turn) (unroll b turn) aim g
hard_is (Cast a t) turn aim g h =
    skip (Cast a t) (converted a (λ x. Cast x t) (unroll a turn)) aim g h
    ∙ cast_is (is_array (type_of a)) a (λ x. Cast x t) (unroll a turn) aim g
hard_is (Unary o a t) turn aim g h =
    skip (Unary o a t) (unary o a t (unroll a turn)) aim g h ∙ unary_is o a t (unroll a turn) aim g
hard_is (PreInc s a t) turn aim g h = skip (PreInc s a t) (one Place' (unroll a turn) (λ x. PreInc s (TempPlace x (type_of a)) t)) aim g h
hard_is (PostInc s a t) turn aim g h = skip (PostInc s a t) (one Place' (unroll a turn) (λ x. PostInc s (TempPlace x (type_of a)) t)) aim g h
hard_is (SizeofExpr a n t) turn aim g h = skip (SizeofExpr a n t) (kept (SizeofType n t)) aim g h
hard_is (SizeofType n t) turn aim g h = refl
hard_is (Index a b t) turn aim g h =
    skip (Index a b t) (indexed a b t (unroll a turn) (unroll b turn)) aim g h
    ∙ index_is (is_array (type_of a)) a b t (unroll a turn) (unroll b turn) aim g
hard_is (Call p f es t) turn aim g h = refl
hard_is (Field a n true t) turn aim g h = skip (Field a n true t) (one Value (unroll a turn) (λ x. Field (Temp x (type_of a)) n true t)) aim g h
hard_is (Field a n false t) turn aim g h = skip (Field a n false t) (one Place' (unroll a turn) (λ x. Field (TempPlace x (type_of a)) n false t)) aim g h
hard_is (Param n t) turn aim g h = refl
hard_is (Local n t) turn aim g h = refl
hard_is (Global n t) turn aim g h = refl
hard_is (Function n b t) turn aim g h = refl
hard_is (Number n t) turn aim g h = refl
hard_is (Str p t) turn aim g h = refl
hard_is (Convert a t) turn aim g h =
    skip (Convert a t) (converted a (λ x. Convert x t) (unroll a turn)) aim g h
    ∙ cast_is (is_array (type_of a)) a (λ x. Convert x t) (unroll a turn) aim g
hard_is (Temp n t) turn aim g h = refl
hard_is (TempPlace n t) turn aim g h = refl
