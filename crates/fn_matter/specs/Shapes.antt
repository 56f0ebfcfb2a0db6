-- Types, expressions and statements as trees of numbers. Each form has its kind; the numbers of a node begin with its
-- places, and its first part is its type where it has one.
use Rattle.std.specs.Prelude.{ℕ, ℤ, pos as positive, negsuc, Bool, Option, Some, None, List, [], ◌∷◌, ◌++◌, map}
use Rattle.sc_tree.specs.declared.ctype.CType.{CType, CType-F}
use Rattle.sc_tree.specs.declared.ctype.CType.TheFolds.{fold-CType, fold-Signature}
use Rattle.sc_tree.specs.declared.ctype.Signature.{Signature, Signature-F}
use Rattle.sc_tree.specs.declared.expr.Place.{Place}
use Rattle.sc_typed.specs.declared.expr.TExpr.{TExpr, TExpr-F}
use Rattle.sc_typed.specs.declared.expr.What.{What-F}
use Rattle.sc_typed.specs.declared.expr.What.TheFolds.{fold-TExpr}
use Rattle.sc_typed.specs.declared.stmt.TStmt.{TStmt, TStmt-F}
use Rattle.sc_typed.specs.declared.stmt.TStmt.TheFolds.{fold-TStmt}
use Rattle.sc_typed.specs.declared.stmt.TForStart.{TForStart}
use Rattle.sc_typed.specs.declared.stmt.TForStart.TheVariants as start
use Rattle.sc_typed.specs.declared.stmt.TInit.{TInit}
use Rattle.sc_typed.specs.declared.stmt.TInit.TheVariants as init
use Rattle.sc_typed.specs.declared.stmt.TInitItem.{TInitItem}
use Rattle.sc_typed.specs.declared.stmt.TDeclarator.{TDeclarator}
use Rattle.sc_typed.specs.declared.stmt.InitStep.{InitStep}
use Rattle.fn_matter.specs.Words.{Tree, Trees, node, none, more, trees, leaf}
use Rattle.fn_matter.specs.Numbers.{binary_number, unary_number, assign_number, step_number, int_number, opaque_number, flag, optional, pos, place, declared_numbers, way_numbers}

-- Types (C11 6.2.5).

abbrev pub type_shape : CType-F Tree Tree → Tree
type_shape CType-F.Void = leaf 0 []
type_shape CType-F.Bool = leaf 1 []
type_shape (CType-F.Int k) = leaf 2 (int_number k ∷ [])
type_shape (CType-F.Ptr t) = node 3 [] (more t none)
type_shape (CType-F.Array t n) = node 4 (optional n) (more t none)
type_shape (CType-F.Struct n) = leaf 5 (n ∷ [])
type_shape (CType-F.Union n) = leaf 6 (n ∷ [])
type_shape (CType-F.Func s) = node 7 [] (more s none)
type_shape (CType-F.Opaque k) = leaf 8 (opaque_number k ∷ [])

-- empty brackets say nothing of the parameters
abbrev pub params_shape : Bool → Tree → Option (List Tree) → Tree
params_shape variadic t None = node 0 (flag variadic ∷ []) (more t none)
params_shape variadic t (Some ts) = node 1 (flag variadic ∷ []) (more t (trees ts))

abbrev pub signature_shape : Signature-F Tree Tree → Tree
signature_shape s = params_shape s.variadic s.result s.params

abbrev pub type_tree : CType → Tree
type_tree = fold-CType Tree Tree type_shape signature_shape

abbrev pub signature_tree : Signature → Tree
signature_tree = fold-Signature Tree Tree type_shape signature_shape

-- Expressions (C11 6.5).

-- a number with its sign: whether it is negative, and how far it is from 0 or from -1
abbrev pub signed : ℤ → List ℕ
signed (positive n) = 0 ∷ n ∷ []
signed (negsuc n) = 1 ∷ n ∷ []

abbrev pub form : ℕ → List ℕ → CType → Place → Trees → Tree
form k ns t p ts = node k (place p ++ ns) (more (type_tree t) ts)

abbrev pub what_shape : What-F (CType → Place → Tree) Tree → CType → Place → Tree
what_shape (What-F.Comma a b) t p = form 0 [] t p (more a (more b none))
what_shape (What-F.Assign o works a b) t p = form 1 (assign_number o ∷ []) t p (more a (more b (more (type_tree works) none)))
what_shape (What-F.Cond a b c) t p = form 2 [] t p (more a (more b (more c none)))
what_shape (What-F.Binary o a b) t p = form 3 (binary_number o ∷ []) t p (more a (more b none))
what_shape (What-F.Cast a) t p = form 4 [] t p (more a none)
what_shape (What-F.Unary o a) t p = form 5 (unary_number o ∷ []) t p (more a none)
what_shape (What-F.PreInc s a) t p = form 6 (step_number s ∷ []) t p (more a none)
what_shape (What-F.PostInc s a) t p = form 7 (step_number s ∷ []) t p (more a none)
what_shape (What-F.SizeofExpr a n) t p = form 8 (n ∷ []) t p (more a none)
what_shape (What-F.SizeofType n) t p = form 9 (n ∷ []) t p none
what_shape (What-F.Index a b) t p = form 10 [] t p (more a (more b none))
what_shape (What-F.Call f es) t p = form 11 [] t p (more f (trees es))
what_shape (What-F.Field a s n arrow) t p = form 12 (s ∷ n ∷ flag arrow ∷ []) t p (more a none)
what_shape (What-F.Param n) t p = form 13 (n ∷ []) t p none
what_shape (What-F.Local n) t p = form 14 (n ∷ []) t p none
what_shape (What-F.Global n) t p = form 15 (n ∷ []) t p none
what_shape (What-F.Function n body) t p = form 16 (n.at ∷ optional body) t p none
what_shape (What-F.Int n) t p = form 17 (n ∷ []) t p none
what_shape (What-F.Char c) t p = form 18 (signed c) t p none
what_shape (What-F.Str n) t p = form 19 (n ∷ []) t p none
what_shape (What-F.Convert a) t p = form 20 [] t p (more a none)
what_shape (What-F.Temp n) t p = form 21 (n ∷ []) t p none
what_shape (What-F.TempPlace n) t p = form 22 (n ∷ []) t p none

abbrev pub exp_shape : TExpr-F (CType → Place → Tree) Tree → Tree
exp_shape e = e.what e.ctype e.place

abbrev pub exp_tree : TExpr → Tree
exp_tree = fold-TExpr (CType → Place → Tree) Tree what_shape exp_shape

abbrev pub exp_if : Option TExpr → Trees
exp_if None = none
exp_if (Some e) = more (exp_tree e) none

-- Declarations in bodies (C11 6.7).

abbrev pub way_tree : Option (List InitStep) → Tree → Tree
way_tree None e = node 0 [] (more e none)
way_tree (Some steps) e = node 1 (way_numbers steps) (more e none)

abbrev pub item_tree : TInitItem → Tree
item_tree x = way_tree x.way (exp_tree x.value)

abbrev pub init_tree : TInit → Tree
init_tree (init.One e) = node 0 [] (more (exp_tree e) none)
init_tree (init.Braces xs) = node 1 [] (trees (map item_tree xs))

abbrev pub init_if : Option TInit → Trees
init_if None = none
init_if (Some x) = more (init_tree x) none

abbrev pub declarator_tree : TDeclarator → Tree
declarator_tree d = node 0 (d.name.at ∷ (pos d.pos ++ declared_numbers d.declared)) (init_if d.init)

abbrev pub start_tree : TForStart → Tree
start_tree start.Nothing = leaf 0 []
start_tree (start.Expr e) = node 1 [] (more (exp_tree e) none)
start_tree (start.Decl ds p) = node 2 (pos p) (trees (map declarator_tree ds))

-- what may be left out, as one node
abbrev pub maybe_exp : Option TExpr → Tree
maybe_exp e = node 0 [] (exp_if e)

-- Statements (C11 6.8).

abbrev pub stm_shape : TStmt-F Tree → Tree
stm_shape (TStmt-F.Block xs begin end) = node 0 (pos begin ++ pos end) (trees xs)
stm_shape (TStmt-F.Decl ds p) = node 1 (pos p) (trees (map declarator_tree ds))
stm_shape (TStmt-F.Expr e p) = node 2 (pos p) (exp_if e)
stm_shape (TStmt-F.If e x None p) = node 3 (pos p) (more (exp_tree e) (more x none))
stm_shape (TStmt-F.If e x (Some y) p) = node 3 (pos p) (more (exp_tree e) (more x (more y none)))
stm_shape (TStmt-F.While e x p) = node 4 (pos p) (more (exp_tree e) (more x none))
stm_shape (TStmt-F.Do x e p) = node 5 (pos p) (more x (more (exp_tree e) none))
stm_shape (TStmt-F.For f c n x p) = node 6 (pos p) (more (start_tree f) (more (maybe_exp c) (more (maybe_exp n) (more x none))))
stm_shape (TStmt-F.Switch e xs p end) = node 7 (pos p ++ pos end) (more (exp_tree e) (trees xs))
stm_shape (TStmt-F.Case n e p) = node 8 (n ∷ pos p) (more (exp_tree e) none)
stm_shape (TStmt-F.Default p) = leaf 9 (pos p)
stm_shape (TStmt-F.Goto n p) = leaf 10 (n.at ∷ pos p)
stm_shape (TStmt-F.Break p) = leaf 11 (pos p)
stm_shape (TStmt-F.Continue p) = leaf 12 (pos p)
stm_shape (TStmt-F.Return e p) = node 13 (pos p) (exp_if e)
stm_shape (TStmt-F.Label n x p) = node 14 (n.at ∷ pos p) (more x none)

abbrev pub stm_tree : TStmt → Tree
stm_tree = fold-TStmt Tree stm_shape
