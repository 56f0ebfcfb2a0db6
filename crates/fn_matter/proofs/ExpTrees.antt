-- An expression, back from its tree.
use Rattle.std.proofs.Common.{◌≡◌, ℕ, List, [], ◌∷◌, map, refl, ap, subst, ◌∙◌}
use Rattle.std.specs.Prelude.{slice_index_or, pos as positive, negsuc}
use Rattle.sc_tree.specs.declared.ctype.CType.{CType}
use Rattle.sc_tree.specs.declared.expr.Place.{Place}
use Rattle.sc_typed.specs.declared.expr.TExpr.{TExpr, TExpr-F, roll-TExpr}
use Rattle.sc_typed.specs.declared.expr.What.{What, What-F, roll-What}
use Rattle.sc_typed.specs.declared.expr.What.TheFolds as folds
use Rattle.fn_matter.specs.Words.{Tree, Trees, node, none, more, trees}
use Rattle.fn_matter.specs.Shapes.{what_shape, exp_shape, exp_tree}
use Rattle.fn_matter.proofs.Codes.{nth, binary_back, binary_same, unary_back, unary_same, assign_back, assign_same, step_back, step_same, flag_back, flag_same, optional_back, optional_same, signed_by, place_back}
use Rattle.fn_matter.proofs.TypeTrees.{void, type_same, types_back}

-- the numbers behind the seventh
abbrev behind_seven : List ℕ → List ℕ
behind_seven (a ∷ b ∷ c ∷ d ∷ e ∷ f ∷ g ∷ ns) = ns
behind_seven _ = []

abbrev pub no_exp : TExpr
no_exp = roll-TExpr (record { what = roll-What (What-F.Int 0); ctype = void; place = place_back [] })

-- an expression among the parts of a node
abbrev pub exp_at : List TExpr → ℕ → TExpr
exp_at es k = slice_index_or es k no_exp

abbrev pub type_at : List CType → ℕ → CType
type_at ts k = slice_index_or ts k void

-- the expressions behind the first two parts, a type and an expression
abbrev behind_two : List TExpr → List TExpr
behind_two (a ∷ b ∷ es) = es
behind_two _ = []

abbrev WhatForm : Type 0
WhatForm = List ℕ → List CType → List TExpr → What-F What TExpr

-- the forms of expressions by their kinds; the first six numbers are the places, and the first part is the type
abbrev what_forms : List WhatForm
what_forms =
    (λ ns ts es. What-F.Comma (exp_at es 1) (exp_at es 2))
    ∷ (λ ns ts es. What-F.Assign (assign_back (nth ns 6)) (type_at ts 3) (exp_at es 1) (exp_at es 2))
    ∷ (λ ns ts es. What-F.Cond (exp_at es 1) (exp_at es 2) (exp_at es 3))
    ∷ (λ ns ts es. What-F.Binary (binary_back (nth ns 6)) (exp_at es 1) (exp_at es 2))
    ∷ (λ ns ts es. What-F.Cast (exp_at es 1))
    ∷ (λ ns ts es. What-F.Unary (unary_back (nth ns 6)) (exp_at es 1))
    ∷ (λ ns ts es. What-F.PreInc (step_back (nth ns 6)) (exp_at es 1))
    ∷ (λ ns ts es. What-F.PostInc (step_back (nth ns 6)) (exp_at es 1))
    ∷ (λ ns ts es. What-F.SizeofExpr (exp_at es 1) (nth ns 6))
    ∷ (λ ns ts es. What-F.SizeofType (nth ns 6))
    ∷ (λ ns ts es. What-F.Index (exp_at es 1) (exp_at es 2))
    ∷ (λ ns ts es. What-F.Call (exp_at es 1) (behind_two es))
    ∷ (λ ns ts es. What-F.Field (exp_at es 1) (nth ns 6) (nth ns 7) (flag_back (nth ns 8)))
    ∷ (λ ns ts es. What-F.Param (nth ns 6))
    ∷ (λ ns ts es. What-F.Local (nth ns 6))
    ∷ (λ ns ts es. What-F.Global (nth ns 6))
    ∷ (λ ns ts es. What-F.Function (record { at = nth ns 6 }) (optional_back (behind_seven ns)))
    ∷ (λ ns ts es. What-F.Int (nth ns 6))
    ∷ (λ ns ts es. What-F.Char (signed_by (nth ns 6) (nth ns 7)))
    ∷ (λ ns ts es. What-F.Str (nth ns 6))
    ∷ (λ ns ts es. What-F.Convert (exp_at es 1))
    ∷ (λ ns ts es. What-F.Temp (nth ns 6))
    ∷ (λ ns ts es. What-F.TempPlace (nth ns 6))
    ∷ []

abbrev no_what : WhatForm
no_what ns ts es = What-F.Int 0

abbrev mutual
  pub exp_back : Tree → TExpr
  exp_back (node k ns ts) =
      roll-TExpr (record {
        what = roll-What (slice_index_or what_forms k no_what ns (types_back ts) (exps_back ts));
        ctype = type_at (types_back ts) 0;
        place = place_back ns;
      })

  pub exps_back : Trees → List TExpr
  exps_back none = []
  exps_back (more t ts) = exp_back t ∷ exps_back ts

abbrev what_tree : What → CType → Place → Tree
what_tree = folds.fold-What (CType → Place → Tree) Tree what_shape exp_shape

-- with every type and every place
abbrev P : What → Type 0
P w = (t : CType) (p : Place) → exp_back (what_tree w t p) ≡ roll-TExpr (record { what = w; ctype = t; place = p })

abbrev Q : TExpr → Type 0
Q e = exp_back (exp_tree e) ≡ e

abbrev SW : Type 0
SW = (w : What) × P w

abbrev SE : Type 0
SE = (e : TExpr) × Q e

abbrev bare_what : What-F SW SE → What-F What TExpr
bare_what y = folds.map-What SW SE What TExpr (λ e. e.0) (λ e. e.0) y

abbrev bare : TExpr-F SW SE → TExpr-F What TExpr
bare y = folds.map-TExpr SW SE What TExpr (λ e. e.0) (λ e. e.0) y

abbrev shaped : What-F What TExpr → CType → Place → Tree
shaped f = what_shape (folds.map-What What TExpr (CType → Place → Tree) Tree what_tree exp_tree f)

abbrev whole : What-F What TExpr → CType → Place → TExpr
whole f t p = roll-TExpr (record { what = roll-What f; ctype = t; place = p })

each : (es : List SE) → exps_back (trees (map exp_tree (map (λ (e : SE). e.0) es))) ≡ map (λ (e : SE). e.0) es
each [] = refl
each (e ∷ es) = λ i. e.1 i ∷ each es i

layer : (y : What-F SW SE) (t : CType) (p : Place) → exp_back (shaped (bare_what y) t p) ≡ whole (bare_what y) t p
layer (What-F.Comma a b) t p = λ i. whole (What-F.Comma (a.1 i) (b.1 i)) (type_same t i) p
layer (What-F.Assign o works a b) t p = λ i. whole (What-F.Assign (assign_same o i) (type_same works i) (a.1 i) (b.1 i)) (type_same t i) p
layer (What-F.Cond a b c) t p = λ i. whole (What-F.Cond (a.1 i) (b.1 i) (c.1 i)) (type_same t i) p
layer (What-F.Binary o a b) t p = λ i. whole (What-F.Binary (binary_same o i) (a.1 i) (b.1 i)) (type_same t i) p
layer (What-F.Cast a) t p = λ i. whole (What-F.Cast (a.1 i)) (type_same t i) p
layer (What-F.Unary o a) t p = λ i. whole (What-F.Unary (unary_same o i) (a.1 i)) (type_same t i) p
layer (What-F.PreInc s a) t p = λ i. whole (What-F.PreInc (step_same s i) (a.1 i)) (type_same t i) p
layer (What-F.PostInc s a) t p = λ i. whole (What-F.PostInc (step_same s i) (a.1 i)) (type_same t i) p
layer (What-F.SizeofExpr a n) t p = λ i. whole (What-F.SizeofExpr (a.1 i) n) (type_same t i) p
layer (What-F.SizeofType n) t p = λ i. whole (What-F.SizeofType n) (type_same t i) p
layer (What-F.Index a b) t p = λ i. whole (What-F.Index (a.1 i) (b.1 i)) (type_same t i) p
layer (What-F.Call f es) t p = λ i. whole (What-F.Call (f.1 i) (each es i)) (type_same t i) p
layer (What-F.Field a s n arrow) t p = λ i. whole (What-F.Field (a.1 i) s n (flag_same arrow i)) (type_same t i) p
layer (What-F.Param n) t p = λ i. whole (What-F.Param n) (type_same t i) p
layer (What-F.Local n) t p = λ i. whole (What-F.Local n) (type_same t i) p
layer (What-F.Global n) t p = λ i. whole (What-F.Global n) (type_same t i) p
layer (What-F.Function n body) t p = λ i. whole (What-F.Function n (optional_same body i)) (type_same t i) p
layer (What-F.Int n) t p = λ i. whole (What-F.Int n) (type_same t i) p
layer (What-F.Char (positive n)) t p = λ i. whole (What-F.Char (positive n)) (type_same t i) p
layer (What-F.Char (negsuc n)) t p = λ i. whole (What-F.Char (negsuc n)) (type_same t i) p
layer (What-F.Str n) t p = λ i. whole (What-F.Str n) (type_same t i) p
layer (What-F.Convert a) t p = λ i. whole (What-F.Convert (a.1 i)) (type_same t i) p
layer (What-F.Temp n) t p = λ i. whole (What-F.Temp n) (type_same t i) p
layer (What-F.TempPlace n) t p = λ i. whole (What-F.TempPlace n) (type_same t i) p

step_what : (x : What-F What TExpr) (y : What-F SW SE) → bare_what y ≡ x → P (roll-What x)
step_what x y is =
    subst (λ z. P (roll-What z)) is (λ t p.
    ap (λ f. exp_back (f t p)) (folds.fold-roll-What (CType → Place → Tree) Tree what_shape exp_shape (bare_what y)) ∙ layer y t p)

step_exp : (x : TExpr-F What TExpr) (y : TExpr-F SW SE) → bare y ≡ x → Q (roll-TExpr x)
step_exp x y is =
    subst (λ z. Q (roll-TExpr z)) is
    (ap exp_back (folds.fold-roll-TExpr (CType → Place → Tree) Tree what_shape exp_shape (bare y)) ∙ y.what.1 y.ctype y.place)

pub exp_same : (e : TExpr) → exp_back (exp_tree e) ≡ e
exp_same = folds.ind-TExpr P Q step_what step_exp
