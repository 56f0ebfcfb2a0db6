-- A statement, back from its tree.
use Rattle.std.proofs.Common.{◌≡◌, ℕ, zero, suc, List, [], ◌∷◌, map, refl, ap, subst, ◌∙◌}
use Rattle.std.specs.Prelude.{Option, Some, None, slice_index_or}
use Rattle.sc_base.specs.declared.pos.Pos.{Pos}
use Rattle.sc_base.specs.declared.pos.NameId.{NameId}
use Rattle.sc_typed.specs.declared.expr.TExpr.{TExpr}
use Rattle.sc_typed.specs.declared.stmt.TStmt.{TStmt, TStmt-F, roll-TStmt}
use Rattle.sc_typed.specs.declared.stmt.TStmt.TheFolds as folds
use Rattle.sc_typed.specs.declared.stmt.TForStart.{TForStart}
use Rattle.sc_typed.specs.declared.stmt.TForStart.TheVariants as start
use Rattle.sc_typed.specs.declared.stmt.TInit.{TInit}
use Rattle.sc_typed.specs.declared.stmt.TInit.TheVariants as init
use Rattle.sc_typed.specs.declared.stmt.TInitItem.{TInitItem}
use Rattle.sc_typed.specs.declared.stmt.TDeclarator.{TDeclarator}
use Rattle.sc_typed.specs.declared.stmt.InitStep.{InitStep}
use Rattle.sc_typed.specs.declared.stmt.Declared.{Declared}
use Rattle.sc_typed.specs.declared.stmt.Declared.TheVariants as declared
use Rattle.fn_matter.specs.Words.{Tree, Trees, node, none, more, trees}
use Rattle.fn_matter.specs.Shapes.{exp_tree, exp_if, way_tree, item_tree, init_tree, init_if, declarator_tree, start_tree, maybe_exp, stm_shape, stm_tree}
use Rattle.fn_matter.proofs.Codes.{nth, pos_back, declared_back, way_back, way_same}
use Rattle.fn_matter.proofs.ExpTrees.{no_exp, exp_at, exps_back, exp_same}

abbrev pub part : Trees → ℕ → Tree
part none k = node 0 [] none
part (more t ts) zero = t
part (more t ts) (suc k) = part ts k

abbrev first_exp : List TExpr → Option TExpr
first_exp [] = None
first_exp (e ∷ es) = Some e

exp_if_same : (e : Option TExpr) → first_exp (exps_back (exp_if e)) ≡ e
exp_if_same None = refl
exp_if_same (Some e) = λ i. Some (exp_same e i)

-- Declarations.

abbrev way_if : ℕ → List ℕ → Option (List InitStep)
way_if k ns = slice_index_or (None ∷ Some (way_back ns) ∷ []) k None

abbrev item_back : Tree → TInitItem
item_back (node k ns ts) = record { value = exp_at (exps_back ts) 0; way = way_if k ns }

item_by : (w : Option (List InitStep)) (e : TExpr) → item_back (way_tree w (exp_tree e)) ≡ record { value = e; way = w }
item_by None e = λ i. record { value = exp_same e i; way = None }
item_by (Some steps) e = λ i. record { value = exp_same e i; way = Some (way_same steps i) }

item_same : (x : TInitItem) → item_back (item_tree x) ≡ x
item_same x = item_by x.way x.value

abbrev items_back : Trees → List TInitItem
items_back none = []
items_back (more t ts) = item_back t ∷ items_back ts

items_same : (xs : List TInitItem) → items_back (trees (map item_tree xs)) ≡ xs
items_same [] = refl
items_same (x ∷ xs) = λ i. item_same x i ∷ items_same xs i

abbrev init_back : Tree → TInit
init_back (node k ns ts) =
    slice_index_or (init.One (exp_at (exps_back ts) 0) ∷ init.Braces (items_back ts) ∷ []) k (init.One no_exp)

init_same : (x : TInit) → init_back (init_tree x) ≡ x
init_same (init.One e) = λ i. init.One (exp_same e i)
init_same (init.Braces xs) = λ i. init.Braces (items_same xs i)

abbrev first_init : Trees → Option TInit
first_init none = None
first_init (more t ts) = Some (init_back t)

init_if_same : (x : Option TInit) → first_init (init_if x) ≡ x
init_if_same None = refl
init_if_same (Some x) = λ i. Some (init_same x i)

abbrev declarator_back : Tree → TDeclarator
declarator_back (node k ns ts) =
    record {
      name = record { at = nth ns 0 };
      pos = pos_back ns 1 2 3;
      declared = declared_back (nth ns 4) (nth ns 5);
      init = first_init ts;
    }

declarator_by : (n : NameId) (p : Pos) (d : Declared) (x : Option TInit)
    → declarator_back (declarator_tree (record { name = n; pos = p; declared = d; init = x })) ≡ record { name = n; pos = p; declared = d; init = x }
declarator_by n p (declared.Local k) x = λ i. record { name = n; pos = p; declared = declared.Local k; init = init_if_same x i }
declarator_by n p (declared.Global k) x = λ i. record { name = n; pos = p; declared = declared.Global k; init = init_if_same x i }
declarator_by n p declared.Function x = λ i. record { name = n; pos = p; declared = declared.Function; init = init_if_same x i }

declarator_same : (d : TDeclarator) → declarator_back (declarator_tree d) ≡ d
declarator_same d = declarator_by d.name d.pos d.declared d.init

abbrev declarators_back : Trees → List TDeclarator
declarators_back none = []
declarators_back (more t ts) = declarator_back t ∷ declarators_back ts

declarators_same : (ds : List TDeclarator) → declarators_back (trees (map declarator_tree ds)) ≡ ds
declarators_same [] = refl
declarators_same (d ∷ ds) = λ i. declarator_same d i ∷ declarators_same ds i

abbrev start_back : Tree → TForStart
start_back (node k ns ts) =
    slice_index_or (start.Nothing ∷ start.Expr (exp_at (exps_back ts) 0) ∷ start.Decl (declarators_back ts) (pos_back ns 0 1 2) ∷ []) k start.Nothing

start_same : (x : TForStart) → start_back (start_tree x) ≡ x
start_same start.Nothing = refl
start_same (start.Expr e) = λ i. start.Expr (exp_same e i)
start_same (start.Decl ds p) = λ i. start.Decl (declarators_same ds i) p

abbrev maybe_back : Tree → Option TExpr
maybe_back (node k ns ts) = first_exp (exps_back ts)

maybe_same : (e : Option TExpr) → maybe_back (maybe_exp e) ≡ e
maybe_same e = exp_if_same e

-- Statements.

abbrev pub no_stm : TStmt
no_stm = roll-TStmt (TStmt-F.Default (pos_back [] 0 1 2))

abbrev pub stm_at : List TStmt → ℕ → TStmt
stm_at ss k = slice_index_or ss k no_stm

abbrev third : List TStmt → Option TStmt
third (a ∷ b ∷ c ∷ ss) = Some c
third _ = None

abbrev behind_one : List TStmt → List TStmt
behind_one (a ∷ ss) = ss
behind_one [] = []

abbrev StmForm : Type 0
StmForm = List ℕ → Trees → List TStmt → TStmt-F TStmt

abbrev stm_forms : List StmForm
stm_forms =
    (λ ns ts ss. TStmt-F.Block ss (pos_back ns 0 1 2) (pos_back ns 3 4 5))
    ∷ (λ ns ts ss. TStmt-F.Decl (declarators_back ts) (pos_back ns 0 1 2))
    ∷ (λ ns ts ss. TStmt-F.Expr (first_exp (exps_back ts)) (pos_back ns 0 1 2))
    ∷ (λ ns ts ss. TStmt-F.If (exp_at (exps_back ts) 0) (stm_at ss 1) (third ss) (pos_back ns 0 1 2))
    ∷ (λ ns ts ss. TStmt-F.While (exp_at (exps_back ts) 0) (stm_at ss 1) (pos_back ns 0 1 2))
    ∷ (λ ns ts ss. TStmt-F.Do (stm_at ss 0) (exp_at (exps_back ts) 1) (pos_back ns 0 1 2))
    ∷ (λ ns ts ss. TStmt-F.For (start_back (part ts 0)) (maybe_back (part ts 1)) (maybe_back (part ts 2)) (stm_at ss 3) (pos_back ns 0 1 2))
    ∷ (λ ns ts ss. TStmt-F.Switch (exp_at (exps_back ts) 0) (behind_one ss) (pos_back ns 0 1 2) (pos_back ns 3 4 5))
    ∷ (λ ns ts ss. TStmt-F.Case (nth ns 0) (exp_at (exps_back ts) 0) (pos_back ns 1 2 3))
    ∷ (λ ns ts ss. TStmt-F.Default (pos_back ns 0 1 2))
    ∷ (λ ns ts ss. TStmt-F.Goto (record { at = nth ns 0 }) (pos_back ns 1 2 3))
    ∷ (λ ns ts ss. TStmt-F.Break (pos_back ns 0 1 2))
    ∷ (λ ns ts ss. TStmt-F.Continue (pos_back ns 0 1 2))
    ∷ (λ ns ts ss. TStmt-F.Return (first_exp (exps_back ts)) (pos_back ns 0 1 2))
    ∷ (λ ns ts ss. TStmt-F.Label (record { at = nth ns 0 }) (stm_at ss 0) (pos_back ns 1 2 3))
    ∷ []

abbrev no_form : StmForm
no_form ns ts ss = TStmt-F.Default (pos_back [] 0 1 2)

abbrev mutual
  pub stm_back : Tree → TStmt
  stm_back (node k ns ts) = roll-TStmt (slice_index_or stm_forms k no_form ns ts (stms_back ts))

  pub stms_back : Trees → List TStmt
  stms_back none = []
  stms_back (more t ts) = stm_back t ∷ stms_back ts

abbrev P : TStmt → Type 0
P x = stm_back (stm_tree x) ≡ x

abbrev SS : Type 0
SS = (x : TStmt) × P x

abbrev bare : TStmt-F SS → TStmt-F TStmt
bare y = folds.map-TStmt SS TStmt (λ e. e.0) y

abbrev shaped : TStmt-F TStmt → Tree
shaped f = stm_shape (folds.map-TStmt TStmt Tree stm_tree f)

each : (xs : List SS) → stms_back (trees (map stm_tree (map (λ (e : SS). e.0) xs))) ≡ map (λ (e : SS). e.0) xs
each [] = refl
each (x ∷ xs) = λ i. x.1 i ∷ each xs i

layer : (y : TStmt-F SS) → stm_back (shaped (bare y)) ≡ roll-TStmt (bare y)
layer (TStmt-F.Block xs begin end) = λ i. roll-TStmt (TStmt-F.Block (each xs i) begin end)
layer (TStmt-F.Decl ds p) = λ i. roll-TStmt (TStmt-F.Decl (declarators_same ds i) p)
layer (TStmt-F.Expr e p) = λ i. roll-TStmt (TStmt-F.Expr (exp_if_same e i) p)
layer (TStmt-F.If e x None p) = λ i. roll-TStmt (TStmt-F.If (exp_same e i) (x.1 i) None p)
layer (TStmt-F.If e x (Some y) p) = λ i. roll-TStmt (TStmt-F.If (exp_same e i) (x.1 i) (Some (y.1 i)) p)
layer (TStmt-F.While e x p) = λ i. roll-TStmt (TStmt-F.While (exp_same e i) (x.1 i) p)
layer (TStmt-F.Do x e p) = λ i. roll-TStmt (TStmt-F.Do (x.1 i) (exp_same e i) p)
layer (TStmt-F.For f c n x p) = λ i. roll-TStmt (TStmt-F.For (start_same f i) (maybe_same c i) (maybe_same n i) (x.1 i) p)
layer (TStmt-F.Switch e xs p end) = λ i. roll-TStmt (TStmt-F.Switch (exp_same e i) (each xs i) p end)
layer (TStmt-F.Case n e p) = λ i. roll-TStmt (TStmt-F.Case n (exp_same e i) p)
layer (TStmt-F.Default p) = refl
layer (TStmt-F.Goto n p) = refl
layer (TStmt-F.Break p) = refl
layer (TStmt-F.Continue p) = refl
layer (TStmt-F.Return e p) = λ i. roll-TStmt (TStmt-F.Return (exp_if_same e i) p)
layer (TStmt-F.Label n x p) = λ i. roll-TStmt (TStmt-F.Label n (x.1 i) p)

step : (x : TStmt-F TStmt) (y : TStmt-F SS) → bare y ≡ x → P (roll-TStmt x)
step x y is =
    subst (λ z. P (roll-TStmt z)) is (ap stm_back (folds.fold-roll-TStmt Tree stm_shape (bare y)) ∙ layer y)

pub stm_same : (x : TStmt) → stm_back (stm_tree x) ≡ x
stm_same = folds.ind-TStmt P step
