-- A type, back from its tree.
use Rattle.std.proofs.Common.{◌≡◌, ℕ, List, [], ◌∷◌, map, refl, ap, subst, ◌∙◌}
use Rattle.std.specs.Prelude.{Bool, false, Option, Some, None, slice_index_or}
use Rattle.sc_tree.specs.declared.ctype.CType.{CType, CType-F, roll-CType}
use Rattle.sc_tree.specs.declared.ctype.CType.TheFolds as folds
use Rattle.sc_tree.specs.declared.ctype.Signature.{Signature, Signature-F, roll-Signature}
use Rattle.fn_matter.specs.Words.{Tree, Trees, node, none, more, trees}
use Rattle.fn_matter.specs.Shapes.{type_shape, signature_shape, type_tree, signature_tree}
use Rattle.fn_matter.proofs.Codes.{nth, int_back, int_same, opaque_back, opaque_same, flag_back, flag_same, optional_back, optional_same}

abbrev pub void : CType
void = roll-CType CType-F.Void

abbrev pub no_signature : Signature
no_signature = roll-Signature (record { result = void; params = None; variadic = false })

-- what a tree is read as: a type and the type of a function
abbrev Both : Type 0
Both = CType × Signature

abbrev nothing : Both
nothing = (void, no_signature)

abbrev first_type : List Both → CType
first_type bs = (slice_index_or bs 0 nothing).0

abbrev first_signature : List Both → Signature
first_signature bs = (slice_index_or bs 0 nothing).1

abbrev of_both : Both → CType
of_both b = b.0

abbrev pub rest_types : List CType → List CType
rest_types [] = []
rest_types (t ∷ ts) = ts

abbrev TypeForm : Type 0
TypeForm = List ℕ → List Both → CType-F CType Signature

-- the forms of types by their kinds
abbrev type_forms : List TypeForm
type_forms =
    (λ ns bs. CType-F.Void) ∷ (λ ns bs. CType-F.Bool) ∷ (λ ns bs. CType-F.Int (int_back (nth ns 0)))
    ∷ (λ ns bs. CType-F.Ptr (first_type bs)) ∷ (λ ns bs. CType-F.Array (first_type bs) (optional_back ns))
    ∷ (λ ns bs. CType-F.Struct (nth ns 0)) ∷ (λ ns bs. CType-F.Union (nth ns 0))
    ∷ (λ ns bs. CType-F.Func (first_signature bs)) ∷ (λ ns bs. CType-F.Opaque (opaque_back (nth ns 0))) ∷ []

abbrev no_type : TypeForm
no_type ns bs = CType-F.Void

-- the parameters of a signature by its kind
abbrev params_by : ℕ → List CType → Option (List CType)
params_by k ts = slice_index_or (None ∷ Some (rest_types ts) ∷ []) k None

abbrev made : ℕ → List ℕ → List Both → Both
made k ns bs = (
  roll-CType (slice_index_or type_forms k no_type ns bs),
  roll-Signature (record { result = first_type bs; params = params_by k (map of_both bs); variadic = flag_back (nth ns 0) }),
)

abbrev mutual
  pub both_back : Tree → CType × Signature
  both_back (node k ns ts) = made k ns (boths_back ts)

  pub boths_back : Trees → List (CType × Signature)
  boths_back none = []
  boths_back (more t ts) = both_back t ∷ boths_back ts

abbrev pub type_back : Tree → CType
type_back t = (both_back t).0

abbrev pub types_back : Trees → List CType
types_back ts = map (λ (b : CType × Signature). b.0) (boths_back ts)

abbrev signature_back : Tree → Signature
signature_back t = (both_back t).1

abbrev P : CType → Type 0
P t = type_back (type_tree t) ≡ t

abbrev Q : Signature → Type 0
Q x = signature_back (signature_tree x) ≡ x

abbrev ST : Type 0
ST = (t : CType) × P t

abbrev SG : Type 0
SG = (x : Signature) × Q x

abbrev bare : CType-F ST SG → CType-F CType Signature
bare y = folds.map-CType ST SG CType Signature (λ e. e.0) (λ e. e.0) y

abbrev bare_signature : Signature-F ST SG → Signature-F CType Signature
bare_signature y = folds.map-Signature ST SG CType Signature (λ e. e.0) (λ e. e.0) y

abbrev shaped : CType-F CType Signature → Tree
shaped f = type_shape (folds.map-CType CType Signature Tree Tree type_tree signature_tree f)

abbrev shaped_signature : Signature-F CType Signature → Tree
shaped_signature f = signature_shape (folds.map-Signature CType Signature Tree Tree type_tree signature_tree f)

layer : (y : CType-F ST SG) → type_back (shaped (bare y)) ≡ roll-CType (bare y)
layer CType-F.Void = refl
layer CType-F.Bool = refl
layer (CType-F.Int k) = λ i. roll-CType (CType-F.Int (int_same k i))
layer (CType-F.Ptr t) = λ i. roll-CType (CType-F.Ptr (t.1 i))
layer (CType-F.Array t n) = λ i. roll-CType (CType-F.Array (t.1 i) (optional_same n i))
layer (CType-F.Struct n) = refl
layer (CType-F.Union n) = refl
layer (CType-F.Func x) = λ i. roll-CType (CType-F.Func (x.1 i))
layer (CType-F.Opaque k) = λ i. roll-CType (CType-F.Opaque (opaque_same k i))

each : (ts : List ST) → types_back (trees (map type_tree (map (λ (e : ST). e.0) ts))) ≡ map (λ (e : ST). e.0) ts
each [] = refl
each (t ∷ ts) = λ i. t.1 i ∷ each ts i

fields : (r : ST) (ps : Option (List ST)) (v : Bool)
    → signature_back (shaped_signature (bare_signature (record { result = r; params = ps; variadic = v })))
    ≡ roll-Signature (bare_signature (record { result = r; params = ps; variadic = v }))
fields r None v = λ i. roll-Signature (record { result = r.1 i; params = None; variadic = flag_same v i })
fields r (Some ts) v = λ i. roll-Signature (record { result = r.1 i; params = Some (each ts i); variadic = flag_same v i })

step : (x : CType-F CType Signature) (y : CType-F ST SG) → bare y ≡ x → P (roll-CType x)
step x y is =
    subst (λ z. P (roll-CType z)) is
    (ap type_back (folds.fold-roll-CType Tree Tree type_shape signature_shape (bare y)) ∙ layer y)

step_signature : (x : Signature-F CType Signature) (y : Signature-F ST SG) → bare_signature y ≡ x → Q (roll-Signature x)
step_signature x y is =
    subst (λ z. Q (roll-Signature z)) is
    (ap signature_back (folds.fold-roll-Signature Tree Tree type_shape signature_shape (bare_signature y)) ∙ fields y.result y.params y.variadic)

pub type_same : (t : CType) → type_back (type_tree t) ≡ t
type_same = folds.ind-CType P Q step step_signature

pub types_same : (ts : List CType) → types_back (trees (map type_tree ts)) ≡ ts
types_same [] = refl
types_same (t ∷ ts) = λ i. type_same t i ∷ types_same ts i
