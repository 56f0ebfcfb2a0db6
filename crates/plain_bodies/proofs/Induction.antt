-- Expressions and types that are plain change the fault of the walk alone: by induction over the trees that hold one
-- another. Of those that are never plain nothing is said.
use Rattle.std.proofs.Common.{◌≡◌, Bool, true, ◌&&◌, Option, Some, None, List, map, subst, refl, sym, ◌∙◌}
use Rattle.sc_base.specs.declared.pos.Pos.{Pos}
use Rattle.sc_base.specs.declared.pos.NameId.{NameId}
use Rattle.sc_tree.specs.declared.expr.Expr.{Expr, Expr-F, roll-Expr}
use Rattle.sc_tree.specs.declared.expr.Head.{Head, Head-F, roll-Head}
use Rattle.sc_tree.specs.declared.expr.Specs.{Specs, Specs-F, roll-Specs}
use Rattle.sc_tree.specs.declared.expr.Base.{Base, Base-F, roll-Base}
use Rattle.sc_tree.specs.declared.expr.Aggregate.{Aggregate, Aggregate-F, roll-Aggregate}
use Rattle.sc_tree.specs.declared.expr.Member.{Member}
use Rattle.sc_tree.specs.declared.expr.Part.{Part}
use Rattle.sc_tree.specs.declared.expr.EnumSpec.{EnumSpec, EnumSpec-F, roll-EnumSpec}
use Rattle.sc_tree.specs.declared.expr.Enumerator.{Enumerator}
use Rattle.sc_tree.specs.declared.expr.Declarator.{Declarator, Declarator-F, roll-Declarator}
use Rattle.sc_tree.specs.declared.expr.Base.TheFolds as folds
use Rattle.scopes.specs.Frames.{Frames}
use Rattle.sc_rules.specs.declared.walk.Tag.{Tag}
use Rattle.sc_typing.specs.Here.{Here}
use Rattle.sc_typing.specs.Shapes.{Typing, Declaring, Heading, Naming, Adding, AddingOne, Counting}
use Rattle.sc_typing.specs.Typing.{base_step, declarator_step, expr_step, aggregate_step, enum_step, enumerator_step, head_step, member_step, part_step, specs_step, basing, declaring, typing, structuring, listing, counting, heading, adding, adding_one, naming}
use Rattle.plain_bodies.specs.Plain.{base_plain, declarator_plain, expr_plain, aggregate_plain, enum_plain, enumerator_plain, head_plain, member_plain, part_plain, specs_plain, plain, plain_base, plain_declarator, plain_specs, plain_head, plain_aggregate, plain_enum}
use Rattle.plain_bodies.proofs.Steps.{keeps}
use Rattle.plain_bodies.proofs.Rules.{constant_kept}
use Rattle.plain_bodies.proofs.Parts.{name_kept, string_kept, typedef_kept}
use Rattle.plain_bodies.proofs.Mentioned.{aggregate_kept, enum_kept}
use Rattle.plain_bodies.proofs.Walk.{OfTyping, OfDeclaring, OfHeading, OfNaming, index_step_kept, field_step_kept, comma_kept, unary_step_kept, pre_step_kept, post_step_kept, called_kept, shape_kept, array_kept, head_kept, assign_kept, choose_kept, operate_kept, cast_step_kept, sizeof_step_kept, sizeof_type_step_kept}
use Rattle.plain_bodies.proofs.Plain.{never, first_so, second_so, each_so}

module _ (T : Frames Tag) (here : Here) where
  abbrev enumerators : Enumerator → Bool
  enumerators = folds.fold-Enumerator Bool Bool Bool Bool Bool Bool Bool Bool Bool Bool base_plain declarator_plain expr_plain (aggregate_plain T) (enum_plain T) enumerator_plain head_plain member_plain part_plain specs_plain

  abbrev members : Member → Bool
  members = folds.fold-Member Bool Bool Bool Bool Bool Bool Bool Bool Bool Bool base_plain declarator_plain expr_plain (aggregate_plain T) (enum_plain T) enumerator_plain head_plain member_plain part_plain specs_plain

  abbrev parts : Part → Bool
  parts = folds.fold-Part Bool Bool Bool Bool Bool Bool Bool Bool Bool Bool base_plain declarator_plain expr_plain (aggregate_plain T) (enum_plain T) enumerator_plain head_plain member_plain part_plain specs_plain

  -- what is shown of each tree
  abbrev LB : Base → Type 0
  LB x = plain_base T x ≡ true → OfNaming T (basing here x)

  abbrev LD : Declarator → Type 0
  LD x = plain_declarator T x ≡ true → OfDeclaring T (declaring here x)

  abbrev LE : Expr → Type 0
  LE x = plain T x ≡ true → OfTyping T (typing here x)

  abbrev LA : Aggregate → Type 0
  LA x = plain_aggregate T x ≡ true → OfNaming T (structuring here x)

  abbrev LN : EnumSpec → Type 0
  LN x = plain_enum T x ≡ true → OfNaming T (listing here x)

  abbrev LH : Head → Type 0
  LH x = plain_head T x ≡ true → OfHeading T (heading here x)

  abbrev LS : Specs → Type 0
  LS x = plain_specs T x ≡ true → OfNaming T (naming here x)

  -- a part of a tree, with what was shown of it
  abbrev SB : Type 0
  SB = (x : Base) × LB x

  abbrev SD : Type 0
  SD = (x : Declarator) × LD x

  abbrev SE : Type 0
  SE = (x : Expr) × LE x

  abbrev SA : Type 0
  SA = (x : Aggregate) × LA x

  abbrev SN : Type 0
  SN = (x : EnumSpec) × LN x

  abbrev SC : Type 0
  SC = (x : Enumerator) × Unit {0}

  abbrev SH : Type 0
  SH = (x : Head) × LH x

  abbrev SM : Type 0
  SM = (x : Member) × Unit {0}

  abbrev SP : Type 0
  SP = (x : Part) × Unit {0}

  abbrev SS : Type 0
  SS = (x : Specs) × LS x

  abbrev bare-Base : Base-F SB SD SE SA SN SC SH SM SP SS → Base-F Base Declarator Expr Aggregate EnumSpec Enumerator Head Member Part Specs
  bare-Base y = folds.map-Base SB SD SE SA SN SC SH SM SP SS Base Declarator Expr Aggregate EnumSpec Enumerator Head Member Part Specs (λ e. e.0) (λ e. e.0) (λ e. e.0) (λ e. e.0) (λ e. e.0) (λ e. e.0) (λ e. e.0) (λ e. e.0) (λ e. e.0) (λ e. e.0) y

  abbrev typed-Base : Base-F SB SD SE SA SN SC SH SM SP SS → Base-F Naming Declaring Typing Naming Naming Counting Heading Adding AddingOne Naming
  typed-Base y = folds.map-Base Base Declarator Expr Aggregate EnumSpec Enumerator Head Member Part Specs Naming Declaring Typing Naming Naming Counting Heading Adding AddingOne Naming (basing here) (declaring here) (typing here) (structuring here) (listing here) (counting here) (heading here) (adding here) (adding_one here) (naming here) (bare-Base y)

  abbrev tested-Base : Base-F SB SD SE SA SN SC SH SM SP SS → Base-F Bool Bool Bool Bool Bool Bool Bool Bool Bool Bool
  tested-Base y = folds.map-Base Base Declarator Expr Aggregate EnumSpec Enumerator Head Member Part Specs Bool Bool Bool Bool Bool Bool Bool Bool Bool Bool (plain_base T) (plain_declarator T) (plain T) (plain_aggregate T) (plain_enum T) enumerators (plain_head T) members parts (plain_specs T) (bare-Base y)

  abbrev bare-Declarator : Declarator-F SB SD SE SA SN SC SH SM SP SS → Declarator-F Base Declarator Expr Aggregate EnumSpec Enumerator Head Member Part Specs
  bare-Declarator y = folds.map-Declarator SB SD SE SA SN SC SH SM SP SS Base Declarator Expr Aggregate EnumSpec Enumerator Head Member Part Specs (λ e. e.0) (λ e. e.0) (λ e. e.0) (λ e. e.0) (λ e. e.0) (λ e. e.0) (λ e. e.0) (λ e. e.0) (λ e. e.0) (λ e. e.0) y

  abbrev typed-Declarator : Declarator-F SB SD SE SA SN SC SH SM SP SS → Declarator-F Naming Declaring Typing Naming Naming Counting Heading Adding AddingOne Naming
  typed-Declarator y = folds.map-Declarator Base Declarator Expr Aggregate EnumSpec Enumerator Head Member Part Specs Naming Declaring Typing Naming Naming Counting Heading Adding AddingOne Naming (basing here) (declaring here) (typing here) (structuring here) (listing here) (counting here) (heading here) (adding here) (adding_one here) (naming here) (bare-Declarator y)

  abbrev tested-Declarator : Declarator-F SB SD SE SA SN SC SH SM SP SS → Declarator-F Bool Bool Bool Bool Bool Bool Bool Bool Bool Bool
  tested-Declarator y = folds.map-Declarator Base Declarator Expr Aggregate EnumSpec Enumerator Head Member Part Specs Bool Bool Bool Bool Bool Bool Bool Bool Bool Bool (plain_base T) (plain_declarator T) (plain T) (plain_aggregate T) (plain_enum T) enumerators (plain_head T) members parts (plain_specs T) (bare-Declarator y)

  abbrev bare-Expr : Expr-F SB SD SE SA SN SC SH SM SP SS → Expr-F Base Declarator Expr Aggregate EnumSpec Enumerator Head Member Part Specs
  bare-Expr y = folds.map-Expr SB SD SE SA SN SC SH SM SP SS Base Declarator Expr Aggregate EnumSpec Enumerator Head Member Part Specs (λ e. e.0) (λ e. e.0) (λ e. e.0) (λ e. e.0) (λ e. e.0) (λ e. e.0) (λ e. e.0) (λ e. e.0) (λ e. e.0) (λ e. e.0) y

  abbrev typed-Expr : Expr-F SB SD SE SA SN SC SH SM SP SS → Expr-F Naming Declaring Typing Naming Naming Counting Heading Adding AddingOne Naming
  typed-Expr y = folds.map-Expr Base Declarator Expr Aggregate EnumSpec Enumerator Head Member Part Specs Naming Declaring Typing Naming Naming Counting Heading Adding AddingOne Naming (basing here) (declaring here) (typing here) (structuring here) (listing here) (counting here) (heading here) (adding here) (adding_one here) (naming here) (bare-Expr y)

  abbrev tested-Expr : Expr-F SB SD SE SA SN SC SH SM SP SS → Expr-F Bool Bool Bool Bool Bool Bool Bool Bool Bool Bool
  tested-Expr y = folds.map-Expr Base Declarator Expr Aggregate EnumSpec Enumerator Head Member Part Specs Bool Bool Bool Bool Bool Bool Bool Bool Bool Bool (plain_base T) (plain_declarator T) (plain T) (plain_aggregate T) (plain_enum T) enumerators (plain_head T) members parts (plain_specs T) (bare-Expr y)

  abbrev bare-Aggregate : Aggregate-F SB SD SE SA SN SC SH SM SP SS → Aggregate-F Base Declarator Expr Aggregate EnumSpec Enumerator Head Member Part Specs
  bare-Aggregate y = folds.map-Aggregate SB SD SE SA SN SC SH SM SP SS Base Declarator Expr Aggregate EnumSpec Enumerator Head Member Part Specs (λ e. e.0) (λ e. e.0) (λ e. e.0) (λ e. e.0) (λ e. e.0) (λ e. e.0) (λ e. e.0) (λ e. e.0) (λ e. e.0) (λ e. e.0) y

  abbrev typed-Aggregate : Aggregate-F SB SD SE SA SN SC SH SM SP SS → Aggregate-F Naming Declaring Typing Naming Naming Counting Heading Adding AddingOne Naming
  typed-Aggregate y = folds.map-Aggregate Base Declarator Expr Aggregate EnumSpec Enumerator Head Member Part Specs Naming Declaring Typing Naming Naming Counting Heading Adding AddingOne Naming (basing here) (declaring here) (typing here) (structuring here) (listing here) (counting here) (heading here) (adding here) (adding_one here) (naming here) (bare-Aggregate y)

  abbrev tested-Aggregate : Aggregate-F SB SD SE SA SN SC SH SM SP SS → Aggregate-F Bool Bool Bool Bool Bool Bool Bool Bool Bool Bool
  tested-Aggregate y = folds.map-Aggregate Base Declarator Expr Aggregate EnumSpec Enumerator Head Member Part Specs Bool Bool Bool Bool Bool Bool Bool Bool Bool Bool (plain_base T) (plain_declarator T) (plain T) (plain_aggregate T) (plain_enum T) enumerators (plain_head T) members parts (plain_specs T) (bare-Aggregate y)

  abbrev bare-EnumSpec : EnumSpec-F SB SD SE SA SN SC SH SM SP SS → EnumSpec-F Base Declarator Expr Aggregate EnumSpec Enumerator Head Member Part Specs
  bare-EnumSpec y = folds.map-EnumSpec SB SD SE SA SN SC SH SM SP SS Base Declarator Expr Aggregate EnumSpec Enumerator Head Member Part Specs (λ e. e.0) (λ e. e.0) (λ e. e.0) (λ e. e.0) (λ e. e.0) (λ e. e.0) (λ e. e.0) (λ e. e.0) (λ e. e.0) (λ e. e.0) y

  abbrev typed-EnumSpec : EnumSpec-F SB SD SE SA SN SC SH SM SP SS → EnumSpec-F Naming Declaring Typing Naming Naming Counting Heading Adding AddingOne Naming
  typed-EnumSpec y = folds.map-EnumSpec Base Declarator Expr Aggregate EnumSpec Enumerator Head Member Part Specs Naming Declaring Typing Naming Naming Counting Heading Adding AddingOne Naming (basing here) (declaring here) (typing here) (structuring here) (listing here) (counting here) (heading here) (adding here) (adding_one here) (naming here) (bare-EnumSpec y)

  abbrev tested-EnumSpec : EnumSpec-F SB SD SE SA SN SC SH SM SP SS → EnumSpec-F Bool Bool Bool Bool Bool Bool Bool Bool Bool Bool
  tested-EnumSpec y = folds.map-EnumSpec Base Declarator Expr Aggregate EnumSpec Enumerator Head Member Part Specs Bool Bool Bool Bool Bool Bool Bool Bool Bool Bool (plain_base T) (plain_declarator T) (plain T) (plain_aggregate T) (plain_enum T) enumerators (plain_head T) members parts (plain_specs T) (bare-EnumSpec y)

  abbrev bare-Head : Head-F SB SD SE SA SN SC SH SM SP SS → Head-F Base Declarator Expr Aggregate EnumSpec Enumerator Head Member Part Specs
  bare-Head y = folds.map-Head SB SD SE SA SN SC SH SM SP SS Base Declarator Expr Aggregate EnumSpec Enumerator Head Member Part Specs (λ e. e.0) (λ e. e.0) (λ e. e.0) (λ e. e.0) (λ e. e.0) (λ e. e.0) (λ e. e.0) (λ e. e.0) (λ e. e.0) (λ e. e.0) y

  abbrev typed-Head : Head-F SB SD SE SA SN SC SH SM SP SS → Head-F Naming Declaring Typing Naming Naming Counting Heading Adding AddingOne Naming
  typed-Head y = folds.map-Head Base Declarator Expr Aggregate EnumSpec Enumerator Head Member Part Specs Naming Declaring Typing Naming Naming Counting Heading Adding AddingOne Naming (basing here) (declaring here) (typing here) (structuring here) (listing here) (counting here) (heading here) (adding here) (adding_one here) (naming here) (bare-Head y)

  abbrev tested-Head : Head-F SB SD SE SA SN SC SH SM SP SS → Head-F Bool Bool Bool Bool Bool Bool Bool Bool Bool Bool
  tested-Head y = folds.map-Head Base Declarator Expr Aggregate EnumSpec Enumerator Head Member Part Specs Bool Bool Bool Bool Bool Bool Bool Bool Bool Bool (plain_base T) (plain_declarator T) (plain T) (plain_aggregate T) (plain_enum T) enumerators (plain_head T) members parts (plain_specs T) (bare-Head y)

  abbrev bare-Specs : Specs-F SB SD SE SA SN SC SH SM SP SS → Specs-F Base Declarator Expr Aggregate EnumSpec Enumerator Head Member Part Specs
  bare-Specs y = folds.map-Specs SB SD SE SA SN SC SH SM SP SS Base Declarator Expr Aggregate EnumSpec Enumerator Head Member Part Specs (λ e. e.0) (λ e. e.0) (λ e. e.0) (λ e. e.0) (λ e. e.0) (λ e. e.0) (λ e. e.0) (λ e. e.0) (λ e. e.0) (λ e. e.0) y

  abbrev typed-Specs : Specs-F SB SD SE SA SN SC SH SM SP SS → Specs-F Naming Declaring Typing Naming Naming Counting Heading Adding AddingOne Naming
  typed-Specs y = folds.map-Specs Base Declarator Expr Aggregate EnumSpec Enumerator Head Member Part Specs Naming Declaring Typing Naming Naming Counting Heading Adding AddingOne Naming (basing here) (declaring here) (typing here) (structuring here) (listing here) (counting here) (heading here) (adding here) (adding_one here) (naming here) (bare-Specs y)

  abbrev tested-Specs : Specs-F SB SD SE SA SN SC SH SM SP SS → Specs-F Bool Bool Bool Bool Bool Bool Bool Bool Bool Bool
  tested-Specs y = folds.map-Specs Base Declarator Expr Aggregate EnumSpec Enumerator Head Member Part Specs Bool Bool Bool Bool Bool Bool Bool Bool Bool Bool (plain_base T) (plain_declarator T) (plain T) (plain_aggregate T) (plain_enum T) enumerators (plain_head T) members parts (plain_specs T) (bare-Specs y)

  case-Base : (y : Base-F SB SD SE SA SN SC SH SM SP SS) → base_plain (tested-Base y) ≡ true → OfNaming T (base_step here (typed-Base y))
  case-Base (Base-F.Words t) h = keeps (λ w. refl)
  case-Base (Base-F.Struct a) h = a.1 h
  case-Base (Base-F.Enum e) h = e.1 h
  case-Base (Base-F.Named name at) h = typedef_kept name at

  case-Declarator : (y : Declarator-F SB SD SE SA SN SC SH SM SP SS) → declarator_plain (tested-Declarator y) ≡ true → OfDeclaring T (declarator_step here (typed-Declarator y))
  case-Declarator (Declarator-F.«Declarator::Name» n) h = shape_kept
  case-Declarator (Declarator-F.Pointer d) h = λ at t. d.1 h at _
  case-Declarator (Declarator-F.Array d None) h = array_kept here (declaring here d.0) None (d.1 h) tt
  case-Declarator (Declarator-F.Array d (Some n)) h = array_kept here (declaring here d.0) (Some (typing here n.0)) (d.1 (first_so (plain_declarator T d.0) _ h)) (n.1 (second_so (plain_declarator T d.0) _ h))
  case-Declarator (Declarator-F.Func d hs variadic) h = never h

  case-Expr : (y : Expr-F SB SD SE SA SN SC SH SM SP SS) → expr_plain (tested-Expr y) ≡ true → OfTyping T (expr_step here (typed-Expr y))
  case-Expr (Expr-F.Comma a b p) h = comma_kept (typing here a.0) (typing here b.0) p (a.1 (first_so (plain T a.0) _ h)) (b.1 (second_so (plain T a.0) _ h))
  case-Expr (Expr-F.Assign o a b p) h = assign_kept here o (typing here a.0) (typing here b.0) p (a.1 (first_so (plain T a.0) _ h)) (b.1 (second_so (plain T a.0) _ h))
  case-Expr (Expr-F.Cond a b c p) h =
      let rest : (plain T b.0 && plain T c.0) ≡ true = second_so (plain T a.0) _ h in
      choose_kept here (typing here a.0) (typing here b.0) (typing here c.0) p (a.1 (first_so (plain T a.0) _ h)) (b.1 (first_so (plain T b.0) _ rest)) (c.1 (second_so (plain T b.0) _ rest))
  case-Expr (Expr-F.Binary o a b p) h = operate_kept here o (typing here a.0) (typing here b.0) p (a.1 (first_so (plain T a.0) _ h)) (b.1 (second_so (plain T a.0) _ h))
  case-Expr (Expr-F.Cast t a p) h = cast_step_kept here (heading here t.0) (typing here a.0) p (t.1 (first_so (plain_head T t.0) _ h)) (a.1 (second_so (plain_head T t.0) _ h))
  case-Expr (Expr-F.Unary o a p) h = unary_step_kept o (typing here a.0) p (a.1 h)
  case-Expr (Expr-F.PreInc s a p) h = pre_step_kept s (typing here a.0) p (a.1 h)
  case-Expr (Expr-F.SizeofExpr a p) h = sizeof_step_kept here (typing here a.0) p (a.1 h)
  case-Expr (Expr-F.SizeofType t p) h = sizeof_type_step_kept here (heading here t.0) p (t.1 h)
  case-Expr (Expr-F.Index a b p) h = index_step_kept (typing here a.0) (typing here b.0) p (a.1 (first_so (plain T a.0) _ h)) (b.1 (second_so (plain T a.0) _ h))
  case-Expr (Expr-F.Call f es p) h =
      called_kept here p (typing here f.0) (map (typing here) (map (λ e. e.0) es)) (f.1 (first_so (plain T f.0) _ h)) (each_so (typing here) (plain T) (OfTyping T) es (second_so (plain T f.0) _ h))
  case-Expr (Expr-F.Field a name arrow p) h = field_step_kept (typing here a.0) name arrow p (a.1 h)
  case-Expr (Expr-F.PostInc s a p) h = post_step_kept s (typing here a.0) p (a.1 h)
  case-Expr (Expr-F.«Expr::Name» name p) h = name_kept here.settled (here.body name.at) name p
  case-Expr (Expr-F.Int t p) h = constant_kept here.widths t p
  case-Expr (Expr-F.Char c p) h = keeps (λ w. refl)
  case-Expr (Expr-F.Odd p) h = keeps (λ w. refl)
  case-Expr (Expr-F.Str ss p) h = string_kept ss p

  case-Head : (y : Head-F SB SD SE SA SN SC SH SM SP SS) → head_plain (tested-Head y) ≡ true → OfHeading T (head_step here (typed-Head y))
  case-Head y h = head_kept here (naming here y.specs.0) (declaring here y.declarator.0) (y.specs.1 (first_so (plain_specs T y.specs.0) _ h)) (y.declarator.1 (second_so (plain_specs T y.specs.0) _ h))

  case-Specs : (y : Specs-F SB SD SE SA SN SC SH SM SP SS) → specs_plain (tested-Specs y) ≡ true → OfNaming T (specs_step here (typed-Specs y))
  case-Specs y h = y.base.1 h

  aggregate_by : (at : Pos) (union : Bool) (name : Option NameId) (b : Option (List SM)) → aggregate_plain T (tested-Aggregate (record { pos = at; union = union; tag = name; body = b })) ≡ true → OfNaming T (aggregate_step here (typed-Aggregate (record { pos = at; union = union; tag = name; body = b })))
  aggregate_by at union None None h = never h
  aggregate_by at union None (Some ms) h = never h
  aggregate_by at union (Some name) (Some ms) h = never h
  aggregate_by at union (Some name) None h = aggregate_kept here at union name h

  enum_by : (at : Pos) (name : Option NameId) (b : Option (List SC)) → enum_plain T (tested-EnumSpec (record { pos = at; tag = name; body = b })) ≡ true → OfNaming T (enum_step here (typed-EnumSpec (record { pos = at; tag = name; body = b })))
  enum_by at None None h = never h
  enum_by at None (Some es) h = never h
  enum_by at (Some name) (Some es) h = never h
  enum_by at (Some name) None h = enum_kept here at name h

  case-Aggregate : (y : Aggregate-F SB SD SE SA SN SC SH SM SP SS) → aggregate_plain T (tested-Aggregate y) ≡ true → OfNaming T (aggregate_step here (typed-Aggregate y))
  case-Aggregate y h = aggregate_by y.pos y.union y.tag y.body h

  case-EnumSpec : (y : EnumSpec-F SB SD SE SA SN SC SH SM SP SS) → enum_plain T (tested-EnumSpec y) ≡ true → OfNaming T (enum_step here (typed-EnumSpec y))
  case-EnumSpec y h = enum_by y.pos y.tag y.body h

  step-Base : (x : Base-F Base Declarator Expr Aggregate EnumSpec Enumerator Head Member Part Specs) (y : Base-F SB SD SE SA SN SC SH SM SP SS) → bare-Base y ≡ x → LB (roll-Base x)
  step-Base x y is =
      subst (λ (z : Base-F Base Declarator Expr Aggregate EnumSpec Enumerator Head Member Part Specs). LB (roll-Base z)) is (λ h.
      subst (OfNaming T) (sym (folds.fold-roll-Base Naming Declaring Typing Naming Naming Counting Heading Adding AddingOne Naming (base_step here) (declarator_step here) (expr_step here) (aggregate_step here) (enum_step here) (enumerator_step here) (head_step here) (member_step here) (part_step here) (specs_step here) (bare-Base y)))
      (case-Base y (sym (folds.fold-roll-Base Bool Bool Bool Bool Bool Bool Bool Bool Bool Bool base_plain declarator_plain expr_plain (aggregate_plain T) (enum_plain T) enumerator_plain head_plain member_plain part_plain specs_plain (bare-Base y)) ∙ h)))

  step-Declarator : (x : Declarator-F Base Declarator Expr Aggregate EnumSpec Enumerator Head Member Part Specs) (y : Declarator-F SB SD SE SA SN SC SH SM SP SS) → bare-Declarator y ≡ x → LD (roll-Declarator x)
  step-Declarator x y is =
      subst (λ (z : Declarator-F Base Declarator Expr Aggregate EnumSpec Enumerator Head Member Part Specs). LD (roll-Declarator z)) is (λ h.
      subst (OfDeclaring T) (sym (folds.fold-roll-Declarator Naming Declaring Typing Naming Naming Counting Heading Adding AddingOne Naming (base_step here) (declarator_step here) (expr_step here) (aggregate_step here) (enum_step here) (enumerator_step here) (head_step here) (member_step here) (part_step here) (specs_step here) (bare-Declarator y)))
      (case-Declarator y (sym (folds.fold-roll-Declarator Bool Bool Bool Bool Bool Bool Bool Bool Bool Bool base_plain declarator_plain expr_plain (aggregate_plain T) (enum_plain T) enumerator_plain head_plain member_plain part_plain specs_plain (bare-Declarator y)) ∙ h)))

  step-Expr : (x : Expr-F Base Declarator Expr Aggregate EnumSpec Enumerator Head Member Part Specs) (y : Expr-F SB SD SE SA SN SC SH SM SP SS) → bare-Expr y ≡ x → LE (roll-Expr x)
  step-Expr x y is =
      subst (λ (z : Expr-F Base Declarator Expr Aggregate EnumSpec Enumerator Head Member Part Specs). LE (roll-Expr z)) is (λ h.
      subst (OfTyping T) (sym (folds.fold-roll-Expr Naming Declaring Typing Naming Naming Counting Heading Adding AddingOne Naming (base_step here) (declarator_step here) (expr_step here) (aggregate_step here) (enum_step here) (enumerator_step here) (head_step here) (member_step here) (part_step here) (specs_step here) (bare-Expr y)))
      (case-Expr y (sym (folds.fold-roll-Expr Bool Bool Bool Bool Bool Bool Bool Bool Bool Bool base_plain declarator_plain expr_plain (aggregate_plain T) (enum_plain T) enumerator_plain head_plain member_plain part_plain specs_plain (bare-Expr y)) ∙ h)))

  step-Aggregate : (x : Aggregate-F Base Declarator Expr Aggregate EnumSpec Enumerator Head Member Part Specs) (y : Aggregate-F SB SD SE SA SN SC SH SM SP SS) → bare-Aggregate y ≡ x → LA (roll-Aggregate x)
  step-Aggregate x y is =
      subst (λ (z : Aggregate-F Base Declarator Expr Aggregate EnumSpec Enumerator Head Member Part Specs). LA (roll-Aggregate z)) is (λ h.
      subst (OfNaming T) (sym (folds.fold-roll-Aggregate Naming Declaring Typing Naming Naming Counting Heading Adding AddingOne Naming (base_step here) (declarator_step here) (expr_step here) (aggregate_step here) (enum_step here) (enumerator_step here) (head_step here) (member_step here) (part_step here) (specs_step here) (bare-Aggregate y)))
      (case-Aggregate y (sym (folds.fold-roll-Aggregate Bool Bool Bool Bool Bool Bool Bool Bool Bool Bool base_plain declarator_plain expr_plain (aggregate_plain T) (enum_plain T) enumerator_plain head_plain member_plain part_plain specs_plain (bare-Aggregate y)) ∙ h)))

  step-EnumSpec : (x : EnumSpec-F Base Declarator Expr Aggregate EnumSpec Enumerator Head Member Part Specs) (y : EnumSpec-F SB SD SE SA SN SC SH SM SP SS) → bare-EnumSpec y ≡ x → LN (roll-EnumSpec x)
  step-EnumSpec x y is =
      subst (λ (z : EnumSpec-F Base Declarator Expr Aggregate EnumSpec Enumerator Head Member Part Specs). LN (roll-EnumSpec z)) is (λ h.
      subst (OfNaming T) (sym (folds.fold-roll-EnumSpec Naming Declaring Typing Naming Naming Counting Heading Adding AddingOne Naming (base_step here) (declarator_step here) (expr_step here) (aggregate_step here) (enum_step here) (enumerator_step here) (head_step here) (member_step here) (part_step here) (specs_step here) (bare-EnumSpec y)))
      (case-EnumSpec y (sym (folds.fold-roll-EnumSpec Bool Bool Bool Bool Bool Bool Bool Bool Bool Bool base_plain declarator_plain expr_plain (aggregate_plain T) (enum_plain T) enumerator_plain head_plain member_plain part_plain specs_plain (bare-EnumSpec y)) ∙ h)))

  step-Head : (x : Head-F Base Declarator Expr Aggregate EnumSpec Enumerator Head Member Part Specs) (y : Head-F SB SD SE SA SN SC SH SM SP SS) → bare-Head y ≡ x → LH (roll-Head x)
  step-Head x y is =
      subst (λ (z : Head-F Base Declarator Expr Aggregate EnumSpec Enumerator Head Member Part Specs). LH (roll-Head z)) is (λ h.
      subst (OfHeading T) (sym (folds.fold-roll-Head Naming Declaring Typing Naming Naming Counting Heading Adding AddingOne Naming (base_step here) (declarator_step here) (expr_step here) (aggregate_step here) (enum_step here) (enumerator_step here) (head_step here) (member_step here) (part_step here) (specs_step here) (bare-Head y)))
      (case-Head y (sym (folds.fold-roll-Head Bool Bool Bool Bool Bool Bool Bool Bool Bool Bool base_plain declarator_plain expr_plain (aggregate_plain T) (enum_plain T) enumerator_plain head_plain member_plain part_plain specs_plain (bare-Head y)) ∙ h)))

  step-Specs : (x : Specs-F Base Declarator Expr Aggregate EnumSpec Enumerator Head Member Part Specs) (y : Specs-F SB SD SE SA SN SC SH SM SP SS) → bare-Specs y ≡ x → LS (roll-Specs x)
  step-Specs x y is =
      subst (λ (z : Specs-F Base Declarator Expr Aggregate EnumSpec Enumerator Head Member Part Specs). LS (roll-Specs z)) is (λ h.
      subst (OfNaming T) (sym (folds.fold-roll-Specs Naming Declaring Typing Naming Naming Counting Heading Adding AddingOne Naming (base_step here) (declarator_step here) (expr_step here) (aggregate_step here) (enum_step here) (enumerator_step here) (head_step here) (member_step here) (part_step here) (specs_step here) (bare-Specs y)))
      (case-Specs y (sym (folds.fold-roll-Specs Bool Bool Bool Bool Bool Bool Bool Bool Bool Bool base_plain declarator_plain expr_plain (aggregate_plain T) (enum_plain T) enumerator_plain head_plain member_plain part_plain specs_plain (bare-Specs y)) ∙ h)))

  pub expressions_kept : (x : Expr) → LE x
  expressions_kept =
      folds.ind-Expr LB LD LE LA LN (λ x. Unit {0}) LH (λ x. Unit {0}) (λ x. Unit {0}) LS
      step-Base step-Declarator step-Expr step-Aggregate step-EnumSpec (λ x y is. tt) step-Head (λ x y is. tt) (λ x y is. tt) step-Specs

  pub declarators_kept : (x : Declarator) → LD x
  declarators_kept =
      folds.ind-Declarator LB LD LE LA LN (λ x. Unit {0}) LH (λ x. Unit {0}) (λ x. Unit {0}) LS
      step-Base step-Declarator step-Expr step-Aggregate step-EnumSpec (λ x y is. tt) step-Head (λ x y is. tt) (λ x y is. tt) step-Specs

  pub specifiers_kept : (x : Specs) → LS x
  specifiers_kept =
      folds.ind-Specs LB LD LE LA LN (λ x. Unit {0}) LH (λ x. Unit {0}) (λ x. Unit {0}) LS
      step-Base step-Declarator step-Expr step-Aggregate step-EnumSpec (λ x y is. tt) step-Head (λ x y is. tt) (λ x y is. tt) step-Specs
