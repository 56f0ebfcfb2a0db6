-- The walk leaves the globals as they are: by induction over the trees that hold one another.
use Rattle.std.proofs.Common.{◌≡◌, Bool, Option, Some, None, List, [], ◌∷◌, map, subst, refl, sym}
use Rattle.sc_base.specs.declared.pos.Pos.{Pos}
use Rattle.sc_base.specs.declared.pos.NameId.{NameId}
use Rattle.sc_tree.specs.declared.expr.Expr.{Expr, Expr-F, roll-Expr}
use Rattle.sc_tree.specs.declared.expr.Head.{Head, Head-F, roll-Head}
use Rattle.sc_tree.specs.declared.expr.Specs.{Specs, Specs-F, roll-Specs}
use Rattle.sc_tree.specs.declared.expr.Base.{Base, Base-F, roll-Base}
use Rattle.sc_tree.specs.declared.expr.Aggregate.{Aggregate, Aggregate-F, roll-Aggregate}
use Rattle.sc_tree.specs.declared.expr.Member.{Member, Member-F, roll-Member}
use Rattle.sc_tree.specs.declared.expr.Part.{Part, Part-F, roll-Part}
use Rattle.sc_tree.specs.declared.expr.EnumSpec.{EnumSpec, EnumSpec-F, roll-EnumSpec}
use Rattle.sc_tree.specs.declared.expr.Enumerator.{Enumerator, Enumerator-F, roll-Enumerator}
use Rattle.sc_tree.specs.declared.expr.Declarator.{Declarator, Declarator-F, roll-Declarator}
use Rattle.sc_tree.specs.declared.expr.Base.TheFolds as folds
use Rattle.sc_typing.specs.Here.{Here}
use Rattle.sc_typing.specs.Shapes.{Typing, Declaring, Heading, Naming, Adding, AddingOne, Counting}
use Rattle.sc_typing.specs.Typing.{base_step, declarator_step, expr_step, aggregate_step, enum_step, enumerator_step, head_step, member_step, part_step, specs_step, basing, declaring, typing, structuring, listing, counting, heading, adding, adding_one, naming}
use Rattle.typing_laws.proofs.Steps.{keeps}
use Rattle.typing_laws.proofs.Rules.{constant_kept}
use Rattle.typing_laws.proofs.Parts.{name_kept, string_kept, typedef_kept}
use Rattle.typing_laws.proofs.Walk.{OfTyping, OfDeclaring, OfHeading, OfNaming, OfAdding, OfAddingOne, OfCounting, Each, index_step_kept, field_step_kept, comma_kept, unary_step_kept, pre_step_kept, post_step_kept, shape_kept, function_kept, called_kept, array_kept, head_kept, part_kept, member_of_kept, aggregate_kept, counted_kept, enum_kept, assign_kept, choose_kept, operate_kept, cast_step_kept, sizeof_step_kept, sizeof_type_step_kept}

-- What holds of each part of a list, or of one that may be left out.

each : {A B : Type 0} (f : A → B) (P : B → Type 0) (xs : List ((a : A) × P (f a))) → Each P (map f (map (λ x. x.0) xs))
each f P [] = tt
each f P (x ∷ xs) = (x.1, each f P xs)

module _ (here : Here) where
  -- a part of a tree, of which the law is known
  abbrev SB : Type 0
  SB = (x : Base) × OfNaming (basing here x)

  abbrev SD : Type 0
  SD = (x : Declarator) × OfDeclaring (declaring here x)

  abbrev SE : Type 0
  SE = (x : Expr) × OfTyping (typing here x)

  abbrev SA : Type 0
  SA = (x : Aggregate) × OfNaming (structuring here x)

  abbrev SN : Type 0
  SN = (x : EnumSpec) × OfNaming (listing here x)

  abbrev SC : Type 0
  SC = (x : Enumerator) × OfCounting (counting here x)

  abbrev SH : Type 0
  SH = (x : Head) × OfHeading (heading here x)

  abbrev SM : Type 0
  SM = (x : Member) × OfAdding (adding here x)

  abbrev SP : Type 0
  SP = (x : Part) × OfAddingOne (adding_one here x)

  abbrev SS : Type 0
  SS = (x : Specs) × OfNaming (naming here x)

  abbrev bare-Base : Base-F SB SD SE SA SN SC SH SM SP SS → Base-F Base Declarator Expr Aggregate EnumSpec Enumerator Head Member Part Specs
  bare-Base y = folds.map-Base SB SD SE SA SN SC SH SM SP SS Base Declarator Expr Aggregate EnumSpec Enumerator Head Member Part Specs (λ e. e.0) (λ e. e.0) (λ e. e.0) (λ e. e.0) (λ e. e.0) (λ e. e.0) (λ e. e.0) (λ e. e.0) (λ e. e.0) (λ e. e.0) y

  abbrev typed-Base : Base-F SB SD SE SA SN SC SH SM SP SS → Base-F Naming Declaring Typing Naming Naming Counting Heading Adding AddingOne Naming
  typed-Base y = folds.map-Base Base Declarator Expr Aggregate EnumSpec Enumerator Head Member Part Specs Naming Declaring Typing Naming Naming Counting Heading Adding AddingOne Naming (basing here) (declaring here) (typing here) (structuring here) (listing here) (counting here) (heading here) (adding here) (adding_one here) (naming here) (bare-Base y)

  abbrev bare-Declarator : Declarator-F SB SD SE SA SN SC SH SM SP SS → Declarator-F Base Declarator Expr Aggregate EnumSpec Enumerator Head Member Part Specs
  bare-Declarator y = folds.map-Declarator SB SD SE SA SN SC SH SM SP SS Base Declarator Expr Aggregate EnumSpec Enumerator Head Member Part Specs (λ e. e.0) (λ e. e.0) (λ e. e.0) (λ e. e.0) (λ e. e.0) (λ e. e.0) (λ e. e.0) (λ e. e.0) (λ e. e.0) (λ e. e.0) y

  abbrev typed-Declarator : Declarator-F SB SD SE SA SN SC SH SM SP SS → Declarator-F Naming Declaring Typing Naming Naming Counting Heading Adding AddingOne Naming
  typed-Declarator y = folds.map-Declarator Base Declarator Expr Aggregate EnumSpec Enumerator Head Member Part Specs Naming Declaring Typing Naming Naming Counting Heading Adding AddingOne Naming (basing here) (declaring here) (typing here) (structuring here) (listing here) (counting here) (heading here) (adding here) (adding_one here) (naming here) (bare-Declarator y)

  abbrev bare-Expr : Expr-F SB SD SE SA SN SC SH SM SP SS → Expr-F Base Declarator Expr Aggregate EnumSpec Enumerator Head Member Part Specs
  bare-Expr y = folds.map-Expr SB SD SE SA SN SC SH SM SP SS Base Declarator Expr Aggregate EnumSpec Enumerator Head Member Part Specs (λ e. e.0) (λ e. e.0) (λ e. e.0) (λ e. e.0) (λ e. e.0) (λ e. e.0) (λ e. e.0) (λ e. e.0) (λ e. e.0) (λ e. e.0) y

  abbrev typed-Expr : Expr-F SB SD SE SA SN SC SH SM SP SS → Expr-F Naming Declaring Typing Naming Naming Counting Heading Adding AddingOne Naming
  typed-Expr y = folds.map-Expr Base Declarator Expr Aggregate EnumSpec Enumerator Head Member Part Specs Naming Declaring Typing Naming Naming Counting Heading Adding AddingOne Naming (basing here) (declaring here) (typing here) (structuring here) (listing here) (counting here) (heading here) (adding here) (adding_one here) (naming here) (bare-Expr y)

  abbrev bare-Aggregate : Aggregate-F SB SD SE SA SN SC SH SM SP SS → Aggregate-F Base Declarator Expr Aggregate EnumSpec Enumerator Head Member Part Specs
  bare-Aggregate y = folds.map-Aggregate SB SD SE SA SN SC SH SM SP SS Base Declarator Expr Aggregate EnumSpec Enumerator Head Member Part Specs (λ e. e.0) (λ e. e.0) (λ e. e.0) (λ e. e.0) (λ e. e.0) (λ e. e.0) (λ e. e.0) (λ e. e.0) (λ e. e.0) (λ e. e.0) y

  abbrev typed-Aggregate : Aggregate-F SB SD SE SA SN SC SH SM SP SS → Aggregate-F Naming Declaring Typing Naming Naming Counting Heading Adding AddingOne Naming
  typed-Aggregate y = folds.map-Aggregate Base Declarator Expr Aggregate EnumSpec Enumerator Head Member Part Specs Naming Declaring Typing Naming Naming Counting Heading Adding AddingOne Naming (basing here) (declaring here) (typing here) (structuring here) (listing here) (counting here) (heading here) (adding here) (adding_one here) (naming here) (bare-Aggregate y)

  abbrev bare-EnumSpec : EnumSpec-F SB SD SE SA SN SC SH SM SP SS → EnumSpec-F Base Declarator Expr Aggregate EnumSpec Enumerator Head Member Part Specs
  bare-EnumSpec y = folds.map-EnumSpec SB SD SE SA SN SC SH SM SP SS Base Declarator Expr Aggregate EnumSpec Enumerator Head Member Part Specs (λ e. e.0) (λ e. e.0) (λ e. e.0) (λ e. e.0) (λ e. e.0) (λ e. e.0) (λ e. e.0) (λ e. e.0) (λ e. e.0) (λ e. e.0) y

  abbrev typed-EnumSpec : EnumSpec-F SB SD SE SA SN SC SH SM SP SS → EnumSpec-F Naming Declaring Typing Naming Naming Counting Heading Adding AddingOne Naming
  typed-EnumSpec y = folds.map-EnumSpec Base Declarator Expr Aggregate EnumSpec Enumerator Head Member Part Specs Naming Declaring Typing Naming Naming Counting Heading Adding AddingOne Naming (basing here) (declaring here) (typing here) (structuring here) (listing here) (counting here) (heading here) (adding here) (adding_one here) (naming here) (bare-EnumSpec y)

  abbrev bare-Enumerator : Enumerator-F SB SD SE SA SN SC SH SM SP SS → Enumerator-F Base Declarator Expr Aggregate EnumSpec Enumerator Head Member Part Specs
  bare-Enumerator y = folds.map-Enumerator SB SD SE SA SN SC SH SM SP SS Base Declarator Expr Aggregate EnumSpec Enumerator Head Member Part Specs (λ e. e.0) (λ e. e.0) (λ e. e.0) (λ e. e.0) (λ e. e.0) (λ e. e.0) (λ e. e.0) (λ e. e.0) (λ e. e.0) (λ e. e.0) y

  abbrev typed-Enumerator : Enumerator-F SB SD SE SA SN SC SH SM SP SS → Enumerator-F Naming Declaring Typing Naming Naming Counting Heading Adding AddingOne Naming
  typed-Enumerator y = folds.map-Enumerator Base Declarator Expr Aggregate EnumSpec Enumerator Head Member Part Specs Naming Declaring Typing Naming Naming Counting Heading Adding AddingOne Naming (basing here) (declaring here) (typing here) (structuring here) (listing here) (counting here) (heading here) (adding here) (adding_one here) (naming here) (bare-Enumerator y)

  abbrev bare-Head : Head-F SB SD SE SA SN SC SH SM SP SS → Head-F Base Declarator Expr Aggregate EnumSpec Enumerator Head Member Part Specs
  bare-Head y = folds.map-Head SB SD SE SA SN SC SH SM SP SS Base Declarator Expr Aggregate EnumSpec Enumerator Head Member Part Specs (λ e. e.0) (λ e. e.0) (λ e. e.0) (λ e. e.0) (λ e. e.0) (λ e. e.0) (λ e. e.0) (λ e. e.0) (λ e. e.0) (λ e. e.0) y

  abbrev typed-Head : Head-F SB SD SE SA SN SC SH SM SP SS → Head-F Naming Declaring Typing Naming Naming Counting Heading Adding AddingOne Naming
  typed-Head y = folds.map-Head Base Declarator Expr Aggregate EnumSpec Enumerator Head Member Part Specs Naming Declaring Typing Naming Naming Counting Heading Adding AddingOne Naming (basing here) (declaring here) (typing here) (structuring here) (listing here) (counting here) (heading here) (adding here) (adding_one here) (naming here) (bare-Head y)

  abbrev bare-Member : Member-F SB SD SE SA SN SC SH SM SP SS → Member-F Base Declarator Expr Aggregate EnumSpec Enumerator Head Member Part Specs
  bare-Member y = folds.map-Member SB SD SE SA SN SC SH SM SP SS Base Declarator Expr Aggregate EnumSpec Enumerator Head Member Part Specs (λ e. e.0) (λ e. e.0) (λ e. e.0) (λ e. e.0) (λ e. e.0) (λ e. e.0) (λ e. e.0) (λ e. e.0) (λ e. e.0) (λ e. e.0) y

  abbrev typed-Member : Member-F SB SD SE SA SN SC SH SM SP SS → Member-F Naming Declaring Typing Naming Naming Counting Heading Adding AddingOne Naming
  typed-Member y = folds.map-Member Base Declarator Expr Aggregate EnumSpec Enumerator Head Member Part Specs Naming Declaring Typing Naming Naming Counting Heading Adding AddingOne Naming (basing here) (declaring here) (typing here) (structuring here) (listing here) (counting here) (heading here) (adding here) (adding_one here) (naming here) (bare-Member y)

  abbrev bare-Part : Part-F SB SD SE SA SN SC SH SM SP SS → Part-F Base Declarator Expr Aggregate EnumSpec Enumerator Head Member Part Specs
  bare-Part y = folds.map-Part SB SD SE SA SN SC SH SM SP SS Base Declarator Expr Aggregate EnumSpec Enumerator Head Member Part Specs (λ e. e.0) (λ e. e.0) (λ e. e.0) (λ e. e.0) (λ e. e.0) (λ e. e.0) (λ e. e.0) (λ e. e.0) (λ e. e.0) (λ e. e.0) y

  abbrev typed-Part : Part-F SB SD SE SA SN SC SH SM SP SS → Part-F Naming Declaring Typing Naming Naming Counting Heading Adding AddingOne Naming
  typed-Part y = folds.map-Part Base Declarator Expr Aggregate EnumSpec Enumerator Head Member Part Specs Naming Declaring Typing Naming Naming Counting Heading Adding AddingOne Naming (basing here) (declaring here) (typing here) (structuring here) (listing here) (counting here) (heading here) (adding here) (adding_one here) (naming here) (bare-Part y)

  abbrev bare-Specs : Specs-F SB SD SE SA SN SC SH SM SP SS → Specs-F Base Declarator Expr Aggregate EnumSpec Enumerator Head Member Part Specs
  bare-Specs y = folds.map-Specs SB SD SE SA SN SC SH SM SP SS Base Declarator Expr Aggregate EnumSpec Enumerator Head Member Part Specs (λ e. e.0) (λ e. e.0) (λ e. e.0) (λ e. e.0) (λ e. e.0) (λ e. e.0) (λ e. e.0) (λ e. e.0) (λ e. e.0) (λ e. e.0) y

  abbrev typed-Specs : Specs-F SB SD SE SA SN SC SH SM SP SS → Specs-F Naming Declaring Typing Naming Naming Counting Heading Adding AddingOne Naming
  typed-Specs y = folds.map-Specs Base Declarator Expr Aggregate EnumSpec Enumerator Head Member Part Specs Naming Declaring Typing Naming Naming Counting Heading Adding AddingOne Naming (basing here) (declaring here) (typing here) (structuring here) (listing here) (counting here) (heading here) (adding here) (adding_one here) (naming here) (bare-Specs y)

  case-Base : (y : Base-F SB SD SE SA SN SC SH SM SP SS) → OfNaming (base_step here (typed-Base y))
  case-Base (Base-F.Words t) alone = keeps (λ w. refl)
  case-Base (Base-F.Struct a) alone = a.1 alone
  case-Base (Base-F.Enum e) alone = e.1 alone
  case-Base (Base-F.Named name at) alone = typedef_kept name at

  case-Declarator : (y : Declarator-F SB SD SE SA SN SC SH SM SP SS) → OfDeclaring (declarator_step here (typed-Declarator y))
  case-Declarator (Declarator-F.«Declarator::Name» n) = shape_kept
  case-Declarator (Declarator-F.Pointer d) = λ at t. d.1 at _
  case-Declarator (Declarator-F.Array d None) = array_kept here (declaring here d.0) None d.1 tt
  case-Declarator (Declarator-F.Array d (Some n)) = array_kept here (declaring here d.0) (Some (typing here n.0)) d.1 n.1
  case-Declarator (Declarator-F.Func d None variadic) = function_kept (declaring here d.0) None variadic d.1 tt
  case-Declarator (Declarator-F.Func d (Some hs) variadic) = function_kept (declaring here d.0) (Some (map (heading here) (map (λ h. h.0) hs))) variadic d.1 (each (heading here) OfHeading hs)

  case-Expr : (y : Expr-F SB SD SE SA SN SC SH SM SP SS) → OfTyping (expr_step here (typed-Expr y))
  case-Expr (Expr-F.Comma a b p) = comma_kept (typing here a.0) (typing here b.0) p a.1 b.1
  case-Expr (Expr-F.Assign o a b p) = assign_kept here o (typing here a.0) (typing here b.0) p a.1 b.1
  case-Expr (Expr-F.Cond a b c p) = choose_kept here (typing here a.0) (typing here b.0) (typing here c.0) p a.1 b.1 c.1
  case-Expr (Expr-F.Binary o a b p) = operate_kept here o (typing here a.0) (typing here b.0) p a.1 b.1
  case-Expr (Expr-F.Cast h a p) = cast_step_kept here (heading here h.0) (typing here a.0) p h.1 a.1
  case-Expr (Expr-F.Unary o a p) = unary_step_kept o (typing here a.0) p a.1
  case-Expr (Expr-F.PreInc s a p) = pre_step_kept s (typing here a.0) p a.1
  case-Expr (Expr-F.SizeofExpr a p) = sizeof_step_kept here (typing here a.0) p a.1
  case-Expr (Expr-F.SizeofType h p) = sizeof_type_step_kept here (heading here h.0) p h.1
  case-Expr (Expr-F.Index a b p) = index_step_kept (typing here a.0) (typing here b.0) p a.1 b.1
  case-Expr (Expr-F.Call f es p) = called_kept here p (typing here f.0) (map (typing here) (map (λ e. e.0) es)) f.1 (each (typing here) OfTyping es)
  case-Expr (Expr-F.Field a name arrow p) = field_step_kept (typing here a.0) name arrow p a.1
  case-Expr (Expr-F.PostInc s a p) = post_step_kept s (typing here a.0) p a.1
  case-Expr (Expr-F.«Expr::Name» name p) = name_kept here.settled (here.body name.at) name p
  case-Expr (Expr-F.Int t p) = constant_kept here.widths t p
  case-Expr (Expr-F.Char c p) = keeps (λ w. refl)
  case-Expr (Expr-F.Odd p) = keeps (λ w. refl)
  case-Expr (Expr-F.Str ss p) = string_kept ss p

  aggregate_by : (at : Pos) (union : Bool) (name : Option NameId) (body : Option (List SM)) → OfNaming (aggregate_step here (typed-Aggregate (record { pos = at; union = union; tag = name; body = body })))
  aggregate_by at union name None = aggregate_kept here at union name None tt
  aggregate_by at union name (Some ms) = aggregate_kept here at union name (Some (map (adding here) (map (λ m. m.0) ms))) (each (adding here) OfAdding ms)

  enum_by : (at : Pos) (name : Option NameId) (body : Option (List SC)) → OfNaming (enum_step here (typed-EnumSpec (record { pos = at; tag = name; body = body })))
  enum_by at name None = enum_kept here at name None tt
  enum_by at name (Some es) = enum_kept here at name (Some (map (counting here) (map (λ e. e.0) es))) (each (counting here) OfCounting es)

  enumerator_by : (at : Pos) (name : NameId) (value : Option SE) → OfCounting (enumerator_step here (typed-Enumerator (record { pos = at; name = name; value = value })))
  enumerator_by at name None = counted_kept here at name None tt
  enumerator_by at name (Some e) = counted_kept here at name (Some (typing here e.0)) e.1

  part_by : (d : Option SD) (n : Option SE) → OfAddingOne (part_step here (typed-Part (record { declarator = d; width = n })))
  part_by None None = part_kept here None None tt tt
  part_by None (Some e) = part_kept here None (Some (typing here e.0)) tt e.1
  part_by (Some d) None = part_kept here (Some (declaring here d.0)) None d.1 tt
  part_by (Some d) (Some e) = part_kept here (Some (declaring here d.0)) (Some (typing here e.0)) d.1 e.1

  case-Aggregate : (y : Aggregate-F SB SD SE SA SN SC SH SM SP SS) → OfNaming (aggregate_step here (typed-Aggregate y))
  case-Aggregate y = aggregate_by y.pos y.union y.tag y.body

  case-EnumSpec : (y : EnumSpec-F SB SD SE SA SN SC SH SM SP SS) → OfNaming (enum_step here (typed-EnumSpec y))
  case-EnumSpec y = enum_by y.pos y.tag y.body

  case-Enumerator : (y : Enumerator-F SB SD SE SA SN SC SH SM SP SS) → OfCounting (enumerator_step here (typed-Enumerator y))
  case-Enumerator y = enumerator_by y.pos y.name y.value

  case-Head : (y : Head-F SB SD SE SA SN SC SH SM SP SS) → OfHeading (head_step here (typed-Head y))
  case-Head y = head_kept here (naming here y.specs.0) (declaring here y.declarator.0) y.specs.1 y.declarator.1

  case-Member : (y : Member-F SB SD SE SA SN SC SH SM SP SS) → OfAdding (member_step here (typed-Member y))
  case-Member y = member_of_kept here (naming here y.specs.0) (map (adding_one here) (map (λ p. p.0) y.parts)) y.specs.1 (each (adding_one here) OfAddingOne y.parts)

  case-Part : (y : Part-F SB SD SE SA SN SC SH SM SP SS) → OfAddingOne (part_step here (typed-Part y))
  case-Part y = part_by y.declarator y.width

  case-Specs : (y : Specs-F SB SD SE SA SN SC SH SM SP SS) → OfNaming (specs_step here (typed-Specs y))
  case-Specs y = y.base.1

  step-Base : (x : Base-F Base Declarator Expr Aggregate EnumSpec Enumerator Head Member Part Specs) (y : Base-F SB SD SE SA SN SC SH SM SP SS) → bare-Base y ≡ x → OfNaming (basing here (roll-Base x))
  step-Base x y is =
      subst (λ (z : Base-F Base Declarator Expr Aggregate EnumSpec Enumerator Head Member Part Specs). OfNaming (basing here (roll-Base z))) is (subst OfNaming (sym (folds.fold-roll-Base Naming Declaring Typing Naming Naming Counting Heading Adding AddingOne Naming (base_step here) (declarator_step here) (expr_step here) (aggregate_step here) (enum_step here) (enumerator_step here) (head_step here) (member_step here) (part_step here) (specs_step here) (bare-Base y))) (case-Base y))

  step-Declarator : (x : Declarator-F Base Declarator Expr Aggregate EnumSpec Enumerator Head Member Part Specs) (y : Declarator-F SB SD SE SA SN SC SH SM SP SS) → bare-Declarator y ≡ x → OfDeclaring (declaring here (roll-Declarator x))
  step-Declarator x y is =
      subst (λ (z : Declarator-F Base Declarator Expr Aggregate EnumSpec Enumerator Head Member Part Specs). OfDeclaring (declaring here (roll-Declarator z))) is (subst OfDeclaring (sym (folds.fold-roll-Declarator Naming Declaring Typing Naming Naming Counting Heading Adding AddingOne Naming (base_step here) (declarator_step here) (expr_step here) (aggregate_step here) (enum_step here) (enumerator_step here) (head_step here) (member_step here) (part_step here) (specs_step here) (bare-Declarator y))) (case-Declarator y))

  step-Expr : (x : Expr-F Base Declarator Expr Aggregate EnumSpec Enumerator Head Member Part Specs) (y : Expr-F SB SD SE SA SN SC SH SM SP SS) → bare-Expr y ≡ x → OfTyping (typing here (roll-Expr x))
  step-Expr x y is =
      subst (λ (z : Expr-F Base Declarator Expr Aggregate EnumSpec Enumerator Head Member Part Specs). OfTyping (typing here (roll-Expr z))) is (subst OfTyping (sym (folds.fold-roll-Expr Naming Declaring Typing Naming Naming Counting Heading Adding AddingOne Naming (base_step here) (declarator_step here) (expr_step here) (aggregate_step here) (enum_step here) (enumerator_step here) (head_step here) (member_step here) (part_step here) (specs_step here) (bare-Expr y))) (case-Expr y))

  step-Aggregate : (x : Aggregate-F Base Declarator Expr Aggregate EnumSpec Enumerator Head Member Part Specs) (y : Aggregate-F SB SD SE SA SN SC SH SM SP SS) → bare-Aggregate y ≡ x → OfNaming (structuring here (roll-Aggregate x))
  step-Aggregate x y is =
      subst (λ (z : Aggregate-F Base Declarator Expr Aggregate EnumSpec Enumerator Head Member Part Specs). OfNaming (structuring here (roll-Aggregate z))) is (subst OfNaming (sym (folds.fold-roll-Aggregate Naming Declaring Typing Naming Naming Counting Heading Adding AddingOne Naming (base_step here) (declarator_step here) (expr_step here) (aggregate_step here) (enum_step here) (enumerator_step here) (head_step here) (member_step here) (part_step here) (specs_step here) (bare-Aggregate y))) (case-Aggregate y))

  step-EnumSpec : (x : EnumSpec-F Base Declarator Expr Aggregate EnumSpec Enumerator Head Member Part Specs) (y : EnumSpec-F SB SD SE SA SN SC SH SM SP SS) → bare-EnumSpec y ≡ x → OfNaming (listing here (roll-EnumSpec x))
  step-EnumSpec x y is =
      subst (λ (z : EnumSpec-F Base Declarator Expr Aggregate EnumSpec Enumerator Head Member Part Specs). OfNaming (listing here (roll-EnumSpec z))) is (subst OfNaming (sym (folds.fold-roll-EnumSpec Naming Declaring Typing Naming Naming Counting Heading Adding AddingOne Naming (base_step here) (declarator_step here) (expr_step here) (aggregate_step here) (enum_step here) (enumerator_step here) (head_step here) (member_step here) (part_step here) (specs_step here) (bare-EnumSpec y))) (case-EnumSpec y))

  step-Enumerator : (x : Enumerator-F Base Declarator Expr Aggregate EnumSpec Enumerator Head Member Part Specs) (y : Enumerator-F SB SD SE SA SN SC SH SM SP SS) → bare-Enumerator y ≡ x → OfCounting (counting here (roll-Enumerator x))
  step-Enumerator x y is =
      subst (λ (z : Enumerator-F Base Declarator Expr Aggregate EnumSpec Enumerator Head Member Part Specs). OfCounting (counting here (roll-Enumerator z))) is (subst OfCounting (sym (folds.fold-roll-Enumerator Naming Declaring Typing Naming Naming Counting Heading Adding AddingOne Naming (base_step here) (declarator_step here) (expr_step here) (aggregate_step here) (enum_step here) (enumerator_step here) (head_step here) (member_step here) (part_step here) (specs_step here) (bare-Enumerator y))) (case-Enumerator y))

  step-Head : (x : Head-F Base Declarator Expr Aggregate EnumSpec Enumerator Head Member Part Specs) (y : Head-F SB SD SE SA SN SC SH SM SP SS) → bare-Head y ≡ x → OfHeading (heading here (roll-Head x))
  step-Head x y is =
      subst (λ (z : Head-F Base Declarator Expr Aggregate EnumSpec Enumerator Head Member Part Specs). OfHeading (heading here (roll-Head z))) is (subst OfHeading (sym (folds.fold-roll-Head Naming Declaring Typing Naming Naming Counting Heading Adding AddingOne Naming (base_step here) (declarator_step here) (expr_step here) (aggregate_step here) (enum_step here) (enumerator_step here) (head_step here) (member_step here) (part_step here) (specs_step here) (bare-Head y))) (case-Head y))

  step-Member : (x : Member-F Base Declarator Expr Aggregate EnumSpec Enumerator Head Member Part Specs) (y : Member-F SB SD SE SA SN SC SH SM SP SS) → bare-Member y ≡ x → OfAdding (adding here (roll-Member x))
  step-Member x y is =
      subst (λ (z : Member-F Base Declarator Expr Aggregate EnumSpec Enumerator Head Member Part Specs). OfAdding (adding here (roll-Member z))) is (subst OfAdding (sym (folds.fold-roll-Member Naming Declaring Typing Naming Naming Counting Heading Adding AddingOne Naming (base_step here) (declarator_step here) (expr_step here) (aggregate_step here) (enum_step here) (enumerator_step here) (head_step here) (member_step here) (part_step here) (specs_step here) (bare-Member y))) (case-Member y))

  step-Part : (x : Part-F Base Declarator Expr Aggregate EnumSpec Enumerator Head Member Part Specs) (y : Part-F SB SD SE SA SN SC SH SM SP SS) → bare-Part y ≡ x → OfAddingOne (adding_one here (roll-Part x))
  step-Part x y is =
      subst (λ (z : Part-F Base Declarator Expr Aggregate EnumSpec Enumerator Head Member Part Specs). OfAddingOne (adding_one here (roll-Part z))) is (subst OfAddingOne (sym (folds.fold-roll-Part Naming Declaring Typing Naming Naming Counting Heading Adding AddingOne Naming (base_step here) (declarator_step here) (expr_step here) (aggregate_step here) (enum_step here) (enumerator_step here) (head_step here) (member_step here) (part_step here) (specs_step here) (bare-Part y))) (case-Part y))

  step-Specs : (x : Specs-F Base Declarator Expr Aggregate EnumSpec Enumerator Head Member Part Specs) (y : Specs-F SB SD SE SA SN SC SH SM SP SS) → bare-Specs y ≡ x → OfNaming (naming here (roll-Specs x))
  step-Specs x y is =
      subst (λ (z : Specs-F Base Declarator Expr Aggregate EnumSpec Enumerator Head Member Part Specs). OfNaming (naming here (roll-Specs z))) is (subst OfNaming (sym (folds.fold-roll-Specs Naming Declaring Typing Naming Naming Counting Heading Adding AddingOne Naming (base_step here) (declarator_step here) (expr_step here) (aggregate_step here) (enum_step here) (enumerator_step here) (head_step here) (member_step here) (part_step here) (specs_step here) (bare-Specs y))) (case-Specs y))

  pub expressions_kept : (x : Expr) → OfTyping (typing here x)
  expressions_kept = folds.ind-Expr (λ x. OfNaming (basing here x)) (λ x. OfDeclaring (declaring here x)) (λ x. OfTyping (typing here x)) (λ x. OfNaming (structuring here x)) (λ x. OfNaming (listing here x)) (λ x. OfCounting (counting here x)) (λ x. OfHeading (heading here x)) (λ x. OfAdding (adding here x)) (λ x. OfAddingOne (adding_one here x)) (λ x. OfNaming (naming here x)) step-Base step-Declarator step-Expr step-Aggregate step-EnumSpec step-Enumerator step-Head step-Member step-Part step-Specs

  pub heads_kept : (x : Head) → OfHeading (heading here x)
  heads_kept = folds.ind-Head (λ x. OfNaming (basing here x)) (λ x. OfDeclaring (declaring here x)) (λ x. OfTyping (typing here x)) (λ x. OfNaming (structuring here x)) (λ x. OfNaming (listing here x)) (λ x. OfCounting (counting here x)) (λ x. OfHeading (heading here x)) (λ x. OfAdding (adding here x)) (λ x. OfAddingOne (adding_one here x)) (λ x. OfNaming (naming here x)) step-Base step-Declarator step-Expr step-Aggregate step-EnumSpec step-Enumerator step-Head step-Member step-Part step-Specs

  pub declarators_kept : (x : Declarator) → OfDeclaring (declaring here x)
  declarators_kept = folds.ind-Declarator (λ x. OfNaming (basing here x)) (λ x. OfDeclaring (declaring here x)) (λ x. OfTyping (typing here x)) (λ x. OfNaming (structuring here x)) (λ x. OfNaming (listing here x)) (λ x. OfCounting (counting here x)) (λ x. OfHeading (heading here x)) (λ x. OfAdding (adding here x)) (λ x. OfAddingOne (adding_one here x)) (λ x. OfNaming (naming here x)) step-Base step-Declarator step-Expr step-Aggregate step-EnumSpec step-Enumerator step-Head step-Member step-Part step-Specs

  pub specifiers_kept : (x : Specs) → OfNaming (naming here x)
  specifiers_kept = folds.ind-Specs (λ x. OfNaming (basing here x)) (λ x. OfDeclaring (declaring here x)) (λ x. OfTyping (typing here x)) (λ x. OfNaming (structuring here x)) (λ x. OfNaming (listing here x)) (λ x. OfCounting (counting here x)) (λ x. OfHeading (heading here x)) (λ x. OfAdding (adding here x)) (λ x. OfAddingOne (adding_one here x)) (λ x. OfNaming (naming here x)) step-Base step-Declarator step-Expr step-Aggregate step-EnumSpec step-Enumerator step-Head step-Member step-Part step-Specs
