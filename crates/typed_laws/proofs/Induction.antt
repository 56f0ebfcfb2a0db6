-- Each expression is typed: by induction over the trees that hold one another. Of the trees that are no expressions
-- nothing is asked.
use Rattle.std.proofs.Common.{◌≡◌, Bool, Option, Some, None, List, [], ◌∷◌, map, subst, refl, sym, ap, ◌∙◌}
use Rattle.sc_base.specs.declared.pos.Pos.{Pos}
use Rattle.sc_base.specs.declared.pos.NameId.{NameId}
use Rattle.sc_base.specs.declared.skip.Unsupported.TheVariants as u
use Rattle.sc_tree.specs.declared.expr.Expr.{Expr, Expr-F, roll-Expr}
use Rattle.sc_tree.specs.declared.expr.Head.{Head, Head-F, roll-Head}
use Rattle.sc_tree.specs.declared.expr.Specs.{Specs, Specs-F, roll-Specs}
use Rattle.sc_tree.specs.declared.expr.Base.{Base, Base-F, roll-Base}
use Rattle.sc_tree.specs.declared.expr.Aggregate.{Aggregate, Aggregate-F, roll-Aggregate}
use Rattle.sc_tree.specs.declared.expr.Member.{Member, Member-F, roll-Member}
use Rattle.sc_tree.specs.declared.expr.Part.{Part, Part-F, roll-Part}
use Rattle.sc_tree.specs.declared.expr.EnumSpec.{EnumSpec, EnumSpec-F, roll-EnumSpec}
use Rattle.sc_tree.specs.declared.expr.Enumerator.{Enumerator, Enumerator-F, roll-Enumerator}
use Rattle.sc_tree.specs.declared.expr.Declarator.{Declarator, Declarator-F, roll-Declarator}
use Rattle.sc_tree.specs.declared.expr.Base.TheFolds as folds
use Rattle.sc_tree.specs.declared.ctype.IntKind.TheVariants as kind
use Rattle.sc_typed.specs.declared.expr.TExpr.{TExpr}
use Rattle.sc_rules.specs.Faults.{unsupported_at}
use Rattle.sc_rules.specs.Walks.{Check}
use Rattle.sc_parts.specs.Names.{character}
use Rattle.sc_typing.specs.Here.{Here}
use Rattle.sc_typing.specs.Shapes.{Typing, Declaring, Heading, Naming, Adding, AddingOne, Counting}
use Rattle.sc_typing.specs.Typing.{base_step, declarator_step, expr_step, aggregate_step, enum_step, enumerator_step, head_step, member_step, part_step, specs_step, basing, declaring, typing, structuring, listing, counting, heading, adding, adding_one, naming}
use Rattle.sc_world.specs.Source.{Source}
use Rattle.typed_laws.specs.Meanings.{MeansAlike}
use Rattle.typed_laws.proofs.Steps.{OnSome, Every, Gives, by_some, by_fault}
use Rattle.typed_laws.proofs.Made.{Fresh}
use Rattle.typed_laws.proofs.Unary.{constants_made, char_made}
use Rattle.typed_laws.proofs.Members.{MadeAs, name_made, string_made}
use Rattle.typed_laws.proofs.Walk.{OfTyping, Each, index_step, field_step, comma_step, unary_step, pre_step, post_step, assign_step, conditional_step, binary_step, cast_step, sizeof_step, sizeof_type_step, called_step}

-- what holds of each part of a list
each : {A B : Type 0} (f : A → B) (P : B → Type 0) (xs : List ((a : A) × P (f a))) → Each P (map f (map (λ x. x.0) xs))
each f P [] = tt
each f P (x ∷ xs) = (x.1, each f P xs)

module _ (s : Source) (here : Here) (alike : MeansAlike here s) where
  abbrev SE : Type 0
  SE = (x : Expr) × OfTyping s (typing here x)

  abbrev SB : Type 0
  SB = (x : Base) × Unit {0}

  abbrev SD : Type 0
  SD = (x : Declarator) × Unit {0}

  abbrev SA : Type 0
  SA = (x : Aggregate) × Unit {0}

  abbrev SN : Type 0
  SN = (x : EnumSpec) × Unit {0}

  abbrev SC : Type 0
  SC = (x : Enumerator) × Unit {0}

  abbrev SH : Type 0
  SH = (x : Head) × Unit {0}

  abbrev SM : Type 0
  SM = (x : Member) × Unit {0}

  abbrev SP : Type 0
  SP = (x : Part) × Unit {0}

  abbrev SS : Type 0
  SS = (x : Specs) × Unit {0}

  abbrev bare-Expr : Expr-F SB SD SE SA SN SC SH SM SP SS → Expr-F Base Declarator Expr Aggregate EnumSpec Enumerator Head Member Part Specs
  bare-Expr y = folds.map-Expr SB SD SE SA SN SC SH SM SP SS Base Declarator Expr Aggregate EnumSpec Enumerator Head Member Part Specs (λ e. e.0) (λ e. e.0) (λ e. e.0) (λ e. e.0) (λ e. e.0) (λ e. e.0) (λ e. e.0) (λ e. e.0) (λ e. e.0) (λ e. e.0) y

  abbrev typed-Expr : Expr-F SB SD SE SA SN SC SH SM SP SS → Expr-F Naming Declaring Typing Naming Naming Counting Heading Adding AddingOne Naming
  typed-Expr y = folds.map-Expr Base Declarator Expr Aggregate EnumSpec Enumerator Head Member Part Specs Naming Declaring Typing Naming Naming Counting Heading Adding AddingOne Naming (basing here) (declaring here) (typing here) (structuring here) (listing here) (counting here) (heading here) (adding here) (adding_one here) (naming here) (bare-Expr y)

  fresh : (o : Option TExpr) → OnSome (Fresh s) o → OnSome (MadeAs s None) o
  fresh None h = tt
  fresh (Some x) h = record { is = h.made; names = h.plain }

  plain : (m : Check (Option TExpr)) → Gives (Fresh s) m → Gives (MadeAs s None) m
  plain m h = record { all = λ w. fresh _ (h.all w) }

  case-Expr : (y : Expr-F SB SD SE SA SN SC SH SM SP SS) → OfTyping s (expr_step here (typed-Expr y))
  case-Expr (Expr-F.Comma a b p) = plain _ (comma_step s (typing here a.0) (typing here b.0) p a.1 b.1)
  case-Expr (Expr-F.Assign o a b p) = plain _ (assign_step s here o (typing here a.0) (typing here b.0) p a.1 b.1)
  case-Expr (Expr-F.Cond a b c p) = plain _ (conditional_step s here (typing here a.0) (typing here b.0) (typing here c.0) p a.1 b.1 c.1)
  case-Expr (Expr-F.Binary o a b p) = plain _ (binary_step s here o (typing here a.0) (typing here b.0) p a.1 b.1)
  case-Expr (Expr-F.Cast h a p) = plain _ (cast_step s here (heading here h.0) (typing here a.0) p a.1)
  case-Expr (Expr-F.Unary o a p) = plain _ (unary_step s o (typing here a.0) p a.1)
  case-Expr (Expr-F.PreInc d a p) = plain _ (pre_step s d (typing here a.0) p a.1)
  case-Expr (Expr-F.SizeofExpr a p) = plain _ (sizeof_step s here (typing here a.0) p a.1)
  case-Expr (Expr-F.SizeofType h p) = plain _ (sizeof_type_step s here (heading here h.0) p)
  case-Expr (Expr-F.Index a b p) = plain _ (index_step s (typing here a.0) (typing here b.0) p a.1 b.1)
  case-Expr (Expr-F.Call f es p) = plain _ (called_step s here alike p (typing here f.0) (map (typing here) (map (λ e. e.0) es)) f.1 (each (typing here) (OfTyping s) es))
  case-Expr (Expr-F.Field a name arrow p) = plain _ (field_step s (typing here a.0) name arrow p a.1)
  case-Expr (Expr-F.PostInc d a p) = plain _ (post_step s d (typing here a.0) p a.1)
  case-Expr (Expr-F.«Expr::Name» name p) = name_made s here.settled (here.body name.at) name p
  case-Expr (Expr-F.Int t p) = plain _ (constants_made s here.widths t p)
  case-Expr (Expr-F.Char c p) = plain _ (by_some (Fresh s) (character c p) (char_made s c kind.Int p))
  case-Expr (Expr-F.Odd p) = plain _ (by_fault (Fresh s) (unsupported_at u.Odd p.token))
  case-Expr (Expr-F.Str ss p) = plain _ (string_made s ss p)

  step-Expr : (x : Expr-F Base Declarator Expr Aggregate EnumSpec Enumerator Head Member Part Specs) (y : Expr-F SB SD SE SA SN SC SH SM SP SS) → bare-Expr y ≡ x → OfTyping s (typing here (roll-Expr x))
  step-Expr x y is =
      subst (λ (z : Expr-F Base Declarator Expr Aggregate EnumSpec Enumerator Head Member Part Specs). OfTyping s (typing here (roll-Expr z))) is (subst (OfTyping s) (sym (folds.fold-roll-Expr Naming Declaring Typing Naming Naming Counting Heading Adding AddingOne Naming (base_step here) (declarator_step here) (expr_step here) (aggregate_step here) (enum_step here) (enumerator_step here) (head_step here) (member_step here) (part_step here) (specs_step here) (bare-Expr y))) (case-Expr y))

  pub expressions_made : (x : Expr) → OfTyping s (typing here x)
  expressions_made = folds.ind-Expr (λ (x : Base). Unit {0}) (λ (x : Declarator). Unit {0}) (λ x. OfTyping s (typing here x)) (λ (x : Aggregate). Unit {0}) (λ (x : EnumSpec). Unit {0}) (λ (x : Enumerator). Unit {0}) (λ (x : Head). Unit {0}) (λ (x : Member). Unit {0}) (λ (x : Part). Unit {0}) (λ (x : Specs). Unit {0}) (λ x y is. tt) (λ x y is. tt) step-Expr (λ x y is. tt) (λ x y is. tt) (λ x y is. tt) (λ x y is. tt) (λ x y is. tt) (λ x y is. tt) (λ x y is. tt)
