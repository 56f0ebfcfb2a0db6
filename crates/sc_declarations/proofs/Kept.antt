-- What declares a variable of a body without linkage leaves the globals of the walk as they are.
use Rattle.std.proofs.Common.{◌≡◌, ℕ, Bool, true, false, not, ◌&&◌, if◌then◌else◌, Option, Some, None}
use Rattle.std.proofs.Common.{List, [], ◌∷◌, map, Result, Ok, Err, refl, sym, ◌∙◌, ap}
use Rattle.std.specs.Prelude.{OnOk}
use Rattle.sc_base.specs.declared.pos.NameId.{NameId}
use Rattle.sc_base.specs.declared.pos.Pos.{Pos}
use Rattle.sc_base.specs.declared.skip.Unsupported.TheVariants as u
use Rattle.sc_tree.specs.declared.ctype.CType.{CType}
use Rattle.sc_tree.specs.declared.expr.Expr.{Expr, out-Expr}
use Rattle.sc_tree.specs.declared.expr.Storage.{Storage}
use Rattle.sc_tree.specs.declared.decl.Init.{Init, Init-F, out-Init}
use Rattle.sc_tree.specs.declared.decl.InitItem.{InitItem}
use Rattle.sc_typed.specs.declared.expr.TExpr.{TExpr}
use Rattle.sc_typed.specs.declared.stmt.Declared.TheVariants as declares
use Rattle.sc_typed.specs.declared.stmt.TDeclarator.{TDeclarator}
use Rattle.sc_typed.specs.declared.stmt.TInit.{TInit}
use Rattle.sc_typed.specs.declared.program.Global.{Global}
use Rattle.sc_rules.specs.declared.walk.Walk.{Walk}
use Rattle.sc_rules.specs.declared.walk.Fault.{Fault}
use Rattle.sc_rules.specs.Faults.{unsupported_at}
use Rattle.sc_rules.specs.Gives.{Gives}
use Rattle.sc_rules.specs.Walks.{Check, then_with, ◌>>=◌, done, unsupported}
use Rattle.sc_names.specs.Notes.{note_unless}
use Rattle.sc_names.specs.Structs.{size_now}
use Rattle.sc_declare.specs.Storage.{has_static}
use Rattle.sc_declare.specs.Locals.{declare_local, lengthen}
use Rattle.sc_fill.specs.Initialisers.{is_array_if, one, one_value, spread_if, elements_set}
use Rattle.sc_typing.specs.Here.{Here}
use Rattle.sc_typing.specs.Shapes.{Typing}
use Rattle.sc_typing.specs.Typing.{typing}
use Rattle.typing_laws.specs.Kept.{KeepsGlobals}
use Rattle.sc_declarations.specs.Initialisers.{item_expressions, is_text, as_they_stand, values, list_initialiser}
use Rattle.sc_declarations.specs.Initialisers.{value_given, one_initialiser, initialiser_layer, initialiser}
use Rattle.sc_declarations.specs.Declarations.{sized, written_initialiser, local_initialiser, faulty_initialiser}
use Rattle.sc_declarations.specs.Declarations.{declarator_of, typed_local, untyped_local, local_if, local_declared}

-- Steps of their parts.

keeps : {A : Type 0} {m : Check A} → ((w : Walk) → (m w).1.globals ≡ w.globals) → KeepsGlobals m
keeps k = record { kept = k }

then_left : {A B : Type 0} (r : A × Walk) (f : A → Check B) (gs : List Global) → r.1.globals ≡ gs → ((a : A)
    → KeepsGlobals (f a)) → (then_with r f).1.globals ≡ gs
then_left (a, v) f gs is rest = (rest a).kept v ∙ is

by_then : {A B : Type 0} (m : Check A) (f : A → Check B) → KeepsGlobals m → ((a : A) → KeepsGlobals (f a))
    → KeepsGlobals (m >>= f)
by_then m f first rest = record { kept = λ w. then_left (m w) f w.globals (first.kept w) rest }

by_done : {A B : Type 0} (m : Check A) (f : A → B) → KeepsGlobals m → KeepsGlobals (m >>= λ a. done (f a))
by_done m f first = by_then m (λ a. done (f a)) first (λ a. keeps (λ v. refl))

-- what code of such a step leaves
pub kept_by : {A E : Type 0} (m : Check A) (r : Result A E) (w v : Walk) → KeepsGlobals m → Gives (m w) r v
    → OnOk r (v.globals ≡ w.globals)
kept_by m (Ok x) w v keeps is = sym (ap (λ p. p.1.globals) is) ∙ keeps.kept w
kept_by m (Err e) w v keeps is = tt

-- of one that needs no memory
pub kept_of : {A : Type 0} (m : Check A) (x : A) (w v : Walk) → KeepsGlobals m → m w ≡ (x, v) → v.globals ≡ w.globals
kept_of m x w v keeps is = sym (ap (λ p. p.1.globals) is) ∙ keeps.kept w

-- What is asked of the steps of the crates below.
pub record Steps (here : Here) : Type 0 where
  pub expressions : (e : Expr) → KeepsGlobals (typing here e).run
  pub single : (at : Pos) (t : Option CType) (e : TExpr) → KeepsGlobals (one_value here.widths at t e)
  pub braces : (at : Pos) (t : Option CType) (xs : List (Option TExpr)) → KeepsGlobals (spread_if here.widths at t xs)
  pub locals : (name : NameId) (at : Pos) (t : CType) → KeepsGlobals (declare_local here.widths name at t)
  pub lengthening : (n : ℕ) (name : NameId) (at : Pos) (m : Option ℕ) (t : CType)
      → KeepsGlobals (lengthen here.widths n name at m t)

note_kept : (test : Bool) (f : Fault) → KeepsGlobals (note_unless test f)
note_kept true f = keeps (λ w. refl)
note_kept false f = keeps (λ w. refl)

abbrev fault_if : Bool → Pos → Check (Option TExpr)
fault_if b at = if b then unsupported u.Init at else done None

no_value_kept : (b : Bool) (at : Pos) → KeepsGlobals (fault_if b at)
no_value_kept true at = keeps (λ w. refl)
no_value_kept false at = keeps (λ w. refl)

stand_kept : (type_of : Expr → Typing) → ((e : Expr) → KeepsGlobals (type_of e).run) → (es : List Expr)
    → KeepsGlobals (as_they_stand (map type_of es))
stand_kept type_of k [] = keeps (λ w. refl)
stand_kept type_of k (e ∷ es) =
    by_then (type_of e).run (λ x. as_they_stand (map type_of es) >>= λ xs. done (x ∷ xs)) (k e)
    (λ x. by_done (as_they_stand (map type_of es)) (λ xs. x ∷ xs) (stand_kept type_of k es))

module _ (here : Here) (steps : Steps here) where
  -- Initialisers.

  list_kept : (at : Pos) (t : Option CType) (es : Option (List Expr)) → KeepsGlobals (list_initialiser here at t es)
  list_kept at t None = keeps (λ w. refl)
  list_kept at t (Some es) =
      by_then (values here es) (λ xs. spread_if here.widths at t xs) (stand_kept (typing here) steps.expressions es)
      (λ xs. steps.braces at t xs)

  value_kept : (at : Pos) (t : Option CType) (text : Bool) (x : Option TExpr)
      → KeepsGlobals (value_given here at t text x)
  value_kept at t text None = no_value_kept (text && is_array_if t) at
  value_kept at t text (Some x) = steps.single at t x

  -- of whatever types the expression
  abbrev one_by : Check (Option TExpr) → Pos → Option CType → (text : Bool) → Check (Option TInit)
  one_by typed at t text = typed >>= λ x. value_given here at t text x >>= λ v. done (one v)

  one_by_kept : (typed : Check (Option TExpr)) → KeepsGlobals typed → (at : Pos) (t : Option CType) (text : Bool)
      → KeepsGlobals (one_by typed at t text)
  one_by_kept typed k at t text =
      by_then typed (λ x. value_given here at t text x >>= λ v. done (one v)) k
      (λ x. by_done (value_given here at t text x) (λ v. one v) (value_kept at t text x))

  one_kept : (at : Pos) (t : Option CType) (e : Expr) → KeepsGlobals (one_initialiser here at t e)
  one_kept at t e = one_by_kept (typing here e).run (steps.expressions e) at t (is_text (out-Expr e))

  layer_kept : (at : Pos) (t : Option CType) (x : Init-F Init InitItem) → KeepsGlobals (initialiser_layer here at t x)
  layer_kept at t (Init-F.One e) = one_kept at t e
  layer_kept at t (Init-F.List items) = list_kept at t (item_expressions items)

  initialiser_kept : (at : Pos) (t : Option CType) (x : Init) → KeepsGlobals (initialiser here at t x)
  initialiser_kept at t x = layer_kept at t (out-Init x)

  -- Locals.

  size_kept : (t : CType) → KeepsGlobals (size_now here.widths t)
  size_kept t = keeps (λ w. refl)

  abbrev then_lengthened : ℕ → NameId → Pos → CType → Option TInit → Check (Option TInit)
  then_lengthened n name at t r = lengthen here.widths n name at (elements_set r) t >>= λ _. done r

  then_kept : (n : ℕ) (name : NameId) (at : Pos) (t : CType) (r : Option TInit)
      → KeepsGlobals (then_lengthened n name at t r)
  then_kept n name at t r =
      by_done (lengthen here.widths n name at (elements_set r) t) (λ _. r)
      (steps.lengthening n name at (elements_set r) t)

  abbrev then_initialised : ℕ → NameId → Pos → CType → Init → Option ℕ → Check (Option TInit)
  then_initialised n name at t x m = initialiser here at (sized t m) x >>= then_lengthened n name at t

  initialised_kept : (n : ℕ) (name : NameId) (at : Pos) (t : CType) (x : Init) (m : Option ℕ)
      → KeepsGlobals (then_initialised n name at t x m)
  initialised_kept n name at t x m =
      by_then (initialiser here at (sized t m) x) (then_lengthened n name at t)
      (initialiser_kept at (sized t m) x) (then_kept n name at t)

  written_kept : (n : ℕ) (name : NameId) (at : Pos) (t : CType) (x : Init)
      → KeepsGlobals (written_initialiser here n name at t x)
  written_kept n name at t x =
      by_then (size_now here.widths t) (then_initialised n name at t x) (size_kept t) (initialised_kept n name at t x)

  local_initialiser_kept : (n : ℕ) (name : NameId) (at : Pos) (t : CType) (x : Option Init)
      → KeepsGlobals (local_initialiser here n name at t x)
  local_initialiser_kept n name at t None = keeps (λ w. refl)
  local_initialiser_kept n name at t (Some x) = written_kept n name at t x

  faulty_kept : (at : Pos) (x : Option Init) → KeepsGlobals (faulty_initialiser here at x)
  faulty_kept at None = keeps (λ w. refl)
  faulty_kept at (Some x) = initialiser_kept at None x

  abbrev of_init : NameId → Pos → ℕ → Option TInit → TDeclarator
  of_init name at n r = declarator_of name at (declares.Local n) r

  abbrev then_local : NameId → Pos → Option Init → CType → ℕ → Check TDeclarator
  then_local name at x t n = local_initialiser here n name at t x >>= λ r. done (of_init name at n r)

  then_local_kept : (name : NameId) (at : Pos) (x : Option Init) (t : CType) (n : ℕ)
      → KeepsGlobals (then_local name at x t n)
  then_local_kept name at x t n =
      by_done (local_initialiser here n name at t x) (of_init name at n) (local_initialiser_kept n name at t x)

  typed_kept : (name : NameId) (at : Pos) (x : Option Init) (t : CType) → KeepsGlobals (typed_local here name at x t)
  typed_kept name at x t =
      by_then (declare_local here.widths name at t) (then_local name at x t) (steps.locals name at t)
      (then_local_kept name at x t)

  untyped_kept : (name : NameId) (at : Pos) (x : Option Init) → KeepsGlobals (untyped_local here name at x)
  untyped_kept name at x = by_done (faulty_initialiser here at x) (of_init name at 0) (faulty_kept at x)

  local_if_kept : (name : NameId) (at : Pos) (x : Option Init) (t : Option CType)
      → KeepsGlobals (local_if here name at x t)
  local_if_kept name at x None = untyped_kept name at x
  local_if_kept name at x (Some t) = typed_kept name at x t

  abbrev is_static_fault : Pos → Fault
  is_static_fault at = unsupported_at u.Static at

  pub local_kept : (words : List Storage) (name : NameId) (at : Pos) (x : Option Init) (t : Option CType)
      → KeepsGlobals (local_declared here words name at x t)
  local_kept words name at x t =
      by_then (note_unless (not (has_static words)) (is_static_fault at)) (λ _. local_if here name at x t)
      (note_kept (not (has_static words)) (is_static_fault at)) (λ _. local_if_kept name at x t)
