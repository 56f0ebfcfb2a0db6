-- Declarations in bodies: the initialisers of locals are typed.
use Rattle.std.proofs.Common.{◌≡◌, ℕ, Bool, true, false, not, ◌&&◌, List, [], ◌∷◌, map, refl, sym, ap, subst, ◌∙◌}
use Rattle.std.specs.Prelude.{Option, Some, None, if◌then◌else◌, slice_get}
use Rattle.sc_base.specs.declared.pos.Pos.{Pos}
use Rattle.sc_base.specs.declared.pos.NameId.{NameId}
use Rattle.sc_base.specs.declared.skip.Unsupported.TheVariants as u
use Rattle.sc_tree.specs.declared.ctype.CType.{CType}
use Rattle.sc_tree.specs.declared.decl.Decl.{Decl}
use Rattle.sc_tree.specs.declared.decl.Designator.{Designator}
use Rattle.sc_tree.specs.declared.decl.Init.{Init, Init-F, out-Init}
use Rattle.sc_tree.specs.declared.decl.InitDeclarator.{InitDeclarator}
use Rattle.sc_tree.specs.declared.decl.InitItem.{InitItem}
use Rattle.sc_tree.specs.declared.expr.Expr.{Expr, out-Expr}
use Rattle.sc_tree.specs.declared.expr.Specs.{out-Specs}
use Rattle.sc_tree.specs.declared.expr.Storage.{Storage}
use Rattle.sc_typed.specs.declared.expr.TExpr.{TExpr}
use Rattle.sc_typed.specs.declared.stmt.Declared.{Declared}
use Rattle.sc_typed.specs.declared.stmt.Declared.TheVariants as declares
use Rattle.sc_typed.specs.declared.stmt.TDeclarator.{TDeclarator}
use Rattle.sc_typed.specs.declared.stmt.TInit.{TInit}
use Rattle.sc_typed.specs.declared.stmt.TInit.TheVariants as init
use Rattle.sc_typed.specs.declared.stmt.TInitItem.{TInitItem}
use Rattle.sc_rules.specs.Faults.{unsupported_at}
use Rattle.sc_rules.specs.Walks.{Check, ◌>>=◌, done}
use Rattle.sc_unary.specs.Members.{is_there}
use Rattle.sc_names.specs.Notes.{note_unless}
use Rattle.sc_names.specs.Structs.{size_now}
use Rattle.sc_declare.specs.Locals.{declare_local}
use Rattle.sc_declare.specs.declared.functions.Parameter.{Parameter}
use Rattle.sc_declare.specs.declared.linkage.Linked.{Linked}
use Rattle.sc_declare.specs.Storage.{has_typedef, has_extern, has_static, has_local}
use Rattle.sc_declare.specs.Declarators.{function_declared, typedef_declared, extern_declared}
use Rattle.sc_fill.specs.Initialisers.{is_array_if, one, one_value, spread_if, in_front}
use Rattle.sc_files.specs.Variables.{is_function_of}
use Rattle.sc_typing.specs.Here.{Here}
use Rattle.sc_typing.specs.declared.shapes.Own.{Own}
use Rattle.sc_typing.specs.declared.shapes.Shape.{Shape}
use Rattle.sc_typing.specs.Shapes.{Typing, Declaring}
use Rattle.sc_typing.specs.Typing.{typing, declaring}
use Rattle.sc_declarations.specs.Initialisers.{no_value, as_they_stand, is_text, item_expressions, values, list_initialiser, value_given, one_initialiser, initialiser_layer, initialiser}
use Rattle.sc_declarations.specs.Declarations.{name_of, written_initialiser, local_initialiser, faulty_initialiser, typed_local, untyped_local, local_if, local_declared, function_named, file_variable, body_variable, variable_declared, declared_as, declarator_named, declarator, declarators, type_named, declaration, linked_if, sized, params_if}
use Rattle.sc_world.specs.Tree as tree
use Rattle.sc_world.specs.Source.{Source}
use Rattle.sc_world.specs.View.{exp, dec, init_of, init_if, given as given_of}
use Rattle.fitting_laws.specs.Typed.{IsTyped}
use Rattle.fitting_laws.specs.Statements.{ItemsTyped, InitTyped, DeclaredTyped, DeclaratorsTyped}
use Rattle.typed_laws.specs.Agrees.{ItemsAgree, InitAgrees, DeclaredAgrees, DeclaratorsAgree}
use Rattle.typed_laws.specs.Meanings.{MeansAlike}
use Rattle.typed_laws.proofs.Steps.{OnSome, Every, Gives, by_then, by_done, by_some, by_none, by_fault, by_if, behind}
use Rattle.typed_laws.proofs.Made.{Made}
use Rattle.typed_laws.proofs.Filled.{Items, Initial, Standing, Whole, spread_initial, one_whole}
use Rattle.typed_laws.proofs.Members.{MadeAs}
use Rattle.typed_laws.proofs.Walk.{Each, OfTyping, run_made}
use Rattle.typed_laws.proofs.Induction.{expressions_made}

module _ (s : Source) where
  -- What is declared, with its initialiser.

  items_typed : (t : tree.Ty) (xs : List TInitItem) → Items s xs → ItemsAgree s t (map (given_of s.structs) xs) → ItemsTyped s t (map (given_of s.structs) xs)
  items_typed t [] h k = tt
  items_typed t (x ∷ xs) h k = (h.0 k.0 k.2, k.1, items_typed t xs h.1 k.3)

  init_typed : (t : tree.Ty) (x : TInit) → Initial s x → InitAgrees s t (init_of s.structs x) → InitTyped s t (init_of s.structs x)
  init_typed t (init.One e) h k = (h k.0, k.1)
  init_typed t (init.Braces xs) h k = items_typed t xs h k

  if_typed : (t : tree.Ty) (x : Option TInit) → OnSome (Initial s) x → InitAgrees s t (init_if s.structs x) → InitTyped s t (init_if s.structs x)
  if_typed t None h k = tt
  if_typed t (Some x) h k = init_typed t x h k

  declared_typed : (d : Declared) (x : Option TInit) → OnSome (Initial s) x → DeclaredAgrees s d (init_if s.structs x) → DeclaredTyped s d (init_if s.structs x)
  declared_typed (declares.Local n) x h (t, is, k) = (t, is, if_typed t x h k)
  declared_typed (declares.Global n) x h k = tt
  declared_typed declares.Function x h k = tt

  abbrev pub Declarator : TDeclarator → Type 0
  Declarator d = OnSome (Initial s) d.init

  abbrev pub Declarators : List TDeclarator → Type 0
  Declarators [] = Unit {0}
  Declarators (d ∷ ds) = Declarator d × Declarators ds

  pub declarators_typed : (ds : List TDeclarator) → Declarators ds → DeclaratorsAgree s (map (dec s.structs) ds) → DeclaratorsTyped s (map (dec s.structs) ds)
  declarators_typed [] h k = tt
  declarators_typed (d ∷ ds) h k = (declared_typed d.declared d.init h.0 k.0, declarators_typed ds h.1 k.1)

  stand_made : (es : List Typing) → Each (OfTyping s) es → Every (Standing s) (as_they_stand es)
  stand_made [] h = by_done (Standing s) [] tt
  stand_made (e ∷ es) h =
      by_then (OnSome (Made s)) (Standing s) e.run _ (run_made s e h.0) (λ x hx.
      by_then (Standing s) (Standing s) (as_they_stand es) _ (stand_made es h.1) (λ xs hxs. by_done (Standing s) (x ∷ xs) (hx, hxs)))

  module _ (here : Here) (alike : MeansAlike here s) where
    each_typing : (es : List Expr) → Each (OfTyping s) (map (typing here) es)
    each_typing [] = tt
    each_typing (e ∷ es) = (expressions_made s here alike e, each_typing es)

    list_made : (at : Pos) (t : Option CType) (es : Option (List Expr)) → Gives (Initial s) (list_initialiser here at t es)
    list_made at t None = by_fault (Initial s) (unsupported_at u.Init at)
    list_made at t (Some es) = by_then (Standing s) (OnSome (Initial s)) (values here es) _ (stand_made (map (typing here) es) (each_typing es)) (λ xs hxs. spread_initial s here.widths at t xs hxs)

    given_made : (at : Pos) (t : Option CType) (text : Bool) (x : Option TExpr) → OnSome (Made s) x → Gives (Whole s) (value_given here at t text x)
    given_made at t text None h = by_if (OnSome (Whole s)) (text && is_array_if t) _ _ (λ k. by_fault (Whole s) (unsupported_at u.Init at)) (λ k. by_none (Whole s))
    given_made at t text (Some x) h = one_whole s here.widths at t x h

    one_made : (at : Pos) (t : Option CType) (e : Expr) → Gives (Initial s) (one_initialiser here at t e)
    one_made at t e =
        by_then (OnSome (Made s)) (OnSome (Initial s)) (typing here e).run _ (run_made s (typing here e) (expressions_made s here alike e)) (λ x hx.
        by_then (OnSome (Whole s)) (OnSome (Initial s)) (value_given here at t (is_text (out-Expr e)) x) _ (given_made at t (is_text (out-Expr e)) x hx) (λ v hv. by_done (OnSome (Initial s)) (one v) (side v hv)))
      where
        side : (v : Option TExpr) → OnSome (Whole s) v → OnSome (Initial s) (one v)
        side None h = tt
        side (Some y) h = h

    layer_made : (at : Pos) (t : Option CType) (x : Init-F Init InitItem) → Gives (Initial s) (initialiser_layer here at t x)
    layer_made at t (Init-F.One e) = one_made at t e
    layer_made at t (Init-F.List items) = list_made at t (item_expressions items)

    initialisers_made : (at : Pos) (t : Option CType) (x : Init) → Gives (Initial s) (initialiser here at t x)
    initialisers_made at t x = layer_made at t (out-Init x)

    -- Declarators.

    local_made : (n : ℕ) (name : NameId) (at : Pos) (t : CType) (x : Option Init) → Gives (Initial s) (local_initialiser here n name at t x)
    local_made n name at t None = by_none (Initial s)
    local_made n name at t (Some x) =
        record { all = λ w. (initialisers_made at (sized t (size_now here.widths t w).0) x).all (size_now here.widths t w).1 }

    typed_local_made : (name : NameId) (at : Pos) (x : Option Init) (t : CType) → Every Declarator (typed_local here name at x t)
    typed_local_made name at x t =
        record { all = λ w. (local_made (declare_local here.widths name at t w).0 name at t x).all (declare_local here.widths name at t w).1 }

    faulty_made : (at : Pos) (x : Option Init) → Gives (Initial s) (faulty_initialiser here at x)
    faulty_made at None = by_none (Initial s)
    faulty_made at (Some x) = initialisers_made at None x

    local_if_made : (name : NameId) (at : Pos) (x : Option Init) (t : Option CType) → Every Declarator (local_if here name at x t)
    local_if_made name at x (Some t) = typed_local_made name at x t
    local_if_made name at x None = record { all = λ w. (faulty_made at x).all w }

    local_declared_made : (ss : List Storage) (name : NameId) (at : Pos) (x : Option Init) (t : Option CType) → Every Declarator (local_declared here ss name at x t)
    local_declared_made ss name at x t = record { all = λ w. (local_if_made name at x t).all (note_unless (not (has_static ss)) (unsupported_at u.Static at) w).1 }

    function_made : (file : ℕ) (is_local : Bool) (name : NameId) (at : Pos) (t : Option CType) (ps : Option (List Parameter)) → Every Declarator (function_declared file is_local name at t ps)
    function_made file is_local name at t ps = record { all = λ w. tt }

    extern_made : (name : NameId) (at : Pos) (has : Bool) (d : Option Linked) → Every Declarator (extern_declared name at has d)
    extern_made name at has d = record { all = λ w. tt }

    file_made : (ss : List Storage) (name : NameId) (at : Pos) (x : Option Init) (t : Option CType) → Every Declarator (file_variable here ss name at x t)
    file_made ss name at x t = record { all = λ w. tt }

    body_made : (ss : List Storage) (name : NameId) (at : Pos) (x : Option Init) (t : Option CType) → Every Declarator (body_variable here ss name at x t)
    body_made ss name at x t = by_if Declarator (has_extern ss) _ _ (λ h. extern_made name at (has_static ss) (linked_if here name at false t)) (λ h. local_declared_made ss name at x t)

    variable_made : (at_file : Bool) (ss : List Storage) (name : NameId) (at : Pos) (x : Option Init) (t : Option CType) → Every Declarator (variable_declared here at_file ss name at x t)
    variable_made at_file ss name at x t = by_if Declarator at_file _ _ (λ h. file_made ss name at x t) (λ h. body_made ss name at x t)

    typedef_made : (name : NameId) (at : Pos) (t : Option CType) → Every Declarator (typedef_declared name at t)
    typedef_made name at t = record { all = λ w. tt }

    declared_made : (at_file : Bool) (ss : List Storage) (name : NameId) (at : Pos) (x : Option Init) (h : Shape) → Every Declarator (declared_as here at_file ss name at x h)
    declared_made at_file ss name at x h =
        by_if Declarator (at_file && has_typedef ss) _ _ (λ k. typedef_made name at h.ctype)
        (λ k. by_if Declarator (is_function_of h.ctype (is_there h.own)) _ _ (λ l. function_made here.file (at_file && has_local ss) name at h.ctype (params_if h.own)) (λ l. variable_made at_file ss name at x h.ctype))

    named_made : (at_file : Bool) (ss : List Storage) (t : Option CType) (d : Declaring) (x : Option Init) (n : NameId × Pos) → Every Declarator (declarator_named here at_file ss t d x n)
    named_made at_file ss t d x (name, at) = record { all = λ w. (declared_made at_file ss name at x (d.run at t w).0).all (d.run at t w).1 }

    declarator_made : (at_file : Bool) (ss : List Storage) (t : Option CType) (d : InitDeclarator) → Every Declarator (declarator here at_file ss t d)
    declarator_made at_file ss t d = named_made at_file ss t (declaring here d.declarator) d.init (name_of (declaring here d.declarator).name)

    declarators_made : (at_file : Bool) (ss : List Storage) (t : Option CType) (ds : List InitDeclarator) → Every Declarators (declarators here at_file ss t ds)
    declarators_made at_file ss t [] = by_done Declarators [] tt
    declarators_made at_file ss t (d ∷ ds) =
        by_then Declarator Declarators (declarator here at_file ss t d) _ (declarator_made at_file ss t d) (λ x hx.
        by_then Declarators Declarators (declarators here at_file ss t ds) _ (declarators_made at_file ss t ds) (λ xs hxs. by_done Declarators (x ∷ xs) (hx, hxs)))

    pub declaration_made : (at_file : Bool) (d : Decl) → Every Declarators (declaration here at_file d)
    declaration_made at_file d = behind Declarators (type_named here d) _ (λ t. declarators_made at_file (out-Specs d.specs).storage t d.parts)
