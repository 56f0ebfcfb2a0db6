-- Declarations in a block that are plain leave what is outside as it is.
use Rattle.std.proofs.Common.{◌≡◌, ℕ, Bool, true, false, not, ◌&&◌, Option, Some, None, List, [], ◌∷◌, map, refl, sym, subst}
use Rattle.sc_base.specs.declared.pos.Pos.{Pos}
use Rattle.sc_base.specs.declared.pos.NameId.{NameId}
use Rattle.sc_base.specs.declared.skip.Unsupported.TheVariants as u
use Rattle.sc_tree.specs.declared.ctype.CType.{CType}
use Rattle.sc_tree.specs.declared.expr.Expr.{Expr, out-Expr}
use Rattle.sc_tree.specs.declared.expr.Storage.{Storage}
use Rattle.sc_tree.specs.declared.expr.Specs.{out-Specs}
use Rattle.sc_tree.specs.declared.decl.Decl.{Decl}
use Rattle.sc_tree.specs.declared.decl.InitDeclarator.{InitDeclarator}
use Rattle.sc_tree.specs.declared.decl.Init.{Init, Init-F, out-Init}
use Rattle.sc_tree.specs.declared.decl.InitItem.{InitItem}
use Rattle.sc_typed.specs.declared.expr.TExpr.{TExpr}
use Rattle.sc_typed.specs.declared.stmt.Declared.TheVariants as declares
use Rattle.scopes.specs.Frames.{Frames}
use Rattle.sc_rules.specs.declared.walk.Tag.{Tag}
use Rattle.sc_rules.specs.Faults.{unsupported_at}
use Rattle.sc_unary.specs.Members.{is_there}
use Rattle.sc_names.specs.Structs.{size_now}
use Rattle.sc_declare.specs.Storage.{has_extern, has_static}
use Rattle.sc_fill.specs.Initialisers.{in_front, is_array_if, one, spread_if, elements_set}
use Rattle.sc_files.specs.Variables.{is_function_of}
use Rattle.sc_typing.specs.Here.{Here}
use Rattle.sc_typing.specs.declared.shapes.Shape.{Shape}
use Rattle.sc_typing.specs.Shapes.{Typing, Declaring}
use Rattle.sc_typing.specs.Typing.{typing, declaring, naming}
use Rattle.sc_declarations.specs.Initialisers.{item_expression, item_expressions, is_text, no_value, as_they_stand, values, list_initialiser, value_given, one_initialiser, initialiser_layer, initialiser}
use Rattle.sc_declarations.specs.Declarations.{name_of, params_if, sized, declarator_of, is_alone, written_initialiser, local_initialiser, faulty_initialiser, typed_local, local_if, local_declared, body_variable, declared_as, declarator_named, declarator, declarators, declaration}
use Rattle.plain_bodies.specs.Leaves.{FaultAlone, InBlock}
use Rattle.plain_bodies.specs.Plain.{plain, plain_declarator, plain_specs, plain_part_if, plain_items, init_plain, plain_init, plain_parts, plain_declaration}
use Rattle.plain_bodies.proofs.Steps.{keeps, by_then, by_done, by_if}
use Rattle.plain_bodies.proofs.Walk.{OfTyping, OfDeclaring, Each}
use Rattle.plain_bodies.proofs.Plain.{never, first_so, second_so, not_so}
use Rattle.plain_bodies.proofs.Induction.{expressions_kept, declarators_kept, specifiers_kept}
use Rattle.plain_bodies.proofs.Filled.{one_kept, spread_if_kept}
use Rattle.plain_bodies.proofs.Declared.{note_kept, function_left, local_left, lengthen_left}
use Rattle.plain_bodies.proofs.Within.{stays, fault, in_then, in_done, in_if, in_else}

abbrev Known : Frames Tag → Here → Option (List Expr) → Type 0
Known T here None = Unit {0}
Known T here (Some es) = Each (OfTyping T) (map (typing here) es)

in_front_known : (T : Frames Tag) (here : Here) (e : Option Expr) (es : Option (List Expr)) → plain_part_if T e ≡ true → Known T here es → Known T here (in_front e es)
in_front_known T here None es h k = never h
in_front_known T here (Some e) None h k = tt
in_front_known T here (Some e) (Some es) h k = (expressions_kept T here e h, k)

items_known : (T : Frames Tag) (here : Here) (xs : List InitItem) → plain_items T xs ≡ true → Known T here (item_expressions xs)
items_known T here [] h = tt
items_known T here (x ∷ xs) h =
    in_front_known T here (item_expression x) (item_expressions xs) (first_so (plain_part_if T (item_expression x)) _ h)
    (items_known T here xs (second_so (plain_part_if T (item_expression x)) _ h))

module _ {T : Frames Tag} where
  none_kept : (at : Pos) (t : Option CType) (text : Bool) → FaultAlone T (no_value at t text)
  none_kept at t text = by_if (text && is_array_if t) _ _ (keeps (λ w. refl)) (keeps (λ w. refl))

  standing_kept : (es : List Typing) → Each (OfTyping T) es → FaultAlone T (as_they_stand es)
  standing_kept [] ks = keeps (λ w. refl)
  standing_kept (e ∷ es) ks = by_then e.run _ ks.0 (λ x. by_done (as_they_stand es) (λ xs. x ∷ xs) (standing_kept es ks.1))

  module _ (here : Here) where
    -- Initialisers.

    given_kept : (at : Pos) (t : Option CType) (text : Bool) (x : Option TExpr) → FaultAlone T (value_given here at t text x)
    given_kept at t text None = none_kept at t text
    given_kept at t text (Some x) = one_kept here.widths at t x

    one_init_kept : (at : Pos) (t : Option CType) (e : Expr) → plain T e ≡ true → FaultAlone T (one_initialiser here at t e)
    one_init_kept at t e h =
        by_then (typing here e).run _ (expressions_kept T here e h) (λ x. by_done (value_given here at t (is_text (out-Expr e)) x) (λ v. one v) (given_kept at t (is_text (out-Expr e)) x))

    list_kept : (at : Pos) (t : Option CType) (es : Option (List Expr)) → Known T here es → FaultAlone T (list_initialiser here at t es)
    list_kept at t None k = keeps (λ w. refl)
    list_kept at t (Some es) k = by_then (values here es) (λ xs. spread_if here.widths at t xs) (standing_kept (map (typing here) es) k) (λ xs. spread_if_kept here.widths at t xs)

    layer_kept : (at : Pos) (t : Option CType) (x : Init-F Init InitItem) → init_plain T x ≡ true → FaultAlone T (initialiser_layer here at t x)
    layer_kept at t (Init-F.One e) h = one_init_kept at t e h
    layer_kept at t (Init-F.List items) h = list_kept at t (item_expressions items) (items_known T here items h)

    initialiser_kept : (at : Pos) (t : Option CType) (x : Init) → init_plain T (out-Init x) ≡ true → FaultAlone T (initialiser here at t x)
    initialiser_kept at t x h = layer_kept at t (out-Init x) h

    -- Locals.

    written_left : (n : ℕ) (name : NameId) (at : Pos) (t : CType) (x : Init) → init_plain T (out-Init x) ≡ true → InBlock T (written_initialiser here n name at t x)
    written_left n name at t x h =
        in_then (size_now here.widths t) _ (stays (λ w block. (refl, block))) (λ m.
        in_then (initialiser here at (sized t m) x) _ (fault (initialiser_kept at (sized t m) x h)) (λ r.
        in_done _ (λ y. r) (lengthen_left here.widths n name at (elements_set r) t)))

    local_init_left : (n : ℕ) (name : NameId) (at : Pos) (t : CType) (x : Option Init) → plain_init T x ≡ true → InBlock T (local_initialiser here n name at t x)
    local_init_left n name at t None h = stays (λ w block. (refl, block))
    local_init_left n name at t (Some x) h = written_left n name at t x h

    faulty_kept : (at : Pos) (x : Option Init) → plain_init T x ≡ true → FaultAlone T (faulty_initialiser here at x)
    faulty_kept at None h = keeps (λ w. refl)
    faulty_kept at (Some x) h = initialiser_kept at None x h

    typed_left : (name : NameId) (at : Pos) (x : Option Init) (t : CType) → plain_init T x ≡ true → InBlock T (typed_local here name at x t)
    typed_left name at x t h =
        in_then _ _ (local_left here.widths name at t) (λ n. in_done (local_initialiser here n name at t x) (λ r. declarator_of name at (declares.Local n) r) (local_init_left n name at t x h))

    local_if_left : (name : NameId) (at : Pos) (x : Option Init) (t : Option CType) → plain_init T x ≡ true → InBlock T (local_if here name at x t)
    local_if_left name at x None h = in_done (faulty_initialiser here at x) (λ r. declarator_of name at (declares.Local 0) r) (fault (faulty_kept at x h))
    local_if_left name at x (Some t) h = typed_left name at x t h

    declared_left : (ss : List Storage) (name : NameId) (at : Pos) (x : Option Init) (t : Option CType) → plain_init T x ≡ true → InBlock T (local_declared here ss name at x t)
    declared_left ss name at x t h = in_then _ _ (fault (note_kept (not (has_static ss)) (unsupported_at u.Static at))) (λ y. local_if_left name at x t h)

    -- Declarators.

    variable_left : (ss : List Storage) (name : NameId) (at : Pos) (x : Option Init) (t : Option CType) → has_extern ss ≡ false → plain_init T x ≡ true → InBlock T (body_variable here ss name at x t)
    variable_left ss name at x t is h = in_else (has_extern ss) _ (local_declared here ss name at x t) is (declared_left ss name at x t h)

    as_left : (ss : List Storage) (name : NameId) (at : Pos) (x : Option Init) (s : Shape) → has_extern ss ≡ false → plain_init T x ≡ true → InBlock T (declared_as here false ss name at x s)
    as_left ss name at x s is h =
        in_if (is_function_of s.ctype (is_there s.own)) _ (body_variable here ss name at x s.ctype) (function_left here.file name at s.ctype (params_if s.own)) (variable_left ss name at x s.ctype is h)

    named_left : (ss : List Storage) (t : Option CType) (d : Declaring) (x : Option Init) (n : NameId × Pos) → OfDeclaring T d → has_extern ss ≡ false → plain_init T x ≡ true → InBlock T (declarator_named here false ss t d x n)
    named_left ss t d x (name, at) k is h = in_then (d.run at t) _ (fault (k at t)) (λ s. as_left ss name at x s is h)

    declarator_left : (ss : List Storage) (t : Option CType) (d : InitDeclarator) → has_extern ss ≡ false → (plain_declarator T d.declarator && plain_init T d.init) ≡ true → InBlock T (declarator here false ss t d)
    declarator_left ss t d is h =
        named_left ss t (declaring here d.declarator) d.init (name_of (declaring here d.declarator).name) (declarators_kept T here d.declarator (first_so (plain_declarator T d.declarator) _ h)) is (second_so (plain_declarator T d.declarator) _ h)

    declarators_left : (ss : List Storage) (t : Option CType) (ds : List InitDeclarator) → has_extern ss ≡ false → plain_parts T ds ≡ true → InBlock T (declarators here false ss t ds)
    declarators_left ss t [] is h = stays (λ w block. (refl, block))
    declarators_left ss t (d ∷ ds) is h =
        in_then (declarator here false ss t d) _ (declarator_left ss t d is (first_so (plain_declarator T d.declarator && plain_init T d.init) _ h)) (λ x.
        in_done (declarators here false ss t ds) (λ xs. x ∷ xs) (declarators_left ss t ds is (second_so (plain_declarator T d.declarator && plain_init T d.init) _ h)))

    named_kept : (d : Decl) (alone : Bool) → alone ≡ false → plain_specs T d.specs ≡ true → FaultAlone T (naming here d.specs alone)
    named_kept d alone is h = subst (λ (b : Bool). FaultAlone T (naming here d.specs b)) (sym is) (specifiers_kept T here d.specs h)

    pub declaration_left : (d : Decl) → plain_declaration T d ≡ true → InBlock T (declaration here false d)
    declaration_left d h =
        let words : (not (is_alone d.parts) && not (has_extern (out-Specs d.specs).storage)) ≡ true = first_so (not (is_alone d.parts) && not (has_extern (out-Specs d.specs).storage)) _ h in
        let trees : (plain_specs T d.specs && plain_parts T d.parts) ≡ true = second_so (not (is_alone d.parts) && not (has_extern (out-Specs d.specs).storage)) _ h in
        let two : is_alone d.parts ≡ false = not_so (is_alone d.parts) (first_so (not (is_alone d.parts)) _ words) in
        let inner : has_extern (out-Specs d.specs).storage ≡ false = not_so (has_extern (out-Specs d.specs).storage) (second_so (not (is_alone d.parts)) _ words) in
        in_then (naming here d.specs (is_alone d.parts)) _ (fault (named_kept d (is_alone d.parts) two (first_so (plain_specs T d.specs) _ trees))) (λ t.
        declarators_left (out-Specs d.specs).storage t d.parts inner (second_so (plain_specs T d.specs) _ trees))
