-- Files that name no function that tries to lock are typed the same.
use Rattle.std.proofs.Common.{◌≡◌, ℕ, List, [], ◌∷◌, ◌++◌, length, refl, sym, ap, subst, ◌∙◌}
use Rattle.std.specs.Prelude.{Bool, true, false, Option, Some, None, slice_get, if◌then◌else◌}
use Rattle.std.proofs.lemmas.Option.{get_or_from_slice_get}
use Rattle.fsm_spec.specs.Lock.{locks}
use Rattle.sc_world.specs.Source.{trying}
use Rattle.sc_base.specs.declared.pos.NameId.{NameId}
use Rattle.sc_tree.specs.declared.expr.Head.{Head}
use Rattle.sc_tree.specs.declared.unit.Unit as file
use Rattle.sc_tree.specs.declared.unit.Segment.{Segment}
use Rattle.sc_tree.specs.declared.unit.Segment.TheVariants as segment
use Rattle.sc_rules.specs.declared.walk.Walk.{Walk}
use Rattle.sc_rules.specs.declared.walk.Builtin.{Builtin}
use Rattle.sc_program.specs.declared.bodies.Bodied.{Bodied}
use Rattle.sc_program.specs.Bodies.{first_clash, body_named, is_too_many}
use Rattle.sc_program.specs.Globals.{is_local_global, type_over_all}
use Rattle.sc_typing.specs.Here.{Here}
use Rattle.sc_typing.specs.Typing.{heading}
use Rattle.sc_declarations.specs.Declarations.{name_of}
use Rattle.sc_check.specs.Files.{Made}
use Rattle.sc_check.specs.Typed.{Sources, Answer, Duplicate, TooMany, Typed, no_walk, nothing_made, builtin_if, builtin_named, walk_files, first_walk, head_name, is_local_function, bodied, bodies_in, bodies_of, second_walk, program_of, answer_unless, answer_behind, typed}
use Rattle.sc_typed.specs.declared.program.Program.{Program}
use Rattle.machine_laws.specs.Tries.{NoNameTries, without_file}
use Rattle.machine_checks.specs.Files.{sources_with, sources_without, with_lock}
use Rattle.machine_checks.proofs.Builtins.{builtin_same}

-- the built-in function of a name, if it has a text
text_same : (text : Option (List ℕ)) → ((t : List ℕ) → text ≡ Some t → trying t ≡ None)
    → builtin_if None text ≡ builtin_if (Some locks) text
text_same None h = refl
text_same (Some t) h = builtin_same t (h t refl)

module _ (s : Sources) (h : NoNameTries s.names) where
  abbrev one : Sources
  one = sources_without s

  abbrev other : Sources
  other = sources_with s

  named_same : builtin_named one ≡ builtin_named other
  named_same = λ i n.
      text_same (slice_get s.names n)
      (λ t is. subst (λ text. trying text ≡ None) (get_or_from_slice_get s.names n t [] is) (h n)) i

  -- what stays the same on the first walk, with such built-in functions
  abbrev first_with : (ℕ → Option Builtin) → ℕ → Here
  first_with b f =
      record {
        widths = s.widths;
        file = f;
        builtin = b;
        body = λ n. None;
        is_local = λ n. false;
        settled = false;
        global_type = λ n. None;
      }

  first_same : first_walk one ≡ first_walk other
  first_same = λ i. (walk_files (first_with (named_same i)) nothing_made s.units no_walk).1

  name_same : (f : ℕ) (x : Head) → head_name one f x ≡ head_name other f x
  name_same f x = λ i. (name_of (heading (first_with (named_same i) f) x).name).0.at

  bodied_same : (locals : List (ℕ × NameId)) (f : ℕ) (x : Segment) → bodied one locals f x ≡ bodied other locals f x
  bodied_same locals f (segment.Function x b) = λ i.
      record { file = f; name = name_same f x i; local = is_local_function locals f (name_same f x i) } ∷ []
  bodied_same locals f (segment.Decl d) = refl
  bodied_same locals f (segment.Skipped k) = refl

  bodies_in_same : (locals : List (ℕ × NameId)) (f : ℕ) (xs : List Segment) → bodies_in one locals f xs ≡ bodies_in other locals f xs
  bodies_in_same locals f [] = refl
  bodies_in_same locals f (x ∷ xs) = λ i. bodied_same locals f x i ++ bodies_in_same locals f xs i

  bodies_same : (locals : List (ℕ × NameId)) (xs : List file.Unit) → bodies_of one locals xs ≡ bodies_of other locals xs
  bodies_same locals [] = refl
  bodies_same locals (x ∷ xs) = λ i. bodies_in_same locals x.file x.segments i ++ bodies_same locals xs i

  -- the same for the second walk
  abbrev second_with : (ℕ → Option Builtin) → Walk → List Bodied → ℕ → Here
  second_with b v bodies f =
      record {
        widths = s.widths;
        file = f;
        builtin = b;
        body = body_named bodies f;
        is_local = is_local_global v.records f;
        settled = true;
        global_type = type_over_all s.widths v.structs v.records f;
      }

  second_same : (v : Walk) (bodies : List Bodied) → second_walk one v bodies ≡ second_walk other v bodies
  second_same v bodies = λ i.
      walk_files (second_with (named_same i) v bodies) nothing_made s.units (record no_walk { structs = v.structs })

  unless_same : (clash : Option ℕ) (v : Walk) (bodies : List Bodied)
      → answer_unless clash other v bodies ≡ with_lock (answer_unless clash one v bodies)
  unless_same (Some name) v bodies = refl
  unless_same None v bodies = many (is_too_many (length bodies))
    where
      many : (b : Bool) → (if b then TooMany (length bodies) else Typed (program_of other (second_walk other v bodies)))
          ≡ with_lock (if b then TooMany (length bodies) else Typed (program_of one (second_walk one v bodies)))
      many true = refl
      many false = λ i. Typed (program_of other (sym (second_same v bodies) i))

  behind_same : (v : Walk) (bodies : List Bodied) → answer_behind other v bodies ≡ with_lock (answer_behind one v bodies)
  behind_same v bodies = unless_same (first_clash [] bodies) v bodies

  pub typed_same : typed other ≡ with_lock (typed one)
  typed_same =
      (λ i. answer_behind other (sym first_same i)
      (((λ j. bodies_of other (sym first_same j).local_functions s.units)
      ∙ sym (bodies_same (first_walk one).local_functions s.units)) i))
      ∙ behind_same (first_walk one) (bodies_of one (first_walk one).local_functions s.units)

  -- the typed program has no machine, and the names that were given
  abbrev IsBare : Answer → Type 0
  IsBare (Duplicate name) = Unit {0}
  IsBare (TooMany functions) = Unit {0}
  IsBare (Typed p) = (without_file p ≡ p) × (p.names ≡ s.names)

  bare_unless : (clash : Option ℕ) (v : Walk) (bodies : List Bodied) → IsBare (answer_unless clash one v bodies)
  bare_unless (Some name) v bodies = tt
  bare_unless None v bodies = many (is_too_many (length bodies))
    where
      many : (b : Bool) → IsBare (if b then TooMany (length bodies) else Typed (program_of one (second_walk one v bodies)))
      many true = tt
      many false = (refl, refl)

  pub bare : (p : Program) → typed one ≡ Typed p → (without_file p ≡ p) × (p.names ≡ s.names)
  bare p e =
      subst IsBare e
      (bare_unless (first_clash [] (bodies_of one (first_walk one).local_functions s.units)) (first_walk one)
      (bodies_of one (first_walk one).local_functions s.units))
