-- A function that is typed fits its layout.
use Rattle.std.proofs.Common.{inl, inr, ◌≡◌, ◌⊎◌, ℕ, ◌+◌, Bool, true, false, List, [], ◌∷◌, refl, sym, ap, subst, ◌∙◌}
use Rattle.std.specs.Prelude.{Option, Some, None, Result, Ok, Err, slice_get, slice_index_or}
use Rattle.sc_base.specs.declared.pos.NameId.{NameId}
use Rattle.sc_base.specs.declared.skip.LimitKind.{LimitKind}
use Rattle.sc_typed.specs.declared.stmt.Declared.{Declared}
use Rattle.sc_typed.specs.declared.stmt.Declared.TheVariants as declared
use Rattle.sc_typed.specs.declared.stmt.InitStep.{InitStep}
use Rattle.sc_typed.specs.declared.stmt.InitStep.TheVariants as into
use Rattle.sum_rows.specs.declared.path.Step.TheVariants as step
use Rattle.sc_world.specs.declared.run.Origin.TheVariants as origin
use Rattle.sc_world.specs.Build.{Built}
use Rattle.sc_world.specs.Tree.{Ty, Array, Struct, Exp, type_of, Given, Init, NoInit, One, Braces, Dec, Start, NoStart, Begin, Declare, Stm, Block, Decl, Evaluate, If, IfElse, While, Do, For, Switch, Case, Default, Goto, Break, Continue, Return, Label, Stms, NoStms, Stms'}
use Rattle.sc_world.specs.Source.{Source}
use Rattle.sc_world.specs.Gather.{Found, gather_function, nothing_found}
use Rattle.sc_world.specs.Layout.{Layout, no_layout, location, location_of, part, has_type, or_zero}
use Rattle.sc_world.specs.Objects.{members_of}
use Rattle.sc_world.specs.Places.{places, places_of, laid, lay_out}
use Rattle.sc_world.specs.Eval.{Value}
use Rattle.sc_world.specs.Exec.{name_of_member, member_part, part_into, part_if, part_along, part_at, env_of}
use Rattle.run_laws.specs.Fits.{Fits, if_scalar}
use Rattle.run_laws.specs.Functions.{TestFits, TestFitsIf, FitsIf, ItemsFit, InitFits, DeclaredFits, DeclaratorsFit, StartFits, ReturnFits, StatementFits, StatementsFit, FunctionFits}
use Rattle.layout_laws.specs.Origins.{IsAmong, IsLaidFor, at, found_in}
use Rattle.fitting_laws.specs.Found.{IsFound, FoundIf, ItemsFound, InitFound, DeclaratorsFound, StartFound, StatementFound, StatementsFound}
use Rattle.fitting_laws.specs.Typed.{BracketsTell, HasMember, IsTyped}
use Rattle.fitting_laws.specs.Statements.{TestTyped, TestTypedIf, TypedIf, StepsInto, LeadsInto, LeadsIf, ItemsTyped, InitTyped, DeclaredTyped, DeclaratorsTyped, StartTyped, ReturnTyped, StatementTyped, StatementsTyped, FunctionTyped}
use Rattle.fitting_laws.proofs.Finding.{type_self, local_there, elements_fit, member_typed, struct_type}
use Rattle.fitting_laws.proofs.Fitting.{fits}
use Rattle.fitting_laws.proofs.Reading.{body_found}
use Rattle.fitting_laws.proofs.Sites.{Keeps, sites_stay}

none_some : {A : Type 0} {a : A} → None ≡ Some a → ⊥
none_some h = absurd (cc)

number_same : (m n : ℕ) → Some m ≡ Some n → m ≡ n
number_same m n h = ap or_zero h

module _ (s : Source) (f : Found) (p : Layout) (is : IsLaidFor s f p.locations) (same : p.sites ≡ f.sites) (tell : BracketsTell f.sites) where
  -- Initialisers.

  part_steps : (k j : ℕ) (u v : Ty) (x : InitStep) → has_type (location p k) u ≡ true → StepsInto s u x v
      → part_into (env_of s p []) k x ≡ Some j → has_type (location p j) v ≡ true
  part_steps k j u v (into.Field i) h (m, n, e, named, has) d =
      let typed : (location p k).type ≡ Some (Struct m) = struct_type s f p is k m (location p k).type (subst (λ z. has_type (location p k) z ≡ true) e h) in
      let name : name_of_member s (location p k).type i ≡ Some n = ap (λ y. name_of_member s y i) typed ∙ named in
      member_typed s f p is k m n v j has typed (sym (ap (λ y. member_part p k y) name) ∙ d)
  part_steps k j u v (into.Elem i) h (n, e) d =
      elements_fit s f p is v n k i j (inl (subst (λ z. has_type (location p k) z ≡ true) e h)) d

  along_if : (o : Option ℕ) (k : ℕ) (v : Ty) (next : ℕ → Option ℕ) (P : Type 0) → part_if o next ≡ Some k
      → ((j : ℕ) → o ≡ Some j → next j ≡ Some k → P) → P
  along_if None k v next P e l = absurd (none_some e)
  along_if (Some j) k v next P e l = l j refl e

  along : (way : List InitStep) (from to : ℕ) (u t : Ty) → has_type (location p from) u ≡ true → LeadsInto s u way t
      → part_along (env_of s p []) way from ≡ Some to → has_type (location p to) t ≡ true
  along [] from to u t h e d =
      subst (λ n. has_type (location p n) t ≡ true) (number_same from to d) (subst (λ z. has_type (location p from) z ≡ true) e h)
  along (x ∷ xs) from to u t h (v, steps, leads) d =
      along_if (part_into (env_of s p []) from x) to v (part_along (env_of s p []) xs) (has_type (location p to) t ≡ true) d
      (λ j e r. along xs j to v t (part_steps from j u v x h steps e) leads r)

  leads_if : (way : Option (List InitStep)) (from to : ℕ) (u t : Ty) → has_type (location p from) u ≡ true → LeadsIf s u way t
      → part_at (env_of s p []) from way ≡ Some to → has_type (location p to) t ≡ true
  leads_if None from to u t h e d = absurd (none_some d)
  leads_if (Some way) from to u t h e d = along way from to u t h e d

  items : (k : ℕ) (u : Ty) (xs : List Given) → has_type (location p k) u ≡ true → ItemsTyped s u xs → ItemsFound s f xs → ItemsFit s p k xs
  items k u [] h t w = tt
  items k u (x ∷ xs) h t w = (
    fits s f p is same tell (if_scalar (type_of x.value)) x.value t.0 w.0,
    λ j d. leads_if x.way k j u (type_of x.value) h t.1 d,
    items k u xs h t.2 w.1,
  )

  init : (k : ℕ) (u : Ty) (x : Init) → has_type (location p k) u ≡ true → InitTyped s u x → InitFound s f x → InitFits s p k x
  init k u NoInit h t w = tt
  init k u (One e) h t w =
      (fits s f p is same tell (if_scalar (type_of e)) e t.0 w, subst (λ z. has_type (location p k) z ≡ true) t.1 h)
  init k u (Braces xs) h t w = items k u xs h t w

  declared_fits : (d : Declared) (x : Init) → DeclaredTyped s d x → InitFound s f x → DeclaredFits s p d x
  declared_fits (declared.Local n) x (u, e, t) w =
      let there = local_there s f p is n u e in
      (there.0, init (location_of p (origin.Local n)) u x there.1 t w)
  declared_fits (declared.Global n) x t w = tt
  declared_fits declared.Function x t w = tt

  declarators : (ds : List Dec) → DeclaratorsTyped s ds → DeclaratorsFound s f ds → DeclaratorsFit s p ds
  declarators [] t w = tt
  declarators (d ∷ ds) t w = (declared_fits d.declared d.init t.0 w.0, declarators ds t.1 w.1)

  test : (e : Exp) → TestTyped s e → IsFound s f e true → TestFits s p e
  test e t w = (fits s f p is same tell Value e t.0 w, t.1)

  test_if : (e : Option Exp) → TestTypedIf s e → FoundIf s f e → TestFitsIf s p e
  test_if None t w = tt
  test_if (Some e) t w = test e t w

  value_if : (e : Option Exp) → TypedIf s e → FoundIf s f e → FitsIf s p e
  value_if None t w = tt
  value_if (Some e) t w = fits s f p is same tell Value e t w

  start : (x : Start) → StartTyped s x → StartFound s f x → StartFits s p x
  start NoStart t w = tt
  start (Begin e) t w = fits s f p is same tell Value e t w
  start (Declare ds) t w = declarators ds t w

  returns : (e : Option Exp) → ReturnTyped s e → FoundIf s f e → ReturnFits s p e
  returns None t w = tt
  returns (Some e) t w = (fits s f p is same tell Value e t.0 w, t.1)

  mutual
    pub statement : (x : Stm) → StatementTyped s x → StatementFound s f x → StatementFits s p x
    statement (Block xs end) t w = statements xs t w
    statement (Decl ds) t w = declarators ds t w
    statement (Evaluate e) t w = value_if e t w
    statement (If q e x) t w = (test e t.0 w.0, statement x t.1 w.1)
    statement (IfElse q e x y) t w = (test e t.0 w.0, statement x t.1 w.1, statement y t.2 w.2)
    statement (While q e x) t w = (test e t.0 w.0, statement x t.1 w.1)
    statement (Do q x e) t w = (statement x t.0 w.0, test e t.1 w.1)
    statement (For q g c n x) t w = (start g t.0 w.0, test_if c t.1 w.1, value_if n t.2 w.2, statement x t.3 w.3)
    statement (Switch q e xs) t w = (fits s f p is same tell Value e t.0 w.0, t.1, statements xs t.2 w.1)
    statement (Case n e) t w = tt
    statement Default t w = tt
    statement (Goto q n) t w = tt
    statement Break t w = tt
    statement Continue t w = tt
    statement (Return q e) t w = returns e t w
    statement (Label n x) t w = statement x t w

    pub statements : (xs : Stms) → StatementsTyped s xs → StatementsFound s f xs → StatementsFit s p xs
    statements NoStms t w = tt
    statements (Stms' x xs) t w = (statement x t.0 w.0, statements xs t.1 w.1)

-- The layout of the function.

abbrev Answer : Type 0
Answer = Result Layout LimitKind

abbrev ok : Layout → Answer
ok p = Ok p

ok_same : (p q : Layout) → ok p ≡ Ok q → p ≡ q
ok_same p q h = ap (ok_or p) h
  where
    ok_or : Layout → Answer → Layout
    ok_or d (Ok z) = z
    ok_or d (Err e) = d

abbrev err : LimitKind → Answer
err e = Err e

err_is : (p : Layout) (e : LimitKind) → err e ≡ Ok p → ⊥
err_is p e h = absurd (cc)

by_laid : (f : Found) (p : Layout) (r : Built Layout (Unit {0})) → Keeps (record no_layout { sites = f.sites }) r → laid r ≡ Ok p
    → p.sites ≡ f.sites
by_laid f p (Ok (u, q)) h e = ap (λ (z : Layout). z.sites) (sym (ok_same q p e)) ∙ h
by_laid f p (Err k) h e = absurd (err_is p k e)

by_found : (s : Source) (p : Layout) (r : Built Found (Unit {0})) → gather_function s nothing_found ≡ r → places_of s r ≡ Ok p
    → (p.sites ≡ (found_in r).sites) × StatementFound s (found_in r) s.body
by_found s p (Ok (u, f)) g e = (
  by_laid f p (lay_out (record { source = s; found = f }) (record no_layout { sites = f.sites }))
      ((sites_stay (record { source = s; found = f })).by (record no_layout { sites = f.sites })) e,
  body_found s f g,
)
by_found s p (Err k) g e = absurd (err_is p k e)

pub function_fits : (s : Source) (p : Layout) → IsLaidFor s (found_in (gather_function s nothing_found)) p.locations → places s ≡ Ok p
    → BracketsTell p.sites → FunctionTyped s → FunctionFits s p
function_fits s p is e tell typed =
    let has = by_found s p (gather_function s nothing_found) refl e in
    record {
      result = typed.result;
      body =
          statement s (found_in (gather_function s nothing_found)) p is has.0 (subst (λ xs. BracketsTell xs) has.0 tell) s.body
          typed.body has.1;
    }
