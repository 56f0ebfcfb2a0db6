-- Good evidence tells the truth: the callee of an edge reaches its caller exactly if both have one component.
use Rattle.std.proofs.Common.{◌≡◌, ℕ, zero, suc, ◌+◌, ◌<◌, ◌≤◌, ◌&&◌, ◌⊎◌, cond, Bool, true, false, Option, Some, None, List, [], ◌∷◌, length, eqb, leb, ltb, get_or, refl, sym, subst, ap, ◌∙◌, ⊎_elim, inl, inr, zero-add, arith}
use Rattle.std.proofs.lemmas.Option.{get_or_from_slice_get, slice_get_cases, none-some}
use Rattle.std.proofs.lemmas.Bool.{and_parts, eqb-true, eq-eqb, leb-true, ltb-true, true≢false}
use Rattle.std.specs.List.{Contains, list_all, slice_get}
use Rattle.plan_core.specs.Graph.{callees, Walk, one, more, Reaches, reaches, IsGraph}
use Rattle.plan_core.proofs.Marks.{list_all-contains}
use Rattle.plan_core.proofs.Reaching.{inside_from_call, reaches_join, reach_from_test, test_from_reach}
use Rattle.call_graph.specs.declared.evidence.Link.{Link}
use Rattle.call_graph.specs.declared.evidence.Evidence.{Evidence}
use Rattle.call_graph.specs.Evidence.{component, link, is_function, calls_at, leads_up, is_root, is_link, fits, fit_from, is_evidence, is_back}

-- each function fits
fits_at : (rows rest : List (List ℕ)) (e : Evidence) (start k : ℕ) → fit_from rows e start rest ≡ true → k < length rest
    → fits rows (get_or rest k []) e (start + k) ≡ true
fits_at rows [] e start k all below = absurd (omega (arith, below))
fits_at rows (row ∷ rest) e start zero all below =
    let here : start ≡ start + 0 = omega arith in
    subst (λ n. fits rows row e n ≡ true) here (and_parts (fits rows row e start) (fit_from rows e (start + 1) rest) all).0
fits_at rows (row ∷ rest) e start (suc k) all below =
    let after = (and_parts (fits rows row e start) (fit_from rows e (start + 1) rest) all).1 in
    let here : start + 1 + k ≡ start + suc k = omega arith in
    subst (λ n. fits rows (get_or rest k []) e n ≡ true) here (fits_at rows rest e (start + 1) k after (omega (arith, below)))

pub fits_each : (rows : List (List ℕ)) (e : Evidence) (f : ℕ) → is_evidence rows e ≡ true → f < length rows
    → fits rows (callees rows f) e f ≡ true
fits_each rows e f all below =
    subst (λ n. fits rows (callees rows f) e n ≡ true) (zero-add f) (fits_at rows rows e 0 f all below)

-- the item at a place of a list is one of its items
is_function_means : (g : ℕ) (x : Option ℕ) → is_function g x ≡ true → x ≡ Some g
is_function_means g None is = absurd (true≢false (sym is))
is_function_means g (Some h) is = ap Some (eqb-true h g is)

contains_at : (xs : List ℕ) (k x : ℕ) → slice_get xs k ≡ Some x → Contains xs x
contains_at xs k x at =
    ⊎_elim
    (λ inside. (k, inside.1, get_or_from_slice_get xs k x x at))
    (λ past. absurd (none-some x (sym past.1 ∙ at)))
    (slice_get_cases xs k).1

-- the root of a component
abbrev root_of : Evidence → ℕ → ℕ
root_of e c = get_or e.roots c 0

root_means : (e : Evidence) (f : ℕ) → is_root e f ≡ true → root_of e (component e f) ≡ f
root_means e f root = get_or_from_slice_get e.roots (component e f) f 0 (is_function_means f _ root)

-- a call at a place of a row
call_means : (rows : List (List ℕ)) (f at g : ℕ) → calls_at rows f at g ≡ true → Contains (callees rows f) g
call_means rows f at g does = contains_at (callees rows f) at g (is_function_means g _ does)

-- what a good link is, if its function is not the root: a call, one component, and a lower rank
record IsStep (e : Evidence) (links : List Link) (f : ℕ) (does : Bool) : Type 0 where
  call : does ≡ true
  same : component e (link links f).to ≡ component e f
  lower : (link links (link links f).to).rank < (link links f).rank

step_parts : (e : Evidence) (links : List Link) (f : ℕ) (does : Bool)
    → (does && (eqb (component e (link links f).to) (component e f) && ltb (link links (link links f).to).rank (link links f).rank)) ≡ true
    → IsStep e links f does
step_parts e links f does good =
    let first = and_parts does _ good in
    let second = and_parts (eqb (component e (link links f).to) (component e f)) _ first.1 in
    record { call = first.0; same = eqb-true _ _ second.0; lower = ltb-true _ _ second.1 }

-- the two cases of the test
cond_cases : (b c d : Bool) → cond b c d ≡ true → (c ≡ true) ⊎ (d ≡ true)
cond_cases true c d is = inl is
cond_cases false c d is = inr is

link_cases : (e : Evidence) (links : List Link) (f : ℕ) (does : Bool) → is_link e links f does ≡ true
    → (is_root e f ≡ true) ⊎ IsStep e links f does
link_cases e links f does good =
    ⊎_elim
    (λ root. inl root)
    (λ step. inr (step_parts e links f does step))
    (cond_cases (eqb (link links f).rank 0) (is_root e f) _ good)

same_tests : (a b : Bool) → (a ≡ true → b ≡ true) → (b ≡ true → a ≡ true) → a ≡ b
same_tests true b there back = sym (there refl)
same_tests false true there back = back refl
same_tests false false there back = refl

-- Along the links: the root reaches each function of its component, and each of them reaches the root.

call_reaches : (rows : List (List ℕ)) (f g : ℕ) → Contains (callees rows f) g → reaches rows f g ≡ true
call_reaches rows f g call = test_from_reach rows f g (inr (one f g call))

itself : (rows : List (List ℕ)) (f g : ℕ) → f ≡ g → reaches rows f g ≡ true
itself rows f g same = test_from_reach rows f g (inl same)

module _ (rows : List (List ℕ)) (e : Evidence) (graph : IsGraph rows) (good : is_evidence rows e ≡ true) where
  record IsFit (f : ℕ) : Type 0 where
    rises : leads_up (callees rows f) e f ≡ true
    down : is_link e e.down f (calls_at rows (link e.down f).to (link e.down f).at f) ≡ true
    up : is_link e e.up f (calls_at rows f (link e.up f).at (link e.up f).to) ≡ true

  fit : (f : ℕ) → f < length rows → IsFit f
  fit f inside =
      let first = and_parts _ _ (fits_each rows e f good inside) in
      let second = and_parts _ _ first.1 in
      record { rises = first.0; down = second.0; up = second.1 }

  -- the root is a function, and reaches f
  record IsFrom (f : ℕ) : Type 0 where
    inside : root_of e (component e f) < length rows
    reach : reaches rows (root_of e (component e f)) f ≡ true

  from_here : (f : ℕ) → f < length rows → is_root e f ≡ true → IsFrom f
  from_here f inside root =
      let is = root_means e f root in
      record { inside = subst (λ g. g < length rows) (sym is) inside; reach = itself rows (root_of e (component e f)) f is }

  from_link : (f : ℕ) → IsStep e e.down f (calls_at rows (link e.down f).to (link e.down f).at f) → IsFrom (link e.down f).to → IsFrom f
  from_link f step there =
      let to = (link e.down f).to in
      let call = call_means rows to (link e.down f).at f step.call in
      let inside = inside_from_call rows to f call in
      record {
        inside = subst (λ c. root_of e c < length rows) step.same there.inside;
        reach = reaches_join rows (root_of e (component e f)) to f inside
            (subst (λ c. reaches rows (root_of e c) to ≡ true) step.same there.reach) (call_reaches rows to f call);
      }

  from_root : (most f : ℕ) → f < length rows → (link e.down f).rank ≤ most → IsFrom f
  from_root zero f inside low =
      ⊎_elim
      (λ root. from_here f inside root)
      (λ step. absurd (omega (arith, step.lower, low)))
      (link_cases e e.down f _ (fit f inside).down)
  from_root (suc most) f inside low =
      ⊎_elim
      (λ root. from_here f inside root)
      (λ step. from_link f step (from_root most (link e.down f).to
      (inside_from_call rows (link e.down f).to f (call_means rows (link e.down f).to (link e.down f).at f step.call))
      (omega (arith, step.lower, low))))
      (link_cases e e.down f _ (fit f inside).down)

  to_link : (f : ℕ) → IsStep e e.up f (calls_at rows f (link e.up f).at (link e.up f).to)
      → reaches rows (link e.up f).to (root_of e (component e (link e.up f).to)) ≡ true → reaches rows f (root_of e (component e f)) ≡ true
  to_link f step there =
      let to = (link e.up f).to in
      let call = call_means rows f (link e.up f).at to step.call in
      reaches_join rows f to (root_of e (component e f)) (graph.inside f to call)
      (call_reaches rows f to call) (subst (λ c. reaches rows to (root_of e c) ≡ true) step.same there)

  to_root : (most f : ℕ) → f < length rows → (link e.up f).rank ≤ most → reaches rows f (root_of e (component e f)) ≡ true
  to_root zero f inside low =
      ⊎_elim
      (λ root. itself rows f (root_of e (component e f)) (sym (root_means e f root)))
      (λ step. absurd (omega (arith, step.lower, low)))
      (link_cases e e.up f _ (fit f inside).up)
  to_root (suc most) f inside low =
      ⊎_elim
      (λ root. itself rows f (root_of e (component e f)) (sym (root_means e f root)))
      (λ step. to_link f step (to_root most (link e.up f).to
      (graph.inside f (link e.up f).to (call_means rows f (link e.up f).at (link e.up f).to step.call))
      (omega (arith, step.lower, low))))
      (link_cases e e.up f _ (fit f inside).up)

  -- components do not fall along calls
  call_rises : (f g : ℕ) → Contains (callees rows f) g → component e f ≤ component e g
  call_rises f g call =
      leb-true _ _ (list_all-contains (λ h. leb (component e f) (component e h)) (callees rows f) g (fit f (inside_from_call rows f g call)).rises call)

  walk_rises : (f g : ℕ) → Walk rows f g → component e f ≤ component e g
  walk_rises _ _ (one f g call) = call_rises f g call
  walk_rises _ _ (more f g h walk call) = omega (arith, walk_rises f g walk, call_rises g h call)

  reach_rises : (f g : ℕ) → Reaches rows f g → component e f ≤ component e g
  reach_rises f g reach =
      ⊎_elim
      (λ same. subst (λ h. component e f ≤ component e h) same (omega arith))
      (λ walk. walk_rises f g walk)
      reach

  same_from_reach : (f g : ℕ) → Contains (callees rows f) g → reaches rows g f ≡ true → component e f ≡ component e g
  same_from_reach f g call back = omega (arith, call_rises f g call, reach_rises g f (reach_from_test rows g f back))

  reach_from_same : (f g : ℕ) → f < length rows → g < length rows → component e f ≡ component e g → reaches rows g f ≡ true
  reach_from_same f g inside there same =
      let up = to_root (link e.up g).rank g there (omega arith) in
      let down = from_root (link e.down f).rank f inside (omega arith) in
      reaches_join rows g (root_of e (component e f)) f down.inside
      (subst (λ c. reaches rows g (root_of e c) ≡ true) (sym same) up) down.reach

  -- what the evidence says of an edge is so
  pub evident : (f g : ℕ) → f < length rows → Contains (callees rows f) g → is_back e f g ≡ reaches rows g f
  evident f g inside call =
      same_tests (is_back e f g) (reaches rows g f)
      (λ same. reach_from_same f g inside (graph.inside f g call) (eqb-true _ _ same))
      (λ back. eq-eqb _ _ (same_from_reach f g call back))
