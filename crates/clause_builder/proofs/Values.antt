-- From the clauses of all gates to what a loaded solver knows.

use Rattle.std.proofs.Common.{◌≡◌, ℕ, zero, suc, ◌+◌, ◌-◌, ◌<◌, ◌≤◌, Bool, true, false, not, ◌&&◌, ◌||◌, if◌then◌else◌, List, [], ◌∷◌, ◌++◌, length}
use Rattle.std.proofs.Common.{get_or, ltb, Some, slice_get, refl, sym, subst, ap, ◌∙◌, ⊎_elim, arith}
use Rattle.std.proofs.lemmas.List.FromFn.{get_or-map-range_with_len, length-map-range_with_len, map-range_with_len_more}
use Rattle.std.proofs.lemmas.List.Elements.{All-head, All-tail}
use Rattle.std.proofs.lemmas.Option.{get_or_from_slice_get, slice_get-get_or}
use Rattle.std.proofs.lemmas.Bool.{cases_lt, cases_eq, and_parts, and_from, lt-ltb, le-ltb, cond-true, cond-false, false≢true}
use Rattle.std.specs.List.{All}
use Rattle.bit_net.specs.declared.nodes.Node.{Node}
use Rattle.bit_net.specs.declared.nodes.Node.TheVariants.{Constant, Input, Not, And, Or, Xor, Mux}
use Rattle.bit_net.specs.Value.{value, table, xor}
use Rattle.bit_net.specs.Circuit.{IsCircuit}
use Rattle.bit_net.specs.Runs.{Runs, Fits}
use Rattle.sat_base.specs.declared.literal.Lit.{Lit}
use Rattle.sat_base.specs.Logic.{lit_true, some_true, all_true, LitsBelow, ClausesBelow}
use Rattle.clause_builder.specs.Adding.{Adds}
use Rattle.clause_builder.specs.Gates.{gate_lit, gate_lits, gate_value, alike, gate_holds, gates_hold}
use Rattle.clause_builder.specs.Loaded.{Chooses, extended, IsLoaded}
use Rattle.clause_builder.proofs.Places.{input_place, inside_from_slice_get}

-- the value by the literal is the value of the variable
gate_value-gate_lits : (f : ℕ → Bool) (base n g : ℕ) → g < n → gate_value f (gate_lits base n) g ≡ f (base + g)
unfolding gate_value lit_true
gate_value-gate_lits f base n g inside =
    ap (lit_true f) (get_or-map-range_with_len (gate_lit base) 0 n g g (gate_lit 0 0) inside (omega arith))

gates_hold_each : (v : ℕ → Bool) (ns : List Node) (n : ℕ) → gates_hold v ns n ≡ true
    → (g : ℕ) → g < n → gate_holds v g (get_or ns g (Constant false)) ≡ true
gates_hold_each v ns zero all g below = absurd (omega (arith, below))
gates_hold_each v ns (suc n) all g below =
    let parts = and_parts (gates_hold v ns n) (gate_holds v n (get_or ns n (Constant false))) all in
    ⊎_elim
    (λ last. subst (λ i. gate_holds v i (get_or ns i (Constant false)) ≡ true) (sym last) parts.1)
    (λ before. gates_hold_each v ns n parts.0 g (omega (arith, below, before)))
    (cases_eq g n)

gates_hold_from : (v : ℕ → Bool) (ns : List Node) (n : ℕ)
    → ((g : ℕ) → g < n → gate_holds v g (get_or ns g (Constant false)) ≡ true) → gates_hold v ns n ≡ true
gates_hold_from v ns zero each = refl
gates_hold_from v ns (suc n) each =
    and_from (gates_hold v ns n) (gate_holds v n (get_or ns n (Constant false)))
    (gates_hold_from v ns n (λ g below. each g (omega (arith, below)))) (each n (omega arith))

pub same_from_alike : (a b : Bool) → alike a b ≡ true → a ≡ b
same_from_alike true true is = refl
same_from_alike true false is = absurd (false≢true is)
same_from_alike false true is = absurd (false≢true is)
same_from_alike false false is = refl

pub alike-same : (a b : Bool) → a ≡ b → alike a b ≡ true
alike-same true true is = refl
alike-same true false is = sym is
alike-same false true is = is
alike-same false false is = refl

-- a gate with the right value fits its table, where the input gates have the values of the choice
table_from_holds : (choice v : ℕ → Bool) (g : ℕ) (node : Node)
    → ((k : ℕ) → node ≡ Input k → v g ≡ choice k) → gate_holds v g node ≡ true → v g ≡ table choice v node
table_from_holds choice v g (Constant b) chosen holds = same_from_alike (v g) b holds
table_from_holds choice v g (Input k) chosen holds = chosen k refl
table_from_holds choice v g (Not a) chosen holds = same_from_alike (v g) (not (v a.at)) holds
table_from_holds choice v g (And a b) chosen holds = same_from_alike (v g) (v a.at && v b.at) holds
table_from_holds choice v g (Or a b) chosen holds = same_from_alike (v g) (v a.at || v b.at) holds
table_from_holds choice v g (Xor a b) chosen holds = same_from_alike (v g) (xor (v a.at) (v b.at)) holds
table_from_holds choice v g (Mux c a b) chosen holds = same_from_alike (v g) (if v c.at then v a.at else v b.at) holds

holds_from_table : (choice v : ℕ → Bool) (g : ℕ) (node : Node) → v g ≡ table choice v node → gate_holds v g node ≡ true
holds_from_table choice v g (Constant b) fits = alike-same (v g) b fits
holds_from_table choice v g (Input k) fits = refl
holds_from_table choice v g (Not a) fits = alike-same (v g) (not (v a.at)) fits
holds_from_table choice v g (And a b) fits = alike-same (v g) (v a.at && v b.at) fits
holds_from_table choice v g (Or a b) fits = alike-same (v g) (v a.at || v b.at) fits
holds_from_table choice v g (Xor a b) fits = alike-same (v g) (xor (v a.at) (v b.at)) fits
holds_from_table choice v g (Mux c a b) fits = alike-same (v g) (if v c.at then v a.at else v b.at) fits

fits_from_holds : (ns : List Node) (choice v : ℕ → Bool) → IsCircuit ns → Chooses ns choice v
    → gates_hold v ns (length ns) ≡ true → Fits ns choice v
fits_from_holds ns choice v circuit chooses all =
    record {
      table =
          λ g node is.
          let inside = inside_from_slice_get ns g node is in
          let here : get_or ns g (Constant false) ≡ node = get_or_from_slice_get ns g node (Constant false) is in
          table_from_holds choice v g node
          (λ k is_input.
          let place = input_place ns circuit g k (is ∙ ap Some is_input) in
          ap v place.1 ∙ chooses k place.0)
          (subst (λ m. gate_holds v g m ≡ true) here (gates_hold_each v ns (length ns) all g inside));
    }

holds_from_fits : (ns : List Node) (choice v : ℕ → Bool) → Fits ns choice v → gates_hold v ns (length ns) ≡ true
holds_from_fits ns choice v fits =
    gates_hold_from v ns (length ns)
    (λ g below. holds_from_table choice v g (get_or ns g (Constant false)) (fits.table g (get_or ns g (Constant false)) (slice_get-get_or ns g
    (Constant false) below)))

-- assignments that agree below base agree on clauses below base
lit_true-agree : (f h : ℕ → Bool) (base : ℕ) → ((x : ℕ) → x < base → f x ≡ h x) → (l : Lit) → l.var < base → lit_true f l ≡ lit_true h l
unfolding lit_true
lit_true-agree f h base same l below = ap (λ b. if l.neg then not b else b) (same l.var below)

some_true-agree : (f h : ℕ → Bool) (base : ℕ) → ((x : ℕ) → x < base → f x ≡ h x) → (c : List Lit) → LitsBelow base c → some_true f c ≡ some_true h c
some_true-agree f h base same [] below = refl
some_true-agree f h base same (l ∷ c) below =
    ap (λ b. b || some_true f c) (lit_true-agree f h base same l (All-head (λ q. q.var < base) l c below))
    ∙ ap (λ b. lit_true h l || b) (some_true-agree f h base same c (All-tail (λ q. q.var < base) l c below))

pub all_true-agree : (f h : ℕ → Bool) (base : ℕ) → ((x : ℕ) → x < base → f x ≡ h x) → (cs : List (List Lit)) → ClausesBelow base cs
    → all_true f cs ≡ all_true h cs
all_true-agree f h base same [] below = refl
all_true-agree f h base same (c ∷ cs) below =
    ap (λ b. b && all_true f cs) (some_true-agree f h base same c (All-head (LitsBelow base) c cs below))
    ∙ ap (λ b. some_true h c && b) (all_true-agree f h base same cs (All-tail (LitsBelow base) c cs below))

extended_below : (f values : ℕ → Bool) (base x : ℕ) → x < base → f x ≡ extended f base values x
extended_below f values base x below = sym (cond-true (ltb x base) (f x) (values (x - base)) (lt-ltb x base below))

extended_above : (f values : ℕ → Bool) (base g : ℕ) → extended f base values (base + g) ≡ values g
extended_above f values base g =
    let back : base + g - base ≡ g = omega arith in
    cond-false (ltb (base + g) base) (f (base + g)) (values (base + g - base)) (le-ltb (base + g) base (omega arith)) ∙ ap values back

satisfied_from : (ns : List Node) (old new : List (List Lit)) (base : ℕ) → IsCircuit ns
    → ((ms : List Node) (choice v : ℕ → Bool) → IsCircuit ms → Runs ms choice v → Fits ms choice v)
    → Adds old new (λ f. gates_hold (gate_value f (gate_lits base (length ns))) ns (length ns))
    → (f choice : ℕ → Bool) → all_true f old ≡ true
    → ((g : ℕ) → g < length ns → f (base + g) ≡ value choice ns g) → all_true f new ≡ true
satisfied_from ns old new base circuit fits adds f choice all right =
    let w : ℕ → Bool = gate_value f (gate_lits base (length ns)) in
    let runs : Runs ns choice w = record { same = λ g below. gate_value-gate_lits f base (length ns) g below ∙ right g below } in
    adds f ∙ and_from (all_true f old) (gates_hold w ns (length ns)) all (holds_from_fits ns choice w (fits ns choice w circuit runs))

pub is_loaded : (ns : List Node) (old new : List (List Lit)) (base : ℕ) → IsCircuit ns → ClausesBelow base old
    → ((ms : List Node) (choice v : ℕ → Bool) → IsCircuit ms → Runs ms choice v → Fits ms choice v)
    → ((ms : List Node) (choice v : ℕ → Bool) → IsCircuit ms → Fits ms choice v → Runs ms choice v)
    → Adds old new (λ f. gates_hold (gate_value f (gate_lits base (length ns))) ns (length ns))
    → IsLoaded ns old new base
is_loaded ns old new base circuit below fits runs adds =
    record {
      earlier =
          λ f all.
          (and_parts (all_true f old) (gates_hold (gate_value f (gate_lits base (length ns))) ns (length ns)) (sym (adds f) ∙ all)).0;
      values =
          λ f choice all chooses g inside.
          let w : ℕ → Bool = gate_value f (gate_lits base (length ns)) in
          let holds = (and_parts (all_true f old) (gates_hold w ns (length ns)) (sym (adds f) ∙ all)).1 in
          let chosen : Chooses ns choice w =
          λ k few.
          gate_value-gate_lits f base (length ns) (2 + k) (inside_from_slice_get ns (2 + k) (Input k) (circuit.inputs k few)) ∙ chooses k few in
          sym (gate_value-gate_lits f base (length ns) g inside)
          ∙ (runs ns choice w circuit (fits_from_holds ns choice w circuit chosen holds)).same g inside;
      satisfied = satisfied_from ns old new base circuit fits adds;
      extension =
          λ f choice all.
          satisfied_from ns old new base circuit fits adds (extended f base (value choice ns)) choice
          (sym (all_true-agree f (extended f base (value choice ns)) base (λ x less. extended_below f (value choice ns) base x less) old below) ∙ all)
          (λ g inside. extended_above f (value choice ns) base g);
    }

and_assoc : (a b c : Bool) → ((a && b) && c) ≡ (a && (b && c))
and_assoc true b c = refl
and_assoc false b c = refl

-- the clauses of one gate more
pub adds_gate : (x y z : List (List Lit)) (lits : List Lit) (ns : List Node) (g : ℕ) (node : Node)
    → slice_get ns g ≡ Some node
    → Adds x y (λ f. gates_hold (gate_value f lits) ns g)
    → Adds y z (λ f. gate_holds (gate_value f lits) g node)
    → Adds x z (λ f. gates_hold (gate_value f lits) ns (g + 1))
adds_gate x y z lits ns g node is first next f =
    let w : ℕ → Bool = gate_value f lits in
    let here : node ≡ get_or ns g (Constant false) = sym (get_or_from_slice_get ns g node (Constant false) is) in
    let one : suc g ≡ g + 1 = omega arith in
    next f
    ∙ ap (λ b. b && gate_holds w g node) (first f)
    ∙ and_assoc (all_true f x) (gates_hold w ns g) (gate_holds w g node)
    ∙ ap (λ m. all_true f x && (gates_hold w ns g && gate_holds w g m)) here
    ∙ ap (λ n. all_true f x && gates_hold w ns n) one

gate_lits_at : (base n k : ℕ) (d : Lit) → k < length (gate_lits base n) → get_or (gate_lits base n) k d ≡ gate_lit base k
gate_lits_at base n k d inside =
    let below : k < n = subst (λ m. k < m) (length-map-range_with_len (gate_lit base) 0 n) inside in
    get_or-map-range_with_len (gate_lit base) 0 n k k d below (omega arith)

-- the literals of the gates have the variables from base on
pub lits_below : (lits : List Lit) (base n vars : ℕ) → lits ≡ gate_lits base n → vars ≡ base + n → LitsBelow vars lits
lits_below lits base n vars is room =
    subst (LitsBelow vars) (sym is)
    (λ k d inside.
    let below : k < n = subst (λ m. k < m) (length-map-range_with_len (gate_lit base) 0 n) inside in
    subst (λ l. l.var < vars) (sym (gate_lits_at base n k d inside)) (omega (arith, below, room)))

pub lits_from : (lits : List Lit) (base n : ℕ) → lits ≡ gate_lits base n → All (λ l. base ≤ l.var) lits
lits_from lits base n is =
    subst (All (λ l. base ≤ l.var)) (sym is)
    (λ k d inside. subst (λ l. base ≤ l.var) (sym (gate_lits_at base n k d inside)) (omega arith))

pub length-lits : (lits : List Lit) (base n : ℕ) → lits ≡ gate_lits base n → length lits ≡ n
length-lits lits base n is = ap length is ∙ length-map-range_with_len (gate_lit base) 0 n

pub loaded_from : (ns : List Node) (old mid new : List (List Lit)) (lits : List Lit) (base n : ℕ) → IsCircuit ns
    → (0 < n → ClausesBelow base old)
    → ((ms : List Node) (choice v : ℕ → Bool) → IsCircuit ms → Runs ms choice v → Fits ms choice v)
    → ((ms : List Node) (choice v : ℕ → Bool) → IsCircuit ms → Fits ms choice v → Runs ms choice v)
    → mid ≡ old → lits ≡ gate_lits base n → n ≡ length ns
    → Adds mid new (λ f. gates_hold (gate_value f lits) ns (length ns))
    → IsLoaded ns old new base
loaded_from ns old mid new lits base n circuit below fits runs same is all adds =
    let some : 0 < length ns = inside_from_slice_get ns 0 (Constant false) circuit.zero in
    is_loaded ns old new base circuit (below (omega (arith, some, all))) fits runs
    (subst (λ cs. Adds cs new (λ f. gates_hold (gate_value f (gate_lits base (length ns))) ns (length ns))) same
    (subst (λ ls. Adds mid new (λ f. gates_hold (gate_value f ls) ns (length ns))) (is ∙ ap (gate_lits base) all) adds))

-- one fresh literal more
pub more_lits : (items new : List Lit) (base k var vars : ℕ)
    → new ≡ items ++ record { var = var; neg = false } ∷ [] → items ≡ gate_lits base k → var ≡ vars → vars ≡ base + k
    → new ≡ gate_lits base (k + 1)
more_lits items new base k var vars pushed so_far here next =
    pushed
    ∙ ap (λ ls. ls ++ record { var = var; neg = false } ∷ []) so_far
    ∙ ap (λ x. gate_lits base k ++ record { var = x; neg = false } ∷ []) (here ∙ next)
    ∙ sym (map-range_with_len_more (gate_lit base) 0 k k (omega arith))

pub unused_more : (base k vars : ℕ) (now old : List (List Lit))
    → vars ≡ base + k → now ≡ old → (0 < k → ClausesBelow base old) → ClausesBelow vars now → ClausesBelow base old
unused_more base k vars now old next same before below =
    ⊎_elim
    (λ first.
    let start : vars ≡ base = omega (arith, next, first) in
    subst (λ n. ClausesBelow n old) start (subst (ClausesBelow vars) same below))
    (λ later. before (omega (arith, later)))
    (cases_lt k 1)
