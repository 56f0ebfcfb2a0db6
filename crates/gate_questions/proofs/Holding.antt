-- From what a solver knows of the loaded gates to what holds of them for some choice.

use Rattle.std.proofs.Common.{◌≡◌, ℕ, suc, zero, ◌+◌, ◌<◌, ◌≤◌, Bool, true, false, ◌&&◌, List, [], ◌∷◌, ◌++◌, length, map, take, get_or, Option, Some, None, slice_get, refl, sym, subst, ap, ◌∙◌, arith}
use Rattle.std.proofs.lemmas.List.{take_all, take_more, map_push, get_or-map, length-map}
use Rattle.std.proofs.lemmas.List.FromFn.{get_or-map-range_with_len, length-map-range_with_len, map-range_with_len_more}
use Rattle.std.proofs.lemmas.List.Elements.{All-nil, All-cons, All-head, All-tail}
use Rattle.std.proofs.lemmas.Option.{slice_get_within}
use Rattle.std.proofs.lemmas.Bool.{and_parts, and_from, false≢true, false_from_ne_true}
use Rattle.std.specs.List.{All, list_all, range_with_len}
use Rattle.std.specs.Prelude.{Vec, MatchOption}
use Rattle.std.specs.declared.alloc.Global.{Global}
use Rattle.bit_net.specs.declared.nodes.Gate.{Gate}
use Rattle.bit_net.specs.declared.nodes.Node.{Node}
use Rattle.bit_net.specs.declared.nodes.Node.TheVariants.{Constant, Input}
use Rattle.bit_net.specs.Value.{bit_at, value}
use Rattle.bit_net.specs.Circuit.{input_count, IsCircuit}
use Rattle.bit_net.specs.Runs.{Runs, Fits}
use Rattle.bit_net.specs.Lanes.{bit, lane, AreLanes}
use Rattle.sat_base.specs.declared.literal.Lit.{Lit}
use Rattle.sat_base.specs.Logic.{lit_true, each_true, all_true, satisfied, LitsBelow}
use Rattle.clause_builder.specs.Cones.{lit_at, AgreesWith, HasValues, AreLoaded, opt_true, loaded_value}
use Rattle.query.specs.Values.{values_of, is_before, HasNone, IsLeast}
use Rattle.gate_questions.specs.Holds.{all_hold, SomeHolds, NoneHolds, bits_of, IsFirst}
use Rattle.gate_questions.specs.Ready.{AreLits, lit_or, input_lit, input_lits}

head_is : (o q : Option Lit) (os qs : List (Option Lit)) → o ∷ os ≡ q ∷ qs → (o ≡ q) × (os ≡ qs)
head_is o q os qs is = (cc, cc)

none_is_some : (q : Option Lit) (qs : List (Option Lit)) → [] ≡ q ∷ qs → ⊥
none_is_some q qs is = cc

some_is_none : (q : Option Lit) (qs : List (Option Lit)) → q ∷ qs ≡ [] → ⊥
some_is_none q qs is = cc

-- the literals of gates have the values of the gates
each_is : (ns : List Node) (loaded : List (Option Lit)) (choice f : ℕ → Bool) → HasValues ns loaded choice f
    → (gates : List Gate) (lits : List Lit) → map (λ g. lit_at loaded g.at) gates ≡ map Some lits
    → each_true f lits ≡ all_hold (value choice ns) gates
each_is ns loaded choice f has [] [] same = refl
each_is ns loaded choice f has [] (l ∷ lits) same = absurd (none_is_some (Some l) (map Some lits) same)
each_is ns loaded choice f has (g ∷ gates) [] same = absurd (some_is_none (lit_at loaded g.at) (map (λ x. lit_at loaded x.at) gates) same)
each_is ns loaded choice f has (g ∷ gates) (l ∷ lits) same =
    let parts = head_is (lit_at loaded g.at) (Some l) (map (λ x. lit_at loaded x.at) gates) (map Some lits) same in
    ap (λ b. b && each_true f lits) (has g.at l parts.0)
    ∙ ap (λ b. value choice ns g.at && b) (each_is ns loaded choice f has gates lits parts.1)

pub none_hold : (ns : List Node) (loaded : List (Option Lit)) (vars : ℕ) (clauses : List (List Lit)) (gates : List Gate) (lits : List Lit)
    → AreLoaded ns loaded vars clauses → AreLits loaded gates lits
    → ((f : ℕ → Bool) → satisfied f clauses lits ≡ false) → NoneHolds ns gates
none_hold ns loaded vars clauses gates lits are lits_are none choice =
    false_from_ne_true (all_hold (value choice ns) gates)
    (λ yes.
    let some = are.extension choice in
    let each : each_true some.0 lits ≡ true = each_is ns loaded choice some.0 some.2 gates lits lits_are.same ∙ yes in
    false≢true (sym (none some.0) ∙ and_from (all_true some.0 clauses) (each_true some.0 lits) some.1 each))

-- the choice that an assignment makes
chosen : List (Option Lit) → (ℕ → Bool) → ℕ → Bool
chosen loaded f k = loaded_value f loaded (2 + k)

pub some_hold : (ns : List Node) (loaded : List (Option Lit)) (vars : ℕ) (clauses : List (List Lit)) (gates : List Gate) (lits : List Lit) (f : ℕ → Bool)
    → AreLoaded ns loaded vars clauses → AreLits loaded gates lits → satisfied f clauses lits ≡ true → SomeHolds ns gates
unfolding chosen
some_hold ns loaded vars clauses gates lits f are lits_are holds =
    let parts = and_parts (all_true f clauses) (each_true f lits) holds in
    let has : HasValues ns loaded (chosen loaded f) f =
    are.values (chosen loaded f) f parts.0 (λ k l few at. ap (opt_true f) (sym at)) in
    (chosen loaded f, sym (each_is ns loaded (chosen loaded f) f has gates lits lits_are.same) ∙ parts.1)

lits_inside : (ns : List Node) (loaded : List (Option Lit)) (vars : ℕ) (clauses : List (List Lit)) → AreLoaded ns loaded vars clauses
    → (gates : List Gate) (lits : List Lit) → map (λ g. lit_at loaded g.at) gates ≡ map Some lits → LitsBelow vars lits
lits_inside ns loaded vars clauses are [] [] same = All-nil (λ l. l.var < vars)
lits_inside ns loaded vars clauses are [] (l ∷ lits) same = absurd (none_is_some (Some l) (map Some lits) same)
lits_inside ns loaded vars clauses are (g ∷ gates) [] same = All-nil (λ l. l.var < vars)
lits_inside ns loaded vars clauses are (g ∷ gates) (l ∷ lits) same =
    let parts = head_is (lit_at loaded g.at) (Some l) (map (λ x. lit_at loaded x.at) gates) (map Some lits) same in
    All-cons (λ q. q.var < vars) l lits (are.inside g.at l parts.0).1 (lits_inside ns loaded vars clauses are gates lits parts.1)

pub lits_below : (ns : List Node) (loaded : List (Option Lit)) (vars : ℕ) (clauses : List (List Lit)) (gates : List Gate) (lits : List Lit)
    → AreLoaded ns loaded vars clauses → AreLits loaded gates lits → LitsBelow vars lits
lits_below ns loaded vars clauses gates lits are lits_are = lits_inside ns loaded vars clauses are gates lits lits_are.same

-- literals stay while more is loaded
lits_stay : (old new : List (Option Lit)) → ((a : ℕ) (l : Lit) → lit_at old a ≡ Some l → lit_at new a ≡ Some l)
    → (gates : List Gate) (lits : List Lit) → map (λ g. lit_at old g.at) gates ≡ map Some lits → map (λ g. lit_at new g.at) gates ≡ map Some lits
lits_stay old new kept [] [] same = refl
lits_stay old new kept [] (l ∷ lits) same = absurd (none_is_some (Some l) (map Some lits) same)
lits_stay old new kept (g ∷ gates) [] same = absurd (some_is_none (lit_at old g.at) (map (λ x. lit_at old x.at) gates) same)
lits_stay old new kept (g ∷ gates) (l ∷ lits) same =
    let parts = head_is (lit_at old g.at) (Some l) (map (λ x. lit_at old x.at) gates) (map Some lits) same in
    ap (λ o. o ∷ map (λ x. lit_at new x.at) gates) (kept g.at l parts.0)
    ∙ ap (λ os. Some l ∷ os) (lits_stay old new kept gates lits parts.1)

pub lits_kept : (old new : List (Option Lit)) (gates : List Gate) (lits : List Lit)
    → ((a : ℕ) (l : Lit) → lit_at old a ≡ Some l → lit_at new a ≡ Some l) → AreLits old gates lits → AreLits new gates lits
lits_kept old new gates lits kept are = record { same = lits_stay old new kept gates lits are.same }

pub lits_none : (loaded : List (Option Lit)) (lits : List Lit) → lits ≡ [] → AreLits loaded [] lits
lits_none loaded lits is = record { same = ap (map Some) (sym is) }

pub lits_more : (old new : List (Option Lit)) (gates : List Gate) (lits more : List Lit) (i : ℕ) (d : Gate) (lit : Lit)
    → ((a : ℕ) (l : Lit) → lit_at old a ≡ Some l → lit_at new a ≡ Some l) → i < length gates
    → lit_at new (get_or gates i d).at ≡ Some lit → more ≡ lits ++ lit ∷ []
    → AreLits old (take i gates) lits → AreLits new (take (i + 1) gates) more
lits_more old new gates lits more i d lit kept inside at pushed are =
    let g : Gate = get_or gates i d in
    let h : Gate → Option Lit = λ x. lit_at new x.at in
    let front : map h (take i gates) ≡ map Some lits = lits_stay old new kept (take i gates) lits are.same in
    record {
      same =
          ap (map h) (take_more gates i d inside)
          ∙ map_push h (take i gates) g
          ∙ ap (λ os. os ++ h g ∷ []) front
          ∙ ap (λ o. map Some lits ++ o ∷ []) at
          ∙ sym (map_push Some lits lit)
          ∙ ap (map Some) (sym pushed);
    }

pub lits_all : (loaded : List (Option Lit)) (gates : List Gate) (lits : List Lit) (i : ℕ) → length gates ≤ i
    → AreLits loaded (take i gates) lits → AreLits loaded gates lits
lits_all loaded gates lits i over are = subst (λ gs. AreLits loaded gs lits) (take_all i gates over) are

pub loaded_kept : (ns : List Node) (loaded : List (Option Lit)) (vars more : ℕ) (clauses new : List (List Lit)) → more ≡ vars → new ≡ clauses
    → AreLoaded ns loaded vars clauses → AreLoaded ns loaded more new
loaded_kept ns loaded vars more clauses new same is are =
    subst (λ n. AreLoaded ns loaded n new) (sym same) (subst (AreLoaded ns loaded vars) (sym is) are)

pub start_loaded : (ns : List Node) (loaded : List (Option Lit)) (vars : ℕ) (clauses : List (List Lit))
    → ((ms : List Node) (n : ℕ) (cs : List (List Lit)) (f : ℕ → Bool) → all_true f cs ≡ true → AreLoaded ms [] n cs)
    → loaded ≡ [] → clauses ≡ [] → AreLoaded ns loaded vars clauses
start_loaded ns loaded vars clauses nothing is none =
    subst (λ ls. AreLoaded ns ls vars clauses) (sym is) (nothing ns vars clauses (λ x. false) (ap (all_true (λ x. false)) none))

pub gates_below : (n m : ℕ) (gates : List Gate) → m ≡ n → All (λ g. g.at < n) gates → All (λ g. g.at < m) gates
gates_below n m gates same below = subst (λ k. All (λ g. g.at < k) gates) (sym same) below

-- The literals that stand for inputs.

pub no_inputs : (loaded : List (Option Lit)) (never : Lit) (bits : List Lit) → bits ≡ [] → bits ≡ input_lits loaded never 0
no_inputs loaded never bits is = is

pub one_input_more : (loaded : List (Option Lit)) (never : Lit) (bits more : List Lit) (k : ℕ) (l : Lit) → more ≡ bits ++ l ∷ []
    → bits ≡ input_lits loaded never k → l ≡ input_lit loaded never k → more ≡ input_lits loaded never (k + 1)
one_input_more loaded never bits more k l pushed so_far here =
    pushed ∙ ap (λ ls. ls ++ l ∷ []) so_far ∙ ap (λ x. input_lits loaded never k ++ x ∷ []) here
    ∙ sym (map-range_with_len_more (input_lit loaded never) 0 k k (omega arith))

inputs_wide : (loaded : List (Option Lit)) (never : Lit) (n : ℕ) → length (input_lits loaded never n) ≡ n
inputs_wide loaded never n = length-map-range_with_len (input_lit loaded never) 0 n

lit_inside : (n : ℕ) (never : Lit) (o : Option Lit) → never.var < n → ((l : Lit) → o ≡ Some l → l.var < n) → (lit_or never o).var < n
lit_inside n never None low inside = low
lit_inside n never (Some l) low inside = inside l refl

inputs_inside : (ns : List Node) (loaded : List (Option Lit)) (vars : ℕ) (clauses : List (List Lit)) (never : Lit) → AreLoaded ns loaded vars clauses
    → lit_at loaded 0 ≡ Some never → (ks : List ℕ) → LitsBelow vars (map (input_lit loaded never) ks)
inputs_inside ns loaded vars clauses never are is_never [] = All-nil (λ l. l.var < vars)
inputs_inside ns loaded vars clauses never are is_never (k ∷ ks) =
    All-cons (λ q. q.var < vars) (input_lit loaded never k) (map (input_lit loaded never) ks)
    (lit_inside vars never (lit_at loaded (2 + k)) (are.inside 0 never is_never).1 (λ l at. (are.inside (2 + k) l at).1))
    (inputs_inside ns loaded vars clauses never are is_never ks)

pub inputs_below : (ns : List Node) (loaded : List (Option Lit)) (vars : ℕ) (clauses : List (List Lit)) (never : Lit) (n : ℕ) (bits : List Lit)
    → AreLoaded ns loaded vars clauses → lit_at loaded 0 ≡ Some never → bits ≡ input_lits loaded never n → LitsBelow vars bits
inputs_below ns loaded vars clauses never n bits are is_never is =
    subst (LitsBelow vars) (sym is) (inputs_inside ns loaded vars clauses never are is_never (range_with_len 0 n))

-- the constant false is a gate of every net
pub false_inside : (ns : List Node) → IsCircuit ns → 0 < length ns
false_inside ns circuit = slice_get_within ns 0 (Constant false) circuit.zero

-- an input gate has the bit of the choice
input_value : (ns : List Node) (choice : ℕ → Bool) (k : ℕ) → IsCircuit ns → Fits ns choice (value choice ns) → k < input_count ns
    → value choice ns (2 + k) ≡ choice k
input_value ns choice k circuit fits few = fits.table (2 + k) (Input k) (circuit.inputs k few)

-- the value that an assignment gives to the literal of an input
value_of_input : (loaded : List (Option Lit)) (never : Lit) (n k : ℕ) (f : ℕ → Bool) → k < n
    → get_or (values_of f (input_lits loaded never n)) k false ≡ lit_true f (input_lit loaded never k)
value_of_input loaded never n k f few =
    let d : Lit = record { var = 0; neg = false } in
    get_or-map (lit_true f) (input_lits loaded never n) k d false (omega (arith, few, inputs_wide loaded never n))
    ∙ ap (lit_true f) (get_or-map-range_with_len (input_lit loaded never) 0 n k k d few (omega arith))

-- where the literal of an input is true, the input is: one that is not loaded has a literal that never is
input_rises : (ns : List Node) (loaded : List (Option Lit)) (never : Lit) (choice f : ℕ → Bool) (k : ℕ) (o : Option Lit)
    → IsCircuit ns → Fits ns choice (value choice ns) → HasValues ns loaded choice f → lit_at loaded 0 ≡ Some never → k < input_count ns
    → lit_at loaded (2 + k) ≡ o → lit_true f (lit_or never o) ≡ true → choice k ≡ true
input_rises ns loaded never choice f k (Some l) circuit fits has is_never few at holds =
    sym (has (2 + k) l at ∙ input_value ns choice k circuit fits few) ∙ holds
input_rises ns loaded never choice f k None circuit fits has is_never few at holds =
    absurd (false≢true (sym (has 0 never is_never ∙ fits.table 0 (Constant false) circuit.zero) ∙ holds))

-- what comes before a list comes before one that is true wherever that is
before_through : (xs ys zs : List Bool) → length ys ≡ length zs → ((k : ℕ) → k < length ys → get_or ys k false ≡ true → get_or zs k false ≡ true)
    → is_before xs ys ≡ true → is_before xs zs ≡ true
before_through [] ys zs wide rises before = refl
before_through (x ∷ xs) [] zs wide rises before = absurd (false≢true before)
before_through (x ∷ xs) (y ∷ ys) [] wide rises before = absurd (omega (arith, wide))
before_through (x ∷ xs) (y ∷ ys) (z ∷ zs) wide rises before =
    step x y z (rises 0 (omega arith)) (before_through xs ys zs (omega (arith, wide)) (λ k low. rises (suc k) (omega (arith, low)))) before
  where
    step : (a b c : Bool) → (b ≡ true → c ≡ true) → (is_before xs ys ≡ true → is_before xs zs ≡ true)
        → is_before (a ∷ xs) (b ∷ ys) ≡ true → is_before (a ∷ xs) (c ∷ zs) ≡ true
    step false false false up on holds = on holds
    step false false true up on holds = refl
    step false true true up on holds = refl
    step false true false up on holds = absurd (false≢true (up refl))
    step true false c up on holds = absurd (false≢true holds)
    step true true true up on holds = on holds
    step true true false up on holds = absurd (false≢true (up refl))

bit_is : (w : List Bool) (k : ℕ) → bit_at w k ≡ get_or w k false
unfolding bit_at
bit_is w k = refl

pub first_found : (ns : List Node) (loaded : List (Option Lit)) (vars : ℕ) (clauses : List (List Lit)) (gates : List Gate) (goals : List Lit)
    (never : Lit) (n : ℕ) (w : List Bool)
    → IsCircuit ns → ((ms : List Node) (choice v : ℕ → Bool) → IsCircuit ms → Runs ms choice v → Fits ms choice v)
    → n ≡ input_count ns → AreLoaded ns loaded vars clauses → AreLits loaded gates goals → lit_at loaded 0 ≡ Some never
    → IsLeast clauses (input_lits loaded never n) goals w → IsFirst ns gates w
first_found ns loaded vars clauses gates goals never n w circuit fits_runs all are goals_are is_never least =
    let fits : (choice : ℕ → Bool) → Fits ns choice (value choice ns) =
    λ choice. fits_runs ns choice (value choice ns) circuit (record { same = λ a inside. refl }) in
    let bits : List Lit = input_lits loaded never n in
    let model = least.model in
    let f : ℕ → Bool = model.0 in
    let agrees : AgreesWith ns loaded (bit_at w) f =
    λ k l few at.
    ap (λ o. lit_true f (lit_or never o)) (sym at) ∙ sym (value_of_input loaded never n k f (subst (λ m. k < m) (sym all) few))
    ∙ ap (λ vs. get_or vs k false) model.2 ∙ sym (bit_is w k) in
    let has : HasValues ns loaded (bit_at w) f = are.values (bit_at w) f model.1.model agrees in
    record {
      size = ap length (sym model.2) ∙ length-map bits (lit_true f) ∙ inputs_wide loaded never n ∙ all;
      holds = sym (each_is ns loaded (bit_at w) f has gates goals goals_are.same) ∙ model.1.hit;
      first =
          λ choice yes.
          let some = are.extension choice in
          let hit : each_true some.0 goals ≡ true = each_is ns loaded choice some.0 some.2 gates goals goals_are.same ∙ yes in
          let values_wide : length (values_of some.0 bits) ≡ n = length-map bits (lit_true some.0) ∙ inputs_wide loaded never n in
          let choice_wide : length (bits_of n choice) ≡ n = length-map-range_with_len choice 0 n in
          ap (λ m. is_before w (bits_of m choice)) (sym all)
          ∙ before_through w (values_of some.0 bits) (bits_of n choice) (values_wide ∙ sym choice_wide)
          (λ k low holds.
          let few : k < n = omega (arith, low, values_wide) in
          get_or-map-range_with_len choice 0 n k k false few (omega arith)
          ∙ input_rises ns loaded never choice some.0 k (lit_at loaded (2 + k)) circuit (fits choice) some.2 is_never
          (subst (λ m. k < m) all few) refl (sym (value_of_input loaded never n k some.0 few) ∙ holds))
          (least.least some.0 (record { model = some.1; hit = hit }));
    }

pub first_none : (ns : List Node) (loaded : List (Option Lit)) (vars : ℕ) (clauses : List (List Lit)) (gates : List Gate) (goals : List Lit)
    → AreLoaded ns loaded vars clauses → AreLits loaded gates goals → HasNone clauses goals → NoneHolds ns gates
first_none ns loaded vars clauses gates goals are goals_are none choice =
    false_from_ne_true (all_hold (value choice ns) gates)
    (λ yes.
    let some = are.extension choice in
    let hit : each_true some.0 goals ≡ true = each_is ns loaded choice some.0 some.2 gates goals goals_are.same ∙ yes in
    absurd (none some.0 (record { model = some.1; hit = hit })))

pub first_answer : (ns : List Node) (loaded : List (Option Lit)) (vars : ℕ) (clauses : List (List Lit)) (gates : List Gate) (goals bits : List Lit)
    (never : Lit) (n : ℕ) (found : Option (Vec Bool Global))
    → IsCircuit ns → ((ms : List Node) (choice v : ℕ → Bool) → IsCircuit ms → Runs ms choice v → Fits ms choice v)
    → n ≡ input_count ns → AreLoaded ns loaded vars clauses → AreLits loaded gates goals → lit_at loaded 0 ≡ Some never → bits ≡ input_lits loaded never n
    → MatchOption found (HasNone clauses goals) (λ w. IsLeast clauses bits goals w.items)
    → MatchOption found (NoneHolds ns gates) (λ w. IsFirst ns gates w.items)
first_answer ns loaded vars clauses gates goals bits never n (Some w) circuit fits_runs all are goals_are is_never is least =
    first_found ns loaded vars clauses gates goals never n w.items circuit fits_runs all are goals_are is_never
    (subst (λ ls. IsLeast clauses ls goals w.items) is least)
first_answer ns loaded vars clauses gates goals bits never n None circuit fits_runs all are goals_are is_never is none =
    first_none ns loaded vars clauses gates goals are goals_are none

-- gates that hold in one of the lanes
lane_holds : (ns : List Node) (inputs words : List ℕ) (k : ℕ) → AreLanes ns inputs words → k < 64
    → (gates : List Gate) → All (λ g. g.at < length words) gates
    → list_all (λ g. bit (get_or words g.at 0) k) gates ≡ all_hold (value (lane inputs k) ns) gates
lane_holds ns inputs words k lanes few [] below = refl
lane_holds ns inputs words k lanes few (g ∷ gates) below =
    ap (λ b. b && list_all (λ x. bit (get_or words x.at 0) k) gates)
    (lanes.same k g.at few (All-head (λ x. x.at < length words) g gates below))
    ∙ ap (λ b. value (lane inputs k) ns g.at && b)
    (lane_holds ns inputs words k lanes few gates (All-tail (λ x. x.at < length words) g gates below))

pub some_in_lane : (ns : List Node) (inputs words : List ℕ) (gates : List Gate) → AreLanes ns inputs words
    → All (λ g. g.at < length words) gates
    → (k : ℕ) × (k < 64) × (list_all (λ g. bit (get_or words g.at 0) k) gates ≡ true) → SomeHolds ns gates
some_in_lane ns inputs words gates lanes below seen =
    (lane inputs seen.0, sym (lane_holds ns inputs words seen.0 lanes seen.1 gates below) ∙ seen.2)

-- the constant false never holds
each_at : (p : Gate → Bool) (gates : List Gate) (i : ℕ) (d : Gate) → i < length gates → list_all p gates ≡ true → p (get_or gates i d) ≡ true
each_at p [] i d inside all = absurd (omega (arith, inside))
each_at p (g ∷ gates) zero d inside all = (and_parts (p g) (list_all p gates) all).0
each_at p (g ∷ gates) (suc i) d inside all = each_at p gates i d (omega (arith, inside)) (and_parts (p g) (list_all p gates) all).1

pub never_hold : (ns : List Node) (gates : List Gate) (i : ℕ) (d : Gate) → IsCircuit ns
    → ((ms : List Node) (choice v : ℕ → Bool) → IsCircuit ms → Runs ms choice v → Fits ms choice v)
    → i < length gates → slice_get ns (get_or gates i d).at ≡ Some (Constant false) → NoneHolds ns gates
never_hold ns gates i d circuit fits_runs inside is choice =
    let fits : Fits ns choice (value choice ns) = fits_runs ns choice (value choice ns) circuit (record { same = λ a within. refl }) in
    false_from_ne_true (all_hold (value choice ns) gates)
    (λ yes.
    false≢true
    (sym (fits.table (get_or gates i d).at (Constant false) is)
    ∙ each_at (λ g. value choice ns g.at) gates i d inside yes))

pub lanes_none : (ns : List Node) (inputs words : List ℕ) → words ≡ [] → AreLanes ns inputs words
lanes_none ns inputs words is =
    subst (AreLanes ns inputs) (sym is) (record { within = omega arith; same = λ k g few inside. absurd (omega (arith, inside)) })
