-- The cells of an object, one location after another.
use Rattle.std.proofs.Common.{◌≡◌, ℕ, zero, suc, ◌+◌, ◌-◌, ◌<◌, ◌≤◌, nat_eq, Bool, true, false, ◌||◌, List, [], ◌∷◌}
use Rattle.std.proofs.Common.{length, map, refl, sym, ap, ◌∙◌, arith, ◌++◌, append_assoc, add-one, drop}
use Rattle.std.proofs.lemmas.List.{map-append, append-nil}
use Rattle.std.specs.Prelude.{Some, None, Result, Err, slice_get}
use Rattle.run_world.specs.declared.value.Value.{Value}
use Rattle.run_world.specs.Seen.{cell}
use Rattle.std.specs.Prelude.{Ok, if◌then◌else◌}
use Rattle.std.specs.List.{range_with_len}
use Rattle.sc_world.specs.Layout.{Layout, location}
use Rattle.sc_world.specs.World.{World, Ended, goes_on, load, store}
use Rattle.sc_world.specs.Eval.{is_within, up_from, cells_among, cells_of, load_all}
use Rattle.run_store.specs.Concrete.{Cell, Nothing, nth_cell}
use Rattle.run_values.specs.Objects.{is_cell_of, cells_from}
use Rattle.sc_world.specs.Exec.{clear}
use Rattle.sc_world.specs.World.{Env, kind_of_type}
use Rattle.run_store.specs.Concrete.{blank}
use Rattle.run_inits.specs.declared.stores.Store.{Store}
use Rattle.run_inits.specs.Stores.{Due, due_of, paired}

-- a step up to the whole, and the last one
pub within_step : (steps at k : ℕ) (p : Layout) → 0 < steps
    → is_within steps p at k ≡ (nat_eq at k || up_from (is_within (steps - 1) p at) (location p k).origin)
within_step zero at k p h = absurd (omega arith)
within_step (suc n) at k p h =
    let e : suc n - 1 ≡ n = omega arith in
    ap (λ m. nat_eq at k || up_from (is_within m p at) (location p k).origin) (sym e)

pub within_last : (steps at k : ℕ) (p : Layout) → steps ≡ 0 → is_within steps p at k ≡ nat_eq at k
within_last zero at k p h = refl
within_last (suc n) at k p h = absurd (omega (arith, h))

pub ruleset within_steps = (within_step, within_last)

-- all cells are those from the first location on
pub cells_all : (p : Layout) (at : ℕ) → cells_of p at ≡ cells_from p at 0
unfolding cells_from
cells_all p at = let e : length p.locations - 0 ≡ length p.locations = omega arith in
    ap (λ n. cells_among p at (range_with_len 0 n)) (sym e)

-- the location k comes next where it is a cell of the object
next_if : (p : Layout) (at k n : ℕ) (b : Bool) → is_cell_of p at k ≡ b
    → cells_among p at (range_with_len k (suc n))
    ≡ (if b then k ∷ cells_among p at (range_with_len (k + 1) n) else cells_among p at (range_with_len (k + 1) n))
unfolding is_cell_of
next_if p at k n b e =
    ap (λ x. if x then k ∷ cells_among p at (range_with_len (k + 1) n) else cells_among p at
    (range_with_len (k + 1) n)) e

pub cells_in : (p : Layout) (at k : ℕ) → k < length p.locations → is_cell_of p at k ≡ true
    → cells_from p at k ≡ k ∷ cells_from p at (k + 1)
unfolding cells_from
cells_in p at k low e =
    let n : length p.locations - k ≡ suc (length p.locations - (k + 1)) = omega arith in
    ap (λ m. cells_among p at (range_with_len k m)) n ∙ next_if p at k (length p.locations - (k + 1)) true e

pub cells_out : (p : Layout) (at k : ℕ) → k < length p.locations → is_cell_of p at k ≡ false
    → cells_from p at k ≡ cells_from p at (k + 1)
unfolding cells_from
cells_out p at k low e =
    let n : length p.locations - k ≡ suc (length p.locations - (k + 1)) = omega arith in
    ap (λ m. cells_among p at (range_with_len k m)) n ∙ next_if p at k (length p.locations - (k + 1)) false e

pub cells_end : (p : Layout) (at k : ℕ) → length p.locations ≤ k → cells_from p at k ≡ []
unfolding cells_from
cells_end p at k past = let n : length p.locations - k ≡ zero = omega arith in
    ap (λ m. cells_among p at (range_with_len k m)) n

-- what is read changes nothing
pub load_is : (ks : List ℕ) (w : World) → load_all ks w ≡ (Ok (map (nth_cell w.places) ks), w)
load_is [] w = refl
load_is (k ∷ ks) w = rw (load_is ks w) refl

-- the cell that a step gives
abbrev cell_of : Result Cell Ended × World → Cell
cell_of (Ok c, w) = c
cell_of (Err e, w) = Nothing

-- a cell that is read stands behind those that were read before; another location is passed over
pub loaded_in : (p : Layout) (at k : ℕ) (w : World) (old new : List Value) (v : Value) → k < length p.locations
    → is_cell_of p at k ≡ true
    → load k w ≡ (Ok (cell v), w) → new ≡ old ++ v ∷ []
    → map cell new ++ map (nth_cell w.places) (cells_from p at (k + 1)) ≡ map cell old
    ++ map (nth_cell w.places) (cells_from p at k)
loaded_in p at k w old new v low e read kept =
    let is : nth_cell w.places k ≡ cell v = ap cell_of read in
    let rest = map (nth_cell w.places) (cells_from p at (k + 1)) in
    ap (λ vs. map cell vs ++ rest) kept
    ∙ (ap (λ vs. vs ++ rest) (map-append cell old (v ∷ []))
    ∙ (append_assoc (map cell old) (cell v ∷ []) rest
    ∙ (ap (λ c. map cell old ++ c ∷ rest) (sym is)
    ∙ ap (λ ks. map cell old ++ map (nth_cell w.places) ks) (sym (cells_in p at k low e)))))

pub loaded_out : (p : Layout) (at k : ℕ) (w : World) (vs : List Cell) → k < length p.locations → is_cell_of p at k
    ≡ false
    → vs ++ map (nth_cell w.places) (cells_from p at (k + 1)) ≡ vs ++ map (nth_cell w.places) (cells_from p at k)
loaded_out p at k w vs low e = ap (λ ks. vs ++ map (nth_cell w.places) ks) (sym (cells_out p at k low e))

-- behind the last location all cells are read
pub loaded_all : (p : Layout) (at k : ℕ) (w : World) (vs : List Cell) → length p.locations ≤ k
    → vs ++ map (nth_cell w.places) (cells_from p at k) ≡ map (nth_cell w.places) (cells_from p at 0)
    → load_all (cells_of p at) w ≡ (Ok vs, w)
loaded_all p at k w vs past h =
    let none : vs ++ map (nth_cell w.places) (cells_from p at k) ≡ vs =
    ap (λ ks. vs ++ map (nth_cell w.places) ks) (cells_end p at k past) ∙ append-nil vs in
    load_is (cells_of p at) w
    ∙ ap (λ cs. (Ok cs, w)) (ap (map (nth_cell w.places)) (cells_all p at) ∙ (sym h ∙ none))

-- the next cell is set to 0 or null; another location is passed over
pub cleared_in : (env : Env) (at k : ℕ) (c : Cell) (w after : World) → k < length env.layout.locations
    → is_cell_of env.layout at k ≡ true
    → c ≡ blank (kind_of_type env.source (location env.layout k).type) → store k c w ≡ (Ok tt, after)
    → clear env (cells_from env.layout at (k + 1)) after ≡ clear env (cells_from env.layout at k) w
cleared_in env at k c w after low e is h =
    sym (ap (λ ks. clear env ks w) (cells_in env.layout at k low e)
    ∙ (ap (λ v. goes_on (store k v w) (λ _. clear env (cells_from env.layout at (k + 1)))) (sym is)
    ∙ ap (λ r. goes_on r (λ _. clear env (cells_from env.layout at (k + 1)))) h))

pub cleared_out : (env : Env) (at k : ℕ) (w : World) → k < length env.layout.locations → is_cell_of env.layout at k
    ≡ false
    → clear env (cells_from env.layout at (k + 1)) w ≡ clear env (cells_from env.layout at k) w
cleared_out env at k w low e = ap (λ ks. clear env ks w) (sym (cells_out env.layout at k low e))

-- behind the last location all cells are cleared
pub cleared_all : (env : Env) (at k : ℕ) (w start : World) → length env.layout.locations ≤ k
    → clear env (cells_from env.layout at k) w ≡ clear env (cells_from env.layout at 0) start
    → clear env (cells_of env.layout at) start ≡ (Ok tt, w)
cleared_all env at k w start past h =
    ap (λ ks. clear env ks start) (cells_all env.layout at)
    ∙ (sym h ∙ ap (λ ks. clear env ks w) (cells_end env.layout at k past))

-- without values no cell is paired
pair_none : (ks : List ℕ) → paired ks [] ≡ []
pair_none [] = refl
pair_none (k ∷ ks) = refl

past_end : (values : List Value) (next : ℕ) → None ≡ slice_get values next → drop next values ≡ []
past_end [] zero h = refl
past_end [] (suc n) h = refl
past_end (v ∷ vs) zero h = absurd (cc)
past_end (v ∷ vs) (suc n) h = past_end vs n h

pub paired_past : (p : Layout) (at k : ℕ) (values : List Value) (next : ℕ) (front : List Due) → None
    ≡ slice_get values next
    → front ++ paired (cells_from p at (k + 1)) (map cell (drop next values)) ≡ front
    ++ paired (cells_from p at k) (map cell (drop next values))
paired_past p at k values next front past =
    let e : drop next values ≡ [] = past_end values next past in
    let one : (ks : List ℕ) → paired ks (map cell (drop next values)) ≡ [] =
    λ ks. ap (λ vs. paired ks (map cell vs)) e ∙ pair_none ks in
    ap (λ ds. front ++ ds) (one (cells_from p at (k + 1)) ∙ sym (one (cells_from p at k)))

-- the next value
value_here : (values : List Value) (next : ℕ) (v : Value) → Some v ≡ slice_get values next → drop next values
    ≡ v ∷ drop (suc next) values
value_here [] zero v h = absurd (cc)
value_here [] (suc n) v h = absurd (cc)
value_here (x ∷ vs) zero v h = let e : x ≡ v = (cc) in ap (λ y. y ∷ vs) e
value_here (x ∷ vs) (suc n) v h = value_here vs n v h

-- the next cell is to have it; another location is passed over
pub paired_in : (p : Layout) (at k : ℕ) (values : List Value) (next : ℕ) (v : Value) (old new : List Store)
    → k < length p.locations
    → is_cell_of p at k ≡ true → Some v ≡ slice_get values next → new ≡ old ++ record { at = k; value = v } ∷ []
    → map due_of new ++ paired (cells_from p at (k + 1)) (map cell (drop (next + 1) values))
    ≡ map due_of old ++ paired (cells_from p at k) (map cell (drop next values))
paired_in p at k values next v old new low e is kept =
    let rest = paired (cells_from p at (k + 1)) (map cell (drop (suc next) values)) in
    let due : Due = record { at = k; value = cell v } in
    ap (λ n. map due_of new ++ paired (cells_from p at (k + 1)) (map cell (drop n values))) (add-one next)
    ∙ (ap (λ ds. map due_of ds ++ rest) kept
    ∙ (ap (λ ds. ds ++ rest) (map-append due_of old (record { at = k; value = v } ∷ []))
    ∙ (append_assoc (map due_of old) (due ∷ []) rest
    ∙ sym (ap (λ ks. map due_of old ++ paired ks (map cell (drop next values))) (cells_in p at k low e)
    ∙ ap (λ vs. map due_of old ++ paired (k ∷ cells_from p at (k + 1)) (map cell vs)) (value_here values next v is)))))

pub paired_out : (p : Layout) (at k : ℕ) (front : List Due) (cs : List Cell) → k < length p.locations
    → is_cell_of p at k ≡ false
    → front ++ paired (cells_from p at (k + 1)) cs ≡ front ++ paired (cells_from p at k) cs
paired_out p at k front cs low e = ap (λ ks. front ++ paired ks cs) (sym (cells_out p at k low e))

-- behind the last location all cells are paired
pub paired_all : (p : Layout) (at k : ℕ) (now start : List Due) (rest cs : List Cell) → length p.locations ≤ k
    → now ++ paired (cells_from p at k) rest ≡ start ++ paired (cells_from p at 0) cs
    → now ≡ start ++ paired (cells_of p at) cs
paired_all p at k now start rest cs past h =
    sym (append-nil now)
    ∙ (ap (λ ks. now ++ paired ks rest) (sym (cells_end p at k past))
    ∙ (h ∙ ap (λ ks. start ++ paired ks cs) (sym (cells_all p at))))

pub ruleset append_steps = (append-nil)

pub ruleset walk_steps = (cells_all, cells_end, loaded_all, cleared_all)

pub ruleset load_steps = (loaded_in, loaded_out)

pub ruleset pair_steps = (paired_in, paired_out, paired_past)

pub ruleset pairs_steps = (paired_all, cells_all, cells_end)
