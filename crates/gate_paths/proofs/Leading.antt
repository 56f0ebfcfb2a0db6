-- Where a path leads in a run, and that the gates do what the run does.
use Rattle.std.proofs.Common.{◌≡◌, ℕ, zero, suc, ◌<◌, ◌≤◌, Bool, true, false, List, [], ◌∷◌, length, Ok, if◌then◌else◌, refl, sym, ◌∙◌, ap, subst, arith}
use Rattle.std.specs.Prelude.{Option, Some, None, slice_index_or}
use Rattle.bit_net.specs.declared.nodes.Node.{Node}
use Rattle.bit_net.specs.Runs.{Grown, Always}
use Rattle.gl_sets.specs.declared.pairs.Pair.{Pair}
use Rattle.gl_sets.specs.Guards.{Points, guards_top}
use Rattle.gl_store.specs.declared.values.Val.{Val}
use Rattle.gl_store.specs.declared.stores.Location.{Location}
use Rattle.gl_store.specs.Meets.{Meets, MeetsAll}
use Rattle.run_store.specs.declared.Flag.TheVariants as flag
use Rattle.run_store.specs.Concrete.{Cell, Number, Pointer, Nothing, Place, flag_at, nth_cell, put}
use Rattle.sum_rows.specs.declared.path.Path.{Path}
use Rattle.sum_rows.specs.declared.path.Root.TheVariants as root
use Rattle.sum_rows.specs.declared.path.Step.{Step}
use Rattle.sum_rows.specs.declared.path.Step.TheVariants as step
use Rattle.sum_rows.specs.declared.row.Item.TheVariants as item
use Rattle.sc_world.specs.declared.run.Origin.TheVariants as origin
use Rattle.sc_world.specs.Layout.{Layout, location, location_of, part, is_stub, is_pointer_cell}
use Rattle.sc_world.specs.World.{World, Run, Env, goes_on, done, null, target_of}
use Rattle.sc_world.specs.Known.{At, Holds, begin, follow, follow_path, onwards, out_item, pointed, pointer_cell_if, stepped, usable}
use Rattle.gate_runs.specs.declared.ends.Ends.{Ends}
use Rattle.gate_runs.specs.Standing.{Standing, On, Over, stand, after}
use Rattle.gate_runs.specs.Stands.{Stands, Does, Any}
use Rattle.gate_places.specs.Places.{env_of}
use Rattle.gate_objects.specs.Escapes.{IsPointerOf}
use Rattle.gate_objects.specs.Escapes.{MeetsEach}
use Rattle.gate_paths.specs.declared.moves.Move.TheVariants as move
use Rattle.gate_paths.specs.Targets.{Goes, IsUsable, Steps, argument_target, found_target, global_target, gone, read_target, step_target, steps_target, usable_target}
use Rattle.gate_paths.specs.Paths.{FollowsOut, FollowsPath, FromArgument, FromGlobal, IsArgument, IsFound}

-- What is found at a target.

abbrev found_at : ℕ → Option ℕ
found_at zero = None
found_at (suc at) = Some at

found_again : (o : Option ℕ) → found_at (found_target o) ≡ o
found_again None = refl
found_again (Some at) = refl

target_again : (t : ℕ) → found_target (found_at t) ≡ t
target_again zero = refl
target_again (suc at) = refl

-- Pointers in a run.

usable_at : (env : Env) (at : ℕ) (w : World) (stub freed : Bool) → is_stub (location env.layout at) ≡ stub
    → flag_at w.places (location env.layout at).root flag.Freed ≡ freed
    → usable env (suc at) w ≡ (Ok (found_at (usable_target env.layout w.places (suc at))), w)
usable_at env at w true freed s f = rw s refl
usable_at env at w false true s f = rw (s, f) refl
usable_at env at w false false s f = rw (s, f) refl

usable_is : (env : Env) (t : ℕ) (w : World) → usable env t w ≡ (Ok (found_at (usable_target env.layout w.places t)), w)
usable_is env zero w = refl
usable_is env (suc at) w =
    usable_at env at w (is_stub (location env.layout at)) (flag_at w.places (location env.layout at).root flag.Freed) refl refl

pointer_read : (c : Cell) → target_of (put (Pointer 0) c) ≡ target_of c
pointer_read (Number width n) = refl
pointer_read (Pointer t) = refl
pointer_read Nothing = refl

pointed_at : (env : Env) (at : ℕ) (w : World) (cell : Bool) → is_pointer_cell (location env.layout at) ≡ cell
    → pointed env (At at) w ≡ (Ok (found_at (usable_target env.layout w.places (read_target env.layout w.places (suc at)))), w)
pointed_at env at w true is =
    rw is
    (usable_is env (target_of (nth_cell w.places at)) w
    ∙ ap (λ t. (Ok (found_at (usable_target env.layout w.places t)), w)) (sym (pointer_read (nth_cell w.places at))))
pointed_at env at w false is = rw is refl

stepped_is : (env : Env) (s : Step) (at : ℕ) (w : World) → stepped env s (At at) w ≡ (Ok (found_at (step_target env.layout w.places s (suc at))), w)
stepped_is env step.Deref at w = pointed_at env at w (is_pointer_cell (location env.layout at)) refl
stepped_is env (step.Field n) at w = ap (λ o. (Ok o, w)) (sym (found_again (part env.layout at (step.Field n))))
stepped_is env (step.Elem k) at w = ap (λ o. (Ok o, w)) (sym (found_again (part env.layout at (step.Elem k))))

-- Steps in a run.

step_missing : (p : Layout) (ps : List Place) (s : Step) → step_target p ps s 0 ≡ 0
step_missing p ps step.Deref = refl
step_missing p ps (step.Field n) = refl
step_missing p ps (step.Elem k) = refl

steps_missing : (p : Layout) (ps : List Place) (ss : List Step) → steps_target p ps ss 0 ≡ 0
steps_missing p ps [] = refl
steps_missing p ps (s ∷ ss) = ap (steps_target p ps ss) (step_missing p ps s) ∙ steps_missing p ps ss

follow_is : (env : Env) (ss : List Step) (t : ℕ) (w : World) → onwards (found_at t) (follow env ss) w ≡
    (Ok (found_at (steps_target env.layout w.places ss t)), w)
follow_is env ss zero w = ap (λ k. (Ok (found_at k), w)) (sym (steps_missing env.layout w.places ss))
follow_is env [] (suc at) w = refl
follow_is env (s ∷ ss) (suc at) w =
    ap (λ r. goes_on r (λ to. onwards to (follow env ss))) (stepped_is env s at w)
    ∙ follow_is env ss (step_target env.layout w.places s (suc at)) w

global_is : (env : Env) (cs : List Cell) (n : ℕ) (ss : List Step) (w : World)
    → follow env ss (begin env cs (root.Global n)) w ≡ (Ok (found_at (global_target env.layout w.places n ss)), w)
global_is env cs n ss w = follow_is env ss (suc (location_of env.layout (origin.Global n))) w

holds_is : (env : Env) (c : Cell) (ss : List Step) (w : World) → follow env ss (Holds c) w ≡ (Ok (found_at (argument_target env.layout w.places c ss)), w)
holds_is env c [] w = refl
holds_is env c (step.Deref ∷ ss) w =
    ap (λ r. goes_on r (λ to. onwards to (follow env ss))) (usable_is env (target_of c) w)
    ∙ follow_is env ss (usable_target env.layout w.places (target_of c)) w
holds_is env c (step.Field n ∷ ss) w = refl
holds_is env c (step.Elem k ∷ ss) w = refl

pointer_cell : (env : Env) (t : ℕ) → pointer_cell_if env (found_at t) ≡ found_at (gone env.layout move.Cell t)
pointer_cell env zero = refl
pointer_cell env (suc at) = sym (found_again (if is_pointer_cell (location env.layout at) then Some at else None))

out_is : (env : Env) (cs : List Cell) (n : ℕ) (w : World)
    → out_item env cs (item.Out n) w ≡ (Ok (found_at (gone env.layout move.Cell (usable_target env.layout w.places (target_of (slice_index_or cs n null))))), w)
out_is env cs n w =
    let t : ℕ = target_of (slice_index_or cs n null) in
    ap (λ r. goes_on r (λ at. done (pointer_cell_if env at))) (usable_is env t w)
    ∙ ap (λ o. (Ok o, w)) (pointer_cell env (usable_target env.layout w.places t))

-- A step that only reads.

reads_from : {A : Type 0} (v : ℕ → Bool) (l : List Location) (g : Ends) (m : Run A) (give : World → A) (Good : A → Type 0)
    → ((w : World) → m w ≡ (Ok (give w), w)) → ((w : World) → MeetsAll v l w.places → Good (give w))
    → (s : Standing (Unit {0})) → Stands v l g (Any {A = Unit {0}}) s → Stands v l g Good (after s (λ u. m))
reads_from v l g m give Good is good (On u w) h =
    subst (λ r. Stands v l g Good (stand r)) (sym (is w))
    (record {
      store = h.store;
      tells = record { live = h.tells.live; asides = h.tells.asides; bads = h.tells.bads };
      given = give w;
      good = good w h.store;
      is = refl;
    })
reads_from v l g m give Good is good (Over e w) h =
    record {
      store = h.store;
      tells = record { live = h.tells.live; asides = h.tells.asides; bads = h.tells.bads };
      given = give w;
      good = good w h.store;
      is = tt;
    }

pub does_read : {A : Type 0} (v : ℕ → Bool) (l : List Location) (g : Ends) (m : Run A) (give : World → A) (Good : A → Type 0)
    → ((w : World) → m w ≡ (Ok (give w), w)) → ((w : World) → MeetsAll v l w.places → Good (give w)) → Does v l g m l g Good
does_read v l g m give Good is good = record { does = λ s h. reads_from v l g m give Good is good s h }

found_good : (v : ℕ → Bool) (pairs : List Pair) (t : ℕ) → Points v pairs t → IsFound v pairs (found_at t)
found_good v pairs t points = subst (Points v pairs) (sym (target_again t)) points

-- Arguments.

args_at : (v : ℕ → Bool) (xs : List Val) (cs : List Cell) (n : ℕ) (d : Val) → n < length xs → MeetsEach v xs cs
    → Meets v (slice_index_or xs n d) (slice_index_or cs n null)
args_at v (x ∷ xs) (c ∷ cs) zero d low met = met.0
args_at v (x ∷ xs) (c ∷ cs) (suc n) d low met = args_at v xs cs n d (omega (arith, low)) met.1
args_at v [] cs n d low met = absurd (omega (arith, low))
args_at v (x ∷ xs) [] n d low met = absurd met

args_past : (v : ℕ → Bool) (xs : List Val) (cs : List Cell) (n : ℕ) → length xs ≤ n → MeetsEach v xs cs → slice_index_or cs n null ≡ null
args_past v [] [] n past met = refl
args_past v [] (c ∷ cs) n past met = absurd met
args_past v (x ∷ xs) (c ∷ cs) zero past met = absurd (omega (arith, past))
args_past v (x ∷ xs) (c ∷ cs) (suc n) past met = args_past v xs cs n (omega (arith, past)) met.1
args_past v (x ∷ xs) [] n past met = absurd met

pub argument_some : (ns : List Node) (xs : List Val) (n : ℕ) (x : Val) (pairs : List Pair) → n < length xs → x ≡ slice_index_or xs n x → IsPointerOf ns x pairs
    → IsArgument ns xs n pairs
argument_some ns xs n x pairs low here is =
    record {
      below = is.below;
      points = λ choice v runs cs met.
          is.points choice v runs (slice_index_or cs n null) (subst (λ y. Meets v y (slice_index_or cs n null)) (sym here) (args_at v xs cs n x low met));
    }

pub argument_none : (ns : List Node) (xs : List Val) (n : ℕ) (pairs : List Pair) → length xs ≤ n → guards_top pairs ≤ length ns
    → Always ns (λ choice v. Points v pairs 0) → IsArgument ns xs n pairs
argument_none ns xs n pairs past below null' =
    record {
      below = below;
      points = λ choice v runs cs met. subst (λ c. Points v pairs (target_of c)) (sym (args_past v xs cs n past met)) (null'.holds choice v runs);
    }

-- Roots.

pub from_global : (n1 n2 : List Node) (p : Layout) (l : List Location) (n k t : ℕ) (ss : List Step) (begin' made : List Pair) → Grown n1 n2
    → k ≡ location_of p (origin.Global n) → t ≡ suc k → Always n1 (λ choice v. Points v begin' t) → Steps n2 p l ss begin' made → FromGlobal n2 p l n ss made
from_global n1 n2 p l n k t ss begin' made grown here is first steps =
    record {
      below = steps.below;
      points = λ choice v runs ps met.
          subst (λ j. Points v made (steps_target p ps ss j)) (is ∙ ap (λ j. suc j) here)
          (steps.points choice v runs ps met t (first.holds choice v (grown.runs choice v runs)));
    }

pub from_pointer : (n1 n2 n3 : List Node) (p : Layout) (l : List Location) (args : List Val) (n : ℕ) (ss : List Step) (pointer begin' made : List Pair)
    → Grown n1 n2 → Grown n2 n3 → IsArgument n1 args n pointer → IsUsable n2 p l pointer begin' → Steps n3 p l ss begin' made
    → FromArgument n3 p l args n (step.Deref ∷ ss) made
from_pointer n1 n2 n3 p l args n ss pointer begin' made grown12 grown23 is usable steps =
    record {
      below = steps.below;
      points = λ choice v runs ps met cs each.
          let r2 = grown23.runs choice v runs in
          let r1 = grown12.runs choice v r2 in
          let t : ℕ = target_of (slice_index_or cs n null) in
          steps.points choice v runs ps met (usable_target p ps t) (usable.points choice v r2 ps met t (is.points choice v r1 cs each));
    }

missing_step : (p : Layout) (ps : List Place) (c : Cell) (s : Step) (ss : List Step) → (s ≡ step.Deref → ⊥) → argument_target p ps c (s ∷ ss) ≡ 0
missing_step p ps c step.Deref ss other = absurd (other refl)
missing_step p ps c (step.Field n) ss other = refl
missing_step p ps c (step.Elem k) ss other = refl

pub from_nothing : (ns : List Node) (p : Layout) (l : List Location) (args : List Val) (n : ℕ) (made : List Pair) → guards_top made ≤ length ns
    → Always ns (λ choice v. Points v made 0) → FromArgument ns p l args n [] made
from_nothing ns p l args n made below missing = record { below = below; points = λ choice v runs ps met cs each. missing.holds choice v runs }

pub from_part : (ns : List Node) (p : Layout) (l : List Location) (args : List Val) (n : ℕ) (s : Step) (ss : List Step) (made : List Pair)
    → (s ≡ step.Deref → ⊥)
    → guards_top made ≤ length ns → Always ns (λ choice v. Points v made 0) → FromArgument ns p l args n (s ∷ ss) made
from_part ns p l args n s ss made other below missing =
    record {
      below = below;
      points = λ choice v runs ps met cs each.
          subst (Points v made) (sym (missing_step p ps (slice_index_or cs n null) s ss other)) (missing.holds choice v runs);
    }

-- Whole paths.

pub follows_global : (ns : List Node) (p : Layout) (l : List Location) (args : List Val) (n : ℕ) (path : Path) (pairs : List Pair) → path.root ≡ root.Global n
    → FromGlobal ns p l n path.steps pairs → FollowsPath ns p l args path pairs
follows_global ns p l args n path pairs is from =
    record {
      below = from.below;
      does = λ choice v runs gates s bits temps turn cs met.
          let env = env_of s p bits temps turn in
          does_read v l gates (follow_path env cs path) (λ w. found_at (global_target p w.places n path.steps)) (IsFound v pairs)
          (λ w. ap (λ r. follow env path.steps (begin env cs r) w) is ∙ global_is env cs n path.steps w)
          (λ w all. found_good v pairs (global_target p w.places n path.steps) (from.points choice v runs w.places all));
    }

pub follows_argument : (ns : List Node) (p : Layout) (l : List Location) (args : List Val) (n : ℕ) (path : Path) (pairs : List Pair) → path.root ≡ root.Param n
    → FromArgument ns p l args n path.steps pairs → FollowsPath ns p l args path pairs
follows_argument ns p l args n path pairs is from =
    record {
      below = from.below;
      does = λ choice v runs gates s bits temps turn cs met.
          let env = env_of s p bits temps turn in
          let c : Cell = slice_index_or cs n null in
          does_read v l gates (follow_path env cs path) (λ w. found_at (argument_target p w.places c path.steps)) (IsFound v pairs)
          (λ w. ap (λ r. follow env path.steps (begin env cs r) w) is ∙ holds_is env c path.steps w)
          (λ w all. found_good v pairs (argument_target p w.places c path.steps) (from.points choice v runs w.places all cs met));
    }

pub follows_out : (n1 n2 n3 : List Node) (p : Layout) (l : List Location) (args : List Val) (n : ℕ) (pointer there pairs : List Pair) → Grown n1 n2
    → Grown n2 n3
    → IsArgument n1 args n pointer → IsUsable n2 p l pointer there → Goes n3 p move.Cell there pairs → FollowsOut n3 p l args n pairs
follows_out n1 n2 n3 p l args n pointer there pairs grown12 grown23 is usable went =
    record {
      below = went.below;
      does = λ choice v runs gates s bits temps turn cs met.
          let env = env_of s p bits temps turn in
          let r2 = grown23.runs choice v runs in
          let r1 = grown12.runs choice v r2 in
          let t : ℕ = target_of (slice_index_or cs n null) in
          does_read v l gates (out_item env cs (item.Out n)) (λ w. found_at (gone p move.Cell (usable_target p w.places t))) (IsFound v pairs)
          (λ w. out_is env cs n w)
          (λ w all.
          found_good v pairs (gone p move.Cell (usable_target p w.places t))
          (went.points choice v runs (usable_target p w.places t) (usable.points choice v r2 w.places all t (is.points choice v r1 cs met))));
    }
