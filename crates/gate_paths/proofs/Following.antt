-- Steps of a path, one after the other, as targets.
use Rattle.std.proofs.Common.{◌≡◌, ℕ, ◌+◌, ◌<◌, ◌≤◌, List, [], ◌∷◌, ◌++◌, length, take, get_or, refl, sym, subst}
use Rattle.std.proofs.lemmas.List.{take_more, take_all}
use Rattle.bit_net.specs.declared.nodes.Node.{Node}
use Rattle.bit_net.specs.Runs.{Grown}
use Rattle.gl_sets.specs.declared.pairs.Pair.{Pair}
use Rattle.gl_sets.specs.Guards.{Points, guards_top}
use Rattle.gl_store.specs.declared.values.Val.{Val}
use Rattle.gl_store.specs.declared.stores.Location.{Location}
use Rattle.gl_store.specs.Steps.{IsLoaded}
use Rattle.run_store.specs.Concrete.{Place, Pointers, load}
use Rattle.sum_rows.specs.declared.path.Step.{Step}
use Rattle.sum_rows.specs.declared.path.Step.TheVariants as step
use Rattle.sc_world.specs.Layout.{Layout}
use Rattle.gate_objects.specs.Escapes.{IsPointerOf}
use Rattle.gate_paths.specs.declared.moves.Move.TheVariants as move
use Rattle.gate_paths.specs.Targets.{Goes, IsUsable, Steps, gone, read_target, step_target, steps_target}

-- what the pointers of locations lead to
pub is_pointed : (n1 n2 n3 : List Node) (p : Layout) (l : List Location) (from cells pointer made : List Pair) (val : Val)
    → Grown n1 n2 → Grown n2 n3 → Goes n1 p move.Cell from cells → IsLoaded n2 l cells Pointers val → IsPointerOf n2 val pointer → IsUsable n3 p l pointer made
    → Steps n3 p l (step.Deref ∷ []) from made
is_pointed n1 n2 n3 p l from cells pointer made val grown12 grown23 went loaded is there =
    record {
      below = there.below;
      points = λ choice v runs ps met t points.
          let r2 = grown23.runs choice v runs in
          let r1 = grown12.runs choice v r2 in
          there.points choice v runs ps met (read_target p ps t)
          (is.points choice v r2 (load ps Pointers (gone p move.Cell t))
          (loaded.value choice v r2 ps (gone p move.Cell t) met (went.points choice v r1 t points)));
    }

pub is_field : (ns : List Node) (p : Layout) (l : List Location) (s : Step) (from made : List Pair) → (s ≡ step.Deref → ⊥) → Goes ns p (move.Part s) from made
    → Steps ns p l (s ∷ []) from made
is_field ns p l step.Deref from made other went = absurd (other refl)
is_field ns p l (step.Field n) from made other went =
    record { below = went.below; points = λ choice v runs ps met t points. went.points choice v runs t points }
is_field ns p l (step.Elem k) from made other went =
    record { below = went.below; points = λ choice v runs ps met t points. went.points choice v runs t points }

steps_more : (p : Layout) (ps : List Place) (ss : List Step) (s : Step) (t : ℕ)
    → steps_target p ps (ss ++ s ∷ []) t ≡ step_target p ps s (steps_target p ps ss t)
steps_more p ps [] s t = refl
steps_more p ps (x ∷ ss) s t = steps_more p ps ss s (step_target p ps x t)

pub steps_none : (ns : List Node) (p : Layout) (l : List Location) (ss : List Step) (from : List Pair) → guards_top from ≤ length ns
    → Steps ns p l (take 0 ss) from from
steps_none ns p l ss from below = record { below = below; points = λ choice v runs ps met t points. points }

pub steps_step : (n1 n2 : List Node) (p : Layout) (l : List Location) (ss : List Step) (i : ℕ) (d : Step) (from so_far made : List Pair) → i < length ss
    → Grown n1 n2 → Steps n1 p l (take i ss) from so_far → Steps n2 p l (get_or ss i d ∷ []) so_far made → Steps n2 p l (take (i + 1) ss) from made
steps_step n1 n2 p l ss i d from so_far made low grown before one =
    record {
      below = one.below;
      points = λ choice v runs ps met t points.
          subst (λ xs. Points v made (steps_target p ps xs t)) (sym (take_more ss i d low))
          (subst (λ k. Points v made k) (sym (steps_more p ps (take i ss) (get_or ss i d) t))
          (one.points choice v runs ps met (steps_target p ps (take i ss) t) (before.points choice v (grown.runs choice v runs) ps met t points)));
    }

pub steps_all : (ns : List Node) (p : Layout) (l : List Location) (ss : List Step) (i : ℕ) (from made : List Pair) → length ss ≤ i
    → Steps ns p l (take i ss) from made → Steps ns p l ss from made
steps_all ns p l ss i from made high h = subst (λ xs. Steps ns p l xs from made) (take_all i ss high) h
