-- What the temps have, and what is ready, behind a step.
use Rattle.std.proofs.Common.{◌≡◌, ℕ, zero, suc, ◌≤◌, nat_eq, Bool, true, false, ◌||◌, Some, List, [], ◌∷◌, ◌++◌, length, map, slice_get, slice_index_or, refl, sym, ap, arith}
use Rattle.std.proofs.lemmas.Bool.{eq-eqb, true≢false}
use Rattle.bit_net.specs.declared.nodes.Node.{Node}
use Rattle.bit_net.specs.Runs.{Grown}
use Rattle.gl_store.specs.declared.values.Val.{Val}
use Rattle.gl_store.specs.declared.stores.Location.{Location}
use Rattle.gl_store.specs.Meets.{val_top, kinds, locations_top}
use Rattle.gate_runs.specs.declared.ends.Ends.{Ends}
use Rattle.gate_runs.specs.Stands.{AreEnds}
use Rattle.run_store.specs.Concrete.{Cell, Nothing}
use Rattle.sc_world.specs.Tree.{Exp}
use Rattle.sc_world.specs.Source.{Source}
use Rattle.sc_world.specs.Layout.{Layout}
use Rattle.sc_world.specs.Eval.{Want}
use Rattle.flow_graph.specs.Conditions.{InTemp, among}
use Rattle.flow_types.specs.Kinds as flow
use Rattle.gate_places.proofs.Assigning.{stays_laid}
use Rattle.expr_fits.specs.declared.around.Around.{Around}
use Rattle.expr_fits.specs.Around.{layout_of, source_of}
use Rattle.expr_fits.specs.Temps.{AreKept, HasKind, HaveKinds, IsKept, IsNamed, temp_at, temps_top}
use Rattle.tr_walk.specs.Walks.{IsReady, Walks}

-- Where the run goes on behind a step, it went on before; so a place that was good stays good.

kept_stays : (v : ℕ → Bool) (b0 b1 : Bool) (p : Layout) (k : flow.Kind) (x : Val) (c : Cell) → (b1 ≡ true → b0 ≡ true) → IsKept v b0 p k x c → IsKept v b1 p k x c
kept_stays v b0 b1 p (flow.ValueOf t) x c narrow good = good
kept_stays v b0 b1 p (flow.PlaceOf t) x c narrow good = (good.0, λ on. good.1 (narrow on))

-- The temps that a part of an expression names are among those that the whole names.

or_later : (b c : Bool) → c ≡ true → b || c ≡ true
or_later true c h = refl
or_later false c h = h

named_left : (n : ℕ) (xs ys : List ℕ) → IsNamed n xs → IsNamed n (xs ++ ys)
named_left n [] ys h = absurd (true≢false (sym h))
named_left n (x ∷ xs) ys h = either (nat_eq n x) (among (InTemp n) (map InTemp xs)) (among (InTemp n) (map InTemp (xs ++ ys))) (λ rest. named_left n xs ys rest) h
  where
    either : (b c d : Bool) → (c ≡ true → d ≡ true) → b || c ≡ true → b || d ≡ true
    either true c d next h = refl
    either false c d next h = next h

named_right : (n : ℕ) (xs ys : List ℕ) → IsNamed n ys → IsNamed n (xs ++ ys)
named_right n [] ys h = h
named_right n (x ∷ xs) ys h = or_later (nat_eq n x) (among (InTemp n) (map InTemp (xs ++ ys))) (named_right n xs ys h)

pub named_one : (n : ℕ) → IsNamed n (n ∷ [])
named_one n = ap (λ b. b || false) (eq-eqb n n refl)

pub left_kinds : (s : Source) (ks : List flow.Kind) (vals : List Val) (xs ys : List ℕ) → HaveKinds s ks vals (xs ++ ys) → HaveKinds s ks vals xs
left_kinds s ks vals xs ys h = λ n named k e. h n (named_left n xs ys named) k e

pub right_kinds : (s : Source) (ks : List flow.Kind) (vals : List Val) (xs ys : List ℕ) → HaveKinds s ks vals (xs ++ ys) → HaveKinds s ks vals ys
right_kinds s ks vals xs ys h = λ n named k e. h n (named_right n xs ys named) k e

module _ (v : ℕ → Bool) (p : Layout) (ks : List flow.Kind) (vals : List Val) (cs : List Cell) (xs ys : List ℕ) where
  pub left_kept : (b : Bool) → AreKept v b p ks vals cs (xs ++ ys) → AreKept v b p ks vals cs xs
  left_kept b h = λ n named k e. h n (named_left n xs ys named) k e

  -- behind what the first part does
  pub right_kept : (b0 b1 : Bool) → (b1 ≡ true → b0 ≡ true) → AreKept v b0 p ks vals cs (xs ++ ys) → AreKept v b1 p ks vals cs ys
  right_kept b0 b1 narrow h =
      λ n named k e. kept_stays v b0 b1 p k (temp_at vals n) (slice_index_or cs n Nothing) narrow (h n (named_right n xs ys named) k e)

-- The temp with a number.

pub kind_at : (s : Source) (ks : List flow.Kind) (xs : List Val) (n : ℕ) (k : flow.Kind) → slice_get ks n ≡ Some k → HaveKinds s ks xs (n ∷ [])
    → HasKind s k (temp_at xs n)
kind_at s ks xs n k e h = h n (named_one n) k e

pub kept_at : (v : ℕ → Bool) (b : Bool) (p : Layout) (ks : List flow.Kind) (xs : List Val) (cs : List Cell) (n : ℕ) (k : flow.Kind) → slice_get ks n ≡ Some k
    → AreKept v b p ks xs cs (n ∷ []) → IsKept v b p k (temp_at xs n) (slice_index_or cs n Nothing)
kept_at v b p ks xs cs n k e h = h n (named_one n) k e

pub temp_low : (xs : List Val) (n : ℕ) → val_top (temp_at xs n) ≤ temps_top xs
unfolding temps_top
temp_low [] n = omega arith
temp_low (x ∷ xs) zero = omega arith
temp_low (x ∷ xs) (suc n) = let h = temp_low xs n in omega (arith, h)

-- What is ready for the next step.

pub ends_grow : (ns more : List Node) (g : Ends) → Grown ns more → AreEnds ns g → AreEnds more g
ends_grow ns more g grown h =
    record {
      live = omega (arith, h.live, grown.longer);
      asides = omega (arith, h.asides, grown.longer);
      bads = omega (arith, h.bads, grown.longer);
      each = h.each;
    }

pub ready_next : (a : Around) (n0 n1 : List Node) (l0 l1 : List Location) (g0 g1 : Ends) → Grown n0 n1 → kinds l1 ≡ kinds l0
    → locations_top l1 ≤ length n1 → AreEnds n1 g1 → IsReady a n0 l0 g0 → IsReady a n1 l1 g1
ready_next a n0 n1 l0 l1 g0 g1 grown same top ends ready =
    record {
      few = ready.few;
      same = ready.same;
      laid = stays_laid (source_of a) (layout_of a) l0 l1 same ready.laid;
      store = top;
      ends = ends;
      temps = omega (arith, ready.temps, grown.longer);
    }

pub ready_behind : (a : Around) (n0 n1 : List Node) (want : Want) (e : Exp) (l0 l1 : List Location) (g0 g1 : Ends) (r : Val) → Grown n0 n1
    → Walks a n1 want e l0 l1 g0 g1 r → IsReady a n0 l0 g0 → IsReady a n1 l1 g1
ready_behind a n0 n1 want e l0 l1 g0 g1 r grown walked ready =
    ready_next a n0 n1 l0 l1 g0 g1 grown walked.same walked.top walked.ends ready

-- behind a step that only reads
pub ready_read : (a : Around) (n0 n1 : List Node) (l : List Location) (g : Ends) → Grown n0 n1 → IsReady a n0 l g → IsReady a n1 l g
ready_read a n0 n1 l g grown ready =
    ready_next a n0 n1 l l g g grown refl (omega (arith, ready.store, grown.longer)) (ends_grow n0 n1 g grown ready.ends) ready
