-- Rows of gates that tell, one row after another, where objects lead; and what is kept of gates while the net grows.
use Rattle.std.proofs.Common.{◌≡◌, ◌⊎◌, ℕ, zero, suc, ◌+◌, ◌<◌, ◌≤◌, Bool, List, [], ◌∷◌, ◌++◌, length, Vec, inl, inr, refl, sym, ◌∙◌, ap, subst, arith, length-append}
use Rattle.std.specs.Prelude.{Ok, slice_index_or}
use Rattle.std.specs.declared.alloc.Global.{Global}
use Rattle.std.proofs.lemmas.Bool.{cases_lt}
use Rattle.bit_net.specs.declared.nodes.Gate.{Gate}
use Rattle.bit_net.specs.declared.nodes.Node.{Node}
use Rattle.bit_net.specs.Runs.{Grown}
use Rattle.reach_net.specs.Walks.{holds_at, pointed, rows_of, EachWide, rows_top}
use Rattle.reach_net.proofs.RowLemmas.{rows_of-push, EachWide-push, rows_top-push}
use Rattle.run_store.specs.Concrete.{Cell}
use Rattle.sc_world.specs.World.{World, bit_at}
use Rattle.fn_facts.specs.declared.around.Around.{Around}
use Rattle.fn_facts.specs.Seen.{over}
use Rattle.fn_walks.specs.Seen.{leads}
use Rattle.fn_walks.specs.Walks.{AreSteps, AreStepsOf, nth}

row_before : (v : ℕ → Bool) (rows : List (List Gate)) (r : List Gate) (i j : ℕ) → i < length rows → pointed v (rows ++ r ∷ []) i j ≡ pointed v rows i j
unfolding pointed
row_before v [] r i j low = absurd (omega (arith, low))
row_before v (x ∷ rows) r zero j low = refl
row_before v (x ∷ rows) r (suc i) j low = row_before v rows r i j (omega (arith, low))

row_last : (v : ℕ → Bool) (rows : List (List Gate)) (r : List Gate) (i j : ℕ) → i ≡ length rows → pointed v (rows ++ r ∷ []) i j ≡ holds_at v r j
unfolding pointed
row_last v [] r zero j e = refl
row_last v [] r (suc i) j e = absurd (omega (arith, e))
row_last v (x ∷ rows) r zero j e = absurd (omega (arith, e))
row_last v (x ∷ rows) r (suc i) j e = row_last v rows r i j (omega (arith, e))

no_rows_top : rows_top [] ≡ 0
unfolding rows_top
no_rows_top = refl

none_wide : (n : ℕ) (rows : List (List Gate)) → rows ≡ [] → EachWide n rows
none_wide n rows e = subst (EachWide n) (sym e) tt

pub steps_none : (a : Around) (ns : List Node) (ms : List ℕ) (rows : List (Vec Gate Global)) → rows ≡ [] → AreSteps a ns ms 0 (rows_of rows)
steps_none a ns ms rows e =
    record {
      each = ap length (ap rows_of e);
      wide = none_wide (length ms) (rows_of rows) (ap rows_of e);
      below = omega (arith, ap rows_top (ap rows_of e), no_rows_top);
      value = λ bits v c w runs t i j low. absurd (omega (arith, low));
    }

pub steps_grow : (a : Around) (old ns : List Node) (ms : List ℕ) (count : ℕ) (rows : List (List Gate)) → Grown old ns → AreSteps a old ms count rows
    → AreSteps a ns ms count rows
steps_grow a old ns ms count rows g s =
    record {
      each = s.each;
      wide = s.wide;
      below = omega (arith, s.below, g.longer);
      value = λ bits v c w runs t. s.value bits v c w (g.runs (bit_at bits) v runs) t;
    }

one_more : (a : Around) (old ns : List Node) (ms : List ℕ) (k m : ℕ) (rows : List (List Gate)) (row : List Gate) → Grown old ns → m ≡ nth ms k
    → AreSteps a old ms k rows → AreStepsOf a ns m ms row → AreSteps a ns ms (k + 1) (rows ++ row ∷ [])
one_more a old ns ms k m rows row g here s r =
    record {
      each = length-append rows (row ∷ []) ∙ ap (λ n. n + 1) s.each;
      wide = EachWide-push (length ms) rows row s.wide r.wide;
      below = omega (arith, rows_top-push rows row, s.below, g.longer, r.below);
      value = λ bits v c w runs t i j low less.
          by bits v c w i j (cases_lt i k) low (r.value bits v c w runs t j less)
          (λ before. s.value bits v c w (g.runs (bit_at bits) v runs) t i j before less);
    }
  where
    by : (bits : List Bool) (v : ℕ → Bool) (c : Cell) (w : World) (i j : ℕ) → (i < k) ⊎ (k ≤ i) → i < k + 1
        → holds_at v row j ≡ leads (over a bits (Ok c) w) m (nth ms j)
        → (i < k → pointed v rows i j ≡ leads (over a bits (Ok c) w) (nth ms i) (nth ms j))
        → pointed v (rows ++ row ∷ []) i j ≡ leads (over a bits (Ok c) w) (nth ms i) (nth ms j)
    by bits v c w i j (inl less) low last before = row_before v rows row i j (omega (arith, less, s.each)) ∙ before less
    by bits v c w i j (inr high) low last before =
        let same : i ≡ k = omega (arith, high, low) in
        row_last v rows row i j (omega (arith, same, s.each))
        ∙ (last ∙ (ap (λ n. leads (over a bits (Ok c) w) n (nth ms j)) here ∙ ap (λ n. leads (over a bits (Ok c) w) (nth ms n) (nth ms j)) (sym same)))

pub steps_push : (a : Around) (old ns : List Node) (ms : List ℕ) (k m : ℕ) (rows new : List (Vec Gate Global)) (row : Vec Gate Global) → Grown old ns
    → new ≡ rows ++ row ∷ [] → m ≡ nth ms k → AreSteps a old ms k (rows_of rows) → AreStepsOf a ns m ms row.items
    → AreSteps a ns ms (k + 1) (rows_of new)
steps_push a old ns ms k m rows new row g pushed here s r =
    subst (λ (l : List (List Gate)). AreSteps a ns ms (k + 1) l) (sym (ap rows_of pushed ∙ rows_of-push rows row))
    (one_more a old ns ms k m (rows_of rows) row.items g here s r)

pub steps_all : (a : Around) (ns : List Node) (ms : List ℕ) (k n : ℕ) (rows : List (List Gate)) → k ≡ n → AreSteps a ns ms k rows → AreSteps a ns ms n rows
steps_all a ns ms k n rows e s = subst (λ (i : ℕ). AreSteps a ns ms i rows) e s

pub same_object : (ms : List ℕ) (i d : ℕ) → i < length ms → slice_index_or ms i d ≡ nth ms i
same_object [] i d low = absurd (omega (arith, low))
same_object (m ∷ ms) zero d low = refl
same_object (m ∷ ms) (suc i) d low = same_object ms i d (omega (arith, low))
