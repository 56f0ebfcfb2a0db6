-- Recursions by a number of steps that are left, as a loop sees them: one step more, and the end.
use Rattle.std.proofs.Common.{◌≡◌, ℕ, zero, suc, ◌+◌, ◌-◌, ◌<◌, ◌≤◌, arith, refl, sym, ap, ◌∙◌}
use Rattle.std.specs.Prelude.{Option, Some, None, Ok, Err}
use Rattle.sc_base.specs.declared.skip.LimitKind.TheVariants as limit
use Rattle.sum_rows.specs.declared.path.Step.TheVariants as step
use Rattle.sc_world.specs.declared.run.Origin.{Origin}
use Rattle.sc_world.specs.declared.run.Origin.TheVariants as origin
use Rattle.sc_world.specs.Tree.{Ty, Void}
use Rattle.sc_world.specs.Build.{goes_on, done}
use Rattle.sc_world.specs.Source.{Source}
use Rattle.sc_world.specs.Gather.{Site}
use Rattle.sc_world.specs.Layout.{Layout, location}
use Rattle.sc_world.specs.Objects.{Ground, Chosen, CellsAndStates, Layer, Behind, Object, Stub, add, object, parts, parts_of, lay_parts, Elements, elements, follow_at, follow_all, follow_range, levels, root_or, count}
use Rattle.sc_world.specs.Occurrences.{occur_once, occur, cell_if, cells_from, number_site, number_turns}

pub object_none : (deep : ℕ) (g : Ground) (c : Chosen) (root : Option ℕ) (t : Ty) (o : Origin) (p : Layout)
    → deep ≡ 0 → object deep g c root t o p ≡ Err limit.Locations
unfolding object
object_none zero g c root t o p h = refl
object_none (suc n) g c root t o p h = absurd (omega (arith, h))

object_suc : (n : ℕ) (g : Ground) (c : Chosen) (root : Option ℕ) (t : Ty) (o : Origin) (p : Layout)
    → object (suc n) g c root t o p
    ≡ goes_on (add g.source c root t o p) (λ at. λ q. goes_on (parts g (object n g c (Some (root_or root at))) at t q) (λ _. done at))
unfolding object
object_suc n g c root t o p = refl

pub object_step : (deep : ℕ) (g : Ground) (c : Chosen) (root : Option ℕ) (t : Ty) (o : Origin) (p : Layout) → 0 < deep
    → object deep g c root t o p
    ≡ goes_on (add g.source c root t o p) (λ at. λ q. goes_on (parts g (object (deep - 1) g c (Some (root_or root at))) at t q) (λ _. done at))
object_step deep g c root t o p h =
    let e : deep ≡ suc (deep - 1) = omega arith in
    ap (λ n. object n g c root t o p) e ∙ object_suc (deep - 1) g c root t o p

pub void_whole : (g : Ground) (c : Chosen) (o : Origin) (p : Layout) → object 257 g c None Void o p ≡ goes_on (add g.source c None Void o p) (λ at. done at)
void_whole g c o p = object_suc 256 g c None Void o p

pub elements_more : (n k at : ℕ) (part : Layer) (t : Ty) (p : Layout) → k < n
    → elements part (n - k) k at t p ≡ goes_on (part t (origin.Part at (step.Elem k)) p) (λ _. elements part (n - (k + 1)) (k + 1) at t)
elements_more n k at part t p h = let e : n - k ≡ suc (n - (k + 1)) = omega arith in ap (λ m. elements part m k at t p) e

pub elements_last : (n k at : ℕ) (part : Layer) (t : Ty) (p : Layout) → n ≤ k → elements part (n - k) k at t p ≡ done tt p
elements_last n k at part t p h = let e : n - k ≡ zero = omega arith in ap (λ m. elements part m k at t p) e

pub follow_more : (to at : ℕ) (g : Ground) (f : Behind) (p : Layout) → at < to
    → follow_all (to - at) at g f p ≡ goes_on (follow_at g f at p) (λ _. follow_all (to - (at + 1)) (at + 1) g f)
follow_more to at g f p h = let e : to - at ≡ suc (to - (at + 1)) = omega arith in ap (λ m. follow_all m at g f p) e

pub follow_last : (to at : ℕ) (g : Ground) (f : Behind) (p : Layout) → to ≤ at → follow_all (to - at) at g f p ≡ done tt p
follow_last to at g f p h = let e : to - at ≡ zero = omega arith in ap (λ m. follow_all m at g f p) e

pub levels_more : (n k from to : ℕ) (g : Ground) (p : Layout) → k < n
    → levels (n - k) from to g p
    ≡ goes_on (count p) (λ start. λ q. goes_on (follow_range from to g (Object CellsAndStates) q)
    (λ _. λ r. goes_on (count r) (λ end. levels (n - (k + 1)) start end g)))
levels_more n k from to g p h = let e : n - k ≡ suc (n - (k + 1)) = omega arith in ap (λ m. levels m from to g p) e

pub levels_last : (n k from to : ℕ) (g : Ground) (p : Layout) → n ≤ k → levels (n - k) from to g p ≡ follow_range from to g Stub p
levels_last n k from to g p h = let e : n - k ≡ zero = omega arith in ap (λ m. levels m from to g p) e

pub occur_more : (n t k : ℕ) (g : Ground) (s : Site) (p : Layout) → t < n
    → occur (n - t) g k s p ≡ goes_on (occur_once g k s p) (λ _. occur (n - (t + 1)) g k s)
occur_more n t k g s p h = let e : n - t ≡ suc (n - (t + 1)) = omega arith in ap (λ m. occur m g k s p) e

pub occur_last : (n t k : ℕ) (g : Ground) (s : Site) (p : Layout) → n ≤ t → occur (n - t) g k s p ≡ done tt p
occur_last n t k g s p h = let e : n - t ≡ zero = omega arith in ap (λ m. occur m g k s p) e

pub cells_more : (end at root : ℕ) (s : Source) (p : Layout) → at < end
    → cells_from (end - at) at root s p ≡ goes_on (cell_if s root at (location p at) p) (λ _. cells_from (end - (at + 1)) (at + 1) root s)
cells_more end at root s p h = let e : end - at ≡ suc (end - (at + 1)) = omega arith in ap (λ m. cells_from m at root s p) e

pub cells_last : (end at root : ℕ) (s : Source) (p : Layout) → end ≤ at → cells_from (end - at) at root s p ≡ done tt p
cells_last end at root s p h = let e : end - at ≡ zero = omega arith in ap (λ m. cells_from m at root s p) e

pub number_more : (n t k : ℕ) (g : Ground) (s : Site) (p : Layout) → t < n
    → number_turns (n - t) g k s p ≡ goes_on (number_site g k s p) (λ _. number_turns (n - (t + 1)) g (k + 1) s)
number_more n t k g s p h = let e : n - t ≡ suc (n - (t + 1)) = omega arith in ap (λ m. number_turns m g k s p) e

pub number_last : (n t k : ℕ) (g : Ground) (s : Site) (p : Layout) → n ≤ t → number_turns (n - t) g k s p ≡ done tt p
number_last n t k g s p h = let e : n - t ≡ zero = omega arith in ap (λ m. number_turns m g k s p) e

-- an object with elements, once its own location is added
pub object_elements : (deep n at r : ℕ) (g : Ground) (c : Chosen) (root : Option ℕ) (t u : Ty) (o : Origin) (p q : Layout)
    → 0 < deep → add g.source c root t o p ≡ Ok (at, q) → r ≡ root_or root at → Elements n u ≡ parts_of g.source t
    → goes_on (elements (object (deep - 1) g c (Some r)) (n - 0) 0 at u q) (λ _. done at) ≡ object deep g c root t o p
object_elements deep n at r g c root t u o p q h e s k =
    let below = λ (x : ℕ). object (deep - 1) g c (Some x) in
    let all : n - 0 ≡ n = omega arith in
    ap (λ m. goes_on (elements (below r) m 0 at u q) (λ _. done at)) all
    ∙ (ap (λ x. goes_on (elements (below x) n 0 at u q) (λ _. done at)) s
    ∙ (ap (λ ps. goes_on (lay_parts g.found (below (root_or root at)) at ps q) (λ _. done at)) k
    ∙ (sym (ap (λ b. goes_on b (λ at. λ q. goes_on (parts g (below (root_or root at)) at t q) (λ _. done at))) e)
    ∙ sym (object_step deep g c root t o p h))))

pub ruleset object_steps = (object_none, object_step, elements_more, elements_last)
