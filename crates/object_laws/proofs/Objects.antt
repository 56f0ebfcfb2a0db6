-- Objects with their parts, and what stands behind their pointers.
use Rattle.std.proofs.Common.{◌≡◌, ℕ, zero, suc, ◌+◌, ◌-◌, ◌≤◌, ◌<◌, ◌&&◌, List, [], ◌∷◌, ◌++◌, length, refl, sym, ap, subst, ◌∙◌, arith}
use Rattle.std.specs.Prelude.{Option, Some, None}
use Rattle.sc_base.specs.declared.pos.NameId.{NameId}
use Rattle.sum_rows.specs.declared.path.Step.TheVariants as step
use Rattle.sc_world.specs.declared.run.Origin.{Origin}
use Rattle.sc_world.specs.declared.run.Origin.TheVariants as origin
use Rattle.sc_world.specs.Tree.{Ty, target_or_void}
use Rattle.sc_world.specs.Build.{◌>>=◌, done}
use Rattle.sc_world.specs.Source.{Source, Member}
use Rattle.sc_world.specs.Gather.{Found}
use Rattle.sc_world.specs.Layout.{Layout, Location, location, is_pointer_cell}
use Rattle.sc_world.specs.Objects.{Ground, Layer, Chosen, Parts, NoParts, Elements, Members, Behind, Object, Stub, parts_of, is_named, elements, member_named, members, lay_parts, parts, object, whole, add, root_or, next, push, bits_if, gives_cells, gives_states, is_cell, cell_bits, state_bits, location_now, behind, type_or_void, set_target, follow_cell, follow_at, follow_all, follow_range}
use Rattle.object_laws.proofs.Steps.{After, Good, Grows, Keeps, bits_same, chained, done_keeps, if_keeps, length_pushed, length_set, next_is, pushed_good, nothing_keeps, set_good, stub_keeps, joined, unit_done, wider}

-- how many locations there have to be for an object to be of that one
abbrev pub need : Option ℕ → ℕ
need None = 0
need (Some r) = suc r

pub record Added (p : Layout) (root : Option ℕ) (k : ℕ) (q : Layout) : Type 0 where
  pub longer : length p.locations ≤ length q.locations
  pub good : Good q.locations
  pub own : root_or root k < length q.locations

root_low : (root : Option ℕ) (k n : ℕ) → k ≡ n → need root ≤ n → root_or root k < suc n
root_low None k n e low = omega (arith, e)
root_low (Some r) k n e low = omega (arith, low)

added : (p z : Layout) (root : Option ℕ) (k : ℕ) (l : Location) → z.locations ≡ p.locations → k ≡ length p.locations → l.root ≡ root_or root k
    → need root ≤ length p.locations → Good p.locations → Added p root k (record z { locations = z.locations ++ l ∷ [] })
added p z root k l same at own low good =
    let bound = root_low root k (length p.locations) at low in
    record {
      longer = omega (arith, length_pushed z.locations l, ap length same);
      good = pushed_good z.locations l (subst Good (sym same) good) (omega (arith, own, bound, ap length same));
      own = omega (arith, bound, length_pushed z.locations l, ap length same);
    }

pub add_adds : (s : Source) (c : Chosen) (root : Option ℕ) (t : Ty) (o : Origin) (p : Layout) → need root ≤ length p.locations → Good p.locations
    → After (λ k q. Added p root k q) (add s c root t o p)
add_adds s c root t o p low good =
    chained (λ k q. (q.locations ≡ p.locations) × (k ≡ length p.locations)) (λ k q. Added p root k q) (next p)
    (λ k. bits_if (gives_cells c && is_cell t) (cell_bits s t) >>= λ bit. bits_if (gives_states c) (state_bits s) >>= λ state.
    push (record { type = Some t; origin = o; root = root_or root k; bit = bit; state = state; target = None }) >>= λ _. done k) (next_is p)
    (λ k q same.
    chained (λ bit r. r.locations ≡ q.locations) (λ k q. Added p root k q) (bits_if (gives_cells c && is_cell t) (cell_bits s t) q)
    (λ bit. bits_if (gives_states c) (state_bits s) >>= λ state.
    push (record { type = Some t; origin = o; root = root_or root k; bit = bit; state = state; target = None }) >>= λ _. done k)
    (bits_same (gives_cells c && is_cell t) (cell_bits s t) q)
    (λ bit r e.
    chained (λ state z. z.locations ≡ r.locations) (λ k q. Added p root k q) (bits_if (gives_states c) (state_bits s) r)
    (λ state. push (record { type = Some t; origin = o; root = root_or root k; bit = bit; state = state; target = None }) >>= λ _. done k)
    (bits_same (gives_states c) (state_bits s) r)
    (λ state z d.
    added p z root k (record { type = Some t; origin = o; root = root_or root k; bit = bit; state = state; target = None }) (d ∙ (e ∙ same.0)) same.1
    refl low good)))

-- Parts.

-- a function that lays objects
abbrev pub LayerKeeps : ℕ → Layer → Type 0
LayerKeeps n part = (t : Ty) (o : Origin) → Keeps n (part t o)

elements_keep : (n : ℕ) (part : Layer) → LayerKeeps n part → (more k at : ℕ) (t : Ty) → Keeps n (elements part more k at t)
elements_keep n part h zero k at t = nothing_keeps n
elements_keep n part h (suc more) k at t =
    joined n (part t (origin.Part at (step.Elem k))) (λ _. elements part more (k + 1) at t) (h t (origin.Part at (step.Elem k)))
    (λ _. elements_keep n part h more (k + 1) at t)

named_keeps : (n : ℕ) (part : Layer) → LayerKeeps n part → (f : Found) (at : ℕ) (t : Ty) (x : Option NameId) → Keeps n (member_named part f at t x)
named_keeps n part h f at t None = nothing_keeps n
named_keeps n part h f at t (Some x) =
    if_keeps n (is_named f x) (part t (origin.Part at (step.Field x)) >>= λ _. unit_done) unit_done
    (joined n (part t (origin.Part at (step.Field x))) (λ _. unit_done) (h t (origin.Part at (step.Field x))) (λ _. nothing_keeps n)) (nothing_keeps n)

members_keep : (n : ℕ) (part : Layer) → LayerKeeps n part → (f : Found) (at : ℕ) (ms : List Member) → Keeps n (members part f at ms)
members_keep n part h f at [] = nothing_keeps n
members_keep n part h f at (m ∷ ms) =
    joined n (member_named part f at m.type m.name) (λ _. members part f at ms) (named_keeps n part h f at m.type m.name)
    (λ _. members_keep n part h f at ms)

parts_keep : (n : ℕ) (part : Layer) → LayerKeeps n part → (f : Found) (at : ℕ) (x : Parts) → Keeps n (lay_parts f part at x)
parts_keep n part h f at NoParts = nothing_keeps n
parts_keep n part h f at (Elements shown t) = elements_keep n part h shown 0 at t
parts_keep n part h f at (Members ms) = members_keep n part h f at ms

-- Objects.

pub object_keeps : (deep : ℕ) (g : Ground) (c : Chosen) (root : Option ℕ) (t : Ty) (o : Origin) → Keeps (need root) (object deep g c root t o)
unfolding object
object_keeps zero g c root t o p low good = tt
object_keeps (suc deep) g c root t o p low good =
    chained (λ k q. Added p root k q) (λ k q. Grows p q) (add g.source c root t o p)
    (λ at. parts g (object deep g c (Some (root_or root at))) at t >>= λ _. done at) (add_adds g.source c root t o p low good)
    (λ at q h.
    wider p q ((parts g (object deep g c (Some (root_or root at))) at t >>= λ _. done at) q) h.longer
    (joined (suc (root_or root at)) (parts g (object deep g c (Some (root_or root at))) at t) (λ _. done at)
    (parts_keep (suc (root_or root at)) (object deep g c (Some (root_or root at))) (λ u x. object_keeps deep g c (Some (root_or root at)) u x) g.found at
    (parts_of g.source t))
    (λ _. done_keeps (suc (root_or root at)) at) q h.own h.good))

pub whole_keeps : (g : Ground) (c : Chosen) (t : Ty) (o : Origin) → Keeps 0 (whole g c t o)
whole_keeps g c t o = object_keeps 257 g c None t o

-- What stands behind pointers.

target_keeps : (at to : ℕ) → Keeps 0 (set_target at to)
target_keeps at to p low good =
    record {
      longer = omega (arith, length_set p.locations at (record (location p at) { target = Some to }));
      good = set_good p.locations at (record (location p at) { target = Some to }) refl good;
    }

behind_keeps : (g : Ground) (f : Behind) (at : ℕ) (t : Ty) → Keeps 0 (behind g f at t)
behind_keeps g (Object c) at t = whole_keeps g c t (origin.Target at)
behind_keeps g Stub at t = stub_keeps 0 (origin.Target at)

cell_keeps : (g : Ground) (f : Behind) (at : ℕ) (l : Location) → Keeps 0 (follow_cell g f at l)
cell_keeps g f at l =
    if_keeps 0 (is_pointer_cell l) (behind g f at (target_or_void (type_or_void l.type)) >>= λ to. set_target at to) unit_done
    (joined 0 (behind g f at (target_or_void (type_or_void l.type))) (λ to. set_target at to)
    (behind_keeps g f at (target_or_void (type_or_void l.type))) (λ to. target_keeps at to))
    (nothing_keeps 0)

pub location_keeps : (n at : ℕ) → Keeps n (location_now at)
location_keeps n at p low good = record { longer = omega arith; good = good }

all_keep : (more at : ℕ) (g : Ground) (f : Behind) → Keeps 0 (follow_all more at g f)
all_keep zero at g f = nothing_keeps 0
all_keep (suc more) at g f =
    joined 0 (follow_at g f at) (λ _. follow_all more (at + 1) g f)
    (joined 0 (location_now at) (λ l. follow_cell g f at l) (location_keeps 0 at) (λ l. cell_keeps g f at l)) (λ _. all_keep more (at + 1) g f)

pub range_keeps : (from to : ℕ) (g : Ground) (f : Behind) → Keeps 0 (follow_range from to g f)
range_keeps from to g f = all_keep (to - from) from g f
