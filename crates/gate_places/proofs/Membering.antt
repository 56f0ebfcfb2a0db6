-- Members of objects, and the targets of pointers to them.
use Rattle.std.proofs.Common.{◌≡◌, ℕ, suc, ◌+◌, ◌-◌, ◌<◌, ◌≤◌, Bool, true, List, [], ◌∷◌, ◌++◌, length, map, take, get_or, inl, refl, sym, ◌∙◌, ap, subst, arith}
use Rattle.std.specs.Prelude.{Option, Some, None}
use Rattle.std.proofs.lemmas.List.{take_more, take_all}
use Rattle.bit_net.specs.declared.nodes.Node.{Node}
use Rattle.bit_net.specs.Runs.{Runs, Grown}
use Rattle.gl_sets.specs.declared.pairs.Pair.{Pair}
use Rattle.gl_sets.specs.declared.sets.Set.{Set as Sets}
use Rattle.gl_sets.specs.Guards.{Points, targets_of}
use Rattle.gl_sets.specs.Sets.{IsMoved}
use Rattle.gl_store.specs.declared.values.Val.{Val}
use Rattle.gl_store.specs.declared.values.Val.TheVariants.{Set}
use Rattle.gl_store.specs.declared.stores.Location.{Location}
use Rattle.gl_store.specs.Meets.{Meets}
use Rattle.run_store.specs.Concrete.{Cell, Number, Pointer, Nothing}
use Rattle.sc_base.specs.declared.pos.NameId.{NameId}
use Rattle.sum_rows.specs.declared.path.Step.{Step}
use Rattle.sum_rows.specs.declared.path.Step.TheVariants as step
use Rattle.sc_world.specs.Tree.{Ty, target_or_void}
use Rattle.sc_world.specs.Source.{Source}
use Rattle.sc_world.specs.Layout.{Layout, location, has_type, part, or_zero}
use Rattle.sc_world.specs.World.{World, ◌>>=◌, done, dereference}
use Rattle.sc_world.specs.Eval.{Want, Place', place_of, wanted, member, part_or, first_element}
use Rattle.run_laws.specs.Fits.{StandsAt, MemberFits}
use Rattle.run_laws.proofs.Places.{IfPlace, part_place}
use Rattle.gate_runs.specs.declared.ends.Ends.{Ends}
use Rattle.gate_runs.specs.Stands.{Does}
use Rattle.gate_runs.proofs.Bind.{bind, does_done}
use Rattle.gate_steps.specs.Steps.{LeadsTo}
use Rattle.gate_steps.proofs.Known.{does_same}
use Rattle.gate_places.specs.Places.{GoodFor, DoesFind, DoesFollow, DoesMember, DoesMemberBehind, IsFirstElement, IsPart, Reaches, env_of, part_target}
use Rattle.gate_places.specs.declared.members.Way.{Way}
use Rattle.gate_places.specs.declared.members.Way.TheVariants as way

-- the number of a part is not behind the last location
pub part_low : (p : Layout) (at : ℕ) (s : Step) (to : ℕ) → part p at s ≡ Some to → to ≤ length p.locations - 1
part_low p at s to e = subst (λ o. IfPlace p o) e (part_place p at s)

-- new targets, one for each pair

mapped_more : (f : ℕ → ℕ) (ps : List Pair) (p : Pair) → map f (targets_of (ps ++ p ∷ [])) ≡ map f (targets_of ps) ++ f p.target ∷ []
unfolding targets_of
mapped_more f [] p = refl
mapped_more f (q ∷ ps) p = ap (λ xs. f q.target ∷ xs) (mapped_more f ps p)

pub mapped_none : (f : ℕ → ℕ) (ps : List Pair) (ts : List ℕ) → ts ≡ [] → map f (targets_of (take 0 ps)) ≡ ts
unfolding targets_of
mapped_none f ps ts e = sym e

pub mapped_step : (f : ℕ → ℕ) (ps : List Pair) (i : ℕ) (d : Pair) (ts new : List ℕ) (target : ℕ) → i < length ps → new ≡ ts ++ target ∷ []
    → target ≡ f (get_or ps i d).target → map f (targets_of (take i ps)) ≡ ts → map f (targets_of (take (i + 1) ps)) ≡ new
mapped_step f ps i d ts new target low pushed is h =
    ap (λ qs. map f (targets_of qs)) (take_more ps i d low) ∙ mapped_more f (take i ps) (get_or ps i d)
    ∙ ap (λ xs. xs ++ f (get_or ps i d).target ∷ []) h ∙ ap (λ t. ts ++ t ∷ []) (sym is) ∙ sym pushed

pub mapped_whole : (f : ℕ → ℕ) (ps : List Pair) (i : ℕ) (ts : List ℕ) → length ps ≤ i → map f (targets_of (take i ps)) ≡ ts
    → map f (targets_of ps) ≡ ts
mapped_whole f ps i ts high h = subst (λ qs. map f (targets_of qs) ≡ ts) (take_all i ps high) h

mapped_wide : (f : ℕ → ℕ) (ps : List Pair) → length (map f (targets_of ps)) ≡ length ps
unfolding targets_of
mapped_wide f [] = refl
mapped_wide f (p ∷ ps) = ap suc (mapped_wide f ps)

pub targets_wide : (f : ℕ → ℕ) (ps : List Pair) (ts : List ℕ) → map f (targets_of ps) ≡ ts → length ts ≡ length ps
targets_wide f ps ts e = ap length (sym e) ∙ mapped_wide f ps

pub is_part : (ns : List Node) (p : Layout) (w : Way) (pointer made : List Pair) (ts : List ℕ)
    → map (λ t. part_target p w t) (targets_of pointer) ≡ ts → IsMoved ns pointer ts made → IsPart ns p w pointer made
is_part ns p w pointer made ts e is =
    record { below = is.below; points = λ choice v runs target points. is.points choice v runs (λ t. part_target p w t) target e points }

first_meets : (s : Source) (p : Layout) (v : ℕ → Bool) (array made : Sets) (bits : List Bool) (temps : List Cell) (turn : ℕ) (q : Cell)
    → ((target : ℕ) → Points v array.pairs.items target → Points v made.pairs.items (part_target p way.First target)) → Meets v (Set array) q
    → Meets v (Set made) (first_element (env_of s p bits temps turn) q)
first_meets s p v array made bits temps turn (Pointer target) points m = points target m
first_meets s p v array made bits temps turn (Number w n) points m = absurd m
first_meets s p v array made bits temps turn Nothing points m = absurd m

pub is_first : (ns : List Node) (p : Layout) (array made : Sets) → IsPart ns p way.First array.pairs.items made.pairs.items
    → IsFirstElement ns p array made
is_first ns p array made is =
    record {
      below = is.below;
      value = λ choice v runs s bits temps turn q m.
          first_meets s p v array made bits temps turn q (λ target points. is.points choice v runs target points) m;
    }

-- A member in a run: its location, and what is wanted of it.

member_done : (o : Option ℕ) (w : World) → done (or_zero o) w ≡ part_or o w
member_done None w = refl
member_done (Some at) w = refl

member_stands : (p : Layout) (u t : Ty) (n : NameId) (at : ℕ) → MemberFits p u n t → StandsAt p u at
    → StandsAt p t (or_zero (part p at (step.Field n)))
member_stands p u t n at fits stands =
    let h = fits at stands in
    inl (subst (λ o. has_type (location p (or_zero o)) t ≡ true) (sym h.1) h.2)

module _ (s : Source) (p : Layout) (ns : List Node) (l : List Location) (g : Ends) (want : Want) (t : Ty) (n : NameId) (made : List Pair) (r : Val)
    (found : DoesFind s p ns l want t made r) where
  -- the member of a location, where the set leads to it
  member_does : (choice v : ℕ → Bool) → Runs ns choice v → (bits : List Bool) (temps : List Cell) (turn at : ℕ)
      → LeadsTo v g made (or_zero (part p at (step.Field n))) → (v g.live.at ≡ true → StandsAt p t (or_zero (part p at (step.Field n))))
      → Does v l g (member (env_of s p bits temps turn) n at >>= λ k. wanted want t k) l g (GoodFor v g p want t r)
  member_does choice v runs bits temps turn at leads stands =
      let k : ℕ = or_zero (part p at (step.Field n)) in
      bind v l l l g g g (member (env_of s p bits temps turn) n at) (λ j. wanted want t j) (λ j. k ≡ j) (GoodFor v g p want t r)
      (does_same v l l g g (done k) (member (env_of s p bits temps turn) n at) (λ j. k ≡ j) (λ w. member_done (part p at (step.Field n)) w)
      (does_done v l g k (λ j. k ≡ j) refl))
      (λ j same.
      subst (λ i. Does v l g (wanted want t i) l g (GoodFor v g p want t r)) same (found.does choice v runs g k leads stands))

member_of_does : (s : Source) (p : Layout) (n1 ns : List Node) (l : List Location) (g : Ends) (want : Want) (t : Ty) (n : NameId) (object : Sets) (made : List Pair)
    (r : Val) → Grown n1 ns → IsPart n1 p (way.Member n) object.pairs.items made → DoesFind s p ns l want t made r → (choice v : ℕ → Bool) → Runs ns choice v → (u : Ty)
    → MemberFits p u n t → (bits : List Bool) (temps : List Cell) (turn : ℕ) (q : Cell) → GoodFor v g p Place' u (Set object) q
    → Does v l g (member (env_of s p bits temps turn) n (place_of q) >>= λ k. wanted want t k) l g (GoodFor v g p want t r)
member_of_does s p n1 ns l g want t n object made r grown is found choice v runs u fits bits temps turn (Pointer target) good =
    member_does s p ns l g want t n made r found choice v runs bits temps turn (target - 1)
    (record {
      target = part_target p (way.Member n) target;
      points = is.points choice v (grown.runs choice v runs) target good.0;
      there = λ on. omega arith;
    })
    (λ on. member_stands p u t n (target - 1) fits ((good.1 on).stands))
member_of_does s p n1 ns l g want t n object made r grown is found choice v runs u fits bits temps turn (Number w k) good = absurd good.0
member_of_does s p n1 ns l g want t n object made r grown is found choice v runs u fits bits temps turn Nothing good = absurd good.0

-- q is the layout as the look-ups have it
pub does_member : (s : Source) (q p : Layout) (n1 ns : List Node) (l : List Location) (g : Ends) (want : Want) (t : Ty) (n : NameId) (object : Sets) (made : List Pair)
    (r : Val) → q ≡ p → Grown n1 ns → IsPart n1 q (way.Member n) object.pairs.items made → DoesFind s p ns l want t made r → DoesMember s p ns l g want t n object r
does_member s q p n1 ns l g want t n object made r same grown is found =
    let here = subst (λ k. IsPart n1 k (way.Member n) object.pairs.items made) same is in
    record {
      below = found.below;
      kind = found.kind;
      does = λ choice v runs u fits bits temps turn c good.
          member_of_does s p n1 ns l g want t n object made r grown here found choice v runs u fits bits temps turn c good;
    }

member_leads : (v : ℕ → Bool) (g : Ends) (p : Layout) (n : NameId) (pointer made : List Pair) (at : ℕ) → LeadsTo v g pointer at
    → ((target : ℕ) → Points v pointer target → Points v made (part_target p (way.Member n) target)) → LeadsTo v g made (or_zero (part p at (step.Field n)))
member_leads v g p n pointer made at leads points =
    record {
      target = part_target p (way.Member n) leads.target;
      points = points leads.target leads.points;
      there = λ on.
          let e : or_zero (part p (leads.target - 1) (step.Field n)) ≡ or_zero (part p at (step.Field n)) = ap (λ k. or_zero (part p k (step.Field n))) (minus_one leads.target at (leads.there on)) in
          omega (arith, e);
    }
  where
    minus_one : (target at : ℕ) → target ≡ suc at → target - 1 ≡ at
    minus_one target at e = omega (arith, e)

pub does_member_behind : (s : Source) (q p : Layout) (n1 n2 n3 : List Node) (l : List Location) (want : Want) (u t : Ty) (n : NameId) (pointer made : List Pair)
    (old new : Ends) (r : Val) → q ≡ p → Grown n1 n2 → Grown n2 n3 → DoesFollow n1 p (target_or_void u) l pointer old new → IsPart n2 q (way.Member n) pointer made
    → DoesFind s p n3 l want t made r → DoesMemberBehind s p n3 l want u t n pointer old new r
does_member_behind s q p n1 n2 n3 l want u t n pointer made old new r same grown12 grown23 follows is found =
    let here = subst (λ k. IsPart n2 k (way.Member n) pointer made) same is in
    record {
      below = found.below;
      kind = found.kind;
      does = λ choice v runs fits bits temps turn target points.
          let r2 = grown23.runs choice v runs in
          let env = env_of s p bits temps turn in
          bind v l l l old new new (dereference env (target_or_void u) (Pointer target)) (λ at. member env n at >>= λ k. wanted want t k)
          (Reaches v new pointer p (target_or_void u)) (GoodFor v new p want t r)
          (follows.does choice v (grown12.runs choice v r2) s bits temps turn target points)
          (λ at reached.
          member_does s p n3 l new want t n made r found choice v runs bits temps turn at
          (member_leads v new p n pointer made at reached.leads (λ k h. here.points choice v r2 k h))
          (λ on. member_stands p (target_or_void u) t n at fits (inl (reached.typed on))));
    }
