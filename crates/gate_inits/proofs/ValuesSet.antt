-- An object that is set to one value, as a run does.
use Rattle.std.proofs.Common.{◌≡◌, ℕ, suc, ◌+◌, ◌<◌, ◌≤◌, Bool, true, false, ◌||◌, List, length, Result, Ok, Err, inl, if◌then◌else◌, refl, sym, ◌∙◌, ap, subst, arith, add-one}
use Rattle.bit_net.specs.declared.nodes.Node.{Node}
use Rattle.bit_net.specs.Runs.{Runs, Grown, Always}
use Rattle.bit_words.specs.declared.Word.{Word as Words}
use Rattle.gl_sets.specs.Guards.{Points}
use Rattle.gl_sets.specs.declared.sets.Set.{Set as Sets}
use Rattle.gl_store.specs.declared.stores.Location.{Location}
use Rattle.gl_store.specs.declared.values.Val.{Val}
use Rattle.gl_store.specs.declared.values.Val.TheVariants.{Word, Set, Unit as Empty}
use Rattle.gl_store.specs.Meets.{Meets, MeetsAll, locations_top}
use Rattle.run_store.specs.Concrete.{Cell, Number, Pointer, Nothing}
use Rattle.sc_world.specs.Tree.{Ty}
use Rattle.sc_world.specs.Source.{Source}
use Rattle.sc_world.specs.Layout.{Layout, location, has_type}
use Rattle.sc_world.specs.World.{World, Ended, Run, ◌>>=◌, goes_on, done, store}
use Rattle.sc_world.specs.Eval.{Want, Value, Place', place_of, copy, assign_struct}
use Rattle.run_laws.specs.Fits.{is_scalar, if_scalar, IsPlaceOf}
use Rattle.gate_runs.specs.declared.ends.Ends.{Ends}
use Rattle.gate_runs.specs.Standing.{Standing, On, Over, after, world_of}
use Rattle.gate_runs.specs.Stands.{Stands, Does, Any}
use Rattle.gate_runs.proofs.Bind.{bind, does_done}
use Rattle.gate_steps.specs.Steps.{DoesStore, LeadsTo}
use Rattle.gate_steps.proofs.Known.{does_same}
use Rattle.gate_places.specs.Places.{GoodFor, env_of}
use Rattle.gate_copies.specs.Copies.{DoesCopy}
use Rattle.gate_inits.specs.Inits.{DoesSet, set_to}

-- A scalar.

module _ (s : Source) (p : Layout) (bits : List Bool) (temps : List Cell) (turn : ℕ) (t : Ty) (at : ℕ) where
  scalar_is : is_scalar t ≡ true → (c : Cell) → store at c ≡ set_to (env_of s p bits temps turn) t at c
  scalar_is e c = sym (ap (λ (b : Bool). if b then store at c else copy (env_of s p bits temps turn) (place_of c) at) e)

  object_is : is_scalar t ≡ false → (c : Cell) → copy (env_of s p bits temps turn) (place_of c) at ≡ set_to (env_of s p bits temps turn) t at c
  object_is e c = sym (ap (λ (b : Bool). if b then store at c else copy (env_of s p bits temps turn) (place_of c) at) e)

pub wants_value : (t : Ty) → is_scalar t ≡ true → if_scalar t ≡ Value
wants_value t e = ap (λ (b : Bool). if b then Value else Place') e

pub wants_place : (t : Ty) → is_scalar t ≡ false → if_scalar t ≡ Place'
wants_place t e = ap (λ (b : Bool). if b then Value else Place') e

pub set_scalar : (s : Source) (p : Layout) (n0 n1 : List Node) (g : Ends) (t : Ty) (at : ℕ) (to : Sets) (val : Val) (old new : List Location) → is_scalar t ≡ true → Grown n0 n1
    → Always n0 (λ choice v. Points v to.pairs.items (at + 1)) → DoesStore n1 g to.pairs.items val old new → DoesSet s p n1 g t at val old new
set_scalar s p n0 n1 g t at to val old new scalar grown points stores = record {
  top = stores.below;
  same = stores.same;
  does = λ choice v runs typed bits temps turn c good.
      subst (λ (m : Run (Unit {0})). Does v old g m new g (Any {A = Unit {0}})) (scalar_is s p bits temps turn t at scalar c)
      (stores.does choice v runs at c
      (record { target = at + 1; points = points.holds choice v (grown.runs choice v runs); there = λ live. add-one at })
      (subst (λ (w : Want). GoodFor v g p w t val c) (wants_value t scalar) good));
}

-- An object.

dropped : (q : Cell) (r : Result (Unit {0}) Ended × World) → goes_on (goes_on r (λ u. done q)) (λ x. done tt) ≡ r
dropped q (Ok u, w) = refl
dropped q (Err e, w) = refl

module _ (s : Source) (p : Layout) (bits : List Bool) (temps : List Cell) (turn : ℕ) (v : ℕ → Bool) (g : Ends) (old new : List Location) (at : ℕ) where
  -- the assignment of a run gives the place, of which nobody asks
  copies : (q c : Cell) (Good : Cell → Type 0) → place_of q ≡ at → Does v old g (assign_struct (env_of s p bits temps turn) q c) new g Good
      → Does v old g (copy (env_of s p bits temps turn) (place_of c) at) new g (Any {A = Unit {0}})
  copies q c Good is d =
      subst (λ (k : ℕ). Does v old g (copy (env_of s p bits temps turn) (place_of c) k) new g (Any {A = Unit {0}})) is
      (does_same v old new g g (assign_struct (env_of s p bits temps turn) q c >>= λ x. done tt) (copy (env_of s p bits temps turn) (place_of c) (place_of q)) (Any {A = Unit {0}})
      (λ w. dropped q (copy (env_of s p bits temps turn) (place_of c) (place_of q) w))
      (bind v old new new g g g (assign_struct (env_of s p bits temps turn) q c) (λ x. done tt) Good (Any {A = Unit {0}}) d
      (λ x good. does_done v new g tt (Any {A = Unit {0}}) tt)))

  -- where a run does not go on, nothing is done
  rests : (m : Run (Unit {0})) → v g.live.at ≡ false → Does v old g m old g (Any {A = Unit {0}})
  rests m off = record { does = λ x h. by x h }
    where
      two : (b : Bool) → b ≡ true → b ≡ false → ⊥
      two true e f = cc
      two false e f = cc

      by : (x : Standing (Unit {0})) → Stands v old g (Any {A = Unit {0}}) x → Stands v old g (Any {A = Unit {0}}) (after x (λ u. m))
      by (On u w) h = absurd (two (v g.live.at) h.tells.live off)
      by (Over e w) h = h

pub set_object : (s : Source) (p : Layout) (n0 n1 : List Node) (g : Ends) (t : Ty) (at : ℕ) (to from : Sets) (old new : List Location) (r : Val) → is_scalar t ≡ false → Grown n0 n1
    → Always n0 (λ choice v. Points v to.pairs.items (at + 1)) → DoesCopy s p n1 g t to from old new r → DoesSet s p n1 g t at (Set from) old new
set_object s p n0 n1 g t at to from old new r object grown points copied = record {
  top = copied.top;
  same = copied.same;
  does = λ choice v runs typed bits temps turn c good.
      subst (λ (m : Run (Unit {0})). Does v old g m new g (Any {A = Unit {0}})) (object_is s p bits temps turn t at object c)
      (copies s p bits temps turn v g old new at (Pointer (at + 1)) c (GoodFor v g p Place' t r) there
      (copied.does choice v runs bits temps turn (Pointer (at + 1)) c
      (points.holds choice v (grown.runs choice v runs), λ live. place typed)
      (subst (λ (w : Want). GoodFor v g p w t (Set from) c) (wants_place t object) good)));
}
  where
    there : place_of (Pointer (at + 1)) ≡ at
    there = omega arith

    place : has_type (location p at) t ≡ true → IsPlaceOf p t (Pointer (at + 1))
    place typed = record {
      pointer = ap (λ k. Pointer (k + 1)) (sym there);
      stands = inl (subst (λ (k : ℕ). has_type (location p k) t ≡ true) (sym there) typed);
    }

-- what is no pointer leads to no object, so no run goes on with it
pub set_nothing : (s : Source) (p : Layout) (ns : List Node) (g : Ends) (t : Ty) (at : ℕ) (val : Val) (l : List Location) → is_scalar t ≡ false → locations_top l ≤ length ns
    → ((v : ℕ → Bool) (target : ℕ) → Meets v val (Pointer target) → ⊥) → DoesSet s p ns g t at val l l
set_nothing s p ns g t at val l object top none = record {
  top = top;
  same = refl;
  does = λ choice v runs typed bits temps turn c good.
      rests s p bits temps turn v g l l at (set_to (env_of s p bits temps turn) t at c)
      (off v (v g.live.at) refl c (subst (λ (w : Want). GoodFor v g p w t val c) (wants_place t object) good));
}
  where
    off : (v : ℕ → Bool) (b : Bool) → v g.live.at ≡ b → (c : Cell) → GoodFor v g p Place' t val c → v g.live.at ≡ false
    off v false e c good = e
    off v true e c good = absurd (none v (place_of c + 1) (subst (Meets v val) ((good.1 e).pointer) good.0))

pub word_none : (w : Words) (v : ℕ → Bool) (target : ℕ) → Meets v (Word w) (Pointer target) → ⊥
word_none w v target h = h

pub unit_none : (v : ℕ → Bool) (target : ℕ) → Meets v Empty (Pointer target) → ⊥
unit_none v target h = h
