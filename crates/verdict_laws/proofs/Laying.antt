-- How a layout grows: what each step adds, and that what is there stays.
use Rattle.std.proofs.Common.{◌≡◌, ℕ, ◌+◌, ◌<◌, ◌≤◌, ◌&&◌, Bool, true, false, [], ◌∷◌, ◌++◌, length, refl, sym, ap, subst, ◌∙◌, ⊎_elim, arith}
use Rattle.std.proofs.lemmas.Bool.{cases_eq, ltb-true, true≢false}
use Rattle.std.proofs.lemmas.List.{get_or_append_left, get_or_push, length_push, get_or-set_same, get_or-set_other, length-set}
use Rattle.std.specs.Prelude.{Option, Some, None, Ok, Err, nat_lt, slice_index_or, slice_set, if◌then◌else◌}
use Rattle.sc_base.specs.declared.skip.LimitKind.TheVariants as limit
use Rattle.sc_world.specs.declared.run.Origin.{Origin}
use Rattle.sc_world.specs.Tree.{Ty}
use Rattle.sc_world.specs.Build.{goes_on, done}
use Rattle.sc_world.specs.Source.{Source}
use Rattle.sc_world.specs.Layout.{Layout, Location, location, nowhere}
use Rattle.sc_world.specs.Objects.{Chosen, add, stub, bits_if, push, gives_cells, gives_states, is_cell, cell_bits, state_bits, root_or, set_target}
use Rattle.verdict_laws.proofs.Steps.{Post}

abbrev pub len : Layout → ℕ
len p = length p.locations

-- a location but for the object that it points to
abbrev pub bare : Location → Location
bare l = record l { target = None }

-- what is there stays, but for the objects that pointers point to
pub record Grows (p q : Layout) : Type 0 where
  pub longer : len p ≤ len q
  pub same : (i : ℕ) → i < len p → bare (location p i) ≡ bare (location q i)

pub grows_refl : (p : Layout) → Grows p p
grows_refl p = record { longer = omega arith; same = λ i h. refl }

pub grows_trans : (p q r : Layout) → Grows p q → Grows q r → Grows p r
grows_trans p q r g h = record {
  longer = omega (arith, g.longer, h.longer);
  same = λ i less. g.same i less ∙ h.same i (omega (arith, less, g.longer));
}

-- one location more
pub record IsPushed (p : Layout) (l : Location) (q : Layout) : Type 0 where
  pub room : len p < 256
  pub locations : q.locations ≡ p.locations ++ l ∷ []

pub pushed_len : (p q : Layout) (l : Location) → IsPushed p l q → len q ≡ len p + 1
pushed_len p q l is = ap length is.locations ∙ length_push p.locations l

pub pushed_at : (p q : Layout) (l : Location) → IsPushed p l q → location q (len p) ≡ l
pushed_at p q l is =
    ap (λ ls. slice_index_or ls (len p) nowhere) is.locations ∙ get_or_push p.locations l nowhere (len p) refl

pub pushed_grows : (p q : Layout) (l : Location) → IsPushed p l q → Grows p q
pushed_grows p q l is = record {
  longer = omega (arith, pushed_len p q l is);
  same = λ i less.
      ap bare (sym (ap (λ ls. slice_index_or ls i nowhere) is.locations ∙ get_or_append_left p.locations (l ∷ []) nowhere i less));
}

-- the location that `add` lays
pub record IsAdded (c : Chosen) (root : Option ℕ) (t : Ty) (o : Origin) (p : Layout) (at : ℕ) (q : Layout) : Type 0 where
  pub here : at ≡ len p
  pub l : Location
  pub is : IsPushed p l q
  pub origin : l.origin ≡ o
  pub root_is : l.root ≡ root_or root (len p)
  pub type : l.type ≡ Some t
  pub bit : gives_cells c ≡ false → l.bit ≡ None
  pub state : gives_states c ≡ false → l.state ≡ None

add_cases : (c : Chosen) (root : Option ℕ) (t : Ty) (o : Origin) (p : Layout) (w v : ℕ) (room has cells states : Bool)
    → nat_lt (len p) 256 ≡ room → (gives_cells c ≡ false → cells && has ≡ false) → (gives_states c ≡ false → states ≡ false)
    → Post (IsAdded c root t o p)
    (goes_on (if room then Ok (len p, p) else Err limit.Locations)
    (λ at. λ p1. goes_on (bits_if (cells && has) w p1)
    (λ bit. λ p2. goes_on (bits_if states v p2)
    (λ state. λ p3. goes_on (push (record { type = Some t; origin = o; root = root_or root at; bit = bit; state = state; target = None }) p3)
    (λ u. done at)))))
add_cases c root t o p w v false has cells states h x y = tt
add_cases c root t o p w v true true true true h x y = record {
  here = refl;
  l = _;
  is = record { room = ltb-true (len p) 256 h; locations = refl };
  origin = refl;
  root_is = refl;
  type = refl;
  bit = λ e. absurd (true≢false (x e));
  state = λ e. absurd (true≢false (y e));
}
add_cases c root t o p w v true true true false h x y = record {
  here = refl;
  l = _;
  is = record { room = ltb-true (len p) 256 h; locations = refl };
  origin = refl;
  root_is = refl;
  type = refl;
  bit = λ e. absurd (true≢false (x e));
  state = λ e. refl;
}
add_cases c root t o p w v true false true true h x y = record {
  here = refl;
  l = _;
  is = record { room = ltb-true (len p) 256 h; locations = refl };
  origin = refl;
  root_is = refl;
  type = refl;
  bit = λ e. refl;
  state = λ e. absurd (true≢false (y e));
}
add_cases c root t o p w v true false true false h x y = record {
  here = refl;
  l = _;
  is = record { room = ltb-true (len p) 256 h; locations = refl };
  origin = refl;
  root_is = refl;
  type = refl;
  bit = λ e. refl;
  state = λ e. refl;
}
add_cases c root t o p w v true has false true h x y = record {
  here = refl;
  l = _;
  is = record { room = ltb-true (len p) 256 h; locations = refl };
  origin = refl;
  root_is = refl;
  type = refl;
  bit = λ e. refl;
  state = λ e. absurd (true≢false (y e));
}
add_cases c root t o p w v true has false false h x y = record {
  here = refl;
  l = _;
  is = record { room = ltb-true (len p) 256 h; locations = refl };
  origin = refl;
  root_is = refl;
  type = refl;
  bit = λ e. refl;
  state = λ e. refl;
}

and_false : (a b : Bool) → a ≡ false → a && b ≡ false
and_false true b h = absurd (true≢false h)
and_false false b h = refl

pub add_lays : (s : Source) (c : Chosen) (root : Option ℕ) (t : Ty) (o : Origin) (p : Layout)
    → Post (IsAdded c root t o p) (add s c root t o p)
add_lays s c root t o p =
    add_cases c root t o p (cell_bits s t) (state_bits s) (nat_lt (len p) 256) (is_cell t) (gives_cells c) (gives_states c) refl
    (λ e. and_false (gives_cells c) (is_cell t) e) (λ e. e)

-- the location of a stub
abbrev pub stub_at : ℕ → Origin → Location
stub_at at o = record { type = None; origin = o; root = at; bit = None; state = None; target = None }

pub record IsStubbed (o : Origin) (p : Layout) (at : ℕ) (q : Layout) : Type 0 where
  pub here : at ≡ len p
  pub is : IsPushed p (stub_at (len p) o) q

stub_cases : (o : Origin) (p : Layout) (room : Bool) → nat_lt (len p) 256 ≡ room
    → Post (IsStubbed o p)
    (goes_on (if room then Ok (len p, p) else Err limit.Locations) (λ at. λ p1. goes_on (push (stub_at at o) p1) (λ u. done at)))
stub_cases o p false h = tt
stub_cases o p true h = record { here = refl; is = record { room = ltb-true (len p) 256 h; locations = refl } }

pub stub_lays : (o : Origin) (p : Layout) → Post (IsStubbed o p) (stub o p)
stub_lays o p = stub_cases o p (nat_lt (len p) 256) refl

-- what a pointer cell points to
pub record IsPut (p : Layout) (at : ℕ) (l : Location) (q : Layout) : Type 0 where
  pub locations : q.locations ≡ slice_set p.locations at l

pub put_len : (p q : Layout) (at : ℕ) (l : Location) → IsPut p at l q → len q ≡ len p
put_len p q at l is = ap length is.locations ∙ length-set p.locations at l

pub target_lays : (at to : ℕ) (p : Layout)
    → Post (λ u q. IsPut p at (record (location p at) { target = Some to }) q) (set_target at to p)
target_lays at to p = record { locations = refl }

pub put_same : (p q : Layout) (at : ℕ) (l : Location) → IsPut p at l q → bare l ≡ bare (location p at)
    → (i : ℕ) → i < len p → bare (location p i) ≡ bare (location q i)
put_same p q at l is e i less =
    ⊎_elim
    (λ (here : i ≡ at).
    sym (ap (λ n. bare (location p n)) (sym here)) ∙ sym e
    ∙ sym (ap bare (ap (λ ls. slice_index_or ls i nowhere) is.locations
    ∙ ap (λ n. slice_index_or (slice_set p.locations at l) n nowhere) here
    ∙ get_or-set_same p.locations at l nowhere (subst (λ n. n < len p) here less))))
    (λ (other : i ≡ at → ⊥).
    sym (ap bare (ap (λ ls. slice_index_or ls i nowhere) is.locations ∙ get_or-set_other p.locations at i l nowhere other)))
    (cases_eq i at)

pub put_grows : (p q : Layout) (at : ℕ) (l : Location) → IsPut p at l q → bare l ≡ bare (location p at) → Grows p q
put_grows p q at l is e = record { longer = omega (arith, put_len p q at l is); same = put_same p q at l is e }
