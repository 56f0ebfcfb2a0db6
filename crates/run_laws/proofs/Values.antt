-- Steps on values and places.
use Rattle.std.proofs.Common.{ℕ, zero, suc, ◌-◌, ◌≤◌, ◌<◌, Bool, not, List, [], ◌∷◌, length, arith}
use Rattle.std.specs.Prelude.{Option, Some, None}
use Rattle.sc_base.specs.declared.pos.Pos.{Pos}
use Rattle.sc_base.specs.declared.pos.NameId.{NameId}
use Rattle.sc_tree.specs.declared.op.BinaryOp.{BinaryOp}
use Rattle.sc_tree.specs.declared.op.UnaryOp.{UnaryOp}
use Rattle.sc_tree.specs.declared.op.Step.{Step}
use Rattle.run_store.specs.declared.Flag.{Flag}
use Rattle.run_store.specs.declared.Flag.TheVariants as flag
use Rattle.run_store.specs.Concrete.{Cell, Number, Pointer, Nothing}
use Rattle.sum_rows.specs.declared.path.Step.TheVariants as step
use Rattle.sum_rows.specs.declared.report.What.{What}
use Rattle.sc_world.specs.declared.run.Reason.TheVariants as reason
use Rattle.sc_typed.specs.Arith.{computed, takes}
use Rattle.sc_world.specs.Tree.{Ty, is_integer, is_pointer, is_bool, int_bits, has_sign, promoted_type}
use Rattle.sc_world.specs.Source.{Source}
use Rattle.sc_world.specs.Layout.{Layout, location, is_stub, has_type, part}
use Rattle.sc_world.specs.World.{World, Env, target_of, load, mark, has_mark, root_of, store, state_of, set_state, event, not_freed, reach_from, reach, dereference, states}
use Rattle.sc_world.specs.Eval.{Want, Value, Place', scalar_at, wanted, place_of, kept_place, number_to, convert, not_taken, on_numbers, operated, signed_as, one_step, counted, load_all, store_all, cells_of, copy, part_or, member, element_or, element, first_element, first_arg}
use Rattle.run_laws.proofs.Steps.{Whatever, Leads, chain, gives, stops, either, requires, IsPlace, Inside, Rules}
use Rattle.run_laws.proofs.Places.{IfPlace, ArePlaces, AreInside, part_place, zero_place, null_inside, number_inside, nothing_inside, pointer_inside, place_inside, if_inside, or_itself_place, cells_places}

module _ (s : Source) (p : Layout) (choice : List Bool) (temps : List Cell) (P : World → Type 0) (r : Rules s p temps P) where
  abbrev pub tree : ℕ → Env
  tree t = record { source = s; layout = p; choice = choice; temps = temps; turn = t }

  -- The store.

  pub loads : (at : ℕ) → Leads P (Inside p) (load at)
  loads at = record { by = λ w h. (h, r.loads w h at) }

  pub stores : (at : ℕ) (c : Cell) → IsPlace p at → Inside p c → Leads P Whatever (store at c)
  stores at c ha hc = record { by = λ w h. (r.marks _ (r.puts w h at ha c hc) at flag.Written, tt) }

  pub marks : (at : ℕ) (f : Flag) → Leads P Whatever (mark at f)
  marks at f = record { by = λ w h. (r.marks w h at f, tt) }

  pub asks : (at : ℕ) (f : Flag) → Leads P Whatever (has_mark at f)
  asks at f = record { by = λ w h. (h, tt) }

  pub tells : (q : Pos) (x : What) → Leads P Whatever (event q x)
  tells q x = record { by = λ w h. (r.events w h _, tt) }

  pub state_asked : (t at : ℕ) → Leads P Whatever (state_of (tree t) at)
  state_asked t at = record { by = λ w h. (h, tt) }

  pub state_set : (t at k : ℕ) → k < states s → Leads P Whatever (set_state (tree t) at k)
  state_set t at k less = record { by = λ w h. (r.sets w h at k less, tt) }

  -- Where pointers lead.

  frees_not : (t at : ℕ) → Leads P Whatever (not_freed (tree t) at)
  frees_not t at = chain P (asks (root_of (tree t) at) flag.Freed) (λ b h. requires P (not b) reason.Freed)

  reach_at : (t target : ℕ) → target ≤ suc (length p.locations - 1) → Leads P (IsPlace p) (reach_from (tree t) target)
  reach_at t zero h = stops P
  reach_at t (suc at) h =
      chain P (requires P (not (is_stub (location p at))) reason.Reach)
      (λ _ _. chain P (frees_not t at) (λ _ _. gives P (omega (arith, h))))

  pub reaches : (t : ℕ) (c : Cell) → Inside p c → Leads P (IsPlace p) (reach (tree t) c)
  reaches t c h = reach_at t (target_of c) h.within

  pub dereferences : (t : ℕ) (y : Ty) (c : Cell) → Inside p c → Leads P (IsPlace p) (dereference (tree t) y c)
  dereferences t y c h =
      chain P (reaches t c h) (λ at ha. chain P (requires P (has_type (location p at) y) reason.Type) (λ _ _. gives P ha))

  -- What is wanted of a place.

  pub scalars : (at : ℕ) (y : Ty) → IsPlace p at → Leads P (Inside p) (scalar_at at y)
  scalars at y h = either P _ (loads at) (gives P (pointer_inside p at h))

  pub wants : (want : Want) (y : Ty) (at : ℕ) → IsPlace p at → Leads P (Inside p) (wanted want y at)
  wants Value y at h = scalars at y h
  wants Place' y at h = gives P (pointer_inside p at h)

  pub wants_kept : (want : Want) (y : Ty) (c : Cell) → Inside p c → Leads P (Inside p) (kept_place want y c)
  wants_kept Value y c h = scalars (place_of c) y (place_inside p c h)
  wants_kept Place' y c h = gives P h

  -- Conversions and operators.

  number_converted : (t : ℕ) (from to : Ty) (n : ℕ) → Inside p (number_to (tree t) from to n)
  number_converted t from to n =
      if_inside p (is_bool to) _ _ (number_inside p _ _)
      (if_inside p (is_integer to) _ _ (number_inside p _ _)
      (if_inside p (is_pointer to) _ _ (null_inside p) (nothing_inside p)))

  pub converted : (t : ℕ) (from to : Ty) (c : Cell) → Inside p c → Inside p (convert (tree t) from to c)
  converted t from to (Number w n) h = number_converted t from to n
  converted t from to (Pointer q) h =
      if_inside p (is_bool to) _ _ (number_inside p _ _) (if_inside p (is_pointer to) _ _ h (nothing_inside p))
  converted t from to Nothing h = h

  numbers_operated : (t : ℕ) (o : BinaryOp) (y z : Ty) (m n : ℕ) → Leads P (Inside p) (on_numbers (tree t) o y z m n)
  numbers_operated t o y z m n =
      chain P (requires P (takes o (int_bits s.widths y) (has_sign y) m n) (not_taken o))
      (λ _ _. gives P (number_inside p (int_bits s.widths z) (computed o (int_bits s.widths y) (has_sign y) m n)))

  pub operates : (t : ℕ) (o : BinaryOp) (y z : Ty) (a b : Cell) → Leads P (Inside p) (operated (tree t) o y z a b)
  operates t o y z (Number v m) (Number w n) = numbers_operated t o y z m n
  operates t o y z (Pointer q) (Pointer q') = gives P (number_inside p _ _)
  operates t o y z (Number v m) (Pointer q') = gives P (nothing_inside p)
  operates t o y z (Number v m) Nothing = gives P (nothing_inside p)
  operates t o y z (Pointer q) (Number w n) = gives P (nothing_inside p)
  operates t o y z (Pointer q) Nothing = gives P (nothing_inside p)
  operates t o y z Nothing b = gives P (nothing_inside p)

  pub signs : (t : ℕ) (o : UnaryOp) (y : Ty) (c : Cell) → Inside p c → Inside p (signed_as (tree t) o y c)
  signs t o y (Number w n) h = number_inside p _ _
  signs t o y (Pointer q) h = h
  signs t o y Nothing h = h

  pub counts : (t : ℕ) (d : Step) (y : Ty) (c : Cell) → Leads P (Inside p) (counted (tree t) d y c)
  counts t d y c =
      chain P
      (operates t (one_step d) (promoted_type y) (promoted_type y) (convert (tree t) y (promoted_type y) c)
      (Number (int_bits s.widths (promoted_type y)) 1))
      (λ v h. gives P (converted t (promoted_type y) y v h))

  -- Structs.

  pub loads_all : (ks : List ℕ) → Leads P (AreInside p) (load_all ks)
  loads_all [] = gives P tt
  loads_all (k ∷ ks) = chain P (loads k) (λ c hc. chain P (loads_all ks) (λ cs hs. gives P {a = c ∷ cs} (hc, hs)))

  pub stores_all : (ks : List ℕ) (cs : List Cell) → ArePlaces p ks → AreInside p cs → Leads P Whatever (store_all ks cs)
  stores_all [] cs hk hc = gives P tt
  stores_all (k ∷ ks) [] hk hc = gives P tt
  stores_all (k ∷ ks) (c ∷ cs) hk hc =
      chain P (stores k c hk.0 hc.0) (λ _ _. stores_all ks cs hk.1 hc.1)

  pub copies : (t from to : ℕ) → Leads P Whatever (copy (tree t) from to)
  copies t from to = chain P (loads_all (cells_of p from)) (λ cs hs. stores_all (cells_of p to) cs (cells_places p to) hs)

  -- Places.

  part_found : (o : Option ℕ) → IfPlace p o → Leads P (IsPlace p) (part_or o)
  part_found None h = gives P (zero_place p)
  part_found (Some at) h = gives P h

  pub members : (t : ℕ) (n : NameId) (at : ℕ) → Leads P (IsPlace p) (member (tree t) n at)
  members t n at = part_found (part p at (step.Field n)) (part_place p at (step.Field n))

  element_found : (o : Option ℕ) → IfPlace p o → Leads P (IsPlace p) (element_or o)
  element_found None h = stops P
  element_found (Some at) h = gives P h

  pub elements : (t at n : ℕ) → Leads P (IsPlace p) (element (tree t) at n)
  elements t at n = element_found (part p at (step.Elem n)) (part_place p at (step.Elem n))

  pub first_inside : (t : ℕ) (c : Cell) → Inside p c → Inside p (first_element (tree t) c)
  first_inside t c h =
      pointer_inside p _
      (or_itself_place p (place_of c) (part p (place_of c) (step.Elem 0)) (place_inside p c h) (part_place p (place_of c) (step.Elem 0)))

  pub first_arg_inside : (vs : List Cell) → AreInside p vs → Inside p (first_arg vs)
  first_arg_inside [] h = null_inside p
  first_arg_inside (v ∷ vs) h = h.0
