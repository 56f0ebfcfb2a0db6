-- What calls give by the choice.
use Rattle.std.proofs.Common.{◌≡◌, ℕ, ◌+◌, ◌≤◌, suc, Bool, true, false, Option, Some, None, List, length, if◌then◌else◌, inl, refl, sym, ◌∙◌, ap, subst, arith}
use Rattle.bit_net.specs.declared.nodes.Node.{Node}
use Rattle.bit_net.specs.Runs.{Grown, Always}
use Rattle.bit_words.specs.declared.Word.{Word as Words}
use Rattle.gl_sets.specs.declared.pairs.Pair.{Pair}
use Rattle.gl_sets.specs.declared.sets.Set.{Set as Sets}
use Rattle.gl_sets.specs.Guards.{Points}
use Rattle.gl_sets.specs.Sets.{IsGood, IsJoin}
use Rattle.gl_store.specs.declared.values.Val.{Val}
use Rattle.gl_store.specs.declared.values.Val.TheVariants.{Word, Set, Unit as Empty}
use Rattle.gl_store.specs.declared.stores.Location.{Location}
use Rattle.gl_store.specs.Meets.{Meets, locations_top}
use Rattle.run_store.specs.declared.Flag.TheVariants as flag
use Rattle.run_store.specs.Concrete.{Cell, Number, Pointer, Nothing, Numbers, Pointers, NoCell}
use Rattle.sc_world.specs.Tree.{Ty, Ptr, is_integer, is_pointer, int_bits}
use Rattle.sc_world.specs.Source.{Source}
use Rattle.sc_world.specs.Layout.{Layout, Occurrence}
use Rattle.sc_world.specs.World.{World, ◌>>=◌, goes_on, done, Env, bit_at, number_at, null, target_of, target_or_null, pointer_to, chosen_cell}
use Rattle.sc_world.specs.Known.{escape_at}
use Rattle.sc_world.specs.Eval.{allocate, escape_all, escaped_object, mark_object}
use Rattle.gate_runs.specs.declared.ends.Ends.{Ends}
use Rattle.gate_runs.specs.Stands.{Any}
use Rattle.gate_runs.proofs.Bind.{bind, does_done}
use Rattle.gate_steps.proofs.Known.{does_same}
use Rattle.gate_places.specs.Places.{env_of}
use Rattle.gate_acts.specs.Acts.{IsBit, IsNumber, IsPointer}
use Rattle.gate_objects.specs.Escapes.{mark_target, MarksTarget, EscapesTarget, DoesEscapeAll}
use Rattle.gate_objects.specs.Given.{DoesAllocate, given, DoesGive, DoesUnknown}

-- The pointer that a bit gives.

both_null : (b : Bool) → 0 ≡ target_of (if b then target_or_null None else null)
both_null true = refl
both_null false = refl

chosen_target : (b : Bool) (at : ℕ) → (if b then at + 1 else 0) ≡ target_of (if b then target_or_null (Some at) else null)
chosen_target true at = refl
chosen_target false at = refl

pub object_none : (p : Layout) (ns : List Node) (bit : ℕ) (pairs : List Pair) → IsGood ns pairs → Always ns (λ choice v. Points v pairs 0) → IsPointer p ns bit None pairs
object_none p ns bit pairs good points =
    record {
      below = good.below;
      points = λ bits v runs has. subst (λ t. Points v pairs t) (both_null (bit_at bits bit)) (points.holds (bit_at bits) v runs);
    }

pub object_some : (p : Layout) (old ns : List Node) (bit at target chosen : ℕ) (there none joined : List Pair) → Grown old ns → target ≡ at + 1 → IsBit p old bit chosen
    → Always old (λ choice v. Points v there target) → Always old (λ choice v. Points v none 0) → IsJoin ns chosen there none joined → IsPointer p ns bit (Some at) joined
object_some p old ns bit at target chosen there none joined grown next one to_it to_null join =
    record {
      below = join.below;
      points = λ bits v runs has.
          (let before = grown.runs (bit_at bits) v runs in
          let is : (if v chosen then target else 0) ≡ target_of (chosen_cell bits Pointers bit (Some at)) =
          ap (λ b. if b then target else 0) (one.value bits v before has) ∙ ap (λ n. if bit_at bits bit then n else 0) next ∙ chosen_target (bit_at bits bit) at in
          subst (λ t. Points v joined t) is
          (join.points (bit_at bits) v runs target 0 (to_it.holds (bit_at bits) v before) (to_null.holds (bit_at bits) v before)));
    }

-- it is the cell of this target
is_pointer_cell : (b : Bool) (object : Option ℕ) → Pointer (target_of (if b then target_or_null object else null)) ≡ (if b then target_or_null object else null)
is_pointer_cell true None = refl
is_pointer_cell true (Some at) = refl
is_pointer_cell false object = refl

-- An allocation.

next_is_suc : (at : ℕ) → at + 1 ≡ suc at
next_is_suc at = omega arith

allocated_same : (b : Bool) (object : Option ℕ) (w : World)
    → goes_on (mark_target (target_of (if b then target_or_null object else null)) flag.Allocated w) (λ u. done (if b then target_or_null object else null))
    ≡ (if b then (mark_object object >>= λ u. done (target_or_null object)) else done null) w
allocated_same true None w = refl
allocated_same true (Some at) w = ap (λ k. goes_on (mark_target k flag.Allocated w) (λ u. done (pointer_to at))) (next_is_suc at)
allocated_same false object w = refl

pub does_allocate : (p : Layout) (n1 ns : List Node) (gates : Ends) (o : Occurrence) (old new : List Location) (set : Sets) → Grown n1 ns
    → IsPointer p n1 o.bit o.object set.pairs.items → MarksTarget ns gates flag.Allocated set.pairs.items old new → DoesAllocate p ns gates o old new (Set set)
does_allocate p n1 ns gates o old new set grown is marks =
    record {
      below = omega (arith, is.below, grown.longer);
      kind = refl;
      top = marks.top;
      same = marks.same;
      does = λ bits v runs few s temps turn.
          let env = env_of s p bits temps turn in
          let c : Cell = chosen_cell bits Pointers o.bit o.object in
          let points = is.points bits v (grown.runs (bit_at bits) v runs) (inl few) in
          does_same v old new gates gates (mark_target (target_of c) flag.Allocated >>= λ u. done c) (allocate env o) (Meets v (Set set))
          (allocated_same (bit_at bits o.bit) o.object)
          (bind v old new new gates gates gates (mark_target (target_of c) flag.Allocated) (λ u. done c) (Any {A = Unit {0}}) (Meets v (Set set))
          (marks.does (bit_at bits) v runs (target_of c) points)
          (λ u good. does_done v new gates c (Meets v (Set set)) (subst (λ x. Meets v (Set set) x) (is_pointer_cell (bit_at bits o.bit) o.object) points)));
    }

-- The kind of a type.

integer_no_pointer : (t : Ty) → is_integer t ≡ true → is_pointer t ≡ false
integer_no_pointer (Ptr t) e = cc
integer_no_pointer _ e = refl

pointer_no_integer : (t : Ty) → is_pointer t ≡ true → is_integer t ≡ false
pointer_no_integer (Ptr t) e = refl
pointer_no_integer _ e = cc

-- What a call gives of which nothing is known.

pub given_number : (s : Source) (p : Layout) (ns : List Node) (gates : Ends) (o : Occurrence) (t : Ty) (l : List Location) (width : ℕ) (word : Words) → is_integer t ≡ true
    → locations_top l ≤ length ns → width ≡ int_bits s.widths t → IsNumber p ns o.bit width word.bits.items → DoesGive s p ns gates o t l l (Word word)
given_number s p ns gates o t l width word integer top e is =
    let wide : length word.bits.items ≡ int_bits s.widths t = is.wide ∙ e in
    record {
      below = is.below;
      kind =
          ap Numbers wide
          ∙ sym (ap (λ b. if b then Pointers else (if is_integer t then Numbers (int_bits s.widths t) else NoCell)) (integer_no_pointer t integer)
          ∙ ap (λ b. if b then Numbers (int_bits s.widths t) else NoCell) integer);
      top = top;
      same = refl;
      does = λ bits v runs few temps turn.
          let env = env_of s p bits temps turn in
          let c : Cell = Number (int_bits s.widths t) (number_at bits o.bit (int_bits s.widths t)) in
          let value = is.value bits v runs (inl few) ∙ ap (λ k. number_at bits o.bit k) e in
          does_same v l l gates gates (done c) (given env o t) (Meets v (Word word))
          (λ w. sym (ap (λ b. (if b then done c else (if is_pointer t
          then (if bit_at bits o.bit then escaped_object env (target_or_null o.object) else done null) else done Nothing)) w) integer))
          (does_done v l gates c (Meets v (Word word)) (record { wide = wide; value = value }));
    }

escaped_same : (env : Env) (b : Bool) (object : Option ℕ) (w : World)
    → goes_on (escape_at env (target_of (if b then target_or_null object else null)) w) (λ u. done (if b then target_or_null object else null))
    ≡ (if b then escaped_object env (target_or_null object) else done null) w
escaped_same env true object w = refl
escaped_same env false object w = refl

pub given_pointer : (s : Source) (p : Layout) (n1 ns : List Node) (gates : Ends) (o : Occurrence) (t : Ty) (old new : List Location) (set : Sets) → is_pointer t ≡ true
    → Grown n1 ns → IsPointer p n1 o.bit o.object set.pairs.items → EscapesTarget p ns gates set.pairs.items old new → DoesGive s p ns gates o t old new (Set set)
given_pointer s p n1 ns gates o t old new set pointer grown is escapes =
    record {
      below = omega (arith, is.below, grown.longer);
      kind = sym (ap (λ b. if b then Pointers else (if is_integer t then Numbers (int_bits s.widths t) else NoCell)) pointer);
      top = escapes.top;
      same = escapes.same;
      does = λ bits v runs few temps turn.
          let env = env_of s p bits temps turn in
          let c : Cell = chosen_cell bits Pointers o.bit o.object in
          let number : Cell = Number (int_bits s.widths t) (number_at bits o.bit (int_bits s.widths t)) in
          let points = is.points bits v (grown.runs (bit_at bits) v runs) (inl few) in
          does_same v old new gates gates (escape_at env (target_of c) >>= λ u. done c) (given env o t) (Meets v (Set set))
          (λ w. escaped_same env (bit_at bits o.bit) o.object w
          ∙ sym (ap (λ b. (if b then done number else (if is_pointer t
          then (if bit_at bits o.bit then escaped_object env (target_or_null o.object) else done null) else done Nothing)) w) (pointer_no_integer t pointer)
          ∙ ap (λ b. (if b then (if bit_at bits o.bit then escaped_object env (target_or_null o.object) else done null) else done Nothing) w) pointer))
          (bind v old new new gates gates gates (escape_at env (target_of c)) (λ u. done c) (Any {A = Unit {0}}) (Meets v (Set set))
          (escapes.does (bit_at bits) v runs s bits temps turn (target_of c) points)
          (λ u good. does_done v new gates c (Meets v (Set set)) (subst (λ x. Meets v (Set set) x) (is_pointer_cell (bit_at bits o.bit) o.object) points)));
    }

pub given_none : (s : Source) (p : Layout) (ns : List Node) (gates : Ends) (o : Occurrence) (t : Ty) (l : List Location) → is_integer t ≡ false → is_pointer t ≡ false
    → locations_top l ≤ length ns → DoesGive s p ns gates o t l l Empty
given_none s p ns gates o t l integer pointer top =
    record {
      below = omega arith;
      kind =
          sym (ap (λ b. if b then Pointers else (if is_integer t then Numbers (int_bits s.widths t) else NoCell)) pointer
          ∙ ap (λ b. if b then Numbers (int_bits s.widths t) else NoCell) integer);
      top = top;
      same = refl;
      does = λ bits v runs few temps turn.
          let env = env_of s p bits temps turn in
          let number : Cell = Number (int_bits s.widths t) (number_at bits o.bit (int_bits s.widths t)) in
          does_same v l l gates gates (done Nothing) (given env o t) (Meets v Empty)
          (λ w. sym (ap (λ b. (if b then done number else (if is_pointer t
          then (if bit_at bits o.bit then escaped_object env (target_or_null o.object) else done null) else done Nothing)) w) integer
          ∙ ap (λ b. (if b then (if bit_at bits o.bit then escaped_object env (target_or_null o.object) else done null) else done Nothing) w) pointer))
          (does_done v l gates Nothing (Meets v Empty) tt);
    }

pub does_unknown : (s : Source) (p : Layout) (n1 ns : List Node) (gates : Ends) (o : Occurrence) (t : Ty) (vals : List Val) (l0 l1 l2 : List Location) (r : Val) → Grown n1 ns
    → DoesEscapeAll p n1 gates vals l0 l1 → DoesGive s p ns gates o t l1 l2 r → DoesUnknown s p ns gates o t vals l0 l2 r
does_unknown s p n1 ns gates o t vals l0 l1 l2 r grown escapes gives =
    record {
      below = gives.below;
      kind = gives.kind;
      top = gives.top;
      same = gives.same ∙ escapes.same;
      does = λ bits v runs few temps turn cs met.
          let env = env_of s p bits temps turn in
          bind v l0 l1 l2 gates gates gates (escape_all env cs) (λ u. given env o t) (Any {A = Unit {0}}) (Meets v r)
          (escapes.does (bit_at bits) v (grown.runs (bit_at bits) v runs) s bits temps turn cs met)
          (λ u good. gives.does bits v runs few temps turn);
    }
