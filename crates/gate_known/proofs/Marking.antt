-- The mark on what is given.
use Rattle.std.proofs.Common.{◌≡◌, ℕ, suc, ◌+◌, ◌≤◌, nat_eq, Bool, true, false, ◌||◌, if◌then◌else◌, Option, Some, None, List, length, Result, refl, sym, ◌∙◌, ap, subst, arith}
use Rattle.bit_net.specs.declared.nodes.Gate.{Gate}
use Rattle.bit_net.specs.declared.nodes.Node.{Node}
use Rattle.bit_net.specs.Runs.{Runs, Grown, Gives, Always}
use Rattle.bit_words.specs.declared.Word.{Word}
use Rattle.bit_words.specs.Number.{number}
use Rattle.gl_sets.specs.declared.pairs.Pair.{Pair}
use Rattle.gl_sets.specs.Guards.{Points}
use Rattle.gl_sets.specs.Sets.{IsJoin}
use Rattle.gl_store.specs.declared.stores.Location.{Location}
use Rattle.gl_store.specs.Meets.{locations_top}
use Rattle.run_store.specs.declared.Flag.{Flag}
use Rattle.run_store.specs.declared.Flag.TheVariants as flag
use Rattle.run_store.specs.Concrete.{Cell}
use Rattle.sum_rows.specs.declared.row.State.{State}
use Rattle.sum_rows.specs.declared.row.State.TheVariants as state
use Rattle.sc_world.specs.World.{World, Ended, ◌>>=◌, goes_on, done, target_of, target_or_null}
use Rattle.sc_world.specs.Known as known
use Rattle.sc_world.specs.Known.{mark_if, same_state}
use Rattle.gate_runs.specs.declared.ends.Ends.{Ends}
use Rattle.gate_runs.specs.Stands.{Does, Any}
use Rattle.gate_runs.proofs.Bind.{bind, does_done}
use Rattle.gate_steps.proofs.Known.{does_same}
use Rattle.gate_acts.specs.Acts.{IsPointerOf}
use Rattle.gate_objects.specs.Escapes.{MarksTarget, mark_target}
use Rattle.gate_rows.specs.declared.given.Given.{Given}
use Rattle.gate_rows.specs.Given.{is_kind}
use Rattle.gate_known.specs.Marked.{IsShown, MarksGiven, MarksNamed}

-- The target is marked where the bits spell the number.

pub marks_named : (n1 n2 ns : List Node) (gates : Ends) (kind : List Gate) (n when : ℕ) (f : Flag) (object none marked : List Pair) (old new : List Location)
    → Grown n1 n2 → Grown n2 ns → Gives n1 when (λ choice v. nat_eq (number v kind) n) → Always n1 (λ choice v. Points v none 0)
    → IsJoin n2 when object none marked → MarksTarget ns gates f marked old new → MarksNamed ns gates kind n f object old new
marks_named n1 n2 ns gates kind n when f object none marked old new grown1 grown2 is to_null join marks =
    record {
      top = marks.top;
      same = marks.same;
      does = λ choice v runs target points.
          let r2 = grown2.runs choice v runs in
          let r1 = grown1.runs choice v r2 in
          subst (λ (b : Bool). Does v old gates (mark_target (if b then target else 0) f) new gates (Any {A = Unit {0}})) (is.value choice v r1)
          (marks.does choice v runs (if v when then target else 0) (join.points choice v r2 target 0 points (to_null.holds choice v r1)));
    }

-- What is given.

next_is_suc : (at : ℕ) → at + 1 ≡ suc at
next_is_suc at = omega arith

-- the two marks, of which one is made at most
abbrev both_marks : (fresh other : Bool) (target : ℕ) (w : World) → Result (Unit {0}) Ended × World
both_marks fresh other t w =
    goes_on (mark_target (if fresh then t else 0) flag.Allocated w) (λ u. mark_target (if other then t else 0) flag.Escaped)

marks_fresh : (o : Option ℕ) (w : World) → both_marks true false (target_of (target_or_null o)) w ≡ mark_if o state.Fresh w
marks_fresh None w = refl
marks_fresh (Some at) w = ap (λ k. both_marks true false k w) (next_is_suc at)

marks_other : (o : Option ℕ) (w : World) → both_marks false true (target_of (target_or_null o)) w ≡ mark_if o state.Other w
marks_other None w = refl
marks_other (Some at) w = ap (λ k. both_marks false true k w) (next_is_suc at)

marks_no : (o : Option ℕ) (k : State) (t : ℕ) (w : World) → same_state k state.Fresh ≡ false → same_state k state.Other ≡ false
    → both_marks false false t w ≡ mark_if o k w
marks_no None k t w e f = refl
marks_no (Some at) state.Nil t w e f = refl
marks_no (Some at) (state.At n) t w e f = refl
marks_no (Some at) state.Bad t w e f = refl
marks_no (Some at) state.Held t w e f = refl
marks_no (Some at) state.Escaped t w e f = refl
marks_no (Some at) state.Freed t w e f = refl
marks_no (Some at) state.Null t w e f = refl
marks_no (Some at) state.Same t w e f = refl
marks_no (Some at) state.Fresh t w e f = cc
marks_no (Some at) state.Other t w e f = cc

marks_kind : (o : Option ℕ) (k : State) (c : Cell) (w : World) → ((same_state k state.Fresh || same_state k state.Other) ≡ true → c ≡ target_or_null o)
    → both_marks (same_state k state.Fresh) (same_state k state.Other) (target_of c) w ≡ mark_if o k w
marks_kind o state.Fresh c w is = ap (λ x. both_marks true false (target_of x) w) (is refl) ∙ marks_fresh o w
marks_kind o state.Other c w is = ap (λ x. both_marks false true (target_of x) w) (is refl) ∙ marks_other o w
marks_kind o state.Nil c w is = marks_no o state.Nil (target_of c) w refl refl
marks_kind o (state.At n) c w is = marks_no o (state.At n) (target_of c) w refl refl
marks_kind o state.Bad c w is = marks_no o state.Bad (target_of c) w refl refl
marks_kind o state.Held c w is = marks_no o state.Held (target_of c) w refl refl
marks_kind o state.Escaped c w is = marks_no o state.Escaped (target_of c) w refl refl
marks_kind o state.Freed c w is = marks_no o state.Freed (target_of c) w refl refl
marks_kind o state.Null c w is = marks_no o state.Null (target_of c) w refl refl
marks_kind o state.Same c w is = marks_no o state.Same (target_of c) w refl refl

-- no bits say what is given, so it is no object
pub marks_nothing : (ns : List Node) (gates : Ends) (r : Given) (l : List Location) → r.kind ≡ None → locations_top l ≤ length ns → MarksGiven ns gates r l l
marks_nothing ns gates r l is top =
    record {
      top = top;
      same = refl;
      does = λ choice v runs g shown.
          let fresh : false ≡ same_state g.kind state.Fresh = subst (λ k. is_kind v k state.Fresh ≡ same_state g.kind state.Fresh) is shown.fresh in
          let other : false ≡ same_state g.kind state.Other = subst (λ k. is_kind v k state.Other ≡ same_state g.kind state.Other) is shown.other in
          does_same v l l gates gates (done tt) (mark_if g.object g.kind) (Any {A = Unit {0}})
          (λ w. marks_no g.object g.kind 0 w (sym fresh) (sym other))
          (does_done v l gates tt (Any {A = Unit {0}}) tt);
    }

-- the bits say which object it is
marks_object : (n0 n1 ns : List Node) (gates : Ends) (r : Given) (kind : Word) (object : List Pair) (l0 l1 l2 : List Location) → r.kind ≡ Some kind
    → Grown n0 n1 → Grown n1 ns → IsPointerOf n0 r.val object → MarksNamed n1 gates kind.bits.items 1 flag.Allocated object l0 l1
    → MarksNamed ns gates kind.bits.items 2 flag.Escaped object l1 l2 → MarksGiven ns gates r l0 l2
marks_object n0 n1 ns gates r kind object l0 l1 l2 is grown1 grown2 leads first second =
    record {
      top = second.top;
      same = second.same ∙ first.same;
      does = λ choice v runs g shown.
          let r1 = grown2.runs choice v runs in
          let points = leads.points choice v (grown1.runs choice v r1) g.value shown.value in
          let t : ℕ = target_of g.value in
          let number : ℕ = number v kind.bits.items in
          let fresh : nat_eq number 1 ≡ same_state g.kind state.Fresh = subst (λ k. is_kind v k state.Fresh ≡ same_state g.kind state.Fresh) is shown.fresh in
          let other : nat_eq number 2 ≡ same_state g.kind state.Other = subst (λ k. is_kind v k state.Other ≡ same_state g.kind state.Other) is shown.other in
          does_same v l0 l2 gates gates
          (mark_target (if nat_eq number 1 then t else 0) flag.Allocated >>= λ u. mark_target (if nat_eq number 2 then t else 0) flag.Escaped)
          (mark_if g.object g.kind) (Any {A = Unit {0}})
          (λ w. ap (λ b. both_marks b (nat_eq number 2) t w) fresh ∙ ap (λ b. both_marks (same_state g.kind state.Fresh) b t w) other
          ∙ marks_kind g.object g.kind g.value w shown.object)
          (bind v l0 l1 l2 gates gates gates (mark_target (if nat_eq number 1 then t else 0) flag.Allocated)
          (λ u. mark_target (if nat_eq number 2 then t else 0) flag.Escaped) (Any {A = Unit {0}}) (Any {A = Unit {0}})
          (first.does choice v r1 t points) (λ u good. second.does choice v runs t points));
    }

-- the same with the bits as slices
pub marks_bits : (n0 n1 ns : List Node) (gates : Ends) (r : Given) (kind : Word) (ks qs : List Gate) (object : List Pair) (l0 l1 l2 : List Location) → r.kind ≡ Some kind
    → ks ≡ kind.bits.items → qs ≡ kind.bits.items → Grown n0 n1 → Grown n1 ns → IsPointerOf n0 r.val object
    → MarksNamed n1 gates ks 1 flag.Allocated object l0 l1 → MarksNamed ns gates qs 2 flag.Escaped object l1 l2 → MarksGiven ns gates r l0 l2
marks_bits n0 n1 ns gates r kind ks qs object l0 l1 l2 is same again grown1 grown2 leads first second =
    marks_object n0 n1 ns gates r kind object l0 l1 l2 is grown1 grown2 leads
    (subst (λ (bs : List Gate). MarksNamed n1 gates bs 1 flag.Allocated object l0 l1) same first)
    (subst (λ (bs : List Gate). MarksNamed ns gates bs 2 flag.Escaped object l1 l2) again second)
