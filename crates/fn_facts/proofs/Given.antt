-- What the choice gave at entry.
use Rattle.std.proofs.Common.{◌≡◌, ℕ, zero, suc, ◌+◌, ◌-◌, ◌<◌, nat_eq, Bool, true, false, not, ◌&&◌, List, length, inl, refl, sym, ◌∙◌, ap, arith}
use Rattle.std.specs.Prelude.{Option, Some, None, Result, if◌then◌else◌}
use Rattle.std.specs.List.{list_all}
use Rattle.std.proofs.lemmas.Bool.{ne_eqb}
use Rattle.bit_net.specs.declared.nodes.Node.{Node}
use Rattle.bit_net.specs.Runs.{Grown, Gives}
use Rattle.run_store.specs.Concrete.{Cell, Kind, Numbers, Pointers, NoCell, blank}
use Rattle.sc_world.specs.declared.run.Origin.{Origin}
use Rattle.sc_world.specs.declared.run.Origin.TheVariants as origin
use Rattle.sc_world.specs.Tree.{Ty, is_integer, is_pointer, int_bits}
use Rattle.sc_world.specs.Layout.{location, location_of}
use Rattle.sc_world.specs.Paths.{cells_on, cells_from}
use Rattle.sc_world.specs.World.{World, Ended, bit_at, number_at, is_true, chosen_cell, entry_value, kind_of_type, target_or_null, null}
use Rattle.sc_world.specs.Shows.{Over}
use Rattle.run_world.specs.Seen.{env}
use Rattle.gate_entry.specs.Entry.{IsBit, IsChosenNumber}
use Rattle.fn_facts.specs.declared.around.Around.{Around}
use Rattle.fn_facts.specs.declared.entry.Above.{Above}
use Rattle.fn_facts.specs.declared.entry.Above.TheVariants as above_by
use Rattle.fn_facts.specs.Seen.{over, reached_from, was_true, is_chosen, is_given, met_by, met_from, is_met}
use Rattle.fn_facts.specs.Showing.{Shows}

-- Cells.

-- whether a cell is neither 0 nor null, of a type that is a pointer or not, an integer or not
truth_of : (choice : List Bool) (pointer integer : Bool) (width bit : ℕ) (own : Option ℕ) → Bool
truth_of choice pointer integer width bit own =
    is_true (chosen_cell choice (if pointer then Pointers else (if integer then Numbers width else NoCell)) bit own)

truth_is : (a : Around) (bits : List Bool) (r : Result Cell Ended) (w : World) (y : Ty) (bit : ℕ) (own : Option ℕ) (pointer integer : Bool)
    → is_pointer y ≡ pointer → is_integer y ≡ integer
    → is_chosen (over a bits r w) (Some y) bit own ≡ truth_of bits pointer integer (int_bits (env a.here).source.widths y) bit own
unfolding is_chosen truth_of
truth_is a bits r w y bit own pointer integer p i =
    ap (λ b. truth_of bits b (is_integer y) (int_bits (env a.here).source.widths y) bit own) p
    ∙ ap (λ b. truth_of bits pointer b (int_bits (env a.here).source.widths y) bit own) i

null_either_way : (b : Bool) → is_true (if b then target_or_null None else null) ≡ false
null_either_way true = refl
null_either_way false = refl

chosen_where : (b : Bool) (to : ℕ) → is_true (if b then target_or_null (Some to) else null) ≡ b
chosen_where true to = ap not (ne_eqb (to + 1) 0 (λ e. omega (arith, e)))
chosen_where false to = refl

-- a cell of no type, and one of a type without a cell
pub stub_shown : (a : Around) (ns : List Node) (bit : ℕ) (own : Option ℕ) (g : ℕ) → Gives ns g (λ choice v. false)
    → Shows a ns (λ o. is_chosen o None bit own) g
unfolding is_chosen
stub_shown a ns bit own g gives = record { below = gives.below; value = λ bits v r w runs t. gives.value (bit_at bits) v runs }

pub other_shown : (a : Around) (ns : List Node) (y : Ty) (bit : ℕ) (own : Option ℕ) (g : ℕ) → is_pointer y ≡ false → is_integer y ≡ false
    → Gives ns g (λ choice v. false) → Shows a ns (λ o. is_chosen o (Some y) bit own) g
unfolding truth_of
other_shown a ns y bit own g without none gives =
    record {
      below = gives.below;
      value = λ bits v r w runs t. gives.value (bit_at bits) v runs ∙ sym (truth_is a bits r w y bit own false false without none);
    }

-- a pointer that leads nowhere, and one that leads to an object where its bit is set
pub nowhere_shown : (a : Around) (ns : List Node) (y : Ty) (bit g : ℕ) → is_pointer y ≡ true → Gives ns g (λ choice v. false)
    → Shows a ns (λ o. is_chosen o (Some y) bit None) g
unfolding truth_of
nowhere_shown a ns y bit g is gives =
    record {
      below = gives.below;
      value = λ bits v r w runs t.
          gives.value (bit_at bits) v runs
          ∙ sym (truth_is a bits r w y bit None true (is_integer y) is refl ∙ null_either_way (bit_at bits bit));
    }

pub pointer_shown : (a : Around) (ns : List Node) (y : Ty) (bit to g : ℕ) → is_pointer y ≡ true → IsBit (env a.here).layout ns bit g
    → Shows a ns (λ o. is_chosen o (Some y) bit (Some to)) g
unfolding truth_of
pointer_shown a ns y bit to g is one =
    record {
      below = one.below;
      value = λ bits v r w runs t.
          one.value bits v runs (inl t.few)
          ∙ sym (truth_is a bits r w y bit (Some to) true (is_integer y) is refl ∙ chosen_where (bit_at bits bit) to);
    }

-- an integer
pub integer_shown : (a : Around) (old ns : List Node) (y : Ty) (bit : ℕ) (own : Option ℕ) (width x g : ℕ) → is_pointer y ≡ false → is_integer y ≡ true
    → width ≡ int_bits (env a.here).source.widths y → Grown old ns → IsChosenNumber (env a.here).layout old bit width 0 x
    → Gives ns g (λ choice v. not (v x)) → Shows a ns (λ o. is_chosen o (Some y) bit own) g
unfolding truth_of
integer_shown a old ns y bit own width x g other is wide grown number gives =
    record {
      below = gives.below;
      value = λ bits v r w runs t.
          (let before = grown.runs (bit_at bits) v runs in
          gives.value (bit_at bits) v runs
          ∙ (ap not (number.value bits v before (inl t.few))
          ∙ (ap (λ k. not (nat_eq (number_at bits bit k) 0)) wide ∙ sym (truth_is a bits r w y bit own false true other is))));
    }

blank_is_false : (k : Kind) → is_true (blank k) ≡ false
blank_is_false (Numbers w) = refl
blank_is_false Pointers = refl
blank_is_false NoCell = refl

pub blank_shown : (a : Around) (ns : List Node) (at g : ℕ) → (location (env a.here).layout at).bit ≡ None → Gives ns g (λ choice v. false)
    → Shows a ns (λ o. was_true o at) g
unfolding was_true
blank_shown a ns at g none gives =
    record {
      below = gives.below;
      value = λ bits v r w runs t.
          (let l = location (env a.here).layout at in
          let kind = kind_of_type (env a.here).source l.type in
          gives.value (bit_at bits) v runs ∙ sym (ap (λ b. is_true (entry_value bits kind b l.target)) none ∙ blank_is_false kind));
    }

pub true_shown : (a : Around) (ns : List Node) (at bit g : ℕ) → (location (env a.here).layout at).bit ≡ Some bit
    → Shows a ns (λ o. is_chosen o (location (env a.here).layout at).type bit (location (env a.here).layout at).target) g
    → Shows a ns (λ o. was_true o at) g
unfolding was_true is_chosen
true_shown a ns at bit g some s =
    record {
      below = s.below;
      value = λ bits v r w runs t.
          (let l = location (env a.here).layout at in
          s.value bits v r w runs t
          ∙ sym (ap (λ b. is_true (entry_value bits (kind_of_type (env a.here).source l.type) b l.target)) some));
    }

pub given_shown : (a : Around) (ns : List Node) (n g : ℕ) → Shows a ns (λ o. was_true o (location_of (env a.here).layout (origin.Param n))) g
    → Shows a ns (λ o. is_given o n) g
unfolding was_true is_given
given_shown a ns n g s = record { below = s.below; value = s.value }

-- The path of a location, upward.

at_none : (o : Over) (at : ℕ) → met_by o 0 at ≡ true
unfolding met_by
at_none o at = refl

pub met_none : (a : Around) (ns : List Node) (most at g : ℕ) → most ≡ 0 → Gives ns g (λ choice v. true) → Shows a ns (λ o. met_by o most at) g
met_none a ns most at g none gives =
    record {
      below = gives.below;
      value = λ bits v r w runs t. gives.value (bit_at bits) v runs ∙ sym (ap (λ n. met_by (over a bits r w) n at) none ∙ at_none (over a bits r w) at);
    }

from_is : (o : Over) (most : ℕ) (x : Origin) → list_all (was_true o) (cells_from (cells_on most o.layout) x) ≡ met_from o most (reached_from x)
unfolding met_by
from_is o most (origin.Param n) = refl
from_is o most (origin.Global n) = refl
from_is o most (origin.Local n) = refl
from_is o most (origin.Literal p) = refl
from_is o most (origin.Function n) = refl
from_is o most (origin.Target n) = refl
from_is o most (origin.Call n) = refl
from_is o most (origin.Part n s) = refl

met_is : (o : Over) (most at : ℕ) (x : Above) → 0 < most → reached_from (location o.layout at).origin ≡ x → met_by o most at ≡ met_from o (most - 1) x
unfolding met_by
met_is o zero at x low e = absurd (omega (arith, low))
met_is o (suc most) at x low e =
    let next : suc most - 1 ≡ most = omega arith in
    from_is o most (location o.layout at).origin
    ∙ (ap (met_from o most) e ∙ sym (ap (λ m. met_from o m x) next))

pub met_shown : (a : Around) (ns : List Node) (most at g : ℕ) (x : Above) → 0 < most → reached_from (location (env a.here).layout at).origin ≡ x
    → Shows a ns (λ o. met_from o (most - 1) x) g → Shows a ns (λ o. met_by o most at) g
met_shown a ns most at g x low e s =
    record {
      below = s.below;
      value = λ bits v r w runs t. s.value bits v r w runs t ∙ sym (met_is (over a bits r w) most at x low e);
    }

pub always_shown : (a : Around) (ns : List Node) (most g : ℕ) → Gives ns g (λ choice v. true) → Shows a ns (λ o. met_from o most above_by.Nothing) g
always_shown a ns most g gives = record { below = gives.below; value = λ bits v r w runs t. gives.value (bit_at bits) v runs }

pub cell_met : (a : Around) (n1 n2 ns : List Node) (most k before here g : ℕ) → Grown n1 n2 → Grown n2 ns → Shows a n1 (λ o. met_by o most k) before
    → Shows a n2 (λ o. was_true o k) here → Gives ns g (λ choice v. v here && v before) → Shows a ns (λ o. met_from o most (above_by.Cell k)) g
cell_met a n1 n2 ns most k before here g g1 g2 sb sh gives =
    record {
      below = gives.below;
      value = λ bits v r w runs t.
          (let o = over a bits r w in
          let r2 = g2.runs (bit_at bits) v runs in
          let r1 = g1.runs (bit_at bits) v r2 in
          gives.value (bit_at bits) v runs
          ∙ (ap (λ b. b && v before) (sh.value bits v r w r2 t) ∙ ap (λ b. was_true o k && b) (sb.value bits v r w r1 t)));
    }

pub whole_shown : (a : Around) (ns : List Node) (count at g : ℕ) → count ≡ length (env a.here).layout.locations → Shows a ns (λ o. met_by o count at) g
    → Shows a ns (λ o. is_met o at) g
unfolding was_true met_by is_met
whole_shown a ns count at g all s =
    record {
      below = s.below;
      value = λ bits v r w runs t. s.value bits v r w runs t ∙ ap (λ n. met_by (over a bits r w) n at) all;
    }
