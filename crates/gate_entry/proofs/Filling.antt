-- Cells of locations.
use Rattle.std.proofs.Common.{◌≡◌, ◌⊎◌, ℕ, ◌+◌, ◌≤◌, Bool, true, false, Option, Some, None, IfSome, List, length, if◌then◌else◌, inl, inr, refl, sym, ◌∙◌, ap, subst, arith}
use Rattle.bit_net.specs.declared.nodes.Node.{Node}
use Rattle.bit_net.specs.Runs.{Grown, Always}
use Rattle.bit_words.specs.declared.Word.{Word as Words}
use Rattle.gl_sets.specs.declared.pairs.Pair.{Pair}
use Rattle.gl_sets.specs.declared.sets.Set.{Set as Sets}
use Rattle.gl_sets.specs.Guards.{Points}
use Rattle.gl_sets.specs.Sets.{IsGood, IsJoin}
use Rattle.gl_store.specs.declared.values.Val.{Val}
use Rattle.gl_store.specs.declared.values.Val.TheVariants.{Word, Set, Unit as Empty}
use Rattle.gl_store.specs.Meets.{Meets}
use Rattle.gl_store.specs.Steps.{IsBlank}
use Rattle.run_store.specs.Concrete.{Pointer, Kind, Numbers, Pointers, NoCell}
use Rattle.sc_world.specs.Tree.{Ty, is_integer, is_pointer, int_bits}
use Rattle.sc_world.specs.Source.{Source}
use Rattle.sc_world.specs.Layout.{Layout, Location}
use Rattle.sc_world.specs.World.{bit_at, target_of, null, target_or_null, kind_of_type, chosen_cell, entry_value}
use Rattle.gate_entry.specs.Entry.{AreWithin, HasBits, IsBit, IsNumber, IsPointer, IsChosen, IsCell, ReadsWithin, bits_of}

-- The kind of a type.

pub kind_pointer : (s : Source) (t : Ty) → is_pointer t ≡ true → Pointers ≡ kind_of_type s (Some t)
kind_pointer s t e = sym (ap (λ b. if b then Pointers else (if is_integer t then Numbers (int_bits s.widths t) else NoCell)) e)

pub kind_other : (s : Source) (t : Ty) → is_pointer t ≡ false → is_integer t ≡ false → NoCell ≡ kind_of_type s (Some t)
kind_other s t e f =
    sym (ap (λ b. if b then Pointers else (if is_integer t then Numbers (int_bits s.widths t) else NoCell)) e
    ∙ ap (λ b. if b then Numbers (int_bits s.widths t) else NoCell) f)

pub kind_integer : (s : Source) (t : Ty) (n : ℕ) → is_pointer t ≡ false → is_integer t ≡ true → n ≡ int_bits s.widths t
    → Numbers n ≡ kind_of_type s (Some t)
kind_integer s t n e f is =
    ap Numbers is
    ∙ sym (ap (λ b. if b then Pointers else (if is_integer t then Numbers (int_bits s.widths t) else NoCell)) e
    ∙ ap (λ b. if b then Numbers (int_bits s.widths t) else NoCell) f)

pub ruleset kind_laws = (kind_pointer, kind_other)

-- Pointers.

both_null : (b : Bool) → 0 ≡ target_of (if b then target_or_null None else null)
both_null true = refl
both_null false = refl

chosen_target : (b : Bool) (own : ℕ) → (if b then own + 1 else 0) ≡ target_of (if b then target_or_null (Some own) else null)
chosen_target true own = refl
chosen_target false own = refl

pub pointer_null : (p : Layout) (ns : List Node) (at : ℕ) (pairs : List Pair) → IsGood ns pairs → Always ns (λ choice v. Points v pairs 0)
    → IsPointer p ns at None pairs
pointer_null p ns at pairs good points =
    record {
      below = good.below;
      points = λ bits v runs has. subst (λ t. Points v pairs t) (both_null (bit_at bits at)) (points.holds (bit_at bits) v runs);
    }

pub pointer_own : (p : Layout) (old ns : List Node) (at own target c : ℕ) (there none joined : List Pair) → Grown old ns → target ≡ own + 1
    → IsBit p old at c → Always old (λ choice v. Points v there target) → Always old (λ choice v. Points v none 0) → IsJoin ns c there none joined
    → IsPointer p ns at (Some own) joined
pointer_own p old ns at own target c there none joined grown next one to_own to_null join =
    record {
      below = join.below;
      points = λ bits v runs has.
          (let before = grown.runs (bit_at bits) v runs in
          let is : (if v c then target else 0) ≡ target_of (chosen_cell bits Pointers at (Some own)) =
          ap (λ b. if b then target else 0) (one.value bits v before has) ∙ ap (λ n. if bit_at bits at then n else 0) next
          ∙ chosen_target (bit_at bits at) own in
          subst (λ t. Points v joined t) is
          (join.points (bit_at bits) v runs target 0 (to_own.holds (bit_at bits) v before) (to_null.holds (bit_at bits) v before)));
    }

-- what the choice gives to a pointer cell is a pointer
is_pointer_cell : (b : Bool) (own : Option ℕ)
    → Pointer (target_of (if b then target_or_null own else null)) ≡ (if b then target_or_null own else null)
is_pointer_cell true None = refl
is_pointer_cell true (Some k) = refl
is_pointer_cell false own = refl

-- Cells that the choice gives.

pub chosen_set : (p : Layout) (ns : List Node) (kind : Kind) (at : ℕ) (own : Option ℕ) (set : Sets) → Pointers ≡ kind
    → IsPointer p ns at own set.pairs.items → IsChosen p ns kind at own (Set set)
chosen_set p ns kind at own set e is =
    subst (λ k. IsChosen p ns k at own (Set set)) e
    record {
      below = is.below;
      same = refl;
      meets = λ bits v runs has. subst (λ c. Meets v (Set set) c) (is_pointer_cell (bit_at bits at) own) (is.points bits v runs has);
    }

pub chosen_word : (p : Layout) (ns : List Node) (kind : Kind) (at : ℕ) (own : Option ℕ) (width : ℕ) (word : Words) → Numbers width ≡ kind
    → IsNumber p ns at width word.bits.items → IsChosen p ns kind at own (Word word)
chosen_word p ns kind at own width word e is =
    subst (λ k. IsChosen p ns k at own (Word word)) e
    record {
      below = is.below;
      same = ap Numbers is.wide;
      meets = λ bits v runs has. record { wide = is.wide; value = is.value bits v runs has };
    }

pub chosen_none : (p : Layout) (ns : List Node) (kind : Kind) (at : ℕ) (own : Option ℕ) → NoCell ≡ kind → IsChosen p ns kind at own Empty
chosen_none p ns kind at own e =
    subst (λ k. IsChosen p ns k at own Empty) e record { below = omega arith; same = refl; meets = λ bits v runs has. tt }

pub ruleset chosen_laws = (chosen_set, chosen_word, chosen_none)

-- The cell of a location.

pub cell_blank : (s : Source) (p : Layout) (ns : List Node) (l : Location) (r : Val) → l.bit ≡ None → IsBlank ns (kind_of_type s l.type) r
    → IsCell s p ns l r
cell_blank s p ns l r e is =
    record {
      below = is.below;
      same = is.same;
      meets = λ bits v runs has.
          subst (λ b. Meets v r (entry_value bits (kind_of_type s l.type) b l.target)) (sym e) (is.value (bit_at bits) v runs);
    }

reads_bits : (s : Source) (p : Layout) (l : Location) (bits : List Bool) (at : ℕ) → l.bit ≡ Some at
    → (length bits ≤ p.bits) ⊎ ReadsWithin s p l → HasBits p bits at (bits_of (kind_of_type s l.type))
reads_bits s p l bits at e (inl short) = inl short
reads_bits s p l bits at e (inr within) =
    inr (subst (λ (o : Option ℕ). IfSome o (λ k. AreWithin p k (bits_of (kind_of_type s l.type)))) e within.cell)

pub cell_chosen : (s : Source) (p : Layout) (ns : List Node) (l : Location) (at : ℕ) (r : Val) → l.bit ≡ Some at
    → IsChosen p ns (kind_of_type s l.type) at l.target r → IsCell s p ns l r
cell_chosen s p ns l at r e is =
    record {
      below = is.below;
      same = is.same;
      meets = λ bits v runs has.
          subst (λ b. Meets v r (entry_value bits (kind_of_type s l.type) b l.target)) (sym e)
          (is.meets bits v runs (reads_bits s p l bits at e has));
    }

pub ruleset cell_laws = (cell_blank, cell_chosen)
