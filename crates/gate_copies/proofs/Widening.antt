-- The widths of cells, and what is read where a cell of a width is wanted.
use Rattle.std.proofs.Common.{◌≡◌, ℕ, zero, suc, ◌+◌, ◌<◌, Bool, true, false, nat_eq, nat_lt, Some, None, List, [], ◌∷◌, length, refl, sym, ◌∙◌, ap, arith}
use Rattle.std.specs.Prelude.{Option, slice_index_or}
use Rattle.std.proofs.lemmas.Bool.{eqb-false, lt-ltb, le-ltb, ltb-true, ltb-false}
use Rattle.gl_store.specs.declared.stores.Location.{Location}
use Rattle.gl_store.specs.Meets.{MeetsAll}
use Rattle.gl_store.proofs.ValueLemmas.{Meets-kind, put_same}
use Rattle.run_store.specs.Concrete.{Kind, Numbers, Pointers, NoCell, Place, kind_of, blank, nth_cell, load, width_kind}
use Rattle.sc_tree.specs.declared.ctype.IntKind.{IntKind}
use Rattle.sc_tree.specs.declared.ctype.IntKind.TheVariants as kind
use Rattle.sc_tree.specs.declared.ctype.Widths.{Widths}
use Rattle.sc_tree.specs.declared.ctype.Widths.TheVariants as widths
use Rattle.sc_world.specs.Tree.{Ty, Void, Bool', Int, Ptr, Array, Struct, Union, Func, Opaque, int_bits}
use Rattle.sc_world.specs.Source.{Source}
use Rattle.sc_world.specs.Layout.{Layout, location, is_cell_type, nowhere}
use Rattle.sc_world.specs.Layout as layouts
use Rattle.sc_world.specs.World.{kind_of_type}
use Rattle.gate_steps.specs.Steps.{kind_at}
use Rattle.gate_places.specs.Places.{IsLaid}
use Rattle.gate_copies.specs.Widths.{cell_width, number_at, width_at, width_number}

-- the width with the number of this one stands for that kind of cells
pub record IsWidth (width : ℕ) (k : Kind) : Type 0 where
  pub known : width_number width < 6
  pub kind : width_kind (width_at (width_number width)) ≡ k

integers : (w : Widths) (k : IntKind) → IsWidth (int_bits w (Int k)) (Numbers (int_bits w (Int k)))
integers widths.Ilp32 kind.Long = record { known = omega arith; kind = refl }
integers widths.Lp64 kind.Long = record { known = omega arith; kind = refl }
integers widths.Ilp32 kind.ULong = record { known = omega arith; kind = refl }
integers widths.Lp64 kind.ULong = record { known = omega arith; kind = refl }
integers w kind.Char = record { known = omega arith; kind = refl }
integers w kind.SChar = record { known = omega arith; kind = refl }
integers w kind.UChar = record { known = omega arith; kind = refl }
integers w kind.Short = record { known = omega arith; kind = refl }
integers w kind.UShort = record { known = omega arith; kind = refl }
integers w kind.Int = record { known = omega arith; kind = refl }
integers w kind.UInt = record { known = omega arith; kind = refl }
integers w kind.LongLong = record { known = omega arith; kind = refl }
integers w kind.ULongLong = record { known = omega arith; kind = refl }

-- a cell has a width
has_width : (s : Source) (o : Option Ty) → is_cell_type o ≡ true → IsWidth (cell_width s o) (kind_of_type s o)
has_width s None e = absurd (cc)
has_width s (Some Bool') e = record { known = omega arith; kind = refl }
has_width s (Some (Int k)) e = integers s.widths k
has_width s (Some (Ptr t)) e = record { known = omega arith; kind = refl }
has_width s (Some Void) e = absurd (cc)
has_width s (Some (Array t l)) e = absurd (cc)
has_width s (Some (Struct l)) e = absurd (cc)
has_width s (Some (Union l)) e = absurd (cc)
has_width s (Some (Func r b ts v)) e = absurd (cc)
has_width s (Some (Opaque o)) e = absurd (cc)

-- what has a width is a cell
is_wide : (s : Source) (o : Option Ty) → width_number (cell_width s o) < 6 → is_cell_type o ≡ true
is_wide s None low = absurd (omega (arith, low))
is_wide s (Some Bool') low = refl
is_wide s (Some (Int k)) low = refl
is_wide s (Some (Ptr t)) low = refl
is_wide s (Some Void) low = absurd (omega (arith, low))
is_wide s (Some (Array t l)) low = absurd (omega (arith, low))
is_wide s (Some (Struct l)) low = absurd (omega (arith, low))
is_wide s (Some (Union l)) low = absurd (omega (arith, low))
is_wide s (Some (Func r b ts v)) low = absurd (omega (arith, low))
is_wide s (Some (Opaque o)) low = absurd (omega (arith, low))

pub number_known : (s : Source) (p : Layout) (at : ℕ) → layouts.is_cell (location p at) ≡ true → number_at s p at < 6
number_known s p at e = (has_width s (location p at).type e).known

-- it is a location of the layout
there_in : (ls : List layouts.Location) (at : ℕ) → is_cell_type (slice_index_or ls at nowhere).type ≡ true → at < length ls
there_in [] at e = absurd (cc)
there_in (l ∷ ls) zero e = omega arith
there_in (l ∷ ls) (suc at) e = omega (arith, there_in ls at e)

-- a place has a cell of the kind that its location has
kind_met : (v : ℕ → Bool) (ls : List Location) (ps : List Place) (at : ℕ) → MeetsAll v ls ps → kind_of (nth_cell ps at) ≡ kind_at ls at
kind_met v [] [] at h = refl
kind_met v (l ∷ ls) (p ∷ ps) zero h = sym (Meets-kind v l.val p.cell h.0.cell)
kind_met v (l ∷ ls) (p ∷ ps) (suc at) h = kind_met v ls ps at h.1
kind_met v [] (p ∷ ps) at h = absurd h
kind_met v (l ∷ ls) [] at h = absurd h

kind_blank : (k : Kind) → kind_of (blank k) ≡ k
kind_blank (Numbers w) = refl
kind_blank Pointers = refl
kind_blank NoCell = refl

-- what is read of a cell where its own width is wanted
pub read_there : (s : Source) (p : Layout) (l : List Location) (v : ℕ → Bool) (ps : List Place) (at n : ℕ) → IsLaid s p l → MeetsAll v l ps
    → n < 6 → number_at s p at ≡ n → load ps (width_kind (width_at n)) (suc at) ≡ nth_cell ps at
read_there s p l v ps at n laid met low is =
    let cell : is_cell_type (location p at).type ≡ true = is_wide s (location p at).type (omega (arith, low, is)) in
    let same : kind_of (nth_cell ps at) ≡ width_kind (width_at n) = kind_met v l ps at met ∙ laid.kinds at (there_in p.locations at cell) ∙ sym (has_width s (location p at).type cell).kind ∙ ap (λ m. width_kind (width_at m)) is in
    put_same (blank (width_kind (width_at n))) (nth_cell ps at) (same ∙ sym (kind_blank (width_kind (width_at n))))

-- one width more

pub next_is : (m n : ℕ) → m ≡ n → (nat_lt m n ≡ false) × (nat_lt m (n + 1) ≡ true)
next_is m n e = (le-ltb m n (omega (arith, e)), lt-ltb m (n + 1) (omega (arith, e)))

pub next_is_not : (m n : ℕ) → nat_eq m n ≡ false → nat_lt m (n + 1) ≡ nat_lt m n
next_is_not m n e = by (nat_lt m n) refl
  where
    by : (b : Bool) → nat_lt m n ≡ b → nat_lt m (n + 1) ≡ b
    by true low = lt-ltb m (n + 1) (omega (arith, ltb-true m n low))
    by false high = le-ltb m (n + 1) (omega (arith, ltb-false m n high, λ (h : m ≡ n). eqb-false m n e h))
