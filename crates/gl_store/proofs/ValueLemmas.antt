-- Values chosen by a gate, and written over one another.
use Rattle.std.proofs.Common.{◌≡◌, ℕ, zero, suc, ◌+◌, ◌*◌, ◌^◌, ◌<◌, ◌≤◌, max, Bool, true, false, nat_eq, List, [], ◌∷◌, ◌++◌, length, take, get_or}
use Rattle.std.proofs.Common.{replicate, if◌then◌else◌, refl, sym, ◌∙◌, ap, subst, arith, eq-eqb}
use Rattle.std.proofs.lemmas.Bool.{eqb-true, ne_eqb}
use Rattle.std.proofs.lemmas.List.{take_more, take_all, length-replicate}
use Rattle.bit_net.specs.declared.nodes.Gate.{Gate}
use Rattle.bit_net.specs.declared.nodes.Node.{Node}
use Rattle.bit_net.specs.Runs.{Runs, Grown, Gives, Always}
use Rattle.bit_words.specs.Number.{bit, number, top}
use Rattle.bit_words.specs.Spells.{Spells}
use Rattle.bit_words.specs.declared.Word.{Word as Words}
use Rattle.gl_sets.specs.declared.sets.Set.{Set as Sets}
use Rattle.gl_sets.specs.Guards.{Points}
use Rattle.gl_sets.specs.Sets.{IsGood, IsJoin}
use Rattle.gl_store.specs.declared.values.Val.{Val}
use Rattle.gl_store.specs.declared.values.Val.TheVariants.{Word, Set, Unit as Empty}
use Rattle.run_store.specs.Concrete.{Cell, Number, Pointer, Nothing, Numbers, Pointers, NoCell, kind_of, width_kind, put}
use Rattle.gl_store.specs.Meets.{Meets, val_kind, val_top}
use Rattle.gl_store.specs.Steps.{IsChoice, IsOverwritten, IsBlank}

-- a value and its cell are of one kind
pub Meets-kind : (v : ℕ → Bool) (a : Val) (x : Cell) → Meets v a x → val_kind a ≡ kind_of x
Meets-kind v (Word w) (Number width n) h = ap Numbers h.wide
Meets-kind v (Set s) (Pointer t) h = refl
Meets-kind v Empty Nothing h = refl
Meets-kind v _ _ h = absurd h

pub put_same : (x y : Cell) → kind_of y ≡ kind_of x → put x y ≡ y
put_same (Number w n) (Number u m) e = let same : w ≡ u = cc in rw (eq-eqb w u same) refl
put_same (Pointer t) (Pointer u) e = refl
put_same Nothing Nothing e = refl
put_same _ _ e = absurd (cc)

pub put_other : (x y : Cell) → (kind_of y ≡ kind_of x → ⊥) → put x y ≡ x
put_other (Number w n) (Number u m) h = by (nat_eq w u) refl
  where
    by : (b : Bool) → nat_eq w u ≡ b → (if b then Number u m else Number w n) ≡ Number w n
    by true e = absurd (h (ap Numbers (sym (eqb-true w u e))))
    by false e = refl
put_other (Pointer t) (Pointer u) h = absurd (h refl)
put_other _ _ h = refl

pub overwritten_some : (ns : List Node) (when : ℕ) (old new r : Val) → val_kind new ≡ val_kind old → IsChoice ns when new old r
    → IsOverwritten ns when old new r
overwritten_some ns when old new r k s = record {
  below = s.below;
  kind = s.kind;
  value = λ choice v run x y hx hy.
      (let e : kind_of y ≡ kind_of x = sym (Meets-kind v new y hy) ∙ k ∙ Meets-kind v old x hx in
      subst (Meets v r) (ap (λ z. if v when then z else x) (sym (put_same x y e))) (s.value choice v run y x hy hx));
}

pub overwritten_none : (ns : List Node) (when : ℕ) (old new : Val) → (val_kind new ≡ val_kind old → ⊥) → val_top old ≤ length ns
    → IsOverwritten ns when old new old
overwritten_none ns when old new k below = record {
  below = below;
  kind = refl;
  value = λ choice v run x y hx hy.
      subst (Meets v old) (by (v when) x (put x y) (put_other x y (λ e. k (Meets-kind v new y hy ∙ e ∙ sym (Meets-kind v old x hx))))) hx;
}
  where
    by : (b : Bool) (x z : Cell) → z ≡ x → x ≡ (if b then z else x)
    by true x z e = sym e
    by false x z e = refl

-- a choice of two words of one width
pub choice_words : (ns : List Node) (c : ℕ) (a b r : Words) → length a.bits.items ≡ length b.bits.items
    → Spells ns r.bits.items (length a.bits.items) (λ v. if v c then number v a.bits.items else number v b.bits.items)
    → IsChoice ns c (Word a) (Word b) (Word r)
choice_words ns c a b r same s = record {
  below = s.below;
  kind = ap Numbers (s.wide ∙ same);
  value = λ choice v run x y hx hy. by v (v c) (s.value choice v run) x y hx hy;
}
  where
    by : (v : ℕ → Bool) (z : Bool) → number v r.bits.items ≡ (if z then number v a.bits.items else number v b.bits.items)
        → (x y : Cell) → Meets v (Word a) x → Meets v (Word b) y → Meets v (Word r) (if z then x else y)
    by v true e (Number w n) (Number u m) hx hy = record { wide = s.wide ∙ hx.wide; value = e ∙ hx.value }
    by v false e (Number w n) (Number u m) hx hy = record { wide = s.wide ∙ same ∙ hy.wide; value = e ∙ hy.value }
    by v z e (Number w n) (Pointer t) hx hy = absurd hy
    by v z e (Number w n) Nothing hx hy = absurd hy
    by v z e (Pointer t) y hx hy = absurd hx
    by v z e Nothing y hx hy = absurd hx

-- a choice of two sets
pub choice_sets : (ns : List Node) (c : ℕ) (a b r : Sets) → IsJoin ns c a.pairs.items b.pairs.items r.pairs.items → IsChoice ns c (Set a) (Set b) (Set r)
choice_sets ns c a b r s = record {
  below = s.below;
  kind = refl;
  value = λ choice v run x y hx hy. by choice v run x y hx hy;
}
  where
    pick : (v : ℕ → Bool) (t u : ℕ) (z : Bool) → Points v r.pairs.items (if z then t else u) → Meets v (Set r) (if z then Pointer t else Pointer u)
    pick v t u true h = h
    pick v t u false h = h

    by : (choice v : ℕ → Bool) → Runs ns choice v → (x y : Cell) → Meets v (Set a) x → Meets v (Set b) y → Meets v (Set r) (if v c then x else y)
    by choice v run (Pointer t) (Pointer u) hx hy = pick v t u (v c) (s.points choice v run t u hx hy)
    by choice v run (Pointer t) (Number w n) hx hy = absurd hy
    by choice v run (Pointer t) Nothing hx hy = absurd hy
    by choice v run (Number w n) y hx hy = absurd hx
    by choice v run Nothing y hx hy = absurd hx

-- a choice of nothing and nothing
pub choice_empty : (ns : List Node) (c : ℕ) → IsChoice ns c Empty Empty Empty
choice_empty ns c = record { below = omega arith; kind = refl; value = λ choice v run x y hx hy. by v (v c) x y hx hy }
  where
    by : (v : ℕ → Bool) (z : Bool) (x y : Cell) → Meets v Empty x → Meets v Empty y → Meets v Empty (if z then x else y)
    by v true Nothing y hx hy = tt
    by v false x Nothing hx hy = tt
    by v true (Number w n) y hx hy = absurd hx
    by v true (Pointer t) y hx hy = absurd hx
    by v false x (Number w n) hx hy = absurd hy
    by v false x (Pointer t) hx hy = absurd hy

-- the kinds differ
pub numbers_pointers : (w : ℕ) → Numbers w ≡ Pointers → ⊥
numbers_pointers w e = cc

pub numbers_none : (w : ℕ) → Numbers w ≡ NoCell → ⊥
numbers_none w e = cc

pub pointers_numbers : (w : ℕ) → Pointers ≡ Numbers w → ⊥
pointers_numbers w e = cc

pub pointers_none : Pointers ≡ NoCell → ⊥
pointers_none e = cc

pub none_numbers : (w : ℕ) → NoCell ≡ Numbers w → ⊥
none_numbers w e = cc

pub none_pointers : NoCell ≡ Pointers → ⊥
none_pointers e = cc

pub widths_differ : (a b : ℕ) → (a ≡ b → ⊥) → Numbers a ≡ Numbers b → ⊥
widths_differ a b h e = h (cc)

pub ruleset kind_laws = (numbers_pointers, numbers_none, pointers_numbers, pointers_none, none_numbers, none_pointers, widths_differ, choice_words, choice_sets, choice_empty)

number_none : (v : ℕ → Bool) (n : ℕ) (g : Gate) → v g.at ≡ false → number v (replicate n g) ≡ 0
unfolding number
number_none v zero g h = refl
number_none v (suc n) g h = rw h (omega (arith, number_none v n g h))

top_none : (n : ℕ) (g : Gate) → top (replicate n g) ≤ g.at + 1
unfolding top
top_none zero g = omega arith
top_none (suc n) g = omega (arith, top_none n g)

-- a word of 0
pub blank_word : (ns : List Node) (w : Words) (g : Gate) (width : ℕ) → w.bits.items ≡ replicate width g → Gives ns g.at (λ choice v. false)
    → IsBlank ns (Numbers width) (Word w)
blank_word ns w g width e s =
    let wide : length w.bits.items ≡ width = ap length e ∙ length-replicate width g in
    record {
      below = omega (arith, ap top e, top_none width g, s.below);
      same = ap Numbers wide;
      value = λ choice v run. record { wide = wide; value = ap (number v) e ∙ number_none v width g (s.value choice v run) };
    }

-- a set that points to null
pub blank_set : (ns : List Node) (s : Sets) → IsGood ns s.pairs.items → Always ns (λ choice v. Points v s.pairs.items 0) → IsBlank ns Pointers (Set s)
blank_set ns s good points = record { below = good.below; same = refl; value = λ choice v run. points.holds choice v run }

pub blank_none : (ns : List Node) → IsBlank ns NoCell Empty
blank_none ns = record { below = omega arith; same = refl; value = λ choice v run. tt }

pub ruleset blank_laws = (blank_set, blank_none)

-- the kind of a width
pub kind_of_width : (width : ℕ) → (width ≡ 255 → ⊥) → (width ≡ 0 → ⊥) → Numbers width ≡ width_kind width
kind_of_width width h k = rw (ne_eqb width 255 h, ne_eqb width 0 k) refl

pub ruleset width_laws = (kind_of_width)
