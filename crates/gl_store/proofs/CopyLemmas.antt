-- Values and stores that are made once more.
use Rattle.std.proofs.Common.{◌≡◌, ℕ, zero, suc, ◌+◌, ◌<◌, ◌≤◌, max, Bool, List, [], ◌∷◌, ◌++◌, length, take, take_all, get_or, refl, sym, ◌∙◌, ap}
use Rattle.std.proofs.Common.{subst, arith}
use Rattle.std.proofs.lemmas.List.{take_more}
use Rattle.bit_words.specs.Number.{number, top}
use Rattle.bit_words.specs.declared.Word.{Word as Words}
use Rattle.gl_sets.specs.declared.sets.Set.{Set as Sets}
use Rattle.gl_sets.specs.declared.pairs.Pair.{Pair}
use Rattle.gl_sets.specs.Guards.{Points, guards_top}
use Rattle.gl_store.specs.declared.values.Val.{Val}
use Rattle.gl_store.specs.declared.values.Val.TheVariants.{Word, Set, Unit as Empty}
use Rattle.gl_store.specs.declared.stores.Flags.{Flags}
use Rattle.gl_store.specs.declared.stores.Location.{Location}
use Rattle.run_store.specs.Concrete.{Cell, Number, Pointer, Nothing, Numbers, Place}
use Rattle.gl_store.specs.Meets.{Meets, MeetsMarks, MeetsAll, val_kind, val_top, kinds, flags_top, locations_top}
use Rattle.gl_store.specs.Steps.{IsSame, IsSameStore}

pub same_word : (a r : Words) → r.bits.items ≡ a.bits.items → IsSame (Word a) (Word r)
same_word a r e = record { top = ap top e; kind = ap (λ l. Numbers (length l)) e; value = by }
  where
    by : (v : ℕ → Bool) (x : Cell) → Meets v (Word a) x → Meets v (Word r) x
    by v (Number w n) h = record { wide = ap length e ∙ h.wide; value = ap (number v) e ∙ h.value }
    by v (Pointer t) h = absurd h
    by v Nothing h = absurd h

pub same_set : (a r : Sets) → r.pairs.items ≡ a.pairs.items → IsSame (Set a) (Set r)
same_set a r e = record { top = ap guards_top e; kind = refl; value = by }
  where
    by : (v : ℕ → Bool) (x : Cell) → Meets v (Set a) x → Meets v (Set r) x
    by v (Pointer t) h = subst (λ (l : List Pair). Points v l t) (sym e) h
    by v (Number w n) h = absurd h
    by v Nothing h = absurd h

pub same_empty : IsSame Empty Empty
same_empty = record { top = refl; kind = refl; value = λ v x h. h }

pub ruleset same_laws = (same_word, same_set, same_empty)

-- location by location the same
abbrev pub Copied : List Location → List Location → Type 0
Copied [] [] = Unit {0}
Copied (l ∷ ls) (r ∷ rs) = IsSame l.val r.val × (r.flags ≡ l.flags) × Copied ls rs
Copied _ _ = ⊥

Copied-push : (ls rs : List Location) (l r : Location) → Copied ls rs → IsSame l.val r.val → r.flags ≡ l.flags → Copied (ls ++ l ∷ []) (rs ++ r ∷ [])
Copied-push [] [] l r c s f = (s, f, tt)
Copied-push (k ∷ ls) (q ∷ rs) l r c s f = (c.0, c.1, Copied-push ls rs l r c.2 s f)
Copied-push _ _ l r c s f = absurd c

pub copied_none : (rs : List Location) → rs ≡ [] → Copied [] rs
copied_none rs e = subst (Copied []) (sym e) tt

pub copied_more : (ls rs new : List Location) (i : ℕ) (d r : Location) → i < length ls → new ≡ rs ++ r ∷ [] → IsSame (get_or ls i d).val r.val
    → r.flags ≡ (get_or ls i d).flags
    → Copied (take i ls) rs → Copied (take (i + 1) ls) new
copied_more ls rs new i d r low e s f c =
    subst (λ (l : List Location). Copied l new) (sym (take_more ls i d low))
    (subst (Copied (take i ls ++ get_or ls i d ∷ [])) (sym e) (Copied-push (take i ls) rs (get_or ls i d) r c s f))

Copied-top : (ls rs : List Location) → Copied ls rs → locations_top rs ≡ locations_top ls
unfolding locations_top
Copied-top [] [] c = refl
Copied-top (l ∷ ls) (r ∷ rs) c =
    ap (λ n. max (max n (flags_top r.flags)) (locations_top rs)) c.0.top ∙ ap (λ f. max (max (val_top l.val) (flags_top f)) (locations_top rs)) c.1
    ∙ ap (λ n. max (max (val_top l.val) (flags_top l.flags)) n) (Copied-top ls rs c.2)
Copied-top _ _ c = absurd c

Copied-kinds : (ls rs : List Location) → Copied ls rs → kinds rs ≡ kinds ls
Copied-kinds [] [] c = refl
Copied-kinds (l ∷ ls) (r ∷ rs) c = ap (λ k. k ∷ kinds rs) c.0.kind ∙ ap (λ ks. val_kind l.val ∷ ks) (Copied-kinds ls rs c.2)
Copied-kinds _ _ c = absurd c

Copied-meets : (v : ℕ → Bool) (ls rs : List Location) (ps : List Place) → Copied ls rs → MeetsAll v ls ps → MeetsAll v rs ps
Copied-meets v [] [] [] c m = tt
Copied-meets v (l ∷ ls) (r ∷ rs) (p ∷ ps) c m = (
  record { cell = c.0.value v p.cell m.0.cell; marks = subst (λ (f : Flags). MeetsMarks v f p.marks) (sym c.1) m.0.marks },
  Copied-meets v ls rs ps c.2 m.1,
)
Copied-meets v [] [] (p ∷ ps) c m = absurd m
Copied-meets v (l ∷ ls) (r ∷ rs) [] c m = absurd m
Copied-meets v [] (r ∷ rs) ps c m = absurd c
Copied-meets v (l ∷ ls) [] ps c m = absurd c

pub copied_whole : (ls rs : List Location) (i : ℕ) → length ls ≤ i → Copied (take i ls) rs → IsSameStore ls rs
copied_whole ls rs i all c =
    let whole : Copied ls rs = subst (λ (l : List Location). Copied l rs) (take_all i ls all) c in
    record { top = Copied-top ls rs whole; same = Copied-kinds ls rs whole; value = λ v ps m. Copied-meets v ls rs ps whole m }
