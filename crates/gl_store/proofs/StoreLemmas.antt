-- A pointer's pairs one after another: what is read, and what is written, at the targets whose guards hold.
use Rattle.std.proofs.Common.{◌≡◌, ℕ, zero, suc, ◌+◌, ◌<◌, ◌≤◌, Bool, true, false, ◌&&◌, List, [], ◌∷◌, ◌++◌, length, take, get_or, if◌then◌else◌}
use Rattle.std.proofs.Common.{refl, sym, ◌∙◌, ap, subst, arith}
use Rattle.std.proofs.lemmas.List.{take_all}
use Rattle.bit_net.specs.declared.nodes.Node.{Node}
use Rattle.bit_net.specs.Runs.{Runs, Grown, Gives}
use Rattle.gl_sets.specs.declared.pairs.Pair.{Pair}
use Rattle.gl_sets.specs.Guards.{held}
use Rattle.gl_sets.proofs.GuardLemmas.{held-nil, held-take}
use Rattle.gl_store.specs.declared.values.Val.{Val}
use Rattle.gl_store.specs.declared.stores.Location.{Location}
use Rattle.run_store.specs.Concrete.{Cell, Kind, Place, blank, put, cell_at, write}
use Rattle.gl_store.specs.Meets.{Meets, MeetsAll, val_kind, val_top, kinds, locations_top}
use Rattle.gl_store.specs.Steps.{IsBlank, IsRead, IsLoaded, IsWritten, IsStored}

-- what is found after reads at some targets
abbrev read_all : List ℕ → List Place → Cell → Cell
read_all [] ps x = x
read_all (t ∷ ts) ps x = read_all ts ps (put x (cell_at ps t))

read_all-push : (ts : List ℕ) (t : ℕ) (ps : List Place) (x : Cell) → read_all (ts ++ t ∷ []) ps x ≡ put (read_all ts ps x) (cell_at ps t)
read_all-push [] t ps x = refl
read_all-push (u ∷ ts) t ps x = read_all-push ts t ps (put x (cell_at ps u))

-- the store after writes at some targets
abbrev write_all : List ℕ → List Place → Cell → List Place
write_all [] ps x = ps
write_all (t ∷ ts) ps x = write_all ts (write ps t x) x

write_all-push : (ts : List ℕ) (t : ℕ) (ps : List Place) (x : Cell) → write_all (ts ++ t ∷ []) ps x ≡ write (write_all ts ps x) t x
write_all-push [] t ps x = refl
write_all-push (u ∷ ts) t ps x = write_all-push ts t (write ps u x) x

-- what is found after the first pairs of a pointer
pub record LoadedSoFar (ns : List Node) (locations : List Location) (pointer : List Pair) (i : ℕ) (kind : Kind) (found : Val) : Type 0 where
  pub below : val_top found ≤ length ns
  pub same : val_kind found ≡ kind
  pub value : (choice v : ℕ → Bool) → Runs ns choice v → (ps : List Place) → MeetsAll v locations ps
      → Meets v found (read_all (held v (take i pointer)) ps (blank kind))

pub loaded_none : (ns : List Node) (locations : List Location) (pointer : List Pair) (kind : Kind) (found : Val) → IsBlank ns kind found
    → LoadedSoFar ns locations pointer 0 kind found
loaded_none ns locations pointer kind found s = record {
  below = s.below;
  same = s.same;
  value = λ choice v r ps m. subst (λ (l : List ℕ). Meets v found (read_all l ps (blank kind))) (sym (held-nil v)) (s.value choice v r);
}

pub loaded_step : (old ns : List Node) (locations : List Location) (pointer : List Pair) (i : ℕ) (d : Pair) (kind : Kind) (found found' : Val)
    → i < length pointer → Grown old ns
    → IsRead ns (get_or pointer i d) locations found found' → LoadedSoFar old locations pointer i kind found
    → LoadedSoFar ns locations pointer (i + 1) kind found'
loaded_step old ns locations pointer i d kind found found' low g t s = record {
  below = t.below;
  same = t.same ∙ s.same;
  value = λ choice v r ps m.
      subst (λ (l : List ℕ). Meets v found' (read_all l ps (blank kind))) (sym (held-take v pointer i d low))
      (by v ps (v (get_or pointer i d).guard.at) (t.value choice v r ps (read_all (held v (take i pointer)) ps (blank kind)) m (s.value choice v
      (g.runs choice v r) ps m)));
}
  where
    by : (v : ℕ → Bool) (ps : List Place) (b : Bool)
        → Meets v found' (if b then put (read_all (held v (take i pointer)) ps (blank kind)) (cell_at ps (get_or pointer i d).target) else read_all
        (held v (take i pointer)) ps (blank kind))
        → Meets v found' (read_all (if b then held v (take i pointer) ++ (get_or pointer i d).target ∷ [] else held v (take i pointer)) ps (blank kind))
    by v ps true h = subst (Meets v found') (sym (read_all-push (held v (take i pointer)) (get_or pointer i d).target ps (blank kind))) h
    by v ps false h = h

pub loaded_whole : (ns : List Node) (locations : List Location) (pointer : List Pair) (i : ℕ) (kind : Kind) (found : Val) → length pointer ≤ i
    → LoadedSoFar ns locations pointer i kind found → IsLoaded ns locations pointer kind found
loaded_whole ns locations pointer i kind found all s = record {
  below = s.below;
  same = s.same;
  value = λ choice v r ps t m h.
      subst (λ (l : List ℕ). Meets v found (read_all l ps (blank kind))) (ap (held v) (take_all i pointer all) ∙ h.one) (s.value choice v r ps m);
}

-- the store after the first pairs of a pointer
pub record StoredSoFar (ns : List Node) (live : ℕ) (pointer : List Pair) (i : ℕ) (val : Val) (old new : List Location) : Type 0 where
  pub below : locations_top new ≤ length ns
  pub same : kinds new ≡ kinds old
  pub value : (choice v : ℕ → Bool) → Runs ns choice v → (ps : List Place) (x : Cell) → MeetsAll v old ps → Meets v val x
      → MeetsAll v new (if v live then write_all (held v (take i pointer)) ps x else ps)

pub stored_none : (ns : List Node) (live : ℕ) (pointer : List Pair) (val : Val) (ls : List Location) → locations_top ls ≤ length ns
    → StoredSoFar ns live pointer 0 val ls ls
stored_none ns live pointer val ls below = record {
  below = below;
  same = refl;
  value = λ choice v r ps x m hx. by v ps x m (v live);
}
  where
    by : (v : ℕ → Bool) (ps : List Place) (x : Cell) → MeetsAll v ls ps → (b : Bool) → MeetsAll v ls (if b then write_all (held v []) ps x else ps)
    by v ps x m true = subst (λ (l : List ℕ). MeetsAll v ls (write_all l ps x)) (sym (held-nil v)) m
    by v ps x m false = m

pub stored_step : (old mid ns : List Node) (live when : ℕ) (pointer : List Pair) (i : ℕ) (d : Pair) (val : Val) (first ls ls' : List Location)
    → i < length pointer → Grown old mid → Grown mid ns
    → Gives mid when (λ choice v. v live && v (get_or pointer i d).guard.at)
    → IsWritten ns when (get_or pointer i d).target val ls ls' → StoredSoFar old live pointer i val first ls
    → StoredSoFar ns live pointer (i + 1) val first ls'
stored_step old mid ns live when pointer i d val first ls ls' low g h both t s = record {
  below = t.below;
  same = t.same ∙ s.same;
  value = λ choice v r ps x m hx.
      (let r2 = h.runs choice v r in
      let e : v when ≡ (v live && v (get_or pointer i d).guard.at) = both.value choice v r2 in
      let before = s.value choice v (g.runs choice v r2) ps x m hx in
      let start : List Place = if v live then write_all (held v (take i pointer)) ps x else ps in
      let after = subst (λ (b : Bool). MeetsAll v ls' (if b then write start (get_or pointer i d).target x else start)) e
      (t.value choice v r start x before hx) in
      subst (λ (l : List ℕ). MeetsAll v ls' (if v live then write_all l ps x else ps)) (sym (held-take v pointer i d low))
      (by v ps x (v live) (v (get_or pointer i d).guard.at) after));
}
  where
    by : (v : ℕ → Bool) (ps : List Place) (x : Cell) (b c : Bool)
        → MeetsAll v ls' (if (b && c) then write (if b then write_all (held v (take i pointer)) ps x else ps) (get_or pointer i d).target x else
        (if b then write_all (held v (take i pointer)) ps x else ps))
        → MeetsAll v ls' (if b then write_all (if c then held v (take i pointer) ++ (get_or pointer i d).target ∷ [] else held v
        (take i pointer)) ps x else ps)
    by v ps x true true m = subst (MeetsAll v ls') (sym (write_all-push (held v (take i pointer)) (get_or pointer i d).target ps x)) m
    by v ps x true false m = m
    by v ps x false c m = m

pub stored_whole : (ns : List Node) (live : ℕ) (pointer : List Pair) (i : ℕ) (val : Val) (old new : List Location) → length pointer ≤ i
    → StoredSoFar ns live pointer i val old new → IsStored ns live pointer val old new
stored_whole ns live pointer i val old new all s = record {
  below = s.below;
  same = s.same;
  value = λ choice v r ps t x m h hx.
      subst (λ (l : List ℕ). MeetsAll v new (if v live then write_all l ps x else ps)) (ap (held v) (take_all i pointer all)
      ∙ h.one) (s.value choice v r ps x m hx);
}
