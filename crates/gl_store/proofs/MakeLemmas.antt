-- Stores that are made location by location.
use Rattle.std.proofs.Common.{◌≡◌, ℕ, zero, suc, ◌+◌, ◌<◌, ◌≤◌, Bool, true, false, List, [], ◌∷◌, ◌++◌, length, take, get_or, if◌then◌else◌, refl}
use Rattle.std.proofs.Common.{sym, ◌∙◌, ap, subst, arith}
use Rattle.std.proofs.lemmas.List.{take_more, take_all}
use Rattle.bit_net.specs.declared.nodes.Gate.{Gate}
use Rattle.bit_net.specs.declared.nodes.Node.{Node}
use Rattle.bit_net.specs.Runs.{Runs, Grown, Gives}
use Rattle.gl_store.specs.declared.stores.Flags.{Flags}
use Rattle.gl_store.specs.declared.stores.Location.{Location}
use Rattle.run_store.specs.Concrete.{Kind, Place, Marks, blank, fresh, width_kind}
use Rattle.gl_store.specs.Meets.{Meets, MeetsMarks, MeetsPlace, MeetsAll, val_kind, val_top, kinds, flags_top, locations_top}
use Rattle.gl_store.specs.Steps.{IsBlank, IsChoice, IsFresh, IsMerged, IsMergedLocation, IsMergedFlags, shape_kinds}
use Rattle.gl_store.proofs.PlaceLemmas.{locations_top-at, flags_top-at}

locations_top-nil : locations_top [] ≡ 0
unfolding locations_top
locations_top-nil = refl

locations_top-push : (ls : List Location) (l : Location) (n : ℕ) → locations_top ls ≤ n → val_top l.val ≤ n → flags_top l.flags ≤ n
    → locations_top (ls ++ l ∷ []) ≤ n
unfolding locations_top
locations_top-push [] l n h a b = omega arith
locations_top-push (k ∷ ls) l n h a b =
    let rest : locations_top ls ≤ n = omega arith in
    omega (arith, locations_top-push ls l n rest a b)

kinds-push : (ls : List Location) (l : Location) → kinds (ls ++ l ∷ []) ≡ kinds ls ++ val_kind l.val ∷ []
kinds-push [] l = refl
kinds-push (k ∷ ls) l = ap (λ x. val_kind k.val ∷ x) (kinds-push ls l)

shape_kinds-push : (ws : List ℕ) (w : ℕ) → shape_kinds (ws ++ w ∷ []) ≡ shape_kinds ws ++ width_kind w ∷ []
shape_kinds-push [] w = refl
shape_kinds-push (k ∷ ws) w = ap (λ x. width_kind k ∷ x) (shape_kinds-push ws w)

-- a place where nothing has happened
abbrev blank_place : Kind → Place
blank_place k = record { cell = blank k; marks = record { touched = false; written = false; allocated = false; freed = false; escaped = false } }

fresh-push : (ks : List Kind) (k : Kind) → fresh (ks ++ k ∷ []) ≡ fresh ks ++ blank_place k ∷ []
fresh-push [] k = refl
fresh-push (j ∷ ks) k = ap (λ x. blank_place j ∷ x) (fresh-push ks k)

MeetsAll-push : (v : ℕ → Bool) (ls : List Location) (ps : List Place) (l : Location) (p : Place) → MeetsAll v ls ps → MeetsPlace v l p
    → MeetsAll v (ls ++ l ∷ []) (ps ++ p ∷ [])
MeetsAll-push v [] [] l p h m = (m, tt)
MeetsAll-push v (k ∷ ls) (q ∷ ps) l p h m = (h.0, MeetsAll-push v ls ps l p h.1 m)
MeetsAll-push v _ _ l p h m = absurd h

pub fresh_none : (ns : List Node) (none : List Location) → none ≡ [] → IsFresh ns [] none
fresh_none ns none e = record {
  below = omega (arith, ap locations_top e, locations_top-nil);
  same = ap kinds e;
  value = λ choice v r. subst (λ (l : List Location). MeetsAll v l []) (sym e) tt;
}

pub fresh_step : (ns : List Node) (ws : List ℕ) (i d : ℕ) (ls ls' : List Location) (l : Location) (g : Gate) → i < length ws → ls' ≡ ls ++ l ∷ []
    → l.flags ≡ record { touched = g; written = g; allocated = g; freed = g; escaped = g } → Gives ns g.at (λ choice v. false)
    → IsBlank ns (width_kind (get_or ws i d)) l.val
    → IsFresh ns (take i ws) ls → IsFresh ns (take (i + 1) ws) ls'
fresh_step ns ws i d ls ls' l g low e f never b s =
    let more : shape_kinds (take (i + 1) ws) ≡ shape_kinds (take i ws) ++ width_kind (get_or ws i d) ∷ [] = ap shape_kinds (take_more ws i d low) ∙ shape_kinds-push (take i ws) (get_or ws i d) in
    let flags : flags_top l.flags ≤ length ns = omega (arith, ap flags_top f, never.below) in
    record {
      below = rw e (locations_top-push ls l (length ns) s.below b.below flags);
      same = ap kinds e ∙ kinds-push ls l ∙ ap (λ x. x ++ val_kind l.val ∷ []) s.same ∙ ap (λ k. shape_kinds (take i ws) ++ k ∷ []) b.same ∙ sym more;
      value = λ choice v r.
          (let off = never.value choice v r in
          let marks : MeetsMarks v l.flags record { touched = false; written = false; allocated = false; freed = false; escaped = false } =
          subst (λ (x : Flags). MeetsMarks v x record { touched = false; written = false; allocated = false; freed = false; escaped = false }) (sym f)
          record { touched = off; written = off; allocated = off; freed = off; escaped = off } in
          rw (e, more, fresh-push (shape_kinds (take i ws)) (width_kind (get_or ws i d)))
          (MeetsAll-push v ls (fresh (shape_kinds (take i ws))) l (blank_place (width_kind (get_or ws i d))) (s.value choice v r) record { cell = b.value choice v r; marks = marks }));
    }

pub fresh_whole : (ns : List Node) (ws : List ℕ) (i : ℕ) (ls : List Location) → length ws ≤ i → IsFresh ns (take i ws) ls → IsFresh ns ws ls
fresh_whole ns ws i ls all s = subst (λ (l : List ℕ). IsFresh ns l ls) (take_all i ws all) s

-- the locations so far of a merge, with the two that each is made of
abbrev pub Merges : (v : ℕ → Bool) (c : Bool) → (a b r : List Location) → Type 0
Merges v c [] [] [] = Unit {0}
Merges v c (x ∷ xs) (y ∷ ys) (z ∷ zs) = ((p q : Place) → MeetsPlace v x p → MeetsPlace v y q → MeetsPlace v z (if c then p else q)) × Merges v c xs ys zs
Merges v c _ _ _ = ⊥

Merges-push : (v : ℕ → Bool) (c : Bool) (xs ys zs : List Location) (x y z : Location) → Merges v c xs ys zs
    → ((p q : Place) → MeetsPlace v x p → MeetsPlace v y q → MeetsPlace v z (if c then p else q)) → Merges v c (xs ++ x ∷ []) (ys ++ y ∷ []) (zs ++ z ∷ [])
Merges-push v c [] [] [] x y z h e = (e, tt)
Merges-push v c (k ∷ xs) (l ∷ ys) (m ∷ zs) x y z h e = (h.0, Merges-push v c xs ys zs x y z h.1 e)
Merges-push v c _ _ _ x y z h e = absurd h

Merges-all : (v : ℕ → Bool) (c : Bool) (xs ys zs : List Location) (ps qs : List Place) → Merges v c xs ys zs → MeetsAll v xs ps → MeetsAll v ys qs
    → MeetsAll v zs (if c then ps else qs)
Merges-all v true [] [] [] [] [] h m n = tt
Merges-all v false [] [] [] [] [] h m n = tt
Merges-all v true (x ∷ xs) (y ∷ ys) (z ∷ zs) (p ∷ ps) (q ∷ qs) h m n = (h.0 p q m.0 n.0, Merges-all v true xs ys zs ps qs h.1 m.1 n.1)
Merges-all v false (x ∷ xs) (y ∷ ys) (z ∷ zs) (p ∷ ps) (q ∷ qs) h m n = (h.0 p q m.0 n.0, Merges-all v false xs ys zs ps qs h.1 m.1 n.1)
Merges-all v c (x ∷ xs) (y ∷ ys) (z ∷ zs) [] qs h m n = absurd m
Merges-all v c (x ∷ xs) (y ∷ ys) (z ∷ zs) (p ∷ ps) [] h m n = absurd n
Merges-all v c [] [] [] (p ∷ ps) qs h m n = absurd m
Merges-all v c [] [] [] [] (q ∷ qs) h m n = absurd n
Merges-all v c _ _ _ ps qs h m n = absurd h

pub record MergedSoFar (ns : List Node) (c : ℕ) (a b : List Location) (i : ℕ) (r : List Location) : Type 0 where
  pub below : locations_top r ≤ length ns
  pub same : kinds r ≡ kinds (take i a)
  pub value : (choice v : ℕ → Bool) → Runs ns choice v → Merges v (v c) (take i a) (take i b) r

pub merged_none : (ns : List Node) (c : ℕ) (a b none : List Location) → none ≡ [] → MergedSoFar ns c a b 0 none
merged_none ns c a b none e = record {
  below = omega (arith, ap locations_top e, locations_top-nil);
  same = ap kinds e;
  value = λ choice v r. subst (Merges v (v c) [] []) (sym e) tt;
}

kinds-length : (a : List Location) → length (kinds a) ≡ length a
kinds-length [] = refl
kinds-length (x ∷ a) = ap suc (kinds-length a)

pub same_length : (a b : List Location) → kinds a ≡ kinds b → length a ≡ length b
same_length a b e = sym (kinds-length a) ∙ ap length e ∙ kinds-length b

same_kind : (a b : List Location) (i : ℕ) (d e : Location) → kinds a ≡ kinds b → i < length a → val_kind (get_or a i d).val ≡ val_kind (get_or b i e).val
same_kind [] b i d e h low = absurd (omega arith)
same_kind (x ∷ a) [] i d e h low = absurd (cc)
same_kind (x ∷ a) (y ∷ b) zero d e h low = cc
same_kind (x ∷ a) (y ∷ b) (suc i) d e h low = let low' : i < length a = omega arith in let rest : kinds a ≡ kinds b = cc in same_kind a b i d e rest low'

pub same_kind_at : (a b : List Location) (i : ℕ) (x y : Location) → x ≡ get_or a i x → y ≡ get_or b i y → kinds a ≡ kinds b → i < length a
    → val_kind x.val ≡ val_kind y.val
same_kind_at a b i x y ex ey h low = ap (λ (l : Location). val_kind l.val) ex ∙ same_kind a b i x y h low ∙ ap (λ (l : Location). val_kind l.val) (sym ey)

pub val_below_at : (ls : List Location) (i n : ℕ) (x : Location) → x ≡ get_or ls i x → i < length ls → locations_top ls ≤ n → val_top x.val ≤ n
val_below_at ls i n x e low h = subst (λ (l : Location). val_top l.val ≤ n) (sym e) (let below : val_top (get_or ls i x).val ≤ n = omega (arith, locations_top-at ls i x low) in below)

pub flags_below_at : (ls : List Location) (i n : ℕ) (x : Location) → x ≡ get_or ls i x → i < length ls → locations_top ls ≤ n → flags_top x.flags ≤ n
flags_below_at ls i n x e low h = subst (λ (l : Location). flags_top l.flags ≤ n) (sym e) (let below : flags_top (get_or ls i x).flags ≤ n = omega (arith, flags_top-at ls i x low) in below)

pub merged_step : (old ns : List Node) (c : ℕ) (a b ls ls' : List Location) (i : ℕ) (x y l : Location) → x ≡ get_or a i x → y ≡ get_or b i y
    → i < length a → i < length b → ls' ≡ ls ++ l ∷ [] → Grown old ns
    → IsMergedLocation ns c x y l → MergedSoFar old c a b i ls → MergedSoFar ns c a b (i + 1) ls'
merged_step old ns c a b ls ls' i x y l ex ey low low' pushed g t s =
    let more_a : take (i + 1) a ≡ take i a ++ x ∷ [] = take_more a i x low ∙ ap (λ k. take i a ++ k ∷ []) (sym ex) in
    let more_b : take (i + 1) b ≡ take i b ++ y ∷ [] = take_more b i y low' ∙ ap (λ k. take i b ++ k ∷ []) (sym ey) in
    record {
      below = rw pushed (locations_top-push ls l (length ns) (omega (arith, s.below, g.longer)) t.below t.flags_below);
      same = ap kinds pushed ∙ kinds-push ls l ∙ ap (λ k. k ++ val_kind l.val ∷ []) s.same ∙ ap (λ k. kinds (take i a) ++ k ∷ []) t.kind ∙ sym (ap kinds more_a ∙ kinds-push (take i a) x);
      value = λ choice v r.
          rw (pushed, more_a, more_b) (Merges-push v (v c) (take i a) (take i b) ls x y l (s.value choice v (g.runs choice v r)) (t.value choice v r));
    }

pub merged_whole : (ns : List Node) (c : ℕ) (a b r : List Location) (i : ℕ) → length a ≤ i → length b ≤ i → MergedSoFar ns c a b i r → IsMerged ns c a b r
merged_whole ns c a b r i all all' s = record {
  below = s.below;
  same = s.same ∙ ap kinds (take_all i a all);
  value = λ choice v run ps qs m n. Merges-all v (v c) a b r ps qs (rw (take_all i a all, take_all i b all') at (s.value choice v run)) m n;
}

-- a location of a value and flags
pub merged_location : (mid ns : List Node) (c : ℕ) (a b r : Location) → val_kind a.val ≡ val_kind b.val → Grown mid ns
    → IsChoice mid c a.val b.val r.val → IsMergedFlags ns c a.flags b.flags r.flags
    → IsMergedLocation ns c a b r
merged_location mid ns c a b r k g s t = record {
  below = omega (arith, s.below, g.longer);
  flags_below = t.below;
  kind = s.kind ∙ sym k;
  value = λ choice v run p q m n. by choice v p q (v c) (s.value choice v (g.runs choice v run) p.cell q.cell m.cell n.cell) (t.value choice v run p.marks q.marks m.marks n.marks);
}
  where
    by : (choice v : ℕ → Bool) (p q : Place) (x : Bool) → Meets v r.val (if x then p.cell else q.cell)
        → MeetsMarks v r.flags (if x then p.marks else q.marks) → MeetsPlace v r (if x then p else q)
    by choice v p q true m n = record { cell = m; marks = n }
    by choice v p q false m n = record { cell = m; marks = n }

pub Gives-grown : (old ns : List Node) (g : ℕ) (of : (ℕ → Bool) → (ℕ → Bool) → Bool) → Grown old ns → Gives old g of → Gives ns g of
Gives-grown old ns g of h s = record { below = omega (arith, s.below, h.longer); value = λ choice v r. s.value choice v (h.runs choice v r) }

pub merged_flags : (ns : List Node) (c : ℕ) (a b r : Flags)
    → Gives ns r.touched.at (λ choice v. if v c then v a.touched.at else v b.touched.at)
    → Gives ns r.written.at (λ choice v. if v c then v a.written.at else v b.written.at)
    → Gives ns r.allocated.at (λ choice v. if v c then v a.allocated.at else v b.allocated.at)
    → Gives ns r.freed.at (λ choice v. if v c then v a.freed.at else v b.freed.at)
    → Gives ns r.escaped.at (λ choice v. if v c then v a.escaped.at else v b.escaped.at) → IsMergedFlags ns c a b r
merged_flags ns c a b r g1 g2 g3 g4 g5 = record {
  below = omega (arith, g1.below, g2.below, g3.below, g4.below, g5.below);
  value = λ choice v run m n ha hb.
      by v m n ha hb (v c) (g1.value choice v run) (g2.value choice v run) (g3.value choice v run) (g4.value choice v run) (g5.value choice v run);
}
  where
    by : (v : ℕ → Bool) (m n : Marks) → MeetsMarks v a m → MeetsMarks v b n → (x : Bool)
        → v r.touched.at ≡ (if x then v a.touched.at else v b.touched.at) → v r.written.at ≡ (if x then v a.written.at else v b.written.at)
        → v r.allocated.at ≡ (if x then v a.allocated.at else v b.allocated.at) → v r.freed.at ≡ (if x then v a.freed.at else v b.freed.at)
        → v r.escaped.at ≡ (if x then v a.escaped.at else v b.escaped.at) → MeetsMarks v r (if x then m else n)
    by v m n ha hb true e1 e2 e3 e4 e5 =
        record { touched = e1 ∙ ha.touched; written = e2 ∙ ha.written; allocated = e3 ∙ ha.allocated; freed = e4 ∙ ha.freed; escaped = e5 ∙ ha.escaped }
    by v m n ha hb false e1 e2 e3 e4 e5 =
        record { touched = e1 ∙ hb.touched; written = e2 ∙ hb.written; allocated = e3 ∙ hb.allocated; freed = e4 ∙ hb.freed; escaped = e5 ∙ hb.escaped }
