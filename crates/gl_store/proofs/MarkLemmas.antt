-- Flags read and made to hold.
use Rattle.std.proofs.Common.{◌≡◌, ℕ, zero, suc, ◌+◌, ◌-◌, ◌<◌, ◌≤◌, Bool, true, false, ◌&&◌, ◌||◌, if◌then◌else◌}
use Rattle.std.proofs.Common.{List, [], ◌∷◌, ◌++◌, length, take, get_or, set, refl, sym, ◌∙◌, ap, subst, arith}
use Rattle.std.proofs.lemmas.List.{take_all}
use Rattle.bit_net.specs.declared.nodes.Gate.{Gate}
use Rattle.bit_net.specs.declared.nodes.Node.{Node}
use Rattle.bit_net.specs.Runs.{Runs, Grown, Gives}
use Rattle.gl_sets.specs.declared.pairs.Pair.{Pair}
use Rattle.gl_sets.specs.Guards.{held}
use Rattle.gl_sets.proofs.GuardLemmas.{held-nil, held-take}
use Rattle.gl_store.specs.declared.values.Val.{Val}
use Rattle.run_store.specs.declared.Flag.{Flag}
use Rattle.run_store.specs.declared.Flag.TheVariants.{Touched, Written, Allocated, Freed, Escaped}
use Rattle.gl_store.specs.declared.stores.Flags.{Flags}
use Rattle.gl_store.specs.declared.stores.Location.{Location}
use Rattle.run_store.specs.Concrete.{Place, Marks, flag_of, with_flag, flag_at, marked}
use Rattle.gl_store.specs.Meets.{Meets, MeetsMarks, MeetsAll, val_kind, val_top, kinds, flags_top, locations_top, gate_of, with_gate}
use Rattle.gl_store.specs.Steps.{IsFlag, IsFlagAnywhere, IsMarked, IsMarkedTarget, IsMarkedWhere, marked_target}
use Rattle.gl_store.proofs.PlaceLemmas.{locations_top-at, locations_top-set, flags_top-at, kinds-set}

gate_below : (f : Flags) (flag : Flag) → gate_of f flag < flags_top f
gate_below f Touched = omega arith
gate_below f Written = omega arith
gate_below f Allocated = omega arith
gate_below f Freed = omega arith
gate_below f Escaped = omega arith

gate_value : (v : ℕ → Bool) (f : Flags) (m : Marks) (flag : Flag) → MeetsMarks v f m → v (gate_of f flag) ≡ flag_of m flag
gate_value v f m Touched h = h.touched
gate_value v f m Written h = h.written
gate_value v f m Allocated h = h.allocated
gate_value v f m Freed h = h.freed
gate_value v f m Escaped h = h.escaped

with_gate_below : (f : Flags) (flag : Flag) (g : Gate) (n : ℕ) → flags_top f ≤ n → g.at < n → flags_top (with_gate f flag g) ≤ n
with_gate_below f Touched g n h l = omega arith
with_gate_below f Written g n h l = omega arith
with_gate_below f Allocated g n h l = omega arith
with_gate_below f Freed g n h l = omega arith
with_gate_below f Escaped g n h l = omega arith

with_gate_value : (v : ℕ → Bool) (f : Flags) (m : Marks) (flag : Flag) (g : Gate) (b : Bool) → MeetsMarks v f m → v g.at ≡ (flag_of m flag || b)
    → MeetsMarks v (with_gate f flag g) (with_flag m flag b)
with_gate_value v f m Touched g b h e = record { touched = e; written = h.written; allocated = h.allocated; freed = h.freed; escaped = h.escaped }
with_gate_value v f m Written g b h e = record { touched = h.touched; written = e; allocated = h.allocated; freed = h.freed; escaped = h.escaped }
with_gate_value v f m Allocated g b h e = record { touched = h.touched; written = h.written; allocated = e; freed = h.freed; escaped = h.escaped }
with_gate_value v f m Freed g b h e = record { touched = h.touched; written = h.written; allocated = h.allocated; freed = e; escaped = h.escaped }
with_gate_value v f m Escaped g b h e = record { touched = h.touched; written = h.written; allocated = h.allocated; freed = h.freed; escaped = e }

flag_value : (v : ℕ → Bool) (ls : List Location) (ps : List Place) (i : ℕ) (d : Location) (flag : Flag) → i < length ls → MeetsAll v ls ps
    → v (gate_of (get_or ls i d).flags flag) ≡ flag_at ps i flag
flag_value v [] [] i d flag low h = absurd (omega arith)
flag_value v (l ∷ ls) (p ∷ ps) zero d flag low h = gate_value v l.flags p.marks flag h.0.marks
flag_value v (l ∷ ls) (p ∷ ps) (suc i) d flag low h = let low' : i < length ls = omega arith in flag_value v ls ps i d flag low' h.1
flag_value v _ _ i d flag low h = absurd h

pub flag_there : (ls : List Location) (i : ℕ) (d : Location) (flag : Flag) (g : ℕ) → i < length ls → g ≡ gate_of (get_or ls i d).flags flag
    → IsFlag ls i flag g
flag_there ls i d flag g low e = record {
  below = omega (arith, gate_below (get_or ls i d).flags flag, flags_top-at ls i d low);
  value = λ v ps h. ap v e ∙ flag_value v ls ps i d flag low h;
}

pub flag_below : (ls : List Location) (i : ℕ) (d : Location) (flag : Flag) → i < length ls → gate_of (get_or ls i d).flags flag < locations_top ls
flag_below ls i d flag low = omega (arith, gate_below (get_or ls i d).flags flag, flags_top-at ls i d low)

MeetsAll-marked : (v : ℕ → Bool) (ls : List Location) (ps : List Place) (i : ℕ) (d l : Location) (flag : Flag) (g : Gate) (b : Bool) → i < length ls
    → l.val ≡ (get_or ls i d).val
    → l.flags ≡ with_gate (get_or ls i d).flags flag g → v g.at ≡ (v (gate_of (get_or ls i d).flags flag) || b) → MeetsAll v ls ps
    → MeetsAll v (set ls i l) (marked ps i flag b)
MeetsAll-marked v [] [] i d l flag g b low e f h m = absurd (omega arith)
MeetsAll-marked v (k ∷ ls) (p ∷ ps) zero d l flag g b low e f h m = (
  record {
    cell = subst (λ (x : Val). Meets v x p.cell) (sym e) m.0.cell;
    marks = subst (λ (x : Flags). MeetsMarks v x (with_flag p.marks flag b)) (sym f)
        (with_gate_value v k.flags p.marks flag g b m.0.marks (h ∙ ap (λ x. x || b) (gate_value v k.flags p.marks flag m.0.marks)));
  },
  m.1,
)
MeetsAll-marked v (k ∷ ls) (p ∷ ps) (suc i) d l flag g b low e f h m = let low' : i < length ls = omega arith in
    (m.0, MeetsAll-marked v ls ps i d l flag g b low' e f h m.1)
MeetsAll-marked v _ _ i d l flag g b low e f h m = absurd m

pub marked_there : (old ns : List Node) (when i : ℕ) (flag : Flag) (ls ls' : List Location) (d l : Location) (g : Gate) (was : ℕ) → Grown old ns
    → i < length ls → locations_top ls ≤ length old
    → ls' ≡ set ls i l → l.val ≡ (get_or ls i d).val → l.flags ≡ with_gate (get_or ls i d).flags flag g → was ≡ gate_of (get_or ls i d).flags flag
    → Gives ns g.at (λ choice v. v was || v when) → IsMarked ns when i flag ls ls'
marked_there old ns when i flag ls ls' d l g was grown low below e f1 f2 w s = record {
  below = rw e (locations_top-set ls i l (length ns) (omega (arith, grown.longer))
      (let vals : val_top l.val ≤ length ns = omega (arith, ap val_top f1, locations_top-at ls i d low, below, grown.longer) in vals)
      (rw f2 (with_gate_below (get_or ls i d).flags flag g (length ns) (omega (arith, flags_top-at ls i d low, below, grown.longer)) s.below)));
  same = ap kinds e ∙ kinds-set ls i d l low (ap val_kind f1);
  value = λ choice v r ps m.
      subst (λ (k : List Location). MeetsAll v k (marked ps i flag (v when))) (sym e)
      (MeetsAll-marked v ls ps i d l flag g (v when) low f1 f2
      (s.value choice v r ∙ ap (λ k. v k || v when) w) m);
}

-- a location does not depend on what would stand past the end
pub same_place : (ls : List Location) (i : ℕ) (d e : Location) → i < length ls → (get_or ls i d).val ≡ (get_or ls i e).val
same_place [] i d e low = absurd (omega arith)
same_place (l ∷ ls) zero d e low = refl
same_place (l ∷ ls) (suc i) d e low = let low' : i < length ls = omega arith in same_place ls i d e low'

-- a flag of a location, or false past the end
flag_at-past : (v : ℕ → Bool) (ls : List Location) (ps : List Place) (i : ℕ) (flag : Flag) → length ls ≤ i → MeetsAll v ls ps → flag_at ps i flag ≡ false
flag_at-past v [] [] i flag past h = refl
flag_at-past v (l ∷ ls) (p ∷ ps) zero flag past h = absurd (omega arith)
flag_at-past v (l ∷ ls) (p ∷ ps) (suc i) flag past h = let past' : length ls ≤ i = omega arith in flag_at-past v ls ps i flag past' h.1
flag_at-past v _ _ i flag past h = absurd h

pub anywhere_there : (ns : List Node) (ls : List Location) (i : ℕ) (flag : Flag) (g : ℕ) → locations_top ls ≤ length ns → IsFlag ls i flag g
    → IsFlagAnywhere ns ls i flag g
anywhere_there ns ls i flag g below s = record { below = omega (arith, s.below); value = λ choice v r ps m. s.value v ps m }

pub anywhere_past : (ns : List Node) (ls : List Location) (i : ℕ) (flag : Flag) (g : ℕ) → length ls ≤ i → Gives ns g (λ choice v. false)
    → IsFlagAnywhere ns ls i flag g
anywhere_past ns ls i flag g past s = record {
  below = s.below;
  value = λ choice v r ps m. s.value choice v r ∙ sym (flag_at-past v ls ps i flag past m);
}

-- a mark that is not made changes nothing
or_false : (b : Bool) → (b || false) ≡ b
or_false true = refl
or_false false = refl

with_flag-false : (m : Marks) (flag : Flag) → with_flag m flag false ≡ m
with_flag-false m Touched = ap (λ b. record m { touched = b }) (or_false m.touched)
with_flag-false m Written = ap (λ b. record m { written = b }) (or_false m.written)
with_flag-false m Allocated = ap (λ b. record m { allocated = b }) (or_false m.allocated)
with_flag-false m Freed = ap (λ b. record m { freed = b }) (or_false m.freed)
with_flag-false m Escaped = ap (λ b. record m { escaped = b }) (or_false m.escaped)

marked-false : (ps : List Place) (i : ℕ) (flag : Flag) → marked ps i flag false ≡ ps
marked-false [] i flag = refl
marked-false (p ∷ ps) zero flag = ap (λ m. record p { marks = m } ∷ ps) (with_flag-false p.marks flag)
marked-false (p ∷ ps) (suc i) flag = ap (λ qs. p ∷ qs) (marked-false ps i flag)

marked_target-false : (ps : List Place) (t : ℕ) (flag : Flag) → marked_target ps t flag false ≡ ps
marked_target-false ps zero flag = refl
marked_target-false ps (suc i) flag = marked-false ps i flag

marked-past : (v : ℕ → Bool) (ls : List Location) (ps : List Place) (i : ℕ) (flag : Flag) (b : Bool) → length ls ≤ i → MeetsAll v ls ps
    → marked ps i flag b ≡ ps
marked-past v [] [] i flag b past h = refl
marked-past v (l ∷ ls) (p ∷ ps) zero flag b past h = absurd (omega arith)
marked-past v (l ∷ ls) (p ∷ ps) (suc i) flag b past h =
    let past' : length ls ≤ i = omega arith in ap (λ qs. p ∷ qs) (marked-past v ls ps i flag b past' h.1)
marked-past v _ _ i flag b past h = absurd h

marked_target-none : (v : ℕ → Bool) (ls : List Location) (ps : List Place) (t : ℕ) (flag : Flag) (b : Bool) → (0 < t → length ls < t) → MeetsAll v ls ps
    → marked_target ps t flag b ≡ ps
marked_target-none v ls ps zero flag b h m = refl
marked_target-none v ls ps (suc i) flag b h m =
    let past : length ls ≤ i = omega (arith, h (omega arith)) in marked-past v ls ps i flag b past m

marked_target-there : (ps : List Place) (t : ℕ) (flag : Flag) (b : Bool) → (t ≡ 0 → ⊥) → marked_target ps t flag b ≡ marked ps (t - 1) flag b
marked_target-there ps zero flag b h = absurd (h refl)
marked_target-there ps (suc i) flag b h = ap (λ k. marked ps k flag b) (let e : i ≡ suc i - 1 = omega arith in e)

-- a mark at a target
pub target_none : (ns : List Node) (when t : ℕ) (flag : Flag) (ls : List Location) → (0 < t → length ls < t) → locations_top ls ≤ length ns
    → IsMarkedTarget ns when t flag ls ls
target_none ns when t flag ls h below = record {
  below = below;
  same = refl;
  value = λ choice v r ps m. subst (MeetsAll v ls) (sym (marked_target-none v ls ps t flag (v when) h m)) m;
}

pub target_there : (ns : List Node) (when t : ℕ) (flag : Flag) (old new : List Location) → (t ≡ 0 → ⊥) → IsMarked ns when (t - 1) flag old new
    → IsMarkedTarget ns when t flag old new
target_there ns when t flag old new some s = record {
  below = s.below;
  same = s.same;
  value = λ choice v r ps m. subst (MeetsAll v new) (sym (marked_target-there ps t flag (v when) some)) (s.value choice v r ps m);
}

-- marks at the targets of the first pairs of a pointer
abbrev mark_all : List ℕ → List Place → Flag → Bool → List Place
mark_all [] ps flag b = ps
mark_all (t ∷ ts) ps flag b = mark_all ts (marked_target ps t flag b) flag b

mark_all-push : (ts : List ℕ) (t : ℕ) (ps : List Place) (flag : Flag) (b : Bool)
    → mark_all (ts ++ t ∷ []) ps flag b ≡ marked_target (mark_all ts ps flag b) t flag b
mark_all-push [] t ps flag b = refl
mark_all-push (u ∷ ts) t ps flag b = mark_all-push ts t (marked_target ps u flag b) flag b

pub record MarkedSoFar (ns : List Node) (live : ℕ) (pointer : List Pair) (i : ℕ) (flag : Flag) (old new : List Location) : Type 0 where
  pub below : locations_top new ≤ length ns
  pub same : kinds new ≡ kinds old
  pub value : (choice v : ℕ → Bool) → Runs ns choice v → (ps : List Place) → MeetsAll v old ps
      → MeetsAll v new (mark_all (held v (take i pointer)) ps flag (v live))

pub mark_none : (ns : List Node) (live : ℕ) (pointer : List Pair) (flag : Flag) (ls : List Location) → locations_top ls ≤ length ns
    → MarkedSoFar ns live pointer 0 flag ls ls
mark_none ns live pointer flag ls below = record {
  below = below;
  same = refl;
  value = λ choice v r ps m. subst (λ (l : List ℕ). MeetsAll v ls (mark_all l ps flag (v live))) (sym (held-nil v)) m;
}

pub mark_step : (old mid ns : List Node) (live when : ℕ) (pointer : List Pair) (i : ℕ) (d : Pair) (flag : Flag) (first ls ls' : List Location)
    → i < length pointer
    → Grown old mid → Grown mid ns → Gives mid when (λ choice v. v live && v (get_or pointer i d).guard.at)
    → IsMarkedTarget ns when (get_or pointer i d).target flag ls ls' → MarkedSoFar old live pointer i flag first ls
    → MarkedSoFar ns live pointer (i + 1) flag first ls'
mark_step old mid ns live when pointer i d flag first ls ls' low g h both t s = record {
  below = t.below;
  same = t.same ∙ s.same;
  value = λ choice v r ps m.
      (let r2 = h.runs choice v r in
      let start : List Place = mark_all (held v (take i pointer)) ps flag (v live) in
      let before : MeetsAll v ls start = s.value choice v (g.runs choice v r2) ps m in
      let after = subst (λ (b : Bool). MeetsAll v ls' (marked_target start (get_or pointer i d).target flag b)) (both.value choice v r2)
      (t.value choice v r start before) in
      subst (λ (l : List ℕ). MeetsAll v ls' (mark_all l ps flag (v live))) (sym (held-take v pointer i d low))
      (by v ps (v live) (v (get_or pointer i d).guard.at) after));
}
  where
    by : (v : ℕ → Bool) (ps : List Place) (b c : Bool)
        → MeetsAll v ls' (marked_target (mark_all (held v (take i pointer)) ps flag b) (get_or pointer i d).target flag (b && c))
        → MeetsAll v ls' (mark_all (if c then held v (take i pointer) ++ (get_or pointer i d).target ∷ [] else held v (take i pointer)) ps flag b)
    by v ps true true m = subst (MeetsAll v ls') (sym (mark_all-push (held v (take i pointer)) (get_or pointer i d).target ps flag true)) m
    by v ps true false m = subst (MeetsAll v ls') (marked_target-false (mark_all (held v (take i pointer)) ps flag true) (get_or pointer i d).target flag) m
    by v ps false true m = subst (MeetsAll v ls') (sym (mark_all-push (held v (take i pointer)) (get_or pointer i d).target ps flag false)) m
    by v ps false false m = subst (MeetsAll v ls') (marked_target-false (mark_all (held v (take i pointer)) ps flag false) (get_or pointer i d).target flag) m

pub mark_whole : (ns : List Node) (live : ℕ) (pointer : List Pair) (i : ℕ) (flag : Flag) (old new : List Location) → length pointer ≤ i
    → MarkedSoFar ns live pointer i flag old new → IsMarkedWhere ns live pointer flag old new
mark_whole ns live pointer i flag old new all s = record {
  below = s.below;
  same = s.same;
  value = λ choice v r ps t m h.
      subst (λ (l : List ℕ). MeetsAll v new (mark_all l ps flag (v live))) (ap (held v) (take_all i pointer all) ∙ h.one) (s.value choice v r ps m);
}
