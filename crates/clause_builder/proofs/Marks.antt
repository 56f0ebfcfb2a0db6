-- Marks are closed from the last gate down, so that a gate that is not loaded has its operands marked.

use Rattle.std.proofs.Common.{◌≡◌, ℕ, ◌+◌, ◌<◌, ◌≤◌, Bool, true, false, ◌&&◌, List, [], ◌∷◌, ◌++◌, length, set, get_or, replicate, Option, Some, None, slice_get, refl, sym, subst, ap, ◌∙◌, ⊎_elim, arith}
use Rattle.std.proofs.lemmas.List.{get_or-set_same, get_or-set_other, get_or_past, get_or_push, get_or_append_left, length-set, length_push, length-replicate}
use Rattle.std.proofs.lemmas.Bool.{and_parts, cases_eq, cases_lt, false≢true}
use Rattle.std.specs.Prelude.{is_some, is_none, IsSome}
use Rattle.bit_net.specs.declared.nodes.Node.{Node}
use Rattle.bit_net.specs.declared.nodes.Node.TheVariants.{Constant, Input, Not, And, Or, Xor, Mux}
use Rattle.bit_net.specs.Circuit.{IsCircuit}
use Rattle.sat_base.specs.declared.literal.Lit.{Lit}
use Rattle.clause_builder.specs.Cones.{lit_at, plain, EachOperand, is_marked, with_operands, IsClosedAt, IsClosing, IsCone, IsLoadedAt}

pub each_more : (P Q : ℕ → Type 0) → ((a : ℕ) → P a → Q a) → (n : Node) → EachOperand P n → EachOperand Q n
each_more P Q step (Constant b) each = tt
each_more P Q step (Input k) each = tt
each_more P Q step (Not a) each = step a.at each
each_more P Q step (And a b) each = (step a.at each.0, step b.at each.1)
each_more P Q step (Or a b) each = (step a.at each.0, step b.at each.1)
each_more P Q step (Xor a b) each = (step a.at each.0, step b.at each.1)
each_more P Q step (Mux c a b) each = (step c.at each.0, step a.at each.1, step b.at each.2)

-- a node in the form in which it is loaded reads earlier gates
plain_true : (ns : List Node) (g : ℕ) → IsCircuit ns → slice_get ns g ≡ Some (Constant true) → 0 < g
plain_true ns g circuit here =
    ⊎_elim
    (λ first. let start : g ≡ 0 = omega (arith, first) in let same = sym circuit.zero ∙ ap (slice_get ns) (sym start) ∙ here in let e : Constant false ≡ Constant true = cc in cc)
    (λ later. omega (arith, later))
    (cases_lt g 1)

pub plain_reads : (ns : List Node) (g : ℕ) (n : Node) → IsCircuit ns → slice_get ns g ≡ Some n → EachOperand (λ a. a < g) (plain n)
plain_reads ns g (Constant true) circuit here = plain_true ns g circuit here
plain_reads ns g (Constant false) circuit here = tt
plain_reads ns g (Input k) circuit here = tt
plain_reads ns g (Not a) circuit here = circuit.earlier g (Not a) here
plain_reads ns g (And a b) circuit here = circuit.earlier g (And a b) here
plain_reads ns g (Or a b) circuit here = circuit.earlier g (Or a b) here
plain_reads ns g (Xor a b) circuit here = circuit.earlier g (Xor a b) here
plain_reads ns g (Mux c a b) circuit here = circuit.earlier g (Mux c a b) here

-- one mark more
mark_here : (marks : List Bool) (a : ℕ) → a < length marks → is_marked (set marks a true) a ≡ true
mark_here marks a inside = get_or-set_same marks a true false inside

mark_kept : (marks : List Bool) (a g : ℕ) → a < length marks → is_marked marks g ≡ true → is_marked (set marks a true) g ≡ true
mark_kept marks a g inside marked =
    ⊎_elim
    (λ same. ap (is_marked (set marks a true)) same ∙ mark_here marks a inside)
    (λ other. get_or-set_other marks a g true false other ∙ marked)
    (cases_eq g a)

mark_later : (marks : List Bool) (a g : ℕ) → a < g → is_marked (set marks a true) g ≡ is_marked marks g
mark_later marks a g less = get_or-set_other marks a g true false (λ same. omega (arith, less, same))

-- the marks of two gates
record Both (marks : List Bool) (a b : ℕ) (at : ℕ) : Type 0 where
  kept : (g : ℕ) → is_marked marks g ≡ true → is_marked (set (set marks a true) b true) g ≡ true
  first : is_marked (set (set marks a true) b true) a ≡ true
  second : is_marked (set (set marks a true) b true) b ≡ true
  later : (g : ℕ) → at ≤ g → is_marked (set (set marks a true) b true) g ≡ is_marked marks g

both : (marks : List Bool) (a b at : ℕ) → at ≤ length marks → a < at → b < at → Both marks a b at
both marks a b at room ha hb =
    let wide : b < length (set marks a true) = omega (arith, room, hb, length-set marks a true) in
    let inside : a < length marks = omega (arith, room, ha) in
    record {
      kept = λ g marked. mark_kept (set marks a true) b g wide (mark_kept marks a g inside marked);
      first = mark_kept (set marks a true) b a wide (mark_here marks a inside);
      second = mark_here (set marks a true) b wide;
      later = λ g past. mark_later (set marks a true) b g (omega (arith, past, hb)) ∙ mark_later marks a g (omega (arith, past, ha));
    }

record Marked (n : Node) (marks : List Bool) (at : ℕ) : Type 0 where
  kept : (g : ℕ) → is_marked marks g ≡ true → is_marked (with_operands n marks) g ≡ true
  each : EachOperand (λ a. is_marked (with_operands n marks) a ≡ true) n
  later : (g : ℕ) → at ≤ g → is_marked (with_operands n marks) g ≡ is_marked marks g

marked : (n : Node) (marks : List Bool) (at : ℕ) → at ≤ length marks → EachOperand (λ a. a < at) n → Marked n marks at
marked (Constant b) marks at room reads = record { kept = λ g m. m; each = tt; later = λ g p. refl }
marked (Input k) marks at room reads = record { kept = λ g m. m; each = tt; later = λ g p. refl }
marked (Not a) marks at room reads =
    let inside : a.at < length marks = omega (arith, room, reads) in
    record {
      kept = λ g m. mark_kept marks a.at g inside m;
      each = mark_here marks a.at inside;
      later = λ g p. mark_later marks a.at g (omega (arith, p, reads));
    }
marked (And a b) marks at room reads =
    let two = both marks a.at b.at at room reads.0 reads.1 in record { kept = two.kept; each = (two.first, two.second); later = two.later }
marked (Or a b) marks at room reads =
    let two = both marks a.at b.at at room reads.0 reads.1 in record { kept = two.kept; each = (two.first, two.second); later = two.later }
marked (Xor a b) marks at room reads =
    let two = both marks a.at b.at at room reads.0 reads.1 in record { kept = two.kept; each = (two.first, two.second); later = two.later }
marked (Mux c a b) marks at room reads =
    let inside : c.at < length marks = omega (arith, room, reads.0) in
    let one : List Bool = set marks c.at true in
    let two = both one a.at b.at at (omega (arith, room, length-set marks c.at true)) reads.1 reads.2 in
    record {
      kept = λ g m. two.kept g (mark_kept marks c.at g inside m);
      each = (two.kept c.at (mark_here marks c.at inside), two.first, two.second);
      later = λ g p. two.later g p ∙ mark_later marks c.at g (omega (arith, p, reads.0));
    }

same_node : (ns : List Node) (g : ℕ) (n m : Node) → slice_get ns g ≡ Some n → slice_get ns g ≡ Some m → n ≡ m
same_node ns g n m is here = let both : Some n ≡ Some m = sym is ∙ here in cc

-- gate g is closed by marking what it reads
pub closing_marked : (ns : List Node) (loaded : List (Option Lit)) (g : ℕ) (n : Node) (old new : List Bool)
    → IsCircuit ns → slice_get ns g ≡ Some n → g ≤ length old → new ≡ with_operands (plain n) old → IsClosing ns loaded g old new
closing_marked ns loaded g n old new circuit here room is =
    let all = marked (plain n) old g room (plain_reads ns g n circuit here) in
    subst (IsClosing ns loaded g old) (sym is)
    (record {
      kept = all.kept;
      later = all.later;
      closed =
          record {
            closed =
                λ m there marks_g missing.
                subst (λ x. EachOperand (λ a. is_marked (with_operands (plain n) old) a ≡ true) (plain x)) (same_node ns g n m here there) all.each;
          };
    })

-- or it is closed already
pub closing_unmarked : (ns : List Node) (loaded : List (Option Lit)) (g : ℕ) (old new : List Bool)
    → new ≡ old → (is_marked old g ≡ true → lit_at loaded g ≡ None → ⊥) → IsClosing ns loaded g old new
closing_unmarked ns loaded g old new is not_open =
    subst (IsClosing ns loaded g old) (sym is)
    (record {
      kept = λ a m. m;
      later = λ a p. refl;
      closed = record { closed = λ m there marks_g missing. absurd (not_open marks_g missing) };
    })

-- what was closed from g on stays closed
pub closed_more : (ns : List Node) (loaded : List (Option Lit)) (g : ℕ) (old new : List Bool) (n : ℕ)
    → IsClosing ns loaded g old new → ((a : ℕ) → g + 1 ≤ a → a < n → IsClosedAt ns loaded old a)
    → (a : ℕ) → g ≤ a → a < n → IsClosedAt ns loaded new a
closed_more ns loaded g old new n closing before a past inside =
    ⊎_elim
    (λ same. subst (IsClosedAt ns loaded new) (sym same) closing.closed)
    (λ other.
    let closed = before a (omega (arith, past, other)) inside in
    record {
      closed =
          λ m there marks_a missing.
          each_more (λ x. is_marked old x ≡ true) (λ x. is_marked new x ≡ true) closing.kept (plain m)
          (closed.closed m there (sym (closing.later a past) ∙ marks_a) missing);
    })
    (cases_eq a g)

-- a gate is open where it is marked and has no literal
pub not_open : (marks : List Bool) (loaded : List (Option Lit)) (at : ℕ) (b : Bool) → b ≡ (is_marked marks at && is_none (lit_at loaded at))
    → b ≡ false → is_marked marks at ≡ true → lit_at loaded at ≡ None → ⊥
not_open marks loaded at b is fails here none =
    false≢true (sym fails ∙ is ∙ ap (λ m. m && is_none (lit_at loaded at)) here ∙ ap is_none none)

none_from : (o : Option Lit) → is_none o ≡ true → o ≡ None
none_from None is = refl
none_from (Some l) is = absurd (false≢true is)

pub open_parts : (marks : List Bool) (loaded : List (Option Lit)) (at : ℕ) (b : Bool) → b ≡ (is_marked marks at && is_none (lit_at loaded at))
    → b ≡ true → (is_marked marks at ≡ true) × (lit_at loaded at ≡ None)
open_parts marks loaded at b is holds =
    let both = and_parts (is_marked marks at) (is_none (lit_at loaded at)) (sym is ∙ holds) in (both.0, none_from (lit_at loaded at) both.1)

pub loaded_unless_open : (marks : List Bool) (loaded : List (Option Lit)) (at : ℕ) (b : Bool) → b ≡ (is_marked marks at && is_none (lit_at loaded at))
    → b ≡ false → is_marked marks at ≡ true → IsLoadedAt loaded at
loaded_unless_open marks loaded at b is fails here =
    elim (lit_at loaded at) as (λ o. (o ≡ None → ⊥) → IsSome o) [
      | Some l ↦ λ _. refl
      | None ↦ λ never. absurd (never refl)
    ]
    (not_open marks loaded at b is fails here)

each_both : (P Q R : ℕ → Type 0) → ((a : ℕ) → P a → Q a → R a) → (n : Node) → EachOperand P n → EachOperand Q n → EachOperand R n
each_both P Q R step (Constant b) p q = tt
each_both P Q R step (Input k) p q = tt
each_both P Q R step (Not a) p q = step a.at p q
each_both P Q R step (And a b) p q = (step a.at p.0 q.0, step b.at p.1 q.1)
each_both P Q R step (Or a b) p q = (step a.at p.0 q.0, step b.at p.1 q.1)
each_both P Q R step (Xor a b) p q = (step a.at p.0 q.0, step b.at p.1 q.1)
each_both P Q R step (Mux c a b) p q = (step c.at p.0 q.0, step a.at p.1 q.1, step b.at p.2 q.2)

-- what a closed gate reads is loaded, where the marked gates before it are
pub operands_loaded : (ns : List Node) (first now : List (Option Lit)) (marks : List Bool) (g : ℕ) → IsCircuit ns
    → IsClosedAt ns first marks g → ((a : ℕ) (l : Lit) → lit_at first a ≡ Some l → lit_at now a ≡ Some l)
    → ((a : ℕ) → a < g → is_marked marks a ≡ true → IsLoadedAt now a)
    → (n : Node) → slice_get ns g ≡ Some n → is_marked marks g ≡ true → lit_at now g ≡ None → EachOperand (IsLoadedAt now) (plain n)
operands_loaded ns first now marks g circuit closed kept done n here marked missing =
    let was_open : lit_at first g ≡ None =
    elim (lit_at first g) as (λ o. ((l : Lit) → o ≡ Some l → lit_at now g ≡ Some l) → o ≡ None) [
      | Some l ↦ λ is. let both : Some l ≡ None = sym (is l refl) ∙ missing in cc
      | None ↦ λ _. refl
    ]
    (kept g) in
    each_both (λ a. is_marked marks a ≡ true) (λ a. a < g) (IsLoadedAt now) (λ a m less. done a less m) (plain n)
    (closed.closed n here marked was_open) (plain_reads ns g n circuit here)

pub done_more : (marks : List Bool) (old new : List (Option Lit)) (g : ℕ)
    → ((a : ℕ) (l : Lit) → lit_at old a ≡ Some l → lit_at new a ≡ Some l) → (is_marked marks g ≡ true → IsLoadedAt new g)
    → ((a : ℕ) → a < g → is_marked marks a ≡ true → IsLoadedAt old a)
    → (a : ℕ) → a < g + 1 → is_marked marks a ≡ true → IsLoadedAt new a
done_more marks old new g kept here before a less marked =
    ⊎_elim
    (λ same. subst (IsLoadedAt new) (sym same) (here (ap (is_marked marks) (sym same) ∙ marked)))
    (λ other.
    elim (lit_at old a) as (λ o. ((l : Lit) → o ≡ Some l → lit_at new a ≡ Some l) → IsSome o → IsLoadedAt new a) [
      | Some l ↦ λ is some. ap is_some (is l refl)
      | None ↦ λ is some. absurd (false≢true some)
    ]
    (kept a) (before a (omega (arith, less, other)) marked))
    (cases_eq a g)

pub none_more : (xs more : List (Option Lit)) (g : ℕ) → more ≡ xs ++ None ∷ [] → lit_at more g ≡ lit_at xs g
none_more xs more g is =
    ap (λ ls. get_or ls g None) is
    ∙ (⊎_elim
    (λ inside. get_or_append_left xs (None ∷ []) None g inside)
    (λ past.
    ⊎_elim
    (λ same. get_or_push xs None None g (omega (arith, same)) ∙ sym (get_or_past xs g None past))
    (λ other.
    get_or_past (xs ++ None ∷ []) g None (omega (arith, past, other, length_push xs None)) ∙ sym (get_or_past xs g None past))
    (cases_eq g (length xs)))
    (cases_lt g (length xs)))

pub cone_from : (ns : List Node) (loaded : List (Option Lit)) (gate : ℕ) (start marks : List Bool)
    → start ≡ set (replicate (gate + 1) false) gate true → length marks ≡ length start
    → ((g : ℕ) → is_marked start g ≡ true → is_marked marks g ≡ true)
    → ((g : ℕ) → g < length start → IsClosedAt ns loaded marks g) → IsCone ns loaded gate marks
cone_from ns loaded gate start marks is same kept closed =
    let wide : length start ≡ gate + 1 =
    ap length is ∙ length-set (replicate (gate + 1) false) gate true ∙ length-replicate (gate + 1) false in
    let room : gate < length (replicate (gate + 1) false) = omega (arith, length-replicate (gate + 1) false) in
    record {
      width = same ∙ wide;
      top = kept gate (ap (λ ms. is_marked ms gate) is ∙ mark_here (replicate (gate + 1) false) gate room);
      closed = λ g less. closed g (omega (arith, less, wide));
    }
