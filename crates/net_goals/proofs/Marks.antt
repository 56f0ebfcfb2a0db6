-- Marks are closed from the last gate down, so that a gate has its operands marked.

use Rattle.std.proofs.Common.{◌≡◌, ℕ, ◌+◌, ◌<◌, ◌≤◌, Bool, true, false, List, length, set, replicate, Some, slice_get, refl, sym, subst, ap, ◌∙◌, ⊎_elim, arith}
use Rattle.std.proofs.lemmas.List.{get_or-set_same, get_or-set_other, length-set, length-replicate}
use Rattle.std.proofs.lemmas.Bool.{cases_eq, cases_lt}
use Rattle.bit_net.specs.declared.nodes.Node.{Node}
use Rattle.bit_net.specs.declared.nodes.Node.TheVariants.{Constant, Input, Not, And, Or, Xor, Mux}
use Rattle.bit_net.specs.Circuit.{IsCircuit}
use Rattle.net_goals.specs.Cones.{EachOperand, is_marked, with_operands, IsClosedAt, IsClosing, IsCone}

pub each_more : (P Q : ℕ → Type 0) → ((a : ℕ) → P a → Q a) → (n : Node) → EachOperand P n → EachOperand Q n
each_more P Q step (Constant b) each = tt
each_more P Q step (Input k) each = tt
each_more P Q step (Not a) each = step a.at each
each_more P Q step (And a b) each = (step a.at each.0, step b.at each.1)
each_more P Q step (Or a b) each = (step a.at each.0, step b.at each.1)
each_more P Q step (Xor a b) each = (step a.at each.0, step b.at each.1)
each_more P Q step (Mux c a b) each = (step c.at each.0, step a.at each.1, step b.at each.2)

-- one mark more
mark_here : (marks : List Bool) (a : ℕ) → a < length marks → is_marked (set marks a true) a ≡ true
mark_here marks a inside = get_or-set_same marks a true false inside

mark_kept : (marks : List Bool) (a g : ℕ) → a < length marks → is_marked marks g ≡ true → is_marked (set marks a true) g ≡ true
mark_kept marks a g inside marked =
    ⊎_elim
    (λ same. ap (is_marked (set marks a true)) same ∙ mark_here marks a inside)
    (λ other. get_or-set_other marks a g true false other ∙ marked)
    (cases_eq g a)

mark_later : (marks : List Bool) (a g : ℕ) → a < g → is_marked (set marks a true) g ≡ is_marked marks g
mark_later marks a g less = get_or-set_other marks a g true false (λ same. omega (arith, less, same))

-- the marks of two gates
record Both (marks : List Bool) (a b : ℕ) (at : ℕ) : Type 0 where
  kept : (g : ℕ) → is_marked marks g ≡ true → is_marked (set (set marks a true) b true) g ≡ true
  first : is_marked (set (set marks a true) b true) a ≡ true
  second : is_marked (set (set marks a true) b true) b ≡ true
  later : (g : ℕ) → at ≤ g → is_marked (set (set marks a true) b true) g ≡ is_marked marks g

both : (marks : List Bool) (a b at : ℕ) → at ≤ length marks → a < at → b < at → Both marks a b at
both marks a b at room ha hb =
    let wide : b < length (set marks a true) = omega (arith, room, hb, length-set marks a true) in
    let inside : a < length marks = omega (arith, room, ha) in
    record {
      kept = λ g marked. mark_kept (set marks a true) b g wide (mark_kept marks a g inside marked);
      first = mark_kept (set marks a true) b a wide (mark_here marks a inside);
      second = mark_here (set marks a true) b wide;
      later = λ g past. mark_later (set marks a true) b g (omega (arith, past, hb)) ∙ mark_later marks a g (omega (arith, past, ha));
    }

record Marked (n : Node) (marks : List Bool) (at : ℕ) : Type 0 where
  kept : (g : ℕ) → is_marked marks g ≡ true → is_marked (with_operands n marks) g ≡ true
  each : EachOperand (λ a. is_marked (with_operands n marks) a ≡ true) n
  later : (g : ℕ) → at ≤ g → is_marked (with_operands n marks) g ≡ is_marked marks g

marked : (n : Node) (marks : List Bool) (at : ℕ) → at ≤ length marks → EachOperand (λ a. a < at) n → Marked n marks at
marked (Constant b) marks at room reads = record { kept = λ g m. m; each = tt; later = λ g p. refl }
marked (Input k) marks at room reads = record { kept = λ g m. m; each = tt; later = λ g p. refl }
marked (Not a) marks at room reads =
    let inside : a.at < length marks = omega (arith, room, reads) in
    record {
      kept = λ g m. mark_kept marks a.at g inside m;
      each = mark_here marks a.at inside;
      later = λ g p. mark_later marks a.at g (omega (arith, p, reads));
    }
marked (And a b) marks at room reads =
    let two = both marks a.at b.at at room reads.0 reads.1 in record { kept = two.kept; each = (two.first, two.second); later = two.later }
marked (Or a b) marks at room reads =
    let two = both marks a.at b.at at room reads.0 reads.1 in record { kept = two.kept; each = (two.first, two.second); later = two.later }
marked (Xor a b) marks at room reads =
    let two = both marks a.at b.at at room reads.0 reads.1 in record { kept = two.kept; each = (two.first, two.second); later = two.later }
marked (Mux c a b) marks at room reads =
    let inside : c.at < length marks = omega (arith, room, reads.0) in
    let one : List Bool = set marks c.at true in
    let two = both one a.at b.at at (omega (arith, room, length-set marks c.at true)) reads.1 reads.2 in
    record {
      kept = λ g m. two.kept g (mark_kept marks c.at g inside m);
      each = (two.kept c.at (mark_here marks c.at inside), two.first, two.second);
      later = λ g p. two.later g p ∙ mark_later marks c.at g (omega (arith, p, reads.0));
    }

same_node : (ns : List Node) (g : ℕ) (n m : Node) → slice_get ns g ≡ Some n → slice_get ns g ≡ Some m → n ≡ m
same_node ns g n m is here = let both : Some n ≡ Some m = sym is ∙ here in cc

-- a node of a net reads earlier gates
pub reads_earlier : (ns : List Node) (g : ℕ) (n : Node) → IsCircuit ns → slice_get ns g ≡ Some n → EachOperand (λ a. a < g) n
reads_earlier ns g (Constant b) circuit here = tt
reads_earlier ns g (Input k) circuit here = tt
reads_earlier ns g (Not a) circuit here = circuit.earlier g (Not a) here
reads_earlier ns g (And a b) circuit here = circuit.earlier g (And a b) here
reads_earlier ns g (Or a b) circuit here = circuit.earlier g (Or a b) here
reads_earlier ns g (Xor a b) circuit here = circuit.earlier g (Xor a b) here
reads_earlier ns g (Mux c a b) circuit here = circuit.earlier g (Mux c a b) here

set_width : (n : Node) (marks : List Bool) → length (with_operands n marks) ≡ length marks
set_width (Constant b) marks = refl
set_width (Input k) marks = refl
set_width (Not a) marks = length-set marks a.at true
set_width (And a b) marks = length-set (set marks a.at true) b.at true ∙ length-set marks a.at true
set_width (Or a b) marks = length-set (set marks a.at true) b.at true ∙ length-set marks a.at true
set_width (Xor a b) marks = length-set (set marks a.at true) b.at true ∙ length-set marks a.at true
set_width (Mux c a b) marks =
    length-set (set (set marks c.at true) a.at true) b.at true ∙ (length-set (set marks c.at true) a.at true ∙ length-set marks c.at true)

-- gate g is closed by marking what it reads
pub closing_marked : (ns : List Node) (g : ℕ) (n : Node) (old new : List Bool)
    → IsCircuit ns → slice_get ns g ≡ Some n → g ≤ length old → new ≡ with_operands n old → IsClosing ns g old new
closing_marked ns g n old new circuit here room is =
    let all = marked n old g room (reads_earlier ns g n circuit here) in
    subst (IsClosing ns g old) (sym is)
    (record {
      width = set_width n old;
      kept = all.kept;
      later = all.later;
      closed =
          λ m there marks_g.
          subst (λ x. EachOperand (λ a. is_marked (with_operands n old) a ≡ true) x) (same_node ns g n m here there) all.each;
    })

-- or it is not marked
pub closing_unmarked : (ns : List Node) (g : ℕ) (old new : List Bool) → new ≡ old → is_marked old g ≡ false → IsClosing ns g old new
closing_unmarked ns g old new is off =
    subst (IsClosing ns g old) (sym is)
    (record { width = refl; kept = λ a m. m; later = λ a p. refl; closed = λ m there on. absurd (cc) })

-- what was closed from g on stays closed
pub closed_more : (ns : List Node) (g : ℕ) (old new : List Bool) (n : ℕ)
    → IsClosing ns g old new → ((a : ℕ) → g + 1 ≤ a → a < n → IsClosedAt ns old a)
    → (a : ℕ) → g ≤ a → a < n → IsClosedAt ns new a
closed_more ns g old new n closing before a past inside =
    ⊎_elim
    (λ same. subst (IsClosedAt ns new) (sym same) closing.closed)
    (λ other. λ m there marks_a.
    each_more (λ x. is_marked old x ≡ true) (λ x. is_marked new x ≡ true) closing.kept m
    (before a (omega (arith, past, other)) inside m there (sym (closing.later a past) ∙ marks_a)))
    (cases_eq a g)

pub each_both : (P Q R : ℕ → Type 0) → ((a : ℕ) → P a → Q a → R a) → (n : Node) → EachOperand P n → EachOperand Q n → EachOperand R n
each_both P Q R step (Constant b) p q = tt
each_both P Q R step (Input k) p q = tt
each_both P Q R step (Not a) p q = step a.at p q
each_both P Q R step (And a b) p q = (step a.at p.0 q.0, step b.at p.1 q.1)
each_both P Q R step (Or a b) p q = (step a.at p.0 q.0, step b.at p.1 q.1)
each_both P Q R step (Xor a b) p q = (step a.at p.0 q.0, step b.at p.1 q.1)
each_both P Q R step (Mux c a b) p q = (step c.at p.0 q.0, step a.at p.1 q.1, step b.at p.2 q.2)

-- the cone of a gate, from the marks that hold it alone
pub is_cone : (ns : List Node) (gate : ℕ) (marks : List Bool) → length marks ≡ gate + 1
    → ((g : ℕ) → is_marked (set (replicate (gate + 1) false) gate true) g ≡ true → is_marked marks g ≡ true)
    → ((g : ℕ) → g < gate + 1 → IsClosedAt ns marks g) → IsCone ns gate marks
is_cone ns gate marks width kept closed =
    record {
      width = width;
      top = kept gate (get_or-set_same (replicate (gate + 1) false) gate true false (omega (arith, length-replicate (gate + 1) false)));
      closed = closed;
    }
