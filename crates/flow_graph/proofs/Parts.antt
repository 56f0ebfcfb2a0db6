-- What it means that nodes do what the tree does. `v` gives the run from each node; it fits a graph where it does at each
-- node what the node does.
use Rattle.std.proofs.Common.{◌≡◌, ℕ, ◌+◌, ◌≤◌, ◌<◌, Bool, true, false, List, [], ◌∷◌, length, refl, ap, ◌∙◌, arith}
use Rattle.std.specs.Prelude.{if◌then◌else◌}
use Rattle.run_store.specs.Concrete.{Cell, Nothing}
use Rattle.sc_world.specs.Source.{Source}
use Rattle.sc_world.specs.Layout.{Layout}
use Rattle.sc_world.specs.World.{World, Run, ◌>>=◌, is_true}
use Rattle.sc_world.specs.Eval.{Want, Value}
use Rattle.flow_graph.specs.Nodes.{Node, Branch, Kept, temp, keep, act}
use Rattle.flow_graph.specs.Growing.{Growing, Build, put, fresh}
use Rattle.flow_graph.specs.Expressions.{Aim, Into, Test, Part, Goal, goal}
use Rattle.flow_graph.proofs.Kept.{at_same, below_same}

-- What is kept below b is the same, and so are all slots.
pub record Agrees (b : ℕ) (k new : Kept) : Type 0 where
  pub temps : (n : ℕ) → n < b → temp new n ≡ temp k n
  pub slots : new.slots ≡ k.slots

pub agrees_refl : (b : ℕ) (k : Kept) → Agrees b k k
agrees_refl b k = record { temps = λ n h. refl; slots = refl }

pub agrees_trans : {b : ℕ} {k l m : Kept} → Agrees b k l → Agrees b l m → Agrees b k m
agrees_trans x y = record { temps = λ n h. y.temps n h ∙ x.temps n h; slots = y.slots ∙ x.slots }

pub agrees_less : {a b : ℕ} {k l : Kept} → a ≤ b → Agrees b k l → Agrees a k l
agrees_less h x = record { temps = λ n q. x.temps n (omega (arith, h, q)); slots = x.slots }

pub agrees_keep : (b t : ℕ) (c : Cell) (k : Kept) → b ≤ t → Agrees b k (keep t c k)
agrees_keep b t c k h = record { temps = λ n q. below_same Nothing t c k.temps n (omega (arith, h, q)); slots = refl }

abbrev pub want_of : Aim → Want
want_of (Into want t next) = want
want_of (Test hit miss) = Value

-- where a value leads
abbrev pub leads_to : Aim → Cell → ℕ
leads_to (Into want t next) c = next
leads_to (Test hit miss) c = if is_true c then hit else miss

-- the value is kept
abbrev pub Told : Aim → Kept → Cell → Type 0
Told (Into want t next) k c = temp k t ≡ c
Told (Test hit miss) k c = Unit {0}

-- a temp of an aim is none of those that are read later
abbrev pub Apt : ℕ → Aim → Type 0
Apt b (Into want t next) = b ≤ t
Apt b (Test hit miss) = Unit {0}

module _ (s : Source) (p : Layout) (choice : List Bool) (v : ℕ → Kept → Run Cell) where
  pub record Acts (at : ℕ) (n : Node) : Type 0 where
    pub by : (k : Kept) (w : World) → v at k w ≡ act s p choice n v k w

  abbrev pub Fits : List Node → Type 0
  Fits [] = Unit {0}
  Fits (n ∷ ns) = Acts (length ns) n × Fits ns

  pub record Grows (g h : Growing) : Type 0 where
    pub fits : Fits h.nodes → Fits g.nodes
    pub temps : g.temps ≤ h.temps
    pub slots : g.slots ≤ h.slots

  pub grows_refl : (g : Growing) → Grows g g
  grows_refl g = record { fits = λ f. f; temps = omega arith; slots = omega arith }

  pub grows_trans : {f g h : Growing} → Grows f g → Grows g h → Grows f h
  grows_trans x y =
      record {
        fits = λ z. x.fits (y.fits z);
        temps = omega (arith, x.temps, y.temps);
        slots = omega
            (arith, x.slots, y.slots);
      }

  pub grows_put : (n : Node) (g : Growing) → Grows g (put n g).1
  grows_put n g = record { fits = λ z. z.1; temps = omega arith; slots = omega arith }

  pub grows_fresh : (n : ℕ) (g : Growing) → Grows g (fresh n g).1
  grows_fresh n g = record { fits = λ z. z; temps = omega arith; slots = omega arith }

  -- The rest of a run from where an aim leads: what it does with a value.
  pub record Reaches (aim : Aim) (b : ℕ) (k : Kept) (f : Cell → Run Cell) : Type 0 where
    pub goes : (new : Kept) (c : Cell) (w : World) → Agrees b k new → Told aim new c → v (leads_to aim c) new w ≡ f c w

  pub reaches_on : {aim : Aim} {b : ℕ} {k l : Kept} {f : Cell → Run Cell} → Agrees b k l → Reaches aim b k f → Reaches aim b l f
  reaches_on a r = record { goes = λ new c w q told. r.goes new c w (agrees_trans a q) told }

  -- a part does what the tree does, and goes on
  pub record Serves (m : Part) (does : Want → Run Cell) : Type 0 where
    pub grows : (aim : Aim) (g : Growing) → Grows g (m aim g).1
    pub by : (aim : Aim) (g : Growing) (b : ℕ) → b ≤ g.temps → Apt b aim → Fits (m aim g).1.nodes
        → (k : Kept) (f : Cell → Run Cell) → Reaches aim b k f → (w : World)
        → v (m aim g).0 k w ≡ (does (want_of aim) >>= f) w

  -- where a kept value leads
  abbrev pub Lands : Goal → ℕ → Kept → (Cell → Run Cell) → Type 0
  Lands k b old f = (new : Kept) (c : Cell) (w : World) → Agrees b old new → v k.next (keep k.temp c new) w ≡ f c w

  -- the same of a part that keeps its value
  pub record Keeps (m : Goal → Build ℕ) (does : Want → Run Cell) : Type 0 where
    pub grows : (k : Goal) (g : Growing) → Grows g (m k g).1
    pub by : (k : Goal) (g : Growing) (b : ℕ) → b ≤ g.temps → b ≤ k.temp → Fits (m k g).1.nodes
        → (old : Kept) (f : Cell → Run Cell) → Lands k b old f → (w : World)
        → v (m k g).0 old w ≡ (does k.want >>= f) w

  abbrev pub aimed : (Goal → Build ℕ) → Part
  aimed m aim g = m (goal aim g).0 (goal aim g).1

  abbrev pub in_goal : (want : Want) (t next : ℕ) → Goal
  in_goal want t next = record { want = want; temp = t; next = next }

  abbrev pub at_branch : (hit miss : ℕ) → Growing → Growing
  at_branch hit miss g = record { nodes = Branch g.temps hit miss ∷ g.nodes; temps = g.temps + 1; slots = g.slots }

  pub grows_branch : (hit miss : ℕ) (g : Growing) → Grows g (at_branch hit miss g)
  grows_branch hit miss g = record { fits = λ z. z.1; temps = omega arith; slots = omega arith }

  pub chosen : (c : Bool) (hit miss : ℕ) (k : Kept) (w : World) → (if c then v hit k else v miss k) w ≡ v (if c then hit else miss) k w
  chosen true hit miss k w = refl
  chosen false hit miss k w = refl

  -- the Branch behind a kept value leads where the value does
  branch_lands : (hit miss : ℕ) (g : Growing) (b : ℕ) → b ≤ g.temps → Fits (at_branch hit miss g).nodes
      → (old : Kept) (f : Cell → Run Cell) → Reaches (Test hit miss) b old f
      → Lands (in_goal Value g.temps (length g.nodes)) b old f
  branch_lands hit miss g b h fits old f r new c w a =
      fits.0.by (keep g.temps c new) w
      ∙ ap (λ x. (if is_true x then v hit (keep g.temps c new) else v miss (keep g.temps c new)) w) (at_same Nothing g.temps c new.temps)
      ∙ chosen (is_true c) hit miss (keep g.temps c new) w
      ∙ r.goes (keep g.temps c new) c w (agrees_trans a (agrees_keep b g.temps c new h)) tt

  -- a part that keeps its value does it for every aim
  pub serves_kept : (m : Goal → Build ℕ) (does : Want → Run Cell) → Keeps m does → Serves (aimed m) does
  serves_kept m does q = record {
    grows = grows;
    by = by;
  }
    where
      grows : (aim : Aim) (g : Growing) → Grows g (aimed m aim g).1
      grows (Into want t next) g = q.grows (in_goal want t next) g
      grows (Test hit miss) g =
          grows_trans (grows_branch hit miss g)
          (q.grows (in_goal Value g.temps (length g.nodes)) (at_branch hit miss g))

      by : (aim : Aim) (g : Growing) (b : ℕ) → b ≤ g.temps → Apt b aim → Fits (aimed m aim g).1.nodes
          → (k : Kept) (f : Cell → Run Cell) → Reaches aim b k f → (w : World)
          → v (aimed m aim g).0 k w ≡ (does (want_of aim) >>= f) w
      by (Into want t next) g b h apt fits k f r w =
          q.by (in_goal want t next) g b h apt fits k f
          (λ new c w' a. r.goes (keep t c new) c w' (agrees_trans a (agrees_keep b t c new apt)) (at_same Nothing t c new.temps)) w
      by (Test hit miss) g b h apt fits k f r w =
          q.by (in_goal Value g.temps (length g.nodes)) (at_branch hit miss g) b (omega (arith, h)) h fits k f
          (branch_lands hit miss g b h ((q.grows (in_goal Value g.temps (length g.nodes)) (at_branch hit miss g)).fits fits) k f r) w
