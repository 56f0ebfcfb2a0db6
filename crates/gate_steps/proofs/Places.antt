-- A place of the run's store and the target of a guarded set.
use Rattle.std.proofs.Common.{◌≡◌, ℕ, zero, suc, ◌<◌, ◌≤◌, Bool, true, false, ◌||◌, List, [], ◌∷◌, Ok, length, get_or, if◌then◌else◌, refl, sym, ◌∙◌, ap, subst, arith}
use Rattle.bit_net.specs.declared.nodes.Node.{Node}
use Rattle.bit_net.specs.Runs.{Runs, Grown}
use Rattle.gl_sets.specs.declared.pairs.Pair.{Pair}
use Rattle.gl_store.specs.declared.values.Val.{Val}
use Rattle.gl_store.specs.declared.stores.Location.{Location}
use Rattle.gl_store.specs.declared.values.Val.TheVariants.{Unit as Empty}
use Rattle.gl_store.specs.Meets.{Meets, MeetsAll, val_kind, locations_top}
use Rattle.gl_store.specs.Steps.{IsLoaded, IsSame, IsStored, IsMarkedWhere, marked_target}
use Rattle.gl_store.proofs.PlaceLemmas.{locations_top-at}
use Rattle.gl_store.proofs.ValueLemmas.{Meets-kind, put_same}
use Rattle.run_store.specs.declared.Flag.{Flag}
use Rattle.run_store.specs.declared.Flag.TheVariants.{Touched, Written, Allocated, Freed, Escaped}
use Rattle.run_store.specs.Concrete as store
use Rattle.run_store.specs.Concrete.{Cell, Number, Pointer, Nothing, Kind, Numbers, Pointers, NoCell, Place, Marks, kind_of, blank, put, nth_cell, cell_at, change, write, with_flag, marked}
use Rattle.sc_world.specs.World as run
use Rattle.sc_world.specs.World.{World, Run}
use Rattle.gate_runs.specs.declared.ends.Ends.{Ends}
use Rattle.gate_runs.specs.Standing.{Standing, On, Over, after}
use Rattle.gate_runs.specs.Stands.{Stands, Does, Any}
use Rattle.gate_steps.specs.Steps.{kind_at, LeadsTo, DoesLoad, DoesMark, DoesRead, DoesStore}

-- a place has a cell of the kind that its location has
kind_met : (v : ℕ → Bool) (ls : List Location) (ps : List Place) (at : ℕ) → MeetsAll v ls ps → kind_of (nth_cell ps at) ≡ kind_at ls at
kind_met v [] [] at h = refl
kind_met v (l ∷ ls) (p ∷ ps) zero h = sym (Meets-kind v l.val p.cell h.0.cell)
kind_met v (l ∷ ls) (p ∷ ps) (suc at) h = kind_met v ls ps at h.1
kind_met v [] (p ∷ ps) at h = absurd h
kind_met v (l ∷ ls) [] at h = absurd h

kind_blank : (k : Kind) → kind_of (blank k) ≡ k
kind_blank (Numbers w) = refl
kind_blank Pointers = refl
kind_blank NoCell = refl

read_there : (ps : List Place) (kind : Kind) (t at : ℕ) → t ≡ suc at → kind_of (nth_cell ps at) ≡ kind → store.load ps kind t ≡ nth_cell ps at
read_there ps kind t at there same =
    ap (λ k. store.load ps kind k) there ∙ put_same (blank kind) (nth_cell ps at) (same ∙ sym (kind_blank kind))

-- Reading.

module _ (ns : List Node) (locations : List Location) (pointer : List Pair) (kind : Kind) (r : Val) (loaded : IsLoaded ns locations pointer kind r) where
  load_from : (choice v : ℕ → Bool) → Runs ns choice v → (gates : Ends) (at : ℕ) → LeadsTo v gates pointer at
      → (v gates.live.at ≡ true → kind_at locations at ≡ kind) → (s : Standing (Unit {0})) → Stands v locations gates (Any {A = Unit {0}}) s
      → Stands v locations gates (Meets v r) (after s (λ u. run.load at))
  load_from choice v runs gates at leads typed (On u w) h =
      record {
        store = h.store;
        tells = record { live = h.tells.live; asides = h.tells.asides; bads = h.tells.bads };
        given = nth_cell w.places at;
        good =
            subst (λ c. Meets v r c)
            (read_there w.places kind leads.target at (leads.there h.tells.live)
            (kind_met v locations w.places at h.store ∙ typed h.tells.live))
            (loaded.value choice v runs w.places leads.target h.store leads.points);
        is = refl;
      }
  load_from choice v runs gates at leads typed (Over e w) h =
      record {
        store = h.store;
        tells = record { live = h.tells.live; asides = h.tells.asides; bads = h.tells.bads };
        given = store.load w.places kind leads.target;
        good = loaded.value choice v runs w.places leads.target h.store leads.points;
        is = tt;
      }

  pub does_load : DoesLoad ns locations pointer kind r
  does_load =
      record {
        below = loaded.below;
        same = loaded.same;
        does = λ choice v runs gates at leads typed. record { does = load_from choice v runs gates at leads typed };
      }

-- What a location has.

cell_met : (v : ℕ → Bool) (ls : List Location) (ps : List Place) (at : ℕ) (d : Location) → at < length ls → MeetsAll v ls ps
    → Meets v (get_or ls at d).val (nth_cell ps at)
cell_met v (l ∷ ls) (p ∷ ps) zero d low h = h.0.cell
cell_met v (l ∷ ls) (p ∷ ps) (suc at) d low h = cell_met v ls ps at d (omega (arith, low)) h.1
cell_met v [] ps at d low h = absurd (omega (arith, low))
cell_met v (l ∷ ls) [] at d low h = absurd h

kind_there : (ls : List Location) (at : ℕ) (d : Location) → at < length ls → val_kind (get_or ls at d).val ≡ kind_at ls at
kind_there (l ∷ ls) zero d low = refl
kind_there (l ∷ ls) (suc at) d low = kind_there ls at d (omega (arith, low))
kind_there [] at d low = absurd (omega (arith, low))

no_cell : (v : ℕ → Bool) (ls : List Location) (ps : List Place) (at : ℕ) → length ls ≤ at → MeetsAll v ls ps → nth_cell ps at ≡ Nothing
no_cell v [] [] at high h = refl
no_cell v (l ∷ ls) (p ∷ ps) zero high h = absurd (omega (arith, high))
no_cell v (l ∷ ls) (p ∷ ps) (suc at) high h = no_cell v ls ps at (omega (arith, high)) h.1
no_cell v [] (p ∷ ps) at high h = absurd h
no_cell v (l ∷ ls) [] at high h = absurd h

no_kind : (ls : List Location) (at : ℕ) → length ls ≤ at → kind_at ls at ≡ NoCell
no_kind [] at high = refl
no_kind (l ∷ ls) zero high = absurd (omega (arith, high))
no_kind (l ∷ ls) (suc at) high = no_kind ls at (omega (arith, high))

read_from : (v : ℕ → Bool) (ls : List Location) (gates : Ends) (at : ℕ) (r : Val) → ((ps : List Place) → MeetsAll v ls ps → Meets v r (nth_cell ps at))
    → (s : Standing (Unit {0})) → Stands v ls gates (Any {A = Unit {0}}) s → Stands v ls gates (Meets v r) (after s (λ u. run.load at))
read_from v ls gates at r met (On u w) h =
    record {
      store = h.store;
      tells = record { live = h.tells.live; asides = h.tells.asides; bads = h.tells.bads };
      given = nth_cell w.places at;
      good = met w.places h.store;
      is = refl;
    }
read_from v ls gates at r met (Over e w) h =
    record {
      store = h.store;
      tells = record { live = h.tells.live; asides = h.tells.asides; bads = h.tells.bads };
      given = nth_cell w.places at;
      good = met w.places h.store;
      is = tt;
    }

pub does_read : (ns : List Node) (ls : List Location) (at : ℕ) (d : Location) (r : Val) → at < length ls → locations_top ls ≤ length ns
    → IsSame (get_or ls at d).val r → DoesRead ns ls at r
does_read ns ls at d r low below same =
    record {
      below = omega (arith, below, same.top, locations_top-at ls at d low);
      same = same.kind ∙ kind_there ls at d low;
      does = λ v gates.
          record { does = read_from v ls gates at r (λ ps met. same.value v (nth_cell ps at) (cell_met v ls ps at d low met)) };
    }

pub does_read_none : (ns : List Node) (ls : List Location) (at : ℕ) → length ls ≤ at → DoesRead ns ls at Empty
does_read_none ns ls at high =
    record {
      below = omega arith;
      same = sym (no_kind ls at high);
      does = λ v gates.
          record { does = read_from v ls gates at Empty (λ ps met. subst (λ c. Meets v Empty c) (sym (no_cell v ls ps at high met)) tt) };
    }

-- Marking and writing.

or_none : (b : Bool) → b || false ≡ b
or_none true = refl
or_none false = refl

flag_stays : (m : Marks) (f : Flag) → with_flag m f false ≡ m
flag_stays m Touched = ap (λ b. record m { touched = b }) (or_none m.touched)
flag_stays m Written = ap (λ b. record m { written = b }) (or_none m.written)
flag_stays m Allocated = ap (λ b. record m { allocated = b }) (or_none m.allocated)
flag_stays m Freed = ap (λ b. record m { freed = b }) (or_none m.freed)
flag_stays m Escaped = ap (λ b. record m { escaped = b }) (or_none m.escaped)

marks_stay : (ps : List Place) (at : ℕ) (f : Flag) → marked ps at f false ≡ ps
marks_stay [] at f = refl
marks_stay (p ∷ ps) zero f = ap (λ m. record p { marks = m } ∷ ps) (flag_stays p.marks f)
marks_stay (p ∷ ps) (suc at) f = ap (λ qs. p ∷ qs) (marks_stay ps at f)

target_stays : (ps : List Place) (t : ℕ) (f : Flag) → marked_target ps t f false ≡ ps
target_stays ps zero f = refl
target_stays ps (suc at) f = marks_stay ps at f

-- the new store is what the run's store becomes where the run goes on, and the old one where it is over
pub record Becomes (v : ℕ → Bool) (gates : Ends) (old new : List Location) (f : List Place → List Place) : Type 0 where
  pub on : (ps : List Place) → v gates.live.at ≡ true → MeetsAll v old ps → MeetsAll v new (f ps)
  pub over : (ps : List Place) → v gates.live.at ≡ false → MeetsAll v old ps → MeetsAll v new ps

-- a step that changes the store alone
abbrev changed : (List Place → List Place) → Run (Unit {0})
changed f w = (Ok tt, record w { places = f w.places })

changes_from : (v : ℕ → Bool) (gates : Ends) (old new : List Location) (f : List Place → List Place) → Becomes v gates old new f
    → (s : Standing (Unit {0})) → Stands v old gates (Any {A = Unit {0}}) s → Stands v new gates (Any {A = Unit {0}}) (after s (λ u. changed f))
changes_from v gates old new f becomes (On u w) h =
    record {
      store = becomes.on w.places h.tells.live h.store;
      tells = record { live = h.tells.live; asides = h.tells.asides; bads = h.tells.bads };
      given = tt;
      good = tt;
      is = refl;
    }
changes_from v gates old new f becomes (Over e w) h =
    record {
      store = becomes.over w.places h.tells.live h.store;
      tells = record { live = h.tells.live; asides = h.tells.asides; bads = h.tells.bads };
      given = tt;
      good = tt;
      is = tt;
    }

does_change : (v : ℕ → Bool) (gates : Ends) (old new : List Location) (f : List Place → List Place) → Becomes v gates old new f
    → Does v old gates (changed f) new gates (Any {A = Unit {0}})
does_change v gates old new f becomes = record { does = changes_from v gates old new f becomes }

becomes_marked : (ns : List Node) (gates : Ends) (pointer : List Pair) (flag : Flag) (old new : List Location)
    → IsMarkedWhere ns gates.live.at pointer flag old new → (choice v : ℕ → Bool) → Runs ns choice v → (at : ℕ) → LeadsTo v gates pointer at
    → Becomes v gates old new (λ ps. marked ps at flag true)
becomes_marked ns gates pointer flag old new is choice v runs at leads =
    record {
      on = λ ps on met.
          subst (λ qs. MeetsAll v new qs)
          (ap (λ b. marked_target ps leads.target flag b) on ∙ ap (λ t. marked_target ps t flag true) (leads.there on))
          (is.value choice v runs ps leads.target met leads.points);
      over = λ ps off met.
          subst (λ qs. MeetsAll v new qs)
          (ap (λ b. marked_target ps leads.target flag b) off ∙ target_stays ps leads.target flag)
          (is.value choice v runs ps leads.target met leads.points);
    }

becomes_written : (ns : List Node) (gates : Ends) (pointer : List Pair) (val : Val) (old new : List Location)
    → IsStored ns gates.live.at pointer val old new → (choice v : ℕ → Bool) → Runs ns choice v → (at : ℕ) (c : Cell) → LeadsTo v gates pointer at
    → Meets v val c → Becomes v gates old new (λ ps. change ps at c)
becomes_written ns gates pointer val old new is choice v runs at c leads meets =
    record {
      on = λ ps on met.
          subst (λ qs. MeetsAll v new qs)
          (ap (λ b. if b then write ps leads.target c else ps) on ∙ ap (λ t. write ps t c) (leads.there on))
          (is.value choice v runs ps leads.target c met leads.points meets);
      over = λ ps off met.
          subst (λ qs. MeetsAll v new qs) (ap (λ b. if b then write ps leads.target c else ps) off)
          (is.value choice v runs ps leads.target c met leads.points meets);
    }

pub does_mark : (ns : List Node) (gates : Ends) (pointer : List Pair) (flag : Flag) (old new : List Location)
    → IsMarkedWhere ns gates.live.at pointer flag old new → DoesMark ns gates pointer flag old new
does_mark ns gates pointer flag old new is =
    record {
      below = is.below;
      same = is.same;
      does = λ choice v runs at leads.
          does_change v gates old new (λ ps. marked ps at flag true) (becomes_marked ns gates pointer flag old new is choice v runs at leads);
    }

pub does_store : (before ns : List Node) (gates : Ends) (pointer : List Pair) (val : Val) (old mid new : List Location) → Grown before ns
    → IsStored before gates.live.at pointer val old mid → IsMarkedWhere ns gates.live.at pointer Written mid new
    → DoesStore ns gates pointer val old new
does_store before ns gates pointer val old mid new grown stored is =
    record {
      below = is.below;
      same = is.same ∙ stored.same;
      does = λ choice v runs at c leads meets.
          let first = becomes_written before gates pointer val old mid stored choice v (grown.runs choice v runs) at c leads meets in
          let second = becomes_marked ns gates pointer Written mid new is choice v runs at leads in
          does_change v gates old new (λ ps. marked (change ps at c) at Written true)
          (record {
            on = λ ps on met. second.on (change ps at c) on (first.on ps on met);
            over = λ ps off met. second.over ps off (first.over ps off met);
          });
    }
