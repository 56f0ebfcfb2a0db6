-- The finished graph: what is read was kept, and nodes are fine.
use Rattle.std.proofs.Common.{◌≡◌, ℕ, zero, suc, ◌+◌, ◌-◌, ◌<◌, Bool, true, false, not, ◌&&◌, ◌||◌, List, [], ◌∷◌, length, map, drop, refl, sym, ap, ◌∙◌, arith}
use Rattle.std.specs.Prelude.{None, nat_eq, if◌then◌else◌}
use Rattle.std.proofs.lemmas.Bool.{eq-eqb, eqb-true, eqb-false}
use Rattle.std.proofs.lemmas.List.{length-drop}
use Rattle.sc_world.specs.Tree.{Stm}
use Rattle.sc_world.specs.Source.{Source}
use Rattle.sc_world.specs.Layout.{no_layout}
use Rattle.flow_graph.specs.Nodes.{Node, Keep, KeepCells, CallOf, Update, Set, Fill, Branch, Choose, Mark, MarkSwitch, Exit, SetAside}
use Rattle.flow_graph.specs.Growing.{Growing}
use Rattle.flow_graph.specs.Unrolled.{all_at, grown, turned, flow}
use Rattle.flow_graph.specs.Conditions.{Held, InTemp, among, read_by, kept_by, IsFine, AllFine, onward, kept_at, kept_first}
use Rattle.flow_graph.proofs.Order.{IsBelow, Ordered}
use Rattle.flow_graph.proofs.Walks.{differs, less, ordered_drop, rest, rest_length, at_end, placed}
use Rattle.flow_graph.proofs.Sound.{Fits, Whole}
use Rattle.flow_graph.proofs.SoundOf.{TargetsFree, statement_sound}

module _ (m : Held) where
  -- the same from a node while the graph grows: the newest node is the first of the list
  abbrev older : List Node → ℕ → Bool
  older [] at = true
  older (n ∷ ns) at = if nat_eq at (length ns) then kept_at m n (older ns) else older ns at

  onward_ext : (n : Node) (b : ℕ) → IsBelow b n → (go go' : ℕ → Bool) → ((at : ℕ) → at < b → go at ≡ go' at)
      → onward n go ≡ onward n go'
  onward_ext (Keep want t e next) b h go go' same = same next h
  onward_ext (KeepCells n e next) b h go go' same = same next h
  onward_ext (CallOf c args t next) b h go go' same = same next h
  onward_ext (Update u want at old right t next) b h go go' same = same next h
  onward_ext (Set n e next) b h go go' same = same next h
  onward_ext (Fill n xs slots next) b h go go' same = same next h
  onward_ext (Branch t hit miss) b h go go' same =
      ap (λ c. c && go miss) (same hit h.0) ∙ ap (λ c. go' hit && c) (same miss h.1)
  onward_ext (Choose t n hit miss) b h go go' same =
      ap (λ c. c && go miss) (same hit h.0) ∙ ap (λ c. go' hit && c) (same miss h.1)
  onward_ext (Mark q x next) b h go go' same = same next h
  onward_ext (MarkSwitch q t from next) b h go go' same = same next h
  onward_ext (Exit from) b h go go' same = refl
  onward_ext (SetAside r) b h go go' same = refl

  kept_ext : (n : Node) (b : ℕ) → IsBelow b n → (go go' : ℕ → Bool) → ((at : ℕ) → at < b → go at ≡ go' at)
      → kept_at m n go ≡ kept_at m n go'
  kept_ext n b h go go' same =
      ap (λ c. not (among m (read_by n)) && (among m (kept_by n) || c)) (onward_ext n b h go go' same)

  -- a node that is not the newest is looked for behind it
  skips : (n : Node) (ns : List Node) (at : ℕ) → at < length ns → older (n ∷ ns) at ≡ older ns at
  skips n ns at h = rw (differs (nat_eq at (length ns)) at (length ns) refl (λ e. omega (arith, e, h))) refl

  finds : (n : Node) (ns : List Node) → older (n ∷ ns) (length ns) ≡ kept_at m n (older ns)
  finds n ns = rw (eq-eqb (length ns) (length ns) refl) refl

  fits_older : (temps slots : ℕ) (ns : List Node) → Ordered ns → (v : ℕ → Bool)
      → ((at : ℕ) → at < length ns → v at ≡ older ns at) → Fits m v temps slots ns
  fits_older temps slots [] ord v same = tt
  fits_older temps slots (n ∷ ns) ord v same = (
    record {
      by =
          same (length ns) (omega arith) ∙ finds n ns
          ∙ kept_ext n (length ns) ord.0 (older ns) v (λ at h. sym (same at (omega (arith, h)) ∙ skips n ns at h));
    },
    fits_older temps slots ns ord.1 v (λ at h. same at (omega (arith, h)) ∙ skips n ns at h),
  )

  -- numbers from the other end
  kept_turned : (entry : ℕ) (n : Node) (go : ℕ → Bool) → kept_at m (turned entry n) go ≡ kept_at m n (λ t. go (entry - t))
  kept_turned entry (Keep want t e next) go = refl
  kept_turned entry (KeepCells n e next) go = refl
  kept_turned entry (CallOf c args t next) go = refl
  kept_turned entry (Update u want at old right t next) go = refl
  kept_turned entry (Set n e next) go = refl
  kept_turned entry (Fill n xs slots next) go = refl
  kept_turned entry (Branch t hit miss) go = refl
  kept_turned entry (Choose t n hit miss) go = refl
  kept_turned entry (Mark q x next) go = refl
  kept_turned entry (MarkSwitch q t from next) go = refl
  kept_turned entry (Exit from) go = refl
  kept_turned entry (SetAside r) go = refl

  abbrev Behind : (entry first : ℕ) → List Node → Type 0
  Behind entry first ns =
      (at : ℕ) → at < length ns → kept_first m (suc first) (map (turned entry) ns) (entry - at) ≡ older ns at

  turned_here : (entry : ℕ) (n : Node) (ns : List Node) (first : ℕ) → Ordered (n ∷ ns) → first + length (n ∷ ns) ≡ entry + 1
      → Behind entry first ns → (at : ℕ) → at ≡ length ns
      → kept_first m first (map (turned entry) (n ∷ ns)) (entry - at) ≡ older (n ∷ ns) at
  turned_here entry n ns first ord sizes behind at is =
      rw (eq-eqb (entry - at) first (omega (arith, sizes, is)))
      (rw (eq-eqb at (length ns) is)
      (kept_turned entry n (kept_first m (suc first) (map (turned entry) ns))
      ∙ kept_ext n (length ns) ord.0 (λ t. kept_first m (suc first) (map (turned entry) ns) (entry - t)) (older ns) behind))

  turned_behind : (entry : ℕ) (n : Node) (ns : List Node) (first : ℕ) → first + length (n ∷ ns) ≡ entry + 1
      → Behind entry first ns → (at : ℕ) → at < length ns
      → kept_first m first (map (turned entry) (n ∷ ns)) (entry - at) ≡ older (n ∷ ns) at
  turned_behind entry n ns first sizes behind at h =
      rw (differs (nat_eq (entry - at) first) (entry - at) first refl (λ e. omega (arith, e, sizes, h)))
      (behind at h ∙ sym (skips n ns at h))

  turned_step : (b : Bool) (entry : ℕ) (n : Node) (ns : List Node) (first : ℕ) → Ordered (n ∷ ns) → first + length (n ∷ ns) ≡ entry + 1
      → Behind entry first ns → (at : ℕ) → at < length (n ∷ ns) → nat_eq at (length ns) ≡ b
      → kept_first m first (map (turned entry) (n ∷ ns)) (entry - at) ≡ older (n ∷ ns) at
  turned_step true entry n ns first ord sizes behind at h e =
      turned_here entry n ns first ord sizes behind at (eqb-true at (length ns) e)
  turned_step false entry n ns first ord sizes behind at h e =
      turned_behind entry n ns first sizes behind at (less at (length ns) h (eqb-false at (length ns) e))

  turned_ways : (entry : ℕ) (ms : List Node) (first : ℕ) → Ordered ms → first + length ms ≡ entry + 1 → (at : ℕ) → at < length ms
      → kept_first m first (map (turned entry) ms) (entry - at) ≡ older ms at
  turned_ways entry [] first ord sizes at h = absurd (omega (arith, h))
  turned_ways entry (n ∷ ns) first ord sizes at h =
      turned_step (nat_eq at (length ns)) entry n ns first ord sizes
      (λ at h. turned_ways entry ns (suc first) ord.1 (omega (arith, sizes)) at h) at h refl

  older_drop : (j : ℕ) (ns : List Node) (at : ℕ) → at < length (drop j ns) → older (drop j ns) at ≡ older ns at
  older_drop zero ns at h = refl
  older_drop (suc j) [] at h = refl
  older_drop (suc j) (n ∷ ns) at h = older_drop j ns at h ∙ sym (skips n ns at (omega (arith, h, length-drop j ns)))

-- numbers and expressions
fine_turned : (temps slots entry : ℕ) (n : Node) → IsFine temps slots n → IsFine temps slots (turned entry n)
fine_turned temps slots entry (Keep want t e next) f = record { reads = f.reads; keeps = f.keeps; plain = f.plain }
fine_turned temps slots entry (KeepCells n e next) f = record { reads = f.reads; keeps = f.keeps; plain = f.plain }
fine_turned temps slots entry (CallOf c args t next) f = record { reads = f.reads; keeps = f.keeps; plain = f.plain }
fine_turned temps slots entry (Update u want at old right t next) f =
    record { reads = f.reads; keeps = f.keeps; plain = f.plain }
fine_turned temps slots entry (Set n e next) f = record { reads = f.reads; keeps = f.keeps; plain = f.plain }
fine_turned temps slots entry (Fill n xs at next) f = record { reads = f.reads; keeps = f.keeps; plain = f.plain }
fine_turned temps slots entry (Branch t hit miss) f = record { reads = f.reads; keeps = f.keeps; plain = f.plain }
fine_turned temps slots entry (Choose t n hit miss) f = record { reads = f.reads; keeps = f.keeps; plain = f.plain }
fine_turned temps slots entry (Mark q x next) f = record { reads = f.reads; keeps = f.keeps; plain = f.plain }
fine_turned temps slots entry (MarkSwitch q t from next) f = record { reads = f.reads; keeps = f.keeps; plain = f.plain }
fine_turned temps slots entry (Exit from) f = f
fine_turned temps slots entry (SetAside r) f = f

fine_drop : (temps slots j : ℕ) (ns : List Node) → AllFine temps slots ns → AllFine temps slots (drop j ns)
fine_drop temps slots zero ns f = f
fine_drop temps slots (suc j) [] f = tt
fine_drop temps slots (suc j) (n ∷ ns) f = fine_drop temps slots j ns f.1

all_turned : (temps slots entry : ℕ) (ns : List Node) → AllFine temps slots ns → AllFine temps slots (map (turned entry) ns)
all_turned temps slots entry [] f = tt
all_turned temps slots entry (n ∷ ns) f = (fine_turned temps slots entry n f.0, all_turned temps slots entry ns f.1)

-- The whole.
module _ (s : Source) where
  abbrev whole : ℕ × Growing
  whole = grown s.depth s.body

  abbrev nodes : List Node
  nodes = whole.1.nodes

  ordered : Ordered nodes
  ordered = (placed s no_layout [] s.body).ordered

  below : whole.0 < length nodes
  below = (placed s no_layout [] s.body).below

  module _ (m : Held) where
    fits : Whole m (older m nodes) whole.1.temps whole.1.slots whole.1
    fits = record {
      fits = fits_older m whole.1.temps whole.1.slots nodes ordered (older m nodes) (λ at h. refl);
      temps = omega arith;
      slots = omega arith;
    }

    -- behind the body nothing is read
    ends : older m nodes 1 ≡ true
    ends =
        let w = ((statement_sound m (older m nodes) whole.1.temps whole.1.slots s.depth s.body 0).grows (all_at 1) (at_end s no_layout [] s.body)).less fits in
        w.fits.0.by ∙ w.fits.1.0.by

    entry_free : older m nodes whole.0 ≡ true
    entry_free =
        (statement_sound m (older m nodes) whole.1.temps whole.1.slots s.depth s.body 0).free (all_at 1) (at_end s no_layout [] s.body) fits
        (record { next = ends; leave = ends; again = ends; label = λ n. ends })

    pub was_kept : kept_first m 0 (flow s).nodes 0 ≡ true
    was_kept =
        ap (λ at. kept_first m 0 (map (turned whole.0) (rest s no_layout [] whole)) at) none
        ∙ (turned_ways m whole.0 (rest s no_layout [] whole) 0
        (ordered_drop s no_layout [] (length nodes - (whole.0 + 1)) nodes ordered)
        (omega (arith, rest_length s no_layout [] whole below)) whole.0
        (omega (arith, rest_length s no_layout [] whole below))
        ∙ (older_drop m (length nodes - (whole.0 + 1)) nodes whole.0 (omega (arith, rest_length s no_layout [] whole below)) ∙ entry_free))
      where
        none : 0 ≡ whole.0 - whole.0
        none = omega arith

  pub are_fine : AllFine (flow s).temps (flow s).slots (flow s).nodes
  are_fine =
      all_turned whole.1.temps whole.1.slots whole.0 (rest s no_layout [] whole)
      (fine_drop whole.1.temps whole.1.slots (length nodes - (whole.0 + 1)) nodes
      ((statement_sound (InTemp 0) (older (InTemp 0) nodes) whole.1.temps whole.1.slots s.depth s.body 0).fine (all_at 1)
      (at_end s no_layout [] s.body) (fits (InTemp 0))
      (record { reads = tt; keeps = tt; plain = refl }, (record { reads = tt; keeps = tt; plain = refl }, tt))))
