-- The walk over the finished graph is the run.
use Rattle.std.proofs.Common.{◌≡◌, ℕ, zero, suc, ◌+◌, ◌-◌, ◌<◌, Bool, true, false, List, [], ◌∷◌, length, map, drop, refl, sym, ap, subst, ◌∙◌, arith}
use Rattle.std.specs.Prelude.{None, nat_eq, if◌then◌else◌}
use Rattle.std.proofs.lemmas.Bool.{eq-eqb, eqb-true, eqb-false}
use Rattle.std.proofs.lemmas.List.{length-drop, length-map}
use Rattle.run_store.specs.Concrete.{Cell, Nothing}
use Rattle.sum_rows.specs.declared.report.What.TheVariants as what
use Rattle.sc_world.specs.declared.run.Reason.TheVariants as reason
use Rattle.sc_world.specs.Tree.{Stm}
use Rattle.sc_world.specs.Source.{Source}
use Rattle.sc_world.specs.Layout.{Layout}
use Rattle.sc_world.specs.World.{World, Run, ◌>>=◌, done, aside, event, entry_world, is_true, number_of}
use Rattle.sc_world.specs.Exec.{finished, end_of, result_or, run, switch_event}
use Rattle.flow_graph.specs.Nodes.{Node, Keep, KeepCells, CallOf, Update, Set, Fill, Branch, Choose, Mark, MarkSwitch, Exit, SetAside, Kept, temp, nothing_kept, act, walk_from, walk, in_tree}
use Rattle.flow_graph.specs.Growing.{Growing}
use Rattle.flow_graph.specs.Unrolled.{all_at, grown, turned, flow}
use Rattle.flow_graph.specs.Laws.{GoesOn, AllGoOn}
use Rattle.flow_graph.proofs.Steps.{goes_ext, choose_ext}
use Rattle.flow_graph.proofs.Parts.{Fits}
use Rattle.flow_graph.proofs.Order.{IsBelow, Ordered, Placed}
use Rattle.flow_graph.proofs.OrderOf.{statement_orders}
use Rattle.flow_graph.proofs.Loops.{Meets}
use Rattle.flow_graph.proofs.Statements.{stm_does}

pub differs : (b : Bool) (m n : ℕ) → nat_eq m n ≡ b → (m ≡ n → ⊥) → nat_eq m n ≡ false
differs true m n h d = absurd (d (eqb-true m n h))
differs false m n h d = h

pub less : (m n : ℕ) → m < suc n → (m ≡ n → ⊥) → m < n
less m n h d = omega (arith, h, d)

module _ (s : Source) (p : Layout) (choice : List Bool) where
  -- the walk from a node while the graph grows: the newest node is the first of the list
  abbrev older : List Node → ℕ → Kept → Run Cell
  older [] at k = aside reason.Null
  older (n ∷ ns) at k = if nat_eq at (length ns) then act s p choice n (older ns) k else older ns at k

  -- what a node does depends on the nodes at which it goes on alone
  act_ext : (n : Node) (m : ℕ) → IsBelow m n → (go go' : ℕ → Kept → Run Cell)
      → ((at : ℕ) → at < m → (k : Kept) (w : World) → go at k w ≡ go' at k w)
      → (k : Kept) (w : World) → act s p choice n go k w ≡ act s p choice n go' k w
  act_ext (Keep want t e next) m h go go' same k w = goes_ext _ _ _ (λ x u. same next h _ u)
  act_ext (KeepCells n e next) m h go go' same k w = goes_ext _ _ _ (λ x u. same next h _ u)
  act_ext (CallOf c args t next) m h go go' same k w = goes_ext _ _ _ (λ x u. same next h _ u)
  act_ext (Update u want at old right t next) m h go go' same k w = goes_ext _ _ _ (λ x u. same next h _ u)
  act_ext (Set n e next) m h go go' same k w = goes_ext _ _ _ (λ x u. same next h _ u)
  act_ext (Fill n xs slots next) m h go go' same k w = goes_ext _ _ _ (λ x u. same next h _ u)
  act_ext (Branch t hit miss) m h go go' same k w =
      choose_ext (is_true (temp k t)) (go hit k) (go' hit k) (go miss k) (go' miss k) w (same hit h.0 k w) (same miss h.1 k w)
  act_ext (Choose t n hit miss) m h go go' same k w =
      choose_ext (nat_eq (number_of (temp k t)) n) (go hit k) (go' hit k) (go miss k) (go' miss k) w (same hit h.0 k w) (same miss h.1 k w)
  act_ext (Mark q x next) m h go go' same k w = same next h k (event q x w).1
  act_ext (MarkSwitch q t from next) m h go go' same k w =
      same next h k (event q (switch_event (in_tree s p choice 0) t (temp k from)) w).1
  act_ext (Exit from) m h go go' same k w = refl
  act_ext (SetAside r) m h go go' same k w = refl

  -- a node that is not the newest is looked for behind it
  skips : (n : Node) (ns : List Node) (at : ℕ) → at < length ns → (k : Kept) (w : World) → older (n ∷ ns) at k w ≡ older ns at k w
  skips n ns at h k w = rw (differs (nat_eq at (length ns)) at (length ns) refl (λ e. omega (arith, e, h))) refl

  finds : (n : Node) (ns : List Node) (k : Kept) (w : World) → older (n ∷ ns) (length ns) k w ≡ act s p choice n (older ns) k w
  finds n ns k w = rw (eq-eqb (length ns) (length ns) refl) refl

  -- runs that are those walks fit the graph
  fits_walks : (ns : List Node) → Ordered ns → (v : ℕ → Kept → Run Cell)
      → ((at : ℕ) → at < length ns → (k : Kept) (w : World) → v at k w ≡ older ns at k w) → Fits s p choice v ns
  fits_walks [] ord v same = tt
  fits_walks (n ∷ ns) ord v same = (
    record {
      by = λ k w.
          same (length ns) (omega arith) k w ∙ finds n ns k w
          ∙ act_ext n (length ns) ord.0 (older ns) v (λ at h k w. sym (same at (omega (arith, h)) k w ∙ skips n ns at h k w)) k w;
    },
    fits_walks ns ord.1 v (λ at h k w. same at (omega (arith, h)) k w ∙ skips n ns at h k w),
  )

  -- numbers from the other end
  act_turned : (entry : ℕ) (n : Node) (go : ℕ → Kept → Run Cell) (k : Kept) (w : World)
      → act s p choice (turned entry n) go k w ≡ act s p choice n (λ t. go (entry - t)) k w
  act_turned entry (Keep want t e next) go k w = refl
  act_turned entry (KeepCells n e next) go k w = refl
  act_turned entry (CallOf c args t next) go k w = refl
  act_turned entry (Update u want at old right t next) go k w = refl
  act_turned entry (Set n e next) go k w = refl
  act_turned entry (Fill n xs slots next) go k w = refl
  act_turned entry (Branch t hit miss) go k w = refl
  act_turned entry (Choose t n hit miss) go k w = refl
  act_turned entry (Mark q x next) go k w = refl
  act_turned entry (MarkSwitch q t from next) go k w = refl
  act_turned entry (Exit from) go k w = refl
  act_turned entry (SetAside r) go k w = refl

  turned_here : (entry : ℕ) (n : Node) (ns : List Node) (first : ℕ) → Ordered (n ∷ ns) → first + length (n ∷ ns) ≡ entry + 1
      → ((at : ℕ) → at < length ns → (k : Kept) (w : World)
      → walk_from s p choice (suc first) (map (turned entry) ns) (entry - at) k w ≡ older ns at k w)
      → (at : ℕ) → at ≡ length ns → (k : Kept) (w : World)
      → walk_from s p choice first (map (turned entry) (n ∷ ns)) (entry - at) k w ≡ older (n ∷ ns) at k w
  turned_here entry n ns first ord sizes behind at is k w =
      rw (eq-eqb (entry - at) first (omega (arith, sizes, is)))
      (rw (eq-eqb at (length ns) is)
      (act_turned entry n (walk_from s p choice (suc first) (map (turned entry) ns)) k w
      ∙ act_ext n (length ns) ord.0 (λ t. walk_from s p choice (suc first) (map (turned entry) ns) (entry - t)) (older ns) behind k w))

  turned_behind : (entry : ℕ) (n : Node) (ns : List Node) (first : ℕ) → first + length (n ∷ ns) ≡ entry + 1
      → ((at : ℕ) → at < length ns → (k : Kept) (w : World)
      → walk_from s p choice (suc first) (map (turned entry) ns) (entry - at) k w ≡ older ns at k w)
      → (at : ℕ) → at < length ns → (k : Kept) (w : World)
      → walk_from s p choice first (map (turned entry) (n ∷ ns)) (entry - at) k w ≡ older (n ∷ ns) at k w
  turned_behind entry n ns first sizes behind at h k w =
      rw (differs (nat_eq (entry - at) first) (entry - at) first refl (λ e. omega (arith, e, sizes, h)))
      (behind at h k w ∙ sym (skips n ns at h k w))

  turned_step : (b : Bool) (entry : ℕ) (n : Node) (ns : List Node) (first : ℕ) → Ordered (n ∷ ns) → first + length (n ∷ ns) ≡ entry + 1
      → ((at : ℕ) → at < length ns → (k : Kept) (w : World)
      → walk_from s p choice (suc first) (map (turned entry) ns) (entry - at) k w ≡ older ns at k w)
      → (at : ℕ) → at < length (n ∷ ns) → nat_eq at (length ns) ≡ b → (k : Kept) (w : World)
      → walk_from s p choice first (map (turned entry) (n ∷ ns)) (entry - at) k w ≡ older (n ∷ ns) at k w
  turned_step true entry n ns first ord sizes behind at h e k w =
      turned_here entry n ns first ord sizes behind at (eqb-true at (length ns) e) k w
  turned_step false entry n ns first ord sizes behind at h e k w =
      turned_behind entry n ns first sizes behind at (less at (length ns) h (eqb-false at (length ns) e)) k w

  turned_walk : (entry : ℕ) (ms : List Node) (first : ℕ) → Ordered ms → first + length ms ≡ entry + 1 → (at : ℕ)
      → at < length ms → (k : Kept) (w : World)
      → walk_from s p choice first (map (turned entry) ms) (entry - at) k w ≡ older ms at k w
  turned_walk entry [] first ord sizes at h k w = absurd (omega (arith, h))
  turned_walk entry (n ∷ ns) first ord sizes at h k w =
      turned_step (nat_eq at (length ns)) entry n ns first ord sizes
      (λ at h k w. turned_walk entry ns (suc first) ord.1 (omega (arith, sizes)) at h k w) at h refl k w

  -- the nodes newer than the entry are met by no walk from it
  pub ordered_drop : (j : ℕ) (ns : List Node) → Ordered ns → Ordered (drop j ns)
  ordered_drop zero ns ord = ord
  ordered_drop (suc j) [] ord = tt
  ordered_drop (suc j) (n ∷ ns) ord = ordered_drop j ns ord.1

  older_drop : (j : ℕ) (ns : List Node) (at : ℕ) → at < length (drop j ns) → (k : Kept) (w : World) → older
      (drop j ns) at k w ≡ older ns at k w
  older_drop zero ns at h k w = refl
  older_drop (suc j) [] at h k w = refl
  older_drop (suc j) (n ∷ ns) at h k w =
      older_drop j ns at h k w ∙ sym (skips n ns at (omega (arith, h, length-drop j ns)) k w)

  -- the walk from the first node is that from the entry
  abbrev pub rest : ℕ × Growing → List Node
  rest r = drop (length r.1.nodes - (r.0 + 1)) r.1.nodes

  pub rest_length : (r : ℕ × Growing) → r.0 < length r.1.nodes → length (rest r) ≡ r.0 + 1
  rest_length r h = omega (arith, h, length-drop (length r.1.nodes - (r.0 + 1)) r.1.nodes)

  cut_walk : (r : ℕ × Growing) → Ordered r.1.nodes → r.0 < length r.1.nodes → (k : Kept) (w : World)
      → walk_from s p choice 0 (map (turned r.0) (rest r)) 0 k w ≡ older r.1.nodes r.0 k w
  cut_walk r ord h k w =
      ap (λ at. walk_from s p choice 0 (map (turned r.0) (rest r)) at k w) none
      ∙ turned_walk r.0 (rest r) 0 (ordered_drop (length r.1.nodes - (r.0 + 1)) r.1.nodes ord) (omega (arith, rest_length r h)) r.0
      (omega (arith, rest_length r h)) k w
      ∙ older_drop (length r.1.nodes - (r.0 + 1)) r.1.nodes r.0 (omega (arith, rest_length r h)) k w
    where
      none : 0 ≡ r.0 - r.0
      none = omega arith

  -- The numbers of the finished graph grow along each edge.
  goes_behind : (entry first m : ℕ) (n : Node) → first + suc m ≡ entry + 1 → IsBelow m n → GoesOn first (entry + 1) (turned entry n)
  goes_behind entry first m (Keep want t e next) sizes h = (omega (arith, sizes, h), omega arith)
  goes_behind entry first m (KeepCells n e next) sizes h = (omega (arith, sizes, h), omega arith)
  goes_behind entry first m (CallOf c args t next) sizes h = (omega (arith, sizes, h), omega arith)
  goes_behind entry first m (Update u want at old right t next) sizes h = (omega (arith, sizes, h), omega arith)
  goes_behind entry first m (Set n e next) sizes h = (omega (arith, sizes, h), omega arith)
  goes_behind entry first m (Fill n xs slots next) sizes h = (omega (arith, sizes, h), omega arith)
  goes_behind entry first m (Branch t hit miss) sizes h =
      ((omega (arith, sizes, h.0), omega arith), (omega (arith, sizes, h.1), omega arith))
  goes_behind entry first m (Choose t n hit miss) sizes h =
      ((omega (arith, sizes, h.0), omega arith), (omega (arith, sizes, h.1), omega arith))
  goes_behind entry first m (Mark q x next) sizes h = (omega (arith, sizes, h), omega arith)
  goes_behind entry first m (MarkSwitch q t from next) sizes h = (omega (arith, sizes, h), omega arith)
  goes_behind entry first m (Exit from) sizes h = tt
  goes_behind entry first m (SetAside r) sizes h = tt

  all_go_on : (entry first : ℕ) (ms : List Node) → Ordered ms → first + length ms ≡ entry + 1 → AllGoOn first
      (entry + 1) (map (turned entry) ms)
  all_go_on entry first [] ord sizes = tt
  all_go_on entry first (n ∷ ns) ord sizes =
      (goes_behind entry first (length ns) n sizes ord.0, all_go_on entry (suc first) ns ord.1 (omega (arith, sizes)))

  -- The whole.
  abbrev pub at_end : Stm → Growing
  at_end x = record { nodes = Mark (end_of x) what.End 0 ∷ Exit None ∷ []; temps = 0; slots = 0 }

  pub placed : (x : Stm) → Placed (at_end x) (grown s.depth x)
  placed x =
      (statement_orders s.depth x 0).by (all_at 1) (at_end x) (omega arith, (tt, tt))
      (record { next = omega arith; leave = omega arith; again = omega arith; label = λ n. omega arith })

  meets_end : (v : ℕ → Kept → Run Cell) → Fits s p choice v (at_end s.body).nodes → Meets s p choice v (all_at 1) (finished s)
  meets_end v fits = record {
    next = ends;
    leave = ends;
    again = ends;
    label = λ n. ends;
    returns = λ c w. refl;
  }
    where
      ends : (k : Kept) (w : World) → v 1 k w ≡ (event (end_of s.body) what.End >>= λ _. done (result_or s Nothing)) w
      ends k w = fits.0.by k w ∙ fits.1.0.by k (event (end_of s.body) what.End w).1

  pub walk_is_run : walk s p choice (flow s).nodes (entry_world s p choice) ≡ run s p choice
  walk_is_run =
      cut_walk (grown s.depth s.body) (placed s.body).ordered (placed s.body).below nothing_kept (entry_world s p choice)
      ∙ (stm_does s p choice v s.body 0).by (all_at 1) (at_end s.body) fits (finished s)
      (meets_end v (((stm_does s p choice v s.body 0).grows (all_at 1) (at_end s.body)).fits fits)) nothing_kept (entry_world s p choice)
    where
      v : ℕ → Kept → Run Cell
      v = older (grown s.depth s.body).1.nodes

      fits : Fits s p choice v (grown s.depth s.body).1.nodes
      fits = fits_walks (grown s.depth s.body).1.nodes (placed s.body).ordered v (λ at h k w. refl)

  pub no_cycle : AllGoOn 0 (length (flow s).nodes) (flow s).nodes × (0 < length (flow s).nodes)
  no_cycle = (
    subst (λ count. AllGoOn 0 count (flow s).nodes) (sym count)
        (all_go_on (grown s.depth s.body).0 0 (rest (grown s.depth s.body))
        (ordered_drop (length (grown s.depth s.body).1.nodes - ((grown s.depth s.body).0 + 1))
        (grown s.depth s.body).1.nodes (placed s.body).ordered)
        (omega (arith, rest_length (grown s.depth s.body) (placed s.body).below))),
    omega (arith, count),
  )
    where
      count : length (flow s).nodes ≡ (grown s.depth s.body).0 + 1
      count = length-map (rest (grown s.depth s.body)) (turned (grown s.depth s.body).0) ∙ rest_length
          (grown s.depth s.body) (placed s.body).below
