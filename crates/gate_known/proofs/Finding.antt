-- A known call: all that it has to do with is found first.
use Rattle.std.proofs.Common.{◌≡◌, ℕ, ◌+◌, ◌≤◌, Bool, List, length, sym, subst, arith}
use Rattle.bit_net.specs.declared.nodes.Gate.{Gate}
use Rattle.bit_net.specs.declared.nodes.Node.{Node}
use Rattle.bit_net.specs.Runs.{Grown}
use Rattle.gl_store.specs.declared.values.Val.{Val}
use Rattle.gl_store.specs.declared.stores.Location.{Location}
use Rattle.gl_store.specs.Meets.{Meets}
use Rattle.run_store.specs.Concrete.{Cell}
use Rattle.sum_rows.specs.declared.row.ItemRows.{ItemRows}
use Rattle.sum_rows.specs.declared.row.Summary.{Summary}
use Rattle.sum_rows.specs.declared.row.Write.{Write}
use Rattle.sc_world.specs.Tree.{Ty}
use Rattle.sc_world.specs.Source.{Source}
use Rattle.sc_world.specs.Layout.{Layout, Occurrence}
use Rattle.sc_world.specs.World.{◌>>=◌, bit_at}
use Rattle.sc_world.specs.Eval.{fails}
use Rattle.sc_world.specs.Known as known
use Rattle.sc_world.specs.Known.{Acting, Locked, Outed, acts, count_items, is_lock, is_out_item, is_param, given_number, locks, outs, writes}
use Rattle.layout_base.specs.Seen.{occurrence_of}
use Rattle.gate_runs.specs.declared.ends.Ends.{Ends}
use Rattle.gate_runs.specs.Stands.{AreEnds, Does}
use Rattle.gate_runs.proofs.Bind.{bind}
use Rattle.gate_places.specs.Places.{env_of}
use Rattle.gate_objects.specs.Escapes.{AreBelow}
use Rattle.gate_paths.specs.declared.cells.Written.{Written}
use Rattle.gate_paths.specs.declared.gathered.Found.{Found}
use Rattle.gate_paths.specs.Cells.{AreCellsBelow, FindsWrites, put_written, where_cell}
use Rattle.gate_paths.specs.Gathered.{AreItemsBelow, FindsLocks, FindsOuts, Shows, put_locked, put_out, where_item}
use Rattle.gate_rows.specs.Entries.{AreEntryBits}
use Rattle.gate_states.specs.declared.called.Called.{Called}
use Rattle.gate_states.specs.Called.{IsCalled}
use Rattle.gate_states.proofs.Staying.{args_stay, cells_stay, items_stay}
use Rattle.gate_known.specs.Effects.{DoesActs, IsSeen}
use Rattle.gate_known.specs.Known.{DoesKnown}

abbrev acting_with : Summary → Occurrence → List Cell → List Locked → List Outed → List known.Written → Acting
acting_with sum o cs ls os ws = record { summary = sum; occurrence = o; args = cs; given = given_number cs; locks = ls; outs = os; writes = ws }

module _ (s : Source) (p : Layout) (n1 n2 n3 n4 ns : List Node) (t : Ty) (o : Occurrence) (sum : Summary) (c : Called) (l0 l1 : List Location) (g0 g1 : Ends)
    (k_locks k_outs k_writes : ℕ) where
  pub does_known : (r : Val) → Grown n1 n2 → Grown n2 n3 → Grown n3 n4 → Grown n4 ns
      → c.summary.now ≡ sum → occurrence_of c.occurrence ≡ o
      → k_locks ≡ o.spot → k_outs ≡ o.spot + (count_items is_lock sum.items + count_items is_param sum.items)
      → k_writes ≡ o.spot + (count_items is_lock sum.items + (count_items is_param sum.items + count_items is_out_item sum.items))
      → FindsLocks n1 p l0 c.args.now k_locks sum.items c.locks.now → FindsOuts n2 p l0 c.args.now k_outs sum.items c.outs.now
      → FindsWrites n3 p l0 c.args.now sum.items k_writes sum.writes c.writes.now
      → AreEnds ns g1 → length g1.bads.items ≡ length g0.bads.items
      → DoesActs s p ns t c l0 l1 g0 g1 r → DoesKnown s p ns t o sum c.args.now l0 l1 g0 g1 r
  does_known r grown1 grown2 grown3 grown4 is_sum is_o at_locks at_outs at_writes find_locks find_outs find_writes ends bads does_acts =
      record {
        below = does_acts.below;
        kind = does_acts.kind;
        top = does_acts.top;
        same = does_acts.same;
        ends = ends;
        bads = bads;
        does = λ bits v runs few temps turn pos cs met.
            let env = env_of s p bits temps turn in
            let r4 = grown4.runs (bit_at bits) v runs in
            let r3 = grown3.runs (bit_at bits) v r4 in
            let r2 = grown2.runs (bit_at bits) v r3 in
            let r1 = grown1.runs (bit_at bits) v r2 in
            let to_locks : ℕ = o.spot in
            let to_outs : ℕ = o.spot + (count_items is_lock sum.items + count_items is_param sum.items) in
            let to_writes : ℕ = o.spot + (count_items is_lock sum.items + (count_items is_param sum.items + count_items is_out_item sum.items)) in
            let last = λ (ls : List Locked) (os : List Outed) (ws : List known.Written). acts env (fails env pos) t (acting_with sum o cs ls os ws) in
            let behind_outs = λ (ls : List Locked) (os : List Outed). writes env cs sum.items to_writes sum.writes >>= last ls os in
            let behind_locks = λ (ls : List Locked). outs env cs to_outs sum.items >>= behind_outs ls in
            bind v l0 l0 l1 g0 g0 g1 (locks env cs to_locks sum.items) behind_locks (Shows v where_item put_locked c.locks.now) (Meets v r)
            (subst (λ k. Does v l0 g0 (locks env cs k sum.items) l0 g0 (Shows v where_item put_locked c.locks.now)) at_locks
            (find_locks.does (bit_at bits) v r1 g0 s bits temps turn cs met))
            (λ ls locked. bind v l0 l0 l1 g0 g0 g1 (outs env cs to_outs sum.items) (behind_outs ls) (Shows v where_item put_out c.outs.now) (Meets v r)
            (subst (λ k. Does v l0 g0 (outs env cs k sum.items) l0 g0 (Shows v where_item put_out c.outs.now)) at_outs
            (find_outs.does (bit_at bits) v r2 g0 s bits temps turn cs met))
            (λ os outed. bind v l0 l0 l1 g0 g0 g1 (writes env cs sum.items to_writes sum.writes) (last ls os) (Shows v where_cell put_written c.writes.now) (Meets v r)
            (subst (λ k. Does v l0 g0 (writes env cs sum.items k sum.writes) l0 g0 (Shows v where_cell put_written c.writes.now)) at_writes
            (find_writes.does (bit_at bits) v r3 g0 s bits temps turn cs met))
            (λ ws written.
            subst (λ (x : Summary). Does v l0 g0 (acts env (fails env pos) t (acting_with x o cs ls os ws)) l1 g1 (Meets v r)) is_sum
            (subst (λ (y : Occurrence). Does v l0 g0 (acts env (fails env pos) t (acting_with c.summary.now y cs ls os ws)) l1 g1 (Meets v r)) is_o
            (does_acts.does bits v runs few temps turn pos cs ls os ws (record { args = met; locks = locked; outs = outed; writes = written }))))));
      }

  -- the same of items and cells as slices of those of the summary, and of what was found as slices of lists
  pub does_known_by : (r : Val) (items : List ItemRows) (cells : List Write) (ls os : List Found) (ws : List Written) → Grown n1 n2 → Grown n2 n3 → Grown n3 n4
      → Grown n4 ns
      → c.summary.now ≡ sum → occurrence_of c.occurrence ≡ o → items ≡ sum.items → cells ≡ sum.writes → c.locks.now ≡ ls → c.outs.now ≡ os → c.writes.now ≡ ws
      → k_locks ≡ o.spot → k_outs ≡ o.spot + (count_items is_lock items + count_items is_param items)
      → k_writes ≡ o.spot + (count_items is_lock items + (count_items is_param items + count_items is_out_item items))
      → FindsLocks n1 p l0 c.args.now k_locks items ls → FindsOuts n2 p l0 c.args.now k_outs items os
      → FindsWrites n3 p l0 c.args.now items k_writes cells ws
      → AreEnds ns g1 → length g1.bads.items ≡ length g0.bads.items
      → DoesActs s p ns t c l0 l1 g0 g1 r → DoesKnown s p ns t o sum c.args.now l0 l1 g0 g1 r
  does_known_by r items cells ls os ws grown1 grown2 grown3 grown4 is_sum is_o is_items is_cells same_locks same_outs same_writes at_locks at_outs at_writes
      find_locks find_outs find_writes ends bads does_acts =
      does_known r grown1 grown2 grown3 grown4 is_sum is_o at_locks
      (subst (λ (xs : List ItemRows). k_outs ≡ o.spot + (count_items is_lock xs + count_items is_param xs)) is_items at_outs)
      (subst (λ (xs : List ItemRows). k_writes ≡ o.spot + (count_items is_lock xs + (count_items is_param xs + count_items is_out_item xs))) is_items at_writes)
      (subst (λ (xs : List ItemRows). FindsLocks n1 p l0 c.args.now k_locks xs c.locks.now) is_items
      (subst (λ (fs : List Found). FindsLocks n1 p l0 c.args.now k_locks items fs) (sym same_locks) find_locks))
      (subst (λ (xs : List ItemRows). FindsOuts n2 p l0 c.args.now k_outs xs c.outs.now) is_items
      (subst (λ (fs : List Found). FindsOuts n2 p l0 c.args.now k_outs items fs) (sym same_outs) find_outs))
      (subst (λ (ys : List Write). FindsWrites n3 p l0 c.args.now sum.items k_writes ys c.writes.now) is_cells
      (subst (λ (xs : List ItemRows). FindsWrites n3 p l0 c.args.now xs k_writes cells c.writes.now) is_items
      (subst (λ (fs : List Written). FindsWrites n3 p l0 c.args.now items k_writes cells fs) (sym same_writes) find_writes)))
      ends bads does_acts

-- What a known call has to do with, once it is found.

pub is_called : (n0 n1 n2 n3 n4 : List Node) (c : Called) (ls os : List Found) (ws : List Written) (bits : List Gate) → Grown n0 n1 → Grown n1 n2 → Grown n2 n3 → Grown n3 n4
    → c.locks.now ≡ ls → c.outs.now ≡ os → c.writes.now ≡ ws → c.given.now ≡ bits
    → AreBelow n0 c.args.now → AreItemsBelow n1 ls → AreItemsBelow n2 os → AreCellsBelow n3 ws → AreEntryBits n4 c.args.now bits → IsCalled n4 c
is_called n0 n1 n2 n3 n4 c ls os ws bits grown1 grown2 grown3 grown4 same_locks same_outs same_writes same_bits args locks outs writes given =
    record {
      args = args_stay n0 n4 c.args.now (omega (arith, grown1.longer, grown2.longer, grown3.longer, grown4.longer)) args;
      given = subst (λ (gs : List Gate). AreEntryBits n4 c.args.now gs) (sym same_bits) given;
      locks =
          subst (λ (fs : List Found). AreItemsBelow n4 fs) (sym same_locks)
          (items_stay n1 n4 ls (omega (arith, grown2.longer, grown3.longer, grown4.longer)) locks);
      outs = subst (λ (fs : List Found). AreItemsBelow n4 fs) (sym same_outs) (items_stay n2 n4 os (omega (arith, grown3.longer, grown4.longer)) outs);
      writes = subst (λ (fs : List Written). AreCellsBelow n4 fs) (sym same_writes) (cells_stay n3 n4 ws grown4.longer writes);
    }
