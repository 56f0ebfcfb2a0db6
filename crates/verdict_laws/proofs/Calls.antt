-- A call in one turn: what it is given, and how the bits of the calls that have theirs grow by it.
use Rattle.std.proofs.Common.{◌≡◌, ℕ, ◌+◌, Bool, true, false, List, [], ◌∷◌, ◌++◌, length, refl}
use Rattle.std.specs.Prelude.{Option, Some, None, Ok, nat_eq, if◌then◌else◌}
use Rattle.std.specs.List.{flat_map}
use Rattle.sum_rows.specs.declared.row.Item.{Item}
use Rattle.sum_rows.specs.declared.row.Item.TheVariants as item
use Rattle.sum_rows.specs.declared.row.ItemRows.{ItemRows}
use Rattle.sum_rows.specs.declared.row.Summary.{Summary}
use Rattle.sum_rows.specs.declared.row.Write.{Write}
use Rattle.sc_world.specs.declared.run.Origin.TheVariants as origin
use Rattle.sc_world.specs.Tree.{target_or_void}
use Rattle.sc_world.specs.Build.{goes_on, done}
use Rattle.sc_world.specs.Source.{Signature, Effect, Operation, Try, Allocate, Release, Ends, Expect, Known, Unknown, sum_at}
use Rattle.sc_world.specs.Gather.{Site}
use Rattle.sc_world.specs.Layout.{Layout, Spot}
use Rattle.sc_world.specs.Objects.{Ground, Cells, Stub, whole, stub, follow_range}
use Rattle.sc_world.specs.Occurrences.{object_cells, result_bits, state_spots, param_spots, param_type, out_object, out_spot, out_spots, is_out_path, pointer_spot, write_spot, write_spots, known_spots, known_callee, effect_bits}
use Rattle.verdict_laws.specs.Bits.{Bits, own_width, result_width, lock_width, param_width, out_width, write_width, widths_of, spot_widths}
use Rattle.verdict_laws.proofs.Steps.{Post, chained, weaker}
use Rattle.verdict_laws.proofs.Laying.{len}
use Rattle.verdict_laws.proofs.Moves.{Moves, steps, moves_refl, whole_moves, stubs_moves, stub_moves}
use Rattle.verdict_laws.proofs.Gives.{Gives, gives_trans, gives_take, gives_spot, gives_moves, Ready, Owns, owns_none, owns_cells, result_gives, paired, Spots, spots_none, then_spots, spots_behind, one_spot, states_give, params_give}

module _ (g : Ground) where
  out_moves : (f : Signature) (n k : ℕ) (p : Layout) → Post (λ at q. Moves g p q) (out_object g f n k p)
  out_moves f n k p =
      steps g p (whole g Cells (target_or_void (target_or_void (param_type f n))) (origin.Call k) p)
      (λ at. λ q. goes_on (follow_range at (len q) g Stub q) (λ u. done at))
      (whole_moves g Cells (target_or_void (target_or_void (param_type f n))) (origin.Call k) p)
      (λ at q. steps g q (follow_range at (len q) g Stub q) (λ u. done at) (stubs_moves g at (len q) q) (λ u z. moves_refl g z))

  out_gives : (o : Option ℕ) (f : Signature) (k : ℕ) (x : Item) (p : Layout)
      → Post (λ u q. Spots g.source o (out_width g.source x) p q) (out_spot g f k x p)
  out_gives o f k item.Exit p = spots_none g.source o p
  out_gives o f k (item.Lock x) p = spots_none g.source o p
  out_gives o f k (item.Param n) p = spots_none g.source o p
  out_gives o f k (item.Out n) p =
      let p' : Layout = record p { bits = p.bits + 2 } in
      let mine : List Bits = record { first = p.bits; width = 2 } ∷ [] in
      chained (λ at q. Moves g p' q) (λ u z. Spots g.source o (2 ∷ []) p z) (out_object g f n k p')
      (λ at q. Ok (tt {0}, record q { spots = q.spots ++ record { bit = p.bits; object = Some at } ∷ [] }))
      (out_moves f n k p')
      (λ at q a. record {
        new = record { bit = p.bits; object = Some at } ∷ [];
        gives = gives_trans g.source o mine [] [] (record { bit = p.bits; object = Some at } ∷ []) p q
            (record q { spots = q.spots ++ record { bit = p.bits; object = Some at } ∷ [] })
            (gives_trans g.source o mine [] [] [] p p' q (gives_take g.source o 2 p) (gives_moves g.source g refl o p' q a))
            (gives_spot g.source o (record { bit = p.bits; object = Some at }) q);
        count = refl;
      })

  outs_give : (o : Option ℕ) (f : Signature) (k : ℕ) (xs : List ItemRows) (p : Layout)
      → Post (λ u q. Spots g.source o (flat_map (λ (x : ItemRows). out_width g.source x.item) xs) p q) (out_spots g f k xs p)
  outs_give o f k [] p = spots_none g.source o p
  outs_give o f k (x ∷ xs) p =
      then_spots g.source o (out_width g.source x.item) (flat_map (λ (x : ItemRows). out_width g.source x.item) xs) p
      (out_spot g f k x.item p) (λ u. out_spots g f k xs) (out_gives o f k x.item p) (λ u q. outs_give o f k xs q)

  pointer_gives : (o : Option ℕ) (k : ℕ) (p : Layout) → Post (λ u q. Spots g.source o (1 ∷ []) p q) (pointer_spot k p)
  pointer_gives o k p =
      chained (λ at q. Moves g p q) (λ u z. Spots g.source o (1 ∷ []) p z) (stub (origin.Call k) p)
      (λ at q. Ok (tt {0}, record q { bits = q.bits + 1; spots = q.spots ++ record { bit = q.bits; object = Some at } ∷ [] }))
      (stub_moves g (origin.Call k) p)
      (λ at q a.
      spots_behind g.source o (1 ∷ []) p q
      (record q { bits = q.bits + 1; spots = q.spots ++ record { bit = q.bits; object = Some at } ∷ [] })
      (gives_moves g.source g refl o p q a) (one_spot g.source o (Some at) 1 q))

  write_by : (b c : Bool) (o : Option ℕ) (k n : ℕ) (p : Layout)
      → Post (λ u q. Spots g.source o (if b then [] else (if c then 1 else n) ∷ []) p q)
      ((if b then done (tt {0}) else (if c then pointer_spot k else
      (λ (p' : Layout). Ok (tt {0}, record p' { bits = p'.bits + n; spots = p'.spots ++ record { bit = p'.bits; object = None } ∷ [] })))) p)
  write_by true c o k n p = spots_none g.source o p
  write_by false true o k n p = pointer_gives o k p
  write_by false false o k n p = one_spot g.source o None n p

  writes_give : (o : Option ℕ) (items : List ItemRows) (k : ℕ) (xs : List Write) (p : Layout)
      → Post (λ u q. Spots g.source o (flat_map (write_width g.source items) xs) p q) (write_spots items k xs p)
  writes_give o items k [] p = spots_none g.source o p
  writes_give o items k (x ∷ xs) p =
      then_spots g.source o (write_width g.source items x) (flat_map (write_width g.source items) xs) p (write_spot items k x p)
      (λ u. write_spots items k xs) (write_by (is_out_path items x.path) (nat_eq x.width 0) o k x.width p) (λ u q. writes_give o items k xs q)

  known_gives : (o : Option ℕ) (k : ℕ) (f : Signature) (sum : Option Summary) (p : Layout)
      → Post (λ u q. Spots g.source o (widths_of g.source sum) p q) (known_spots g k f sum p)
  known_gives o k f None p = spots_none g.source o p
  known_gives o k f (Some sum) p =
      let outs : List ℕ = flat_map (λ (x : ItemRows). out_width g.source x.item) sum.items in
      let writes : List ℕ = flat_map (write_width g.source sum.items) sum.writes in
      let params : List ℕ = flat_map (λ (x : ItemRows). param_width g.source x.item) sum.items in
      let locks : List ℕ = flat_map (λ (x : ItemRows). lock_width g.source x.item) sum.items in
      then_spots g.source o locks (params ++ (outs ++ writes)) p (state_spots g.source sum.items p)
      (λ u. λ q. goes_on (param_spots sum.items q) (λ u. λ z. goes_on (out_spots g f k sum.items z) (λ u. write_spots sum.items k sum.writes)))
      (states_give g.source o sum.items p)
      (λ u q.
      then_spots g.source o params (outs ++ writes) q (param_spots sum.items q)
      (λ u. λ z. goes_on (out_spots g f k sum.items z) (λ u. write_spots sum.items k sum.writes))
      (params_give g.source o sum.items q)
      (λ u z.
      then_spots g.source o outs writes z (out_spots g f k sum.items z) (λ u. write_spots sum.items k sum.writes)
      (outs_give o f k sum.items z) (λ u y. writes_give o sum.items k sum.writes y)))

  -- what a call is given: bits of its own, and spots
  pub record Works (o : Option ℕ) (own : ℕ) (ws : List ℕ) (p q : Layout) : Type 0 where
    pub new : List Spot
    pub gives : Gives g.source o (record { first = p.bits; width = own } ∷ paired g.source new ws) new p q
    pub count : length new ≡ length ws

  own_only : (o : Option ℕ) (own : ℕ) (p q : Layout) → Owns g.source o own p q → Works o own [] p q
  own_only o own p q a = record { new = []; gives = a; count = refl }

  own_then : (o : Option ℕ) (own : ℕ) (ws : List ℕ) (p q z : Layout) → Owns g.source o own p q → Spots g.source o ws q z → Works o own ws p z
  own_then o own ws p q z a b = record {
    new = b.new;
    gives = gives_trans g.source o (record { first = p.bits; width = own } ∷ []) (paired g.source b.new ws) [] b.new p q z a b.gives;
    count = b.count;
  }

  pub effect_gives : (k : ℕ) (x : Site) (o : Option ℕ) (e : Effect) (p : Layout) → Ready g.source o p
      → Post (λ u q. Works o (own_width g.source x e) (spot_widths g.source e) p q) (effect_bits g k x o e p)
  effect_gives k x o (Operation n) p ready = own_only o 0 p p (owns_none g.source o p)
  effect_gives k x o (Try a b) p ready = own_only o 1 p (record p { bits = p.bits + 1 }) (gives_take g.source o 1 p)
  effect_gives k x o (Allocate true) p ready = own_only o 1 p (record p { bits = p.bits + 1 }) (gives_take g.source o 1 p)
  effect_gives k x o (Allocate false) p ready =
      weaker (λ u q. Owns g.source o 1 p q) (λ u q. Works o 1 [] p q) (object_cells g.source o (record p { bits = p.bits + 1 }))
      (owns_cells g.source o 1 p ready) (λ u q a. own_only o 1 p q a)
  effect_gives k x o Release p ready = own_only o 0 p p (owns_none g.source o p)
  effect_gives k x o Ends p ready = own_only o 0 p p (owns_none g.source o p)
  effect_gives k x o Expect p ready = own_only o 0 p p (owns_none g.source o p)
  effect_gives k x o (Known n) p ready =
      chained (λ u q. Owns g.source o (result_width g.source x 2) p q)
      (λ u z. Works o (result_width g.source x 2) (widths_of g.source (sum_at g.source n)) p z)
      (result_bits g.source x 2 o p) (λ u. known_spots g k (known_callee g.source n) (sum_at g.source n))
      (result_gives g.source x 2 o p ready)
      (λ u q a.
      weaker (λ u z. Spots g.source o (widths_of g.source (sum_at g.source n)) q z)
      (λ u z. Works o (result_width g.source x 2) (widths_of g.source (sum_at g.source n)) p z)
      (known_spots g k (known_callee g.source n) (sum_at g.source n) q)
      (known_gives o k (known_callee g.source n) (sum_at g.source n) q)
      (λ u z b. own_then o (result_width g.source x 2) (widths_of g.source (sum_at g.source n)) p q z a b))
  effect_gives k x o Unknown p ready =
      weaker (λ u q. Owns g.source o (result_width g.source x 1) p q) (λ u q. Works o (result_width g.source x 1) [] p q)
      (result_bits g.source x 1 o p) (result_gives g.source x 1 o p ready) (λ u q a. own_only o (result_width g.source x 1) p q a)
