-- What holds of the gates before a node while the net grows, and when ways are taken.
use Rattle.std.proofs.Common.{◌≡◌, ℕ, ◌≤◌, nat_eq, Bool, true, false, ◌&&◌, ◌||◌, if◌then◌else◌, List, length, refl, sym, ◌∙◌, ap, arith}
use Rattle.std.proofs.lemmas.Bool.{eqb-true, eq-eqb}
use Rattle.bit_net.specs.declared.nodes.Node.{Node as Gates}
use Rattle.bit_net.specs.Runs.{Grown}
use Rattle.run_store.specs.Concrete.{Cell, Kind, Numbers, Number, Pointer, Nothing, kind_of, put}
use Rattle.gl_store.specs.declared.values.Val.{Val}
use Rattle.gl_store.specs.declared.values.Val.TheVariants.{Word, Set, Unit as Empty}
use Rattle.gl_store.specs.Meets.{Meets, val_kind}
use Rattle.gl_store.specs.Steps.{IsBlank}
use Rattle.sc_world.specs.Source.{Source}
use Rattle.sc_world.specs.Layout.{Layout}
use Rattle.sc_world.specs.World.{bit_at}
use Rattle.flow_graph.specs.Nodes.{Node, Kept}
use Rattle.flow_graph.specs.Conditions.{Held, InTemp, InSlot}
use Rattle.flow_types.specs.Kinds as flow
use Rattle.flow_ways.specs.declared.ways.Split.{Split}
use Rattle.flow_ways.specs.declared.ways.Way.{Way}
use Rattle.flow_ways.specs.declared.ways.Ways.{Ways}
use Rattle.flow_ways.specs.Held.{any, held, AreSplits}
use Rattle.flow_ways.specs.Steps.{AreWithin, Leaves}
use Rattle.flow_ends.specs.Fates.{AreFates}
use Rattle.flow_ends.specs.declared.fates.Fates.{Fates}
use Rattle.flow_stages.specs.Stage.{Choice, View, Stage, At, Out, Over}
use Rattle.flow_turns.specs.declared.before.Before.{Before}
use Rattle.flow_turns.specs.declared.before.Arrival.{Arrival}
use Rattle.flow_turns.specs.declared.temps.Temps.{Temps}
use Rattle.flow_turns.specs.Kept.{HaveKept, AreTemps}
use Rattle.flow_turns.specs.Before.{AreGates, IsHere, IsShaped, Arrives, seen}

-- The net grows.

pub splits_grown : (ns ns' : List Gates) (splits : List Split) → Grown ns ns' → AreSplits ns splits → AreSplits ns' splits
splits_grown ns ns' splits g h = record { all = λ choice v r. h.all choice v (g.runs choice v r) }

pub within_grown : (n n' : ℕ) (w : Ways) → n ≤ n' → AreWithin n w → AreWithin n' w
within_grown n n' w more h = record { waits = (let a = h.waits in omega arith); splits = (let a = h.splits in omega arith) }

pub fates_grown : (ns ns' : List Gates) (count : ℕ) (f : Fates) → Grown ns ns' → AreFates ns count f → AreFates ns' count f
fates_grown ns ns' count f g h = record {
  over = (let a = h.over in let b = g.longer in omega arith);
  bads = (let a = h.bads in let b = g.longer in omega arith);
  stopped = (let a = h.stopped in let b = g.longer in omega arith);
  touched = (let a = h.touched in let b = g.longer in omega arith);
  noted = (let a = h.noted in let b = g.longer in omega arith);
  each_bad = h.each_bad;
  each_touched = h.each_touched;
  each_noted = h.each_noted;
  are_noted = record { holds = λ choice v r. h.are_noted.holds choice v (g.runs choice v r) };
}

pub temps_grown : (ns ns' : List Gates) (t : Temps) → Grown ns ns' → AreTemps ns t → AreTemps ns' t
temps_grown ns ns' t g h = record {
  vals = (let a = h.vals in let b = g.longer in omega arith);
  sure = (let a = h.sure in let b = g.longer in omega arith);
  slots = (let a = h.slots in let b = g.longer in omega arith);
  each_sure = h.each_sure;
  each_kept = h.each_kept;
}

pub gates_grown : (ns ns' : List Gates) (x : Before) → Grown ns ns' → AreGates ns x → AreGates ns' x
gates_grown ns ns' x g h = record {
  store = (let a = h.store in let b = g.longer in omega arith);
  temps = temps_grown ns ns' x.temps g h.temps;
  ways = within_grown (length ns) (length ns') x.ways g.longer h.ways;
  splits = splits_grown ns ns' x.ways.splits.items g h.splits;
  fates = fates_grown ns ns' (length x.fates.bads.items) x.fates g h.fates;
  result = (let a = h.result in let b = g.longer in omega arith);
  blank = (let a = h.blank in let b = g.longer in omega arith);
}

blank_grown : (ns ns' : List Gates) (k : Kind) (x : Val) → Grown ns ns' → IsBlank ns k x → IsBlank ns' k x
blank_grown ns ns' k x g h = record {
  below = (let a = h.below in let b = g.longer in omega arith);
  same = h.same;
  value = λ choice v r. h.value choice v (g.runs choice v r);
}

pub shape_grown : (s : Source) (p : Layout) (k : flow.Kinds) (ns ns' : List Gates) (x : Before) → Grown ns ns' → IsShaped s p k ns x → IsShaped s p k ns' x
shape_grown s p k ns ns' x g h = record {
  locations = h.locations;
  kinds = h.kinds;
  temps = h.temps;
  result = h.result;
  blank = blank_grown ns ns' _ x.blank g h.blank;
}

-- The same nodes are held.
pub same_held : (c : Choice) (nodes : List Node) (count j : ℕ) (x : View) (f : ℕ → Bool) → ((q : ℕ) → f q ≡ x.held q)
    → Stage c nodes count j x → Stage c nodes count j (record x { held = f })
same_held c nodes count j x f e (At at k w h) = At at k w (record {
  behind = h.behind;
  within = h.within;
  is = h.is;
  none = record { over = h.none.over; bad = h.none.bad; touched = h.none.touched };
  one = λ q low. e q ∙ h.one q low;
  store = h.store;
  temps = h.temps;
})
same_held c nodes count j x f e (Out r w h) = Out r w (record {
  is = h.is;
  none = record { over = h.none.over; bad = h.none.bad; touched = h.none.touched };
  nowhere = λ q low. e q ∙ h.nowhere q low;
  store = h.store;
  gives = h.gives;
})
same_held c nodes count j x f e (Over r w ps h) = Over r w ps (record {
  is = h.is;
  ended = record { over = h.ended.over; bad = h.ended.bad; touched = h.ended.touched };
  store = h.store;
})

held_taken : (v : ℕ → Bool) (node : ℕ) (old new ways : List Way) (gate : Bool) → gate ≡ any v ways → any v ways ≡ held v old node → held v new node ≡ false
    → ((q : ℕ) → nat_eq node q ≡ false → held v new q ≡ held v old q) → (q : ℕ) → (held v new q || (nat_eq node q && gate)) ≡ held v old q
held_taken v node old new ways gate is taken gone others q = by (nat_eq node q) refl
  where
    or_false : (b : Bool) → (b || false) ≡ b
    or_false true = refl
    or_false false = refl

    by : (same : Bool) → nat_eq node q ≡ same → (held v new q || (same && gate)) ≡ held v old q
    by true e =
        let at : node ≡ q = eqb-true node q e in
        ap (λ b. b || gate) (ap (λ j. held v new j) (sym at) ∙ gone) ∙ (is ∙ (taken ∙ ap (λ j. held v old j) at))
    by false e = or_false (held v new q) ∙ others q e

-- The ways to a node are taken.
pub arrived_at : (ns ns' : List Gates) (node : ℕ) (x : Before) (w : Ways) (here : Arrival) → Grown ns ns' → Leaves node x.ways w here.ways.items → IsHere ns' here
    → Arrives ns ns' node x (record x { ways = w }) here
arrived_at ns ns' node x w here g l h = record {
  at = λ s p nodes b. record {
    kinds = b.kinds;
    fit = b.fit;
    shape = shape_grown s p b.kinds ns ns' (record x { ways = w }) g
        (record { locations = b.shape.locations; kinds = b.shape.kinds; temps = b.shape.temps; result = b.shape.result; blank = b.shape.blank });
    gone = l.gone;
    tells = λ bits few v runs.
        (let t = b.tells bits few v (g.runs (bit_at bits) v runs) in
        record {
          stage = same_held (record { source = s; layout = p; bits = bits }) nodes (length p.locations) node (seen v p b.kinds x)
              (λ q. held v w.waits.items q || (nat_eq node q && v here.gate.at))
              (held_taken v node x.ways.waits.items w.waits.items here.ways.items (v here.gate.at) (h.gate.value (bit_at bits) v runs) (l.taken v) (l.gone v) (l.others v))
              t.stage;
          other = t.other;
          some = t.some;
          given = t.given;
          gives = t.gives;
        });
  };
}

-- What was kept is asked for at fewer temps.
pub fewer : (v : ℕ → Bool) (p : Layout) (kinds : List flow.Kind) (t : Temps) (k : Kept) (f g : Held → Bool) → ((m : Held) → g m ≡ false → f m ≡ false)
    → HaveKept v p kinds t k f → HaveKept v p kinds t k g
fewer v p kinds t k f g e h = record { temps = λ m free some. h.temps m (e (InTemp m) free) some; slots = λ m free. h.slots m (e (InSlot m) free) }

-- Values of one kind.

pub meets_kind : (v : ℕ → Bool) (x : Val) (c : Cell) → Meets v x c → kind_of c ≡ val_kind x
meets_kind v (Word w) (Number width n) h = ap Numbers (sym h.wide)
meets_kind v (Word w) (Pointer t) h = absurd h
meets_kind v (Word w) Nothing h = absurd h
meets_kind v (Set s) (Number width n) h = absurd h
meets_kind v (Set s) (Pointer t) h = refl
meets_kind v (Set s) Nothing h = absurd h
meets_kind v Empty (Number width n) h = absurd h
meets_kind v Empty (Pointer t) h = absurd h
meets_kind v Empty Nothing h = refl

pub put_same : (x y : Cell) → kind_of x ≡ kind_of y → put x y ≡ y
put_same (Number a n) (Number b m) e = (let same : a ≡ b = cc in ap (λ (c : Bool). if c then Number b m else Number a n) (eq-eqb a b same))
put_same (Number a n) (Pointer t) e = absurd (cc)
put_same (Number a n) Nothing e = absurd (cc)
put_same (Pointer t) (Number b m) e = absurd (cc)
put_same (Pointer t) (Pointer u) e = refl
put_same (Pointer t) Nothing e = absurd (cc)
put_same Nothing (Number b m) e = absurd (cc)
put_same Nothing (Pointer u) e = absurd (cc)
put_same Nothing Nothing e = refl

pub grown_both : (ns ns1 ns2 : List Gates) → Grown ns ns1 → Grown ns1 ns2 → Grown ns ns2
grown_both ns ns1 ns2 a b = record {
  longer = (let la = a.longer in let lb = b.longer in omega arith);
  inputs = b.inputs ∙ a.inputs;
  runs = λ choice v r. a.runs choice v (b.runs choice v r);
}
