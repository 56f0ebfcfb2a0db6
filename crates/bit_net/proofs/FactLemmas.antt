-- Facts about gates: one more of them, what the node of a known gate says, and what is left of a node.
use Rattle.std.proofs.Common.{◌≡◌, ℕ, ◌<◌, Bool, true, false, not, ◌&&◌, ◌||◌, if◌then◌else◌, List, [], ◌∷◌, ◌++◌, length, slice_get, Some, refl, sym, ◌∙◌, ap, subst, arith, ◌⊎◌, inl, inr, true≢false}
use Rattle.std.proofs.lemmas.Option.{slice_get_within}
use Rattle.bit_net.specs.declared.nodes.Gate.{Gate}
use Rattle.bit_net.specs.declared.nodes.Node.{Node}
use Rattle.bit_net.specs.declared.nodes.Node.TheVariants.{Not, And, Or, Mux}
use Rattle.bit_net.specs.declared.facts.Fact.{Fact}
use Rattle.bit_net.specs.Value.{table}
use Rattle.bit_net.specs.Circuit.{IsCircuit}
use Rattle.bit_net.specs.Runs.{Gives}
use Rattle.bit_net.specs.Facts.{AllHold, IsFact, Notes, AreKnown, Learns, IsSeen}
use Rattle.bit_net.proofs.ListLemmas.{slice_get_push}
use Rattle.bit_net.proofs.CircuitLemmas.{Gives-node}

pub all_hold-none : (v : ℕ → Bool) → AllHold v []
all_hold-none v = record { each = λ k f h. cc }

pub all_hold-push : (v : ℕ → Bool) (facts : List Fact) (f : Fact) → AllHold v facts → v f.gate.at ≡ f.holds → AllHold v (facts ++ f ∷ [])
all_hold-push v facts f before here = record {
  each = λ k g at. elim (slice_get_push facts f k g at) [ inl old ↦ before.each k g old | inr new ↦ subst (λ (x : Fact). v x.gate.at ≡ x.holds) new.1 here ];
}

pub IsFact-at : (facts : List Fact) (k : ℕ) (f : Fact) → slice_get facts k ≡ Some f → IsFact facts f.gate.at f.holds
IsFact-at facts k f here = record { value = λ v all. all.each k f here }

pub Notes-push : (facts : List Fact) (f : Fact) → Notes f.gate.at f.holds facts (facts ++ f ∷ [])
Notes-push facts f = record { hold = λ v here all. all_hold-push v facts f all here }

pub Notes-same : (facts : List Fact) (g : ℕ) (b : Bool) → Notes g b facts facts
Notes-same facts g b = record { hold = λ v here all. all }

pub Learns-same : (ns : List Node) (facts : List Fact) (g : ℕ) (b : Bool) → Learns ns g b facts facts
Learns-same ns facts g b = record { hold = λ choice v r here all. all }

pub Learns-note : (ns : List Node) (g : ℕ) (b : Bool) (old new : List Fact) → Notes g b old new → Learns ns g b old new
Learns-note ns g b old new n = record { hold = λ choice v r here all. n.hold v here all }

-- what is known of a gate that is known already
pub Learns-more : (ns : List Node) (g h : ℕ) (b d : Bool) (first middle last : List Fact) → Learns ns g b first middle → IsFact middle h d → Learns ns h d middle last
    → Learns ns g b first last
Learns-more ns g h b d first middle last before fact more = record {
  hold = λ choice v r here all. let so_far = before.hold choice v r here all in more.hold choice v r (fact.value v so_far) so_far;
}

pub Known-learnt : (ns : List Node) (g : ℕ) (facts : List Fact) → Learns ns g true [] facts → AreKnown ns g facts
Known-learnt ns g facts l = record { hold = λ choice v r here. l.hold choice v r here (all_hold-none v) }

both_true : (a b : Bool) → (a && b) ≡ true → (a ≡ true) × (b ≡ true)
both_true true b h = (refl, h)
both_true false b h = absurd (true≢false (sym h))

both_false : (a b : Bool) → (a || b) ≡ false → (a ≡ false) × (b ≡ false)
both_false true b h = absurd (true≢false h)
both_false false b h = (refl, h)

turned : (a b : Bool) → not a ≡ b → a ≡ not b
turned true b h = ap not h
turned false b h = ap not h

pub Learns-not : (ns : List Node) (g : ℕ) (a : Gate) (b : Bool) (old new : List Fact) → IsCircuit ns → slice_get ns g ≡ Some (Not a) → Notes a.at (not b) old new → Learns ns g b old new
Learns-not ns g a b old new c here n = record {
  hold = λ choice v r value all. n.hold v (turned (v a.at) b (sym ((Gives-node ns g (Not a) c here).value choice v r) ∙ value)) all;
}

pub Learns-and : (ns : List Node) (g : ℕ) (a b : Gate) (d : Bool) (old new : List Fact) → IsCircuit ns → slice_get ns g ≡ Some (And a b) → d ≡ true
    → ((v : ℕ → Bool) → v a.at ≡ true → v b.at ≡ true → AllHold v old → AllHold v new) → Learns ns g d old new
Learns-and ns g a b d old new c here e n = record {
  hold = λ choice v r value all.
      let both = both_true (v a.at) (v b.at) (sym ((Gives-node ns g (And a b) c here).value choice v r) ∙ value ∙ e) in
      n v both.0 both.1 all;
}

pub Learns-or : (ns : List Node) (g : ℕ) (a b : Gate) (d : Bool) (old new : List Fact) → IsCircuit ns → slice_get ns g ≡ Some (Or a b) → not d ≡ true
    → ((v : ℕ → Bool) → v a.at ≡ false → v b.at ≡ false → AllHold v old → AllHold v new) → Learns ns g d old new
Learns-or ns g a b d old new c here e n = record {
  hold = λ choice v r value all.
      let both = both_false (v a.at) (v b.at) (sym ((Gives-node ns g (Or a b) c here).value choice v r) ∙ value ∙ turned d true e) in
      n v both.0 both.1 all;
}

-- what is left of a node
pub seen_same : (ns : List Node) (facts : List Fact) (g : ℕ) → g < length ns → IsSeen ns facts g g
seen_same ns facts g low = record { below = low; same = λ choice v r all. refl }

pub seen_on : (ns : List Node) (facts : List Fact) (a b c : ℕ) → IsSeen ns facts a b → IsSeen ns facts b c → IsSeen ns facts a c
seen_on ns facts a b c x y = record { below = y.below; same = λ choice v r all. y.same choice v r all ∙ x.same choice v r all }

pub seen_constant : (ns : List Node) (facts : List Fact) (g x : ℕ) (b : Bool) → IsFact facts g b → Gives ns x (λ choice v. b) → IsSeen ns facts g x
seen_constant ns facts g x b fact gives = record { below = gives.below; same = λ choice v r all. gives.value choice v r ∙ sym (fact.value v all) }

pub seen_not : (ns : List Node) (facts : List Fact) (g x : ℕ) (a : Gate) (b : Bool) → IsCircuit ns → slice_get ns g ≡ Some (Not a) → IsFact facts a.at b → Gives ns x (λ choice v. not b) → IsSeen ns facts g x
seen_not ns facts g x a b c here fact gives = record {
  below = gives.below;
  same = λ choice v r all. gives.value choice v r ∙ sym ((Gives-node ns g (Not a) c here).value choice v r ∙ ap not (fact.value v all));
}

-- a node whose value is that of an earlier gate where the facts are true
seen_operand : (ns : List Node) (facts : List Fact) (g x : ℕ) (n : Node) → IsCircuit ns → slice_get ns g ≡ Some n → x < g
    → ((choice v : ℕ → Bool) → AllHold v facts → table choice v n ≡ v x) → IsSeen ns facts g x
seen_operand ns facts g x n c here low e = record {
  below = omega (arith, slice_get_within ns g n here);
  same = λ choice v r all. sym ((Gives-node ns g n c here).value choice v r ∙ e choice v all);
}

-- a node whose value is a constant there
seen_value : (ns : List Node) (facts : List Fact) (g x : ℕ) (b : Bool) (n : Node) → IsCircuit ns → slice_get ns g ≡ Some n → Gives ns x (λ choice v. b)
    → ((choice v : ℕ → Bool) → AllHold v facts → table choice v n ≡ b) → IsSeen ns facts g x
seen_value ns facts g x b n c here gives e = record {
  below = gives.below;
  same = λ choice v r all. gives.value choice v r ∙ sym ((Gives-node ns g n c here).value choice v r ∙ e choice v all);
}

and_second : (a b : Bool) → a ≡ true → (a && b) ≡ b
and_second true b h = refl
and_second false b h = absurd (true≢false (sym h))

and_first : (a b : Bool) → b ≡ true → (a && b) ≡ a
and_first true b h = h
and_first false b h = refl

and_none : (a b : Bool) → (a ≡ false) ⊎ (b ≡ false) → (a && b) ≡ false
and_none true b (inl h) = absurd (true≢false h)
and_none true b (inr h) = h
and_none false b h = refl

or_second : (a b : Bool) → a ≡ false → (a || b) ≡ b
or_second true b h = absurd (true≢false h)
or_second false b h = refl

or_first : (a b : Bool) → b ≡ false → (a || b) ≡ a
or_first true b h = refl
or_first false b h = h

or_some : (a b : Bool) → (a ≡ true) ⊎ (b ≡ true) → (a || b) ≡ true
or_some true b h = refl
or_some false b (inl h) = absurd (true≢false (sym h))
or_some false b (inr h) = h

if_true : {A : Type 0} (c : Bool) (a b : A) → c ≡ true → (if c then a else b) ≡ a
if_true true a b h = refl
if_true false a b h = absurd (true≢false (sym h))

if_false : {A : Type 0} (c : Bool) (a b : A) → c ≡ false → (if c then a else b) ≡ b
if_false true a b h = absurd (true≢false h)
if_false false a b h = refl

pub seen_and_second : (ns : List Node) (facts : List Fact) (g : ℕ) (a b : Gate) (d : Bool) → IsCircuit ns → slice_get ns g ≡ Some (And a b) → d ≡ true → IsFact facts a.at d → IsSeen ns facts g b.at
seen_and_second ns facts g a b d c here e fact = seen_operand ns facts g b.at (And a b) c here (c.earlier g (And a b) here).1 (λ choice v all. and_second (v a.at) (v b.at) (fact.value v all ∙ e))

pub seen_and_first : (ns : List Node) (facts : List Fact) (g : ℕ) (a b : Gate) (d : Bool) → IsCircuit ns → slice_get ns g ≡ Some (And a b) → d ≡ true → IsFact facts b.at d → IsSeen ns facts g a.at
seen_and_first ns facts g a b d c here e fact = seen_operand ns facts g a.at (And a b) c here (c.earlier g (And a b) here).0 (λ choice v all. and_first (v a.at) (v b.at) (fact.value v all ∙ e))

pub seen_and_none : (ns : List Node) (facts : List Fact) (g x : ℕ) (a b : Gate) (d : Bool) → IsCircuit ns → slice_get ns g ≡ Some (And a b) → d ≡ false
    → IsFact facts a.at d ⊎ IsFact facts b.at d → Gives ns x (λ choice v. false) → IsSeen ns facts g x
seen_and_none ns facts g x a b d c here e fact gives = seen_value ns facts g x false (And a b) c here gives
    (λ choice v all. and_none (v a.at) (v b.at) (elim fact [ inl f ↦ inl (f.value v all ∙ e) | inr f ↦ inr (f.value v all ∙ e) ]))

pub seen_or_second : (ns : List Node) (facts : List Fact) (g : ℕ) (a b : Gate) (d : Bool) → IsCircuit ns → slice_get ns g ≡ Some (Or a b) → d ≡ false → IsFact facts a.at d → IsSeen ns facts g b.at
seen_or_second ns facts g a b d c here e fact = seen_operand ns facts g b.at (Or a b) c here (c.earlier g (Or a b) here).1 (λ choice v all. or_second (v a.at) (v b.at) (fact.value v all ∙ e))

pub seen_or_first : (ns : List Node) (facts : List Fact) (g : ℕ) (a b : Gate) (d : Bool) → IsCircuit ns → slice_get ns g ≡ Some (Or a b) → d ≡ false → IsFact facts b.at d → IsSeen ns facts g a.at
seen_or_first ns facts g a b d c here e fact = seen_operand ns facts g a.at (Or a b) c here (c.earlier g (Or a b) here).0 (λ choice v all. or_first (v a.at) (v b.at) (fact.value v all ∙ e))

pub seen_or_some : (ns : List Node) (facts : List Fact) (g x : ℕ) (a b : Gate) (d : Bool) → IsCircuit ns → slice_get ns g ≡ Some (Or a b) → d ≡ true
    → IsFact facts a.at d ⊎ IsFact facts b.at d → Gives ns x (λ choice v. true) → IsSeen ns facts g x
seen_or_some ns facts g x a b d c here e fact gives = seen_value ns facts g x true (Or a b) c here gives
    (λ choice v all. or_some (v a.at) (v b.at) (elim fact [ inl f ↦ inl (f.value v all ∙ e) | inr f ↦ inr (f.value v all ∙ e) ]))

pub seen_mux_true : (ns : List Node) (facts : List Fact) (g : ℕ) (c a b : Gate) (d : Bool) → IsCircuit ns → slice_get ns g ≡ Some (Mux c a b) → d ≡ true → IsFact facts c.at d → IsSeen ns facts g a.at
seen_mux_true ns facts g c a b d circuit here e fact = seen_operand ns facts g a.at (Mux c a b) circuit here (circuit.earlier g (Mux c a b) here).1
    (λ choice v all. if_true (v c.at) (v a.at) (v b.at) (fact.value v all ∙ e))

pub seen_mux_false : (ns : List Node) (facts : List Fact) (g : ℕ) (c a b : Gate) (d : Bool) → IsCircuit ns → slice_get ns g ≡ Some (Mux c a b) → d ≡ false → IsFact facts c.at d → IsSeen ns facts g b.at
seen_mux_false ns facts g c a b d circuit here e fact = seen_operand ns facts g b.at (Mux c a b) circuit here (circuit.earlier g (Mux c a b) here).2
    (λ choice v all. if_false (v c.at) (v a.at) (v b.at) (fact.value v all ∙ e))
