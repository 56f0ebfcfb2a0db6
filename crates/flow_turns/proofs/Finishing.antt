-- Behind the last node: what is told of all runs.
use Rattle.std.proofs.Common.{◌≡◌, ℕ, zero, suc, ◌<◌, ◌≤◌, Bool, true, false, ◌&&◌, Some, List, [], ◌∷◌, length, inl, inr, refl, sym, ◌∙◌, ap, subst, arith}
use Rattle.std.proofs.lemmas.Bool.{cases_lt}
use Rattle.bit_net.specs.declared.nodes.Gate.{Gate}
use Rattle.bit_net.specs.declared.nodes.Node.{Node as Gates}
use Rattle.bit_net.specs.Circuit.{input_count}
use Rattle.gate_runs.specs.Standing.{is_bad}
use Rattle.gate_runs.specs.Stands.{told}
use Rattle.sc_world.specs.Source.{Source}
use Rattle.sc_world.specs.Layout.{Layout}
use Rattle.sc_world.specs.World.{Ended, Error, Inner, Aside}
use Rattle.flow_graph.specs.Nodes.{Node}
use Rattle.flow_ends.specs.declared.encoded.Encoded.{Encoded}
use Rattle.flow_ends.specs.Encoded.{TellsRun, IsEncoded}
use Rattle.flow_stages.specs.Stage.{Stage, At, Out, Over, whole, is_at}
use Rattle.flow_turns.specs.declared.before.Before.{Before}
use Rattle.flow_turns.specs.Before.{AreGates, IsBefore, seen}
use Rattle.flow_turns.specs.Ends.{AreRuns}
use Rattle.flow_types.specs.Kinds.{Kinds}

told_past : (v : ℕ → Bool) (gs : List Gate) (l : ℕ) → length gs ≤ l → told v gs l ≡ false
unfolding told
told_past v [] l low = refl
told_past v (g ∷ gs) zero low = absurd (omega arith)
told_past v (g ∷ gs) (suc l) low = told_past v gs l (omega arith)

-- what none of the gates tells below their number, none tells
told_all : (v : ℕ → Bool) (gs : List Gate) (count : ℕ) → length gs ≡ count → ((l : ℕ) → l < count → told v gs l ≡ false) → (l : ℕ) → told v gs l ≡ false
told_all v gs count each none l = elim (cases_lt l count) [ inl low ↦ none l low | inr high ↦ told_past v gs l (omega arith) ]

-- the same of gates that count where another one holds
touched_all : (v : ℕ → Bool) (stopped : Bool) (gs : List Gate) (count : ℕ) → length gs ≡ count → ((l : ℕ) → l < count → (stopped && told v gs l) ≡ false)
    → (l : ℕ) → (stopped && told v gs l) ≡ false
touched_all v stopped gs count each none l =
    elim (cases_lt l count) [ inl low ↦ none l low | inr high ↦ ap (λ b. stopped && b) (told_past v gs l (omega arith)) ∙ and_never stopped ]
  where
    and_never : (b : Bool) → (b && false) ≡ false
    and_never true = refl
    and_never false = refl

at_is : (l : ℕ) (e : Ended) → is_at l e ≡ is_bad l (Some e)
at_is l (Error at) = refl
at_is l (Inner at) = refl
at_is l (Aside r) = refl

abbrev encoded : Before → Encoded
encoded x = record { fates = x.fates; store = x.store; result = x.result }

module _ (s : Source) (p : Layout) (nodes : List Node) (ns : List Gates) (x : Before) (k : Kinds) (gates : AreGates ns x) (locations : length x.fates.bads.items ≡ length p.locations) (bits : List Bool) (v : ℕ → Bool) where
  tells : Stage (record { source = s; layout = p; bits = bits }) nodes (length p.locations) (length nodes) (seen v p k x)
      → TellsRun v (encoded x) (whole (record { source = s; layout = p; bits = bits }) nodes)
  tells (At at kept w h) = absurd (let low = h.behind in let high = h.within in omega arith)
  tells (Out r w h) = subst (TellsRun v (encoded x)) (sym h.is) (
    record {
      over = h.none.over;
      bads = told_all v x.fates.bads.items (length p.locations) locations h.none.bad;
      touched = touched_all v (v x.fates.stopped.at) x.fates.touched.items (length p.locations) (gates.fates.each_touched ∙ locations) h.none.touched;
    },
    h.store,
    h.gives,
  )
  tells (Over e w ps h) = subst (TellsRun v (encoded x)) (sym h.is) (record {
    over = h.ended.over;
    bads = λ l low. h.ended.bad l (subst (λ (i : ℕ). l < i) locations low) ∙ at_is l e;
    touched = λ is l low. h.ended.touched is l (subst (λ (i : ℕ). l < i) (gates.fates.each_touched ∙ locations) low);
  })

pub finished : (ns : List Gates) (x : Before) → AreGates ns x → (s : Source) (p : Layout) (nodes : List Node) → input_count ns ≡ p.bits → AreRuns s p nodes
    → IsBefore s p nodes (length nodes) ns x → IsEncoded s p ns (encoded x)
finished ns x gates s p nodes inputs runs_are h = record {
  inputs = inputs;
  fates = record {
    over = gates.fates.over;
    bads = gates.fates.bads;
    stopped = gates.fates.stopped;
    touched = gates.fates.touched;
    noted = gates.fates.noted;
    each_bad = h.shape.locations;
    each_touched = gates.fates.each_touched ∙ h.shape.locations;
    each_noted = gates.fates.each_noted ∙ h.shape.locations;
    are_noted = gates.fates.are_noted;
  };
  store = gates.store;
  kinds = h.shape.kinds;
  result = gates.result;
  kind = λ void. h.shape.result;
  tells = λ bits few v runs.
      subst (TellsRun v (encoded x)) (runs_are bits)
      (tells s p nodes ns x h.kinds gates h.shape.locations bits v (h.tells bits few v runs).stage);
}
