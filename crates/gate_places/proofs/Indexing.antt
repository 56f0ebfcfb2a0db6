-- A pointer with an index.
use Rattle.std.proofs.Common.{◌≡◌, ℕ, nat_eq, Bool, true, List, inl, ap, ◌∙◌}
use Rattle.bit_net.specs.declared.nodes.Node.{Node}
use Rattle.bit_net.specs.Runs.{Grown, Gives}
use Rattle.bit_words.specs.declared.Word.{Word as Words}
use Rattle.bit_words.specs.Number.{number}
use Rattle.gl_sets.specs.declared.pairs.Pair.{Pair}
use Rattle.gl_store.specs.declared.values.Val.{Val}
use Rattle.gl_store.specs.declared.values.Val.TheVariants.{Word}
use Rattle.gl_store.specs.declared.stores.Location.{Location}
use Rattle.gl_store.specs.Meets.{Meets}
use Rattle.run_store.specs.Concrete.{Cell, Number, Pointer, Nothing}
use Rattle.sc_world.specs.declared.run.Reason.TheVariants as reason
use Rattle.sc_world.specs.Tree.{Ty}
use Rattle.sc_world.specs.Source.{Source}
use Rattle.sc_world.specs.Layout.{Layout}
use Rattle.sc_world.specs.World.{◌>>=◌, unless, dereference, number_of}
use Rattle.sc_world.specs.Eval.{Want, wanted}
use Rattle.gate_runs.specs.declared.ends.Ends.{Ends}
use Rattle.gate_runs.proofs.Bind.{bind}
use Rattle.gate_steps.specs.Steps.{LeadsTo, GoesOnWhere}
use Rattle.gate_places.specs.Places.{GoodFor, DoesFind, DoesFollow, DoesIndex, Reaches, env_of}
use Rattle.gate_places.proofs.Assigning.{does_narrow}

is_none : (v : ℕ → Bool) (index : Words) (k : Cell) → Meets v (Word index) k → nat_eq (number v index.bits.items) 0 ≡ nat_eq (number_of k) 0
is_none v index (Number w n) m = ap (λ i. nat_eq i 0) m.value
is_none v index (Pointer t) m = absurd m
is_none v index Nothing m = absurd m

pub leads_on : (v : ℕ → Bool) (g0 g1 : Ends) (pointer : List Pair) (at : ℕ) → (v g1.live.at ≡ true → v g0.live.at ≡ true) → LeadsTo v g0 pointer at
    → LeadsTo v g1 pointer at
leads_on v g0 g1 pointer at narrow leads =
    record { target = leads.target; points = leads.points; there = λ on. leads.there (narrow on) }

pub does_index : (s : Source) (p : Layout) (n1 n2 n3 n4 : List Node) (l : List Location) (want : Want) (t : Ty) (pointer : List Pair) (index : Words) (none : ℕ)
    (g0 g1 g2 : Ends) (r : Val) → Grown n1 n2 → Grown n2 n3 → Grown n3 n4 → DoesFollow n1 p t l pointer g0 g1
    → Gives n2 none (λ choice v. nat_eq (number v index.bits.items) 0) → GoesOnWhere n3 none reason.Index g1 g2 → DoesFind s p n4 l want t pointer r
    → DoesIndex s p n4 l want t pointer index g0 g2 r
does_index s p n1 n2 n3 n4 l want t pointer index none g0 g1 g2 r grown12 grown23 grown34 follows is goes found =
    record {
      below = found.below;
      kind = found.kind;
      does = λ choice v runs bits temps turn target k points meets.
          let r3 = grown34.runs choice v runs in
          let r2 = grown23.runs choice v r3 in
          let r1 = grown12.runs choice v r2 in
          let env = env_of s p bits temps turn in
          let b : Bool = nat_eq (number_of k) 0 in
          bind v l l l g0 g1 g2 (dereference env t (Pointer target)) (λ at. unless b reason.Index >>= λ _. wanted want t at) (Reaches v g1 pointer p t)
          (GoodFor v g2 p want t r) (follows.does choice v r1 s bits temps turn target points)
          (λ at reached.
          bind v l l l g1 g2 g2 (unless b reason.Index) (λ _. wanted want t at)
          (λ (u : Unit {0}). (v g2.live.at ≡ true → b ≡ true) × (v g2.live.at ≡ true → v g1.live.at ≡ true)) (GoodFor v g2 p want t r)
          (does_narrow v l l g1 g2 (unless b reason.Index) (λ u. v g2.live.at ≡ true → b ≡ true)
          (goes.does choice v r3 l b (is.value choice v r2 ∙ is_none v index k meets)))
          (λ u known.
          found.does choice v runs g2 at (leads_on v g1 g2 pointer at known.1 reached.leads) (λ on. inl (reached.typed (known.1 on)))));
    }
