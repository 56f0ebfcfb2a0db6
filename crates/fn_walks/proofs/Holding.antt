-- Pointers by which others hold objects.
use Rattle.std.proofs.Common.{◌≡◌, ℕ, Bool, true, false, not, ◌&&◌, ◌||◌, List, refl, sym, ◌∙◌, ap}
use Rattle.std.specs.Prelude.{Ok}
use Rattle.bit_net.specs.declared.nodes.Node.{Node}
use Rattle.bit_net.specs.Runs.{Grown, Gives}
use Rattle.run_store.specs.declared.Flag.TheVariants as flag
use Rattle.sc_world.specs.Layout.{location, is_pointer_cell}
use Rattle.sc_world.specs.World.{bit_at}
use Rattle.sc_world.specs.Shows.{has, holds_objects, is_holder}
use Rattle.run_world.specs.Seen.{env}
use Rattle.fn_facts.specs.declared.around.Around.{Around}
use Rattle.fn_facts.specs.Seen.{over}
use Rattle.fn_facts.specs.Showing.{ShowsAtExit}
use Rattle.fn_walks.specs.Seen.{is_known}

or_true : (a : Bool) → a ≡ (a && true)
or_true true = refl
or_true false = refl

pub known_holds : (a : Around) (old ns : List Node) (n freed g : ℕ) → is_known (env a.here).layout n ≡ true → Grown old ns
    → ShowsAtExit a old (λ o. has o flag.Freed n) freed → Gives ns g (λ choice v. not (v freed)) → ShowsAtExit a ns (λ o. holds_objects o n) g
known_holds a old ns n freed g known grown s gives =
    record {
      below = gives.below;
      value = λ bits v c w runs t.
          (let o = over a bits (Ok c) w in
          gives.value (bit_at bits) v runs
          ∙ (ap not (s.value bits v c w (grown.runs (bit_at bits) v runs) t) ∙ (or_true (not (has o flag.Freed n))
          ∙ sym (ap (λ b. not (has o flag.Freed n) && (b || has o flag.Escaped n)) known))));
    }

pub other_holds : (a : Around) (n1 n2 ns : List Node) (n freed there escaped g : ℕ) → is_known (env a.here).layout n ≡ false → Grown n1 n2 → Grown n2 ns
    → ShowsAtExit a n1 (λ o. has o flag.Freed n) freed → Gives n2 there (λ choice v. not (v freed))
    → ShowsAtExit a n2 (λ o. has o flag.Escaped n) escaped → Gives ns g (λ choice v. v there && v escaped)
    → ShowsAtExit a ns (λ o. holds_objects o n) g
other_holds a n1 n2 ns n freed there escaped g other g1 g2 sf gt se gives =
    record {
      below = gives.below;
      value = λ bits v c w runs t.
          (let o = over a bits (Ok c) w in
          let r2 = g2.runs (bit_at bits) v runs in
          let r1 = g1.runs (bit_at bits) v r2 in
          gives.value (bit_at bits) v runs
          ∙ (ap (λ b. b && v escaped) (gt.value (bit_at bits) v r2 ∙ ap not (sf.value bits v c w r1 t))
          ∙ (ap (λ b. not (has o flag.Freed n) && b) (se.value bits v c w r2 t)
          ∙ sym (ap (λ b. not (has o flag.Freed n) && (b || has o flag.Escaped n)) other))));
    }

pub no_holder : (a : Around) (ns : List Node) (at g : ℕ) → is_pointer_cell (location (env a.here).layout at) ≡ false → Gives ns g (λ choice v. false)
    → ShowsAtExit a ns (λ o. is_holder o at) g
no_holder a ns at g none gives =
    record {
      below = gives.below;
      value = λ bits v c w runs t.
          (let o = over a bits (Ok c) w in
          gives.value (bit_at bits) v runs ∙ sym (ap (λ b. b && holds_objects o (location (env a.here).layout at).root) none));
    }

pub holder : (a : Around) (ns : List Node) (at root g : ℕ) → is_pointer_cell (location (env a.here).layout at) ≡ true
    → root ≡ (location (env a.here).layout at).root → ShowsAtExit a ns (λ o. holds_objects o root) g → ShowsAtExit a ns (λ o. is_holder o at) g
holder a ns at root g is same s =
    record {
      below = s.below;
      value = λ bits v c w runs t.
          (let o = over a bits (Ok c) w in
          s.value bits v c w runs t
          ∙ (ap (holds_objects o) same ∙ sym (ap (λ b. b && holds_objects o (location (env a.here).layout at).root) is)));
    }
