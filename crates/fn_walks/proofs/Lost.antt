-- Objects that are lost.
use Rattle.std.proofs.Common.{◌≡◌, ℕ, true, false, not, ◌&&◌, ◌||◌, List, length, refl, sym, ◌∙◌, ap}
use Rattle.std.specs.Prelude.{Ok}
use Rattle.std.proofs.lemmas.Bool.{true≢false}
use Rattle.bit_net.specs.declared.nodes.Node.{Node}
use Rattle.bit_net.specs.Runs.{Grown, Gives}
use Rattle.run_store.specs.declared.Flag.TheVariants as flag
use Rattle.sc_base.specs.declared.pos.Pos.{Pos}
use Rattle.sc_world.specs.declared.run.Origin.{Origin}
use Rattle.sc_world.specs.declared.run.Origin.TheVariants as origin
use Rattle.sc_world.specs.Layout.{Layout, location, is_outer}
use Rattle.sc_world.specs.World.{bit_at}
use Rattle.sc_world.specs.Shows as shows
use Rattle.sc_world.specs.Shows.{Over, call_pos, has, is_at, is_held_by_entry, loses, numbers}
use Rattle.run_world.specs.Seen.{env}
use Rattle.fn_facts.specs.declared.around.Around.{Around}
use Rattle.fn_facts.specs.Seen.{over}
use Rattle.fn_facts.specs.Showing.{ShowsAtExit}
use Rattle.fn_walks.specs.declared.roots.From.{From}
use Rattle.fn_walks.specs.Seen.{any_below, escape_from, is_escaped, is_from, is_lost, is_lost_from, loss_from}
use Rattle.fn_walks.proofs.Fating.{from_unknown, own_is}
use Rattle.fn_walks.proofs.Stepping.{any_number}

-- An object of a call is not known at entry, so that all holders count.

call_is_unknown : (p : Layout) (q : Pos) (x : Origin) → is_at q (call_pos p x) ≡ true → is_held_by_entry x ≡ false
call_is_unknown p q (origin.Call k) h = refl
call_is_unknown p q (origin.Param n) h = refl
call_is_unknown p q (origin.Global n) h = absurd (true≢false (sym h))
call_is_unknown p q (origin.Local n) h = refl
call_is_unknown p q (origin.Literal n) h = refl
call_is_unknown p q (origin.Function n) h = refl
call_is_unknown p q (origin.Target n) h = absurd (true≢false (sym h))
call_is_unknown p q (origin.Part up s) h = refl

pub loss_is_escape : (p : Layout) (q : Pos) (at : ℕ) (f : From) → is_from p q at ≡ true → f ≡ loss_from → f ≡ escape_from p at
loss_is_escape p q at f here e =
    e ∙ from_unknown p at (ap (λ b. b && is_outer (location p at)) (call_is_unknown p q (location p at).origin here))

pub never_lost : (a : Around) (ns : List Node) (q : Pos) (at g : ℕ) → is_from (env a.here).layout q at ≡ false → Gives ns g (λ choice v. false)
    → ShowsAtExit a ns (λ o. is_lost_from q o at) g
unfolding is_lost_from
never_lost a ns q at g none gives =
    record {
      below = gives.below;
      value = λ bits v c w runs t.
          (let o = over a bits (Ok c) w in gives.value (bit_at bits) v runs ∙ sym (ap (λ b. b && is_lost o at) none));
    }

pub lost_shown : (a : Around) (n1 n2 n3 ns : List Node) (q : Pos) (at escaped freed gone left allocated g : ℕ) → is_from (env a.here).layout q at ≡ true
    → Grown n1 n2 → Grown n2 n3 → Grown n3 ns → ShowsAtExit a n1 (λ o. is_escaped o at) escaped → ShowsAtExit a n1 (λ o. has o flag.Freed at) freed
    → Gives n2 gone (λ choice v. v freed || v escaped) → Gives n3 left (λ choice v. not (v gone))
    → ShowsAtExit a n3 (λ o. has o flag.Allocated at) allocated → Gives ns g (λ choice v. v allocated && v left)
    → ShowsAtExit a ns (λ o. is_lost_from q o at) g
unfolding is_lost_from is_lost is_escaped
lost_shown a n1 n2 n3 ns q at escaped freed gone left allocated g here g1 g2 g3 se sf gg gl sa gives =
    record {
      below = gives.below;
      value = λ bits v c w runs t.
          (let o = over a bits (Ok c) w in
          let r3 = g3.runs (bit_at bits) v runs in
          let r2 = g2.runs (bit_at bits) v r3 in
          let r1 = g1.runs (bit_at bits) v r2 in
          gives.value (bit_at bits) v runs
          ∙ (ap (λ b. b && v left) (sa.value bits v c w r3 t)
          ∙ (ap (λ b. has o flag.Allocated at && b)
          (gl.value (bit_at bits) v r3
          ∙ ap not (gg.value (bit_at bits) v r2 ∙ (ap (λ b. b || v escaped) (sf.value bits v c w r1 t)
          ∙ ap (λ b. has o flag.Freed at || b) (se.value bits v c w r1 t))))
          ∙ (own_is (has o flag.Allocated at) (has o flag.Freed at) (shows.is_escaped o at)
          ∙ sym (ap (λ b. b && (has o flag.Allocated at && (not (has o flag.Freed at) && not (shows.is_escaped o at)))) here)))));
    }

pub loses_shown : (a : Around) (ns : List Node) (q : Pos) (k g : ℕ) → k ≡ length (env a.here).layout.locations
    → ShowsAtExit a ns (λ o. any_below (is_lost_from q) o k) g → ShowsAtExit a ns (λ o. loses o q) g
unfolding is_lost_from is_lost
loses_shown a ns q k g all s =
    record {
      below = s.below;
      value = λ bits v c w runs t.
          (let o = over a bits (Ok c) w in
          s.value bits v c w runs t ∙ (ap (any_below (is_lost_from q) o) all ∙ any_number (is_lost_from q) o));
    }
