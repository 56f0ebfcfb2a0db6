-- Locations that are touched: the store says so of runs that come to the function's end, and the gates of `flow_ends` of those that err.
use Rattle.std.proofs.Common.{◌≡◌, ℕ, ◌<◌, Bool, true, false, ◌&&◌, ◌||◌, List, length, refl, ◌∙◌, ap, arith}
use Rattle.std.specs.Prelude.{Result, Ok, Err}
use Rattle.bit_net.specs.declared.nodes.Node.{Node}
use Rattle.bit_net.specs.Runs.{Grown, Gives}
use Rattle.flow_ends.specs.Fates.{is_touched}
use Rattle.gate_runs.specs.Stands.{told}
use Rattle.run_store.specs.declared.Flag.TheVariants as flag
use Rattle.run_store.specs.Concrete.{Cell}
use Rattle.sc_world.specs.declared.run.Origin.TheVariants as origin
use Rattle.sc_world.specs.Layout.{location, location_of, or_zero}
use Rattle.sc_world.specs.World.{World, Ended, Error, Inner, Aside, bit_at}
use Rattle.sc_world.specs.Shows.{exits, has, is_rowed, param_object}
use Rattle.run_world.specs.Seen.{env}
use Rattle.fn_facts.specs.declared.around.Around.{Around}
use Rattle.fn_facts.specs.Seen.{over, errs_known}
use Rattle.fn_facts.specs.Showing.{IsReady, Shows, Told}

or_false : (b : Bool) → (b || false) ≡ b
or_false true = refl
or_false false = refl

-- what the gates say of a run, where x says whether it exits and is touched then, k whether it errs, and y whether it is touched then
touch_is : (a : Around) (v : ℕ → Bool) (bits : List Bool) (r : Result Cell Ended) (w : World) (at : ℕ) (x k y : Bool)
    → at < length a.encoded.now.fates.touched.items → Told a v bits r w
    → x ≡ (exits (over a bits r w) && has (over a bits r w) flag.Touched at) → k ≡ errs_known r → y ≡ is_touched v a.encoded.now.fates at
    → (x || (k && y)) ≡ (is_rowed r && has (over a bits r w) flag.Touched at)
touch_is a v bits (Ok c) w at x k y low t ex ek ey =
    ap (λ b. x || (b && y)) ek ∙ (or_false x ∙ ex)
touch_is a v bits (Err (Error n)) w at x k y low t ex ek ey =
    ap (λ b. b || (k && y)) ex ∙ (ap (λ b. b && y) ek ∙ (ey ∙ t.tells.touched refl at low))
touch_is a v bits (Err (Inner n)) w at x k y low t ex ek ey = ap (λ b. b || (k && y)) ex ∙ ap (λ b. b && y) ek
touch_is a v bits (Err (Aside s)) w at x k y low t ex ek ey = ap (λ b. b || (k && y)) ex ∙ ap (λ b. b && y) ek

pub touch_shown : (a : Around) (n1 n2 n3 n4 ns : List Node) (at x k m y e g : ℕ) → IsReady a ns → at < length (env a.here).layout.locations
    → Grown n1 n2 → Grown n2 n3 → Grown n3 n4 → Grown n4 ns
    → Shows a n1 (λ o. exits o && has o flag.Touched at) x → Shows a n2 (λ o. errs_known o.ended) k
    → Gives n2 m (λ choice v. told v a.encoded.now.fates.touched.items at) → Gives n3 y (λ choice v. v a.encoded.now.fates.stopped.at && v m)
    → Gives n4 e (λ choice v. v k && v y)
    → Gives ns g (λ choice v. v x || v e) → Shows a ns (λ o. is_rowed o.ended && has o flag.Touched at) g
touch_shown a n1 n2 n3 n4 ns at x k m y e g ready low g1 g2 g3 g4 sx sk sm sy se gives =
    record {
      below = gives.below;
      value = λ bits v r w runs t.
          (let r4 = g4.runs (bit_at bits) v runs in
          let r3 = g3.runs (bit_at bits) v r4 in
          let r2 = g2.runs (bit_at bits) v r3 in
          let r1 = g1.runs (bit_at bits) v r2 in
          gives.value (bit_at bits) v runs
          ∙ (ap (λ b. v x || b) (se.value (bit_at bits) v r4)
          ∙ touch_is a v bits r w at (v x) (v k) (v y) (omega (arith, low, ready.fates.each_touched)) t (sx.value bits v r w r1 t)
          (sk.value bits v r w r2 t)
          (sy.value (bit_at bits) v r3 ∙ ap (λ b. v a.encoded.now.fates.stopped.at && b) (sm.value (bit_at bits) v r2))));
    }

-- what a parameter points to
pub sets_shown : (a : Around) (ns : List Node) (n k g : ℕ) → k ≡ or_zero (location (env a.here).layout (location_of (env a.here).layout (origin.Param n))).target
    → Shows a ns (λ o. exits o && has o flag.Written k) g → Shows a ns (λ o. exits o && has o flag.Written (param_object o n)) g
sets_shown a ns n k g e s =
    record {
      below = s.below;
      value = λ bits v r w runs t.
          s.value bits v r w runs t ∙ ap (λ m. exits (over a bits r w) && has (over a bits r w) flag.Written m) e;
    }
