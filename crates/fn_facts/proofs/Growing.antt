-- What was shown of runs stays while the net grows.
use Rattle.std.proofs.Common.{ℕ, List, arith}
use Rattle.bit_net.specs.declared.nodes.Gate.{Gate}
use Rattle.bit_net.specs.declared.nodes.Node.{Node}
use Rattle.bit_net.specs.Runs.{Grown}
use Rattle.gl_store.specs.declared.values.Val.{Val}
use Rattle.sc_world.specs.Shows.{Over}
use Rattle.sc_world.specs.World.{bit_at}
use Rattle.fn_facts.specs.declared.around.Around.{Around}
use Rattle.fn_facts.specs.declared.shared.Shared.{Shared}
use Rattle.fn_facts.specs.Seen.{errs_known, given}
use Rattle.fn_facts.specs.Showing.{AreShared, Fact, IsReady, IsTruth, Shows, ShowsAtExit, ShowsNumber, ShowsNumberAtExit}

pub ready_grows : (a : Around) (old new : List Node) → Grown old new → IsReady a old → IsReady a new
ready_grows a old new g r =
    record {
      inputs = omega (arith, r.inputs, g.inputs);
      few = r.few;
      fates = record {
        over = omega (arith, r.fates.over, g.longer);
        bads = omega (arith, r.fates.bads, g.longer);
        stopped = omega (arith, r.fates.stopped, g.longer);
        touched = omega (arith, r.fates.touched, g.longer);
        noted = omega (arith, r.fates.noted, g.longer);
        each_bad = r.fates.each_bad;
        each_touched = r.fates.each_touched;
        each_noted = r.fates.each_noted;
        are_noted = record { holds = λ choice v runs. r.fates.are_noted.holds choice v (g.runs choice v runs) };
      };
      store = omega (arith, r.store, g.longer);
      result = omega (arith, r.result, g.longer);
    }

pub shows_grows : (a : Around) (old new : List Node) (of : Fact) (x : ℕ) → Grown old new → Shows a old of x → Shows a new of x
shows_grows a old new of x g s =
    record {
      below = omega (arith, s.below, g.longer);
      value = λ bits v r w runs told. s.value bits v r w (g.runs (bit_at bits) v runs) told;
    }

pub exit_grows : (a : Around) (old new : List Node) (of : Fact) (x : ℕ) → Grown old new → ShowsAtExit a old of x → ShowsAtExit a new of x
exit_grows a old new of x g s =
    record {
      below = omega (arith, s.below, g.longer);
      value = λ bits v c w runs told. s.value bits v c w (g.runs (bit_at bits) v runs) told;
    }

pub number_grows : (a : Around) (old new : List Node) (of : Over → ℕ) (word : List Gate) → Grown old new → ShowsNumber a old of word
    → ShowsNumber a new of word
number_grows a old new of word g s =
    record {
      below = omega (arith, s.below, g.longer);
      value = λ bits v r w runs told. s.value bits v r w (g.runs (bit_at bits) v runs) told;
    }

pub number_exit_grows : (a : Around) (old new : List Node) (of : Over → ℕ) (word : List Gate) → Grown old new → ShowsNumberAtExit a old of word
    → ShowsNumberAtExit a new of word
number_exit_grows a old new of word g s =
    record {
      below = omega (arith, s.below, g.longer);
      value = λ bits v c w runs told. s.value bits v c w (g.runs (bit_at bits) v runs) told;
    }

pub truth_grows : (old new : List Node) (val : Val) (x : ℕ) → Grown old new → IsTruth old val x → IsTruth new val x
truth_grows old new val x g s =
    record { below = omega (arith, s.below, g.longer); value = λ choice v runs. s.value choice v (g.runs choice v runs) }

pub shared_grows : (a : Around) (old new : List Node) (s : Shared) → Grown old new → AreShared a old s → AreShared a new s
shared_grows a old new s g is =
    record {
      given = number_grows a old new given s.given.bits.items g is.given;
      truth = truth_grows old new a.encoded.now.result s.truth.at g is.truth;
      known = shows_grows a old new (λ o. errs_known o.ended) s.known.at g is.known;
    }

pub ruleset grows = (ready_grows, shows_grows, exit_grows, number_grows, number_exit_grows, truth_grows, shared_grows)
