-- From what was ready to what the next expression finds ready.
use Rattle.std.proofs.Common.{◌≡◌, ℕ, ◌^◌, ◌<◌, ◌≤◌, List, [], length, refl, subst, sym, arith}
use Rattle.bit_net.specs.declared.nodes.Node.{Node}
use Rattle.bit_net.specs.Runs.{Grown}
use Rattle.gl_store.specs.declared.stores.Location.{Location}
use Rattle.gate_entry.specs.Entry.{IsEntered}
use Rattle.gate_places.proofs.Assigning.{stays_laid}
use Rattle.layout_base.specs.Seen as laid
use Rattle.sc_world.specs.Tree.{Exp}
use Rattle.sc_world.specs.Eval.{Want}
use Rattle.expr_fits.specs.declared.around.Around.{Around}
use Rattle.expr_fits.specs.Around.{layout_of, source_of, temps_of}
use Rattle.expr_fits.specs.Fits.{CanWalk, Walkable}
use Rattle.expr_fits.specs.Temps.{temps_top}
use Rattle.tr_walk.specs.declared.evaled.Evaled.{Evaled}
use Rattle.tr_walk.specs.Evaled.{IsEvaled}
use Rattle.tr_walk.specs.Walks.{CanBegin}

pub begin_behind : (a : Around) (n0 n1 : List Node) (want : Want) (e : Exp) (l0 l1 : List Location) (b : ℕ) (r : Evaled) → Grown n0 n1
    → IsEvaled a n1 want e b l0 l1 r → CanBegin a n0 l0 b → CanBegin a n1 l1 r.live.at
begin_behind a n0 n1 want e l0 l1 b r grown made ready =
    record {
      few = ready.few;
      same = ready.same;
      laid = stays_laid (source_of a) (layout_of a) l0 l1 made.same ready.laid;
      store = made.top;
      live = made.live;
      temps = omega (arith, ready.temps, grown.longer);
    }

pub begin_first : {a : Around} {ns : List Node} {l : List Location} {b : ℕ} → length (laid.layout_of a.layout.now.places.now).locations < 2 ^ 32
    → laid.layout_of a.layout.now.places.now ≡ layout_of a → temps_of a ≡ [] → b < length ns → IsEntered (source_of a) (layout_of a) ns l → CanBegin a ns l b
unfolding temps_top
begin_first {a} {ns} few same none low made =
    record {
      few = few;
      same = same;
      laid = made.laid;
      store = made.below;
      live = low;
      temps = subst (λ xs. temps_top xs ≤ length ns) (sym none) (omega arith);
    }

-- an expression that passes the test over no temps
pub walks_untold : (a : Around) (want : Want) (e : Exp) → Walkable a [] want e → CanWalk a want e
walks_untold a want e h =
    record {
      kept = record { temps = []; slots = [] };
      have = λ n named k is. absurd (cc);
      fits = h.fits (record { temps = []; slots = [] }) refl;
      plain = h.plain;
      constants = h.constants;
    }
