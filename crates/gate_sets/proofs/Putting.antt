-- Cells that are written where a set leads.
use Rattle.std.proofs.Common.{◌≡◌, ℕ, zero, suc, Bool, true, false, if◌then◌else◌, List, length, refl, sym, ◌∙◌, ap, subst}
use Rattle.bit_net.specs.declared.nodes.Node.{Node}
use Rattle.bit_net.specs.Runs.{Grown}
use Rattle.gl_sets.specs.declared.pairs.Pair.{Pair}
use Rattle.gl_store.specs.declared.values.Val.{Val}
use Rattle.gl_store.specs.declared.stores.Location.{Location}
use Rattle.gl_store.specs.Meets.{Meets, MeetsAll}
use Rattle.gl_store.specs.Steps.{IsStored}
use Rattle.run_store.specs.declared.Flag.TheVariants as flag
use Rattle.run_store.specs.Concrete.{Cell, Place, change, write}
use Rattle.sc_world.specs.World.{World, ◌>>=◌, done}
use Rattle.gate_runs.specs.declared.ends.Ends.{Ends}
use Rattle.gate_runs.specs.Standing.{Standing, On, Over, after}
use Rattle.gate_runs.specs.Stands.{Stands, Any}
use Rattle.gate_runs.proofs.Bind.{bind}
use Rattle.gate_steps.proofs.Known.{does_same}
use Rattle.gate_objects.specs.Escapes.{MarksTarget, mark_target}
use Rattle.gate_sets.specs.Writing.{PutsTarget, StoresTarget, put_target, store_target}

either_way : (b : Bool) (ps : List Place) → (if b then ps else ps) ≡ ps
either_way true ps = refl
either_way false ps = refl

module _ (v : ℕ → Bool) (gates : Ends) (c : Cell) (old new : List Location) where
  puts_from : (target : ℕ) → ((ps : List Place) → MeetsAll v old ps → MeetsAll v new (if v gates.live.at then write ps target c else ps))
      → (s : Standing (Unit {0})) → Stands v old gates (Any {A = Unit {0}}) s → Stands v new gates (Any {A = Unit {0}}) (after s (λ u. put_target target c))
  puts_from zero becomes (On u w) h =
      record {
        store = subst (λ ps. MeetsAll v new ps) (either_way (v gates.live.at) w.places) (becomes w.places h.store);
        tells = record { live = h.tells.live; asides = h.tells.asides; bads = h.tells.bads };
        given = tt;
        good = tt;
        is = refl;
      }
  puts_from (suc at) becomes (On u w) h =
      record {
        store = subst (λ b. MeetsAll v new (if b then change w.places at c else w.places)) h.tells.live (becomes w.places h.store);
        tells = record { live = h.tells.live; asides = h.tells.asides; bads = h.tells.bads };
        given = tt;
        good = tt;
        is = refl;
      }
  puts_from target becomes (Over e w) h =
      record {
        store = subst (λ b. MeetsAll v new (if b then write w.places target c else w.places)) h.tells.live (becomes w.places h.store);
        tells = record { live = h.tells.live; asides = h.tells.asides; bads = h.tells.bads };
        given = tt;
        good = tt;
        is = tt;
      }

pub puts_target : (ns : List Node) (gates : Ends) (pointer : List Pair) (val : Val) (old new : List Location) → IsStored ns gates.live.at pointer val old new
    → PutsTarget ns gates pointer val old new
puts_target ns gates pointer val old new is =
    record {
      top = is.below;
      same = is.same;
      does = λ choice v runs target c points met.
          record { does = puts_from v gates c old new target (λ ps all. is.value choice v runs ps target c all points met) };
    }

put_and_mark : (target : ℕ) (c : Cell) (w : World) → (put_target target c >>= λ u. mark_target target flag.Written) w ≡ store_target target c w
put_and_mark zero c w = refl
put_and_mark (suc at) c w = refl

pub stores_target : (n1 ns : List Node) (gates : Ends) (pointer : List Pair) (val : Val) (old mid new : List Location) → Grown n1 ns
    → PutsTarget n1 gates pointer val old mid → MarksTarget ns gates flag.Written pointer mid new → StoresTarget ns gates pointer val old new
stores_target n1 ns gates pointer val old mid new grown puts marks =
    record {
      top = marks.top;
      same = marks.same ∙ puts.same;
      does = λ choice v runs target c points met.
          does_same v old new gates gates (put_target target c >>= λ u. mark_target target flag.Written) (store_target target c) (Any {A = Unit {0}}) (put_and_mark target c)
          (bind v old mid new gates gates gates (put_target target c) (λ u. mark_target target flag.Written) (Any {A = Unit {0}}) (Any {A = Unit {0}})
          (puts.does choice v (grown.runs choice v runs) target c points met)
          (λ u good. marks.does choice v runs target points));
    }
