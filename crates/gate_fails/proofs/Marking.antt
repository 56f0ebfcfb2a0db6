-- A mark on what a pointer points to.
use Rattle.std.proofs.Common.{◌≡◌, ℕ, zero, suc, Bool, false, List, [], ◌∷◌, refl, ◌∙◌, ap, subst}
use Rattle.bit_net.specs.declared.nodes.Node.{Node}
use Rattle.gl_sets.specs.declared.pairs.Pair.{Pair}
use Rattle.gl_sets.proofs.BoolLemmas.{or_false}
use Rattle.gl_store.specs.declared.stores.Location.{Location}
use Rattle.gl_store.specs.Meets.{MeetsAll}
use Rattle.gl_store.specs.Steps.{IsMarkedWhere, marked_target}
use Rattle.run_store.specs.declared.Flag.{Flag}
use Rattle.run_store.specs.declared.Flag.TheVariants.{Touched, Written, Allocated, Freed, Escaped}
use Rattle.run_store.specs.Concrete.{Place, Marks, with_flag, marked}
use Rattle.gate_runs.specs.declared.ends.Ends.{Ends}
use Rattle.gate_runs.specs.Standing.{Standing, On, Over, after}
use Rattle.gate_runs.specs.Stands.{Stands, Any}
use Rattle.gate_objects.specs.Escapes.{mark_target, MarksTarget}

-- a flag that holds also where nothing does is as before

flag_stays : (m : Marks) (f : Flag) → with_flag m f false ≡ m
flag_stays m Touched = ap (λ b. record m { touched = b }) (or_false m.touched)
flag_stays m Written = ap (λ b. record m { written = b }) (or_false m.written)
flag_stays m Allocated = ap (λ b. record m { allocated = b }) (or_false m.allocated)
flag_stays m Freed = ap (λ b. record m { freed = b }) (or_false m.freed)
flag_stays m Escaped = ap (λ b. record m { escaped = b }) (or_false m.escaped)

marks_stay : (ps : List Place) (at : ℕ) (f : Flag) → marked ps at f false ≡ ps
marks_stay [] at f = refl
marks_stay (p ∷ ps) zero f = ap (λ m. record p { marks = m } ∷ ps) (flag_stays p.marks f)
marks_stay (p ∷ ps) (suc at) f = ap (λ qs. p ∷ qs) (marks_stay ps at f)

target_stays : (ps : List Place) (target : ℕ) (f : Flag) → marked_target ps target f false ≡ ps
target_stays ps zero f = refl
target_stays ps (suc at) f = marks_stay ps at f

module _ (v : ℕ → Bool) (gates : Ends) (f : Flag) (old new : List Location) where
  marks_from : (target : ℕ) → ((ps : List Place) → MeetsAll v old ps → MeetsAll v new (marked_target ps target f (v gates.live.at)))
      → (s : Standing (Unit {0})) → Stands v old gates (Any {A = Unit {0}}) s → Stands v new gates (Any {A = Unit {0}}) (after s (λ u. mark_target target f))
  marks_from zero becomes (On u w) h =
      record { store = becomes w.places h.store; tells = record { live = h.tells.live; asides = h.tells.asides; bads = h.tells.bads }; given = tt; good = tt; is = refl }
  marks_from (suc at) becomes (On u w) h =
      record {
        store = subst (λ b. MeetsAll v new (marked w.places at f b)) h.tells.live (becomes w.places h.store);
        tells = record { live = h.tells.live; asides = h.tells.asides; bads = h.tells.bads };
        given = tt;
        good = tt;
        is = refl;
      }
  marks_from target becomes (Over e w) h =
      record {
        store = subst (λ ps. MeetsAll v new ps) (ap (λ b. marked_target w.places target f b) h.tells.live ∙ target_stays w.places target f) (becomes w.places h.store);
        tells = record { live = h.tells.live; asides = h.tells.asides; bads = h.tells.bads };
        given = tt;
        good = tt;
        is = tt;
      }

pub marks_target : (ns : List Node) (gates : Ends) (f : Flag) (pointer : List Pair) (old new : List Location) → IsMarkedWhere ns gates.live.at pointer f old new
    → MarksTarget ns gates f pointer old new
marks_target ns gates f pointer old new is =
    record {
      top = is.below;
      same = is.same;
      does = λ choice v runs target points.
          record { does = marks_from v gates f old new target (λ ps met. is.value choice v runs ps target met points) };
    }
