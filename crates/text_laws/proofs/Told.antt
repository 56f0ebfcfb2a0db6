-- The text of a location is that of its way.
use Rattle.std.proofs.Common.{◌≡◌, ℕ, zero, suc, ◌<◌, length, refl, sym, ap, ◌∙◌}
use Rattle.sum_rows.specs.declared.path.Step.{Step}
use Rattle.sum_rows.specs.declared.path.Step.TheVariants as step
use Rattle.sc_world.specs.declared.run.Origin.{Origin}
use Rattle.sc_world.specs.declared.run.Origin.TheVariants as origin
use Rattle.sc_world.specs.Layout.{location}
use Rattle.sc_world.specs.Paths.{Texts, Spelled, spelled_by, spelled_from, step_text, text_at}
use Rattle.text_laws.specs.Ways.{Way, along, way_from, way_by, way_of, IsPlain, IsPlainStep, HasPlainNames}
use Rattle.text_laws.proofs.Spelling.{spell, along_text, PlainStart, PlainAlong, PlainSteps, same_way}

step_is : (x : Texts) (s : Step) (a : Spelled) → step_text x.names s a ≡ along_text (along x.names s) a
step_is x step.Deref a = refl
step_is x (step.Field n) a = refl
step_is x (step.Elem k) a = refl

from_is : (x : Texts) (up : ℕ → Spelled) (way : ℕ → Way) → ((n : ℕ) → up n ≡ spell (way n).start (way n).steps) → (o : Origin)
    → spelled_from x up o ≡ spell (way_from x way o).start (way_from x way o).steps
from_is x up way e (origin.Param n) = refl
from_is x up way e (origin.Global n) = refl
from_is x up way e (origin.Local n) = refl
from_is x up way e (origin.Literal p) = refl
from_is x up way e (origin.Function n) = refl
from_is x up way e (origin.Target at) = λ i. step_text x.names step.Deref (e at i)
from_is x up way e (origin.Call k) = refl
from_is x up way e (origin.Part at s) =
    (λ i. step_text x.names s (e at i)) ∙ step_is x s (spell (way at).start (way at).steps)

spelled_is : (fuel : ℕ) (x : Texts) (at : ℕ) → spelled_by fuel x at ≡ spell (way_by fuel x at).start (way_by fuel x at).steps
spelled_is zero x at = refl
spelled_is (suc more) x at = from_is x (spelled_by more x) (way_by more x) (spelled_is more x) (location x.layout at).origin

-- ways of plain names

abbrev Plain : Way → Type 0
Plain w = PlainStart w.start × PlainSteps w.steps

step_plain : (x : Texts) (s : Step) → IsPlainStep x.names s → PlainAlong (along x.names s)
step_plain x step.Deref h = tt
step_plain x (step.Field n) h = h
step_plain x (step.Elem k) h = h

from_plain : (x : Texts) (way : ℕ → Way) → ((n : ℕ) → n < length x.layout.locations → Plain (way n)) → (o : Origin)
    → IsPlain x o → Plain (way_from x way o)
from_plain x way e (origin.Param n) h = (h, tt)
from_plain x way e (origin.Global n) h = (h, tt)
from_plain x way e (origin.Local n) h = (h, tt)
from_plain x way e (origin.Literal p) h = (tt, tt)
from_plain x way e (origin.Function n) h = (tt, tt)
from_plain x way e (origin.Target at) h = ((e at h).0, (tt, (e at h).1))
from_plain x way e (origin.Call k) h = (h, tt)
from_plain x way e (origin.Part at s) h = ((e at h.0).0, (step_plain x s h.1, (e at h.0).1))

way_plain : (fuel : ℕ) (x : Texts) → HasPlainNames x → (at : ℕ) → at < length x.layout.locations → Plain (way_by fuel x at)
way_plain zero x h at less = (tt, tt)
way_plain (suc more) x h at less =
    from_plain x (way_by more x) (way_plain more x h) (location x.layout at).origin (h at less)

pub told : (x : Texts) (a b : ℕ) → HasPlainNames x → a < length x.layout.locations → b < length x.layout.locations
    → text_at x a ≡ text_at x b → way_of x a ≡ way_of x b
told x a b h la lb e =
    let fuel = length x.layout.locations in
    let pa = way_plain fuel x h a la in
    let pb = way_plain fuel x h b lb in
    let same = same_way (way_of x a).start (way_of x b).start pa.0 pb.0 (way_of x a).steps pa.1 (way_of x b).steps pb.1
    (ap (λ s. s.text) (sym (spelled_is fuel x a)) ∙ e ∙ ap (λ s. s.text) (spelled_is fuel x b)) in
    (λ i. record { start = same.0 i; steps = same.1 i })
