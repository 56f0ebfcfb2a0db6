-- A cell that the choice does not give holds 0, null or nothing at entry.
use Rattle.std.proofs.Common.{◌≡◌, ℕ, Bool, false, refl, ap, ◌∙◌}
use Rattle.std.specs.Prelude.{Option, Some, None}
use Rattle.run_store.specs.Concrete.{Kind, Numbers, Pointers, NoCell, blank}
use Rattle.sc_world.specs.World.{is_true, entry_value, kind_of_type}
use Rattle.sc_world.specs.Layout.{location}
use Rattle.sc_world.specs.Shows.{Over}
use Rattle.run_answers.specs.Seen.{was_true, is_chosen}

blank_is_false : (k : Kind) → is_true (blank k) ≡ false
blank_is_false (Numbers w) = refl
blank_is_false Pointers = refl
blank_is_false NoCell = refl

pub was_blank : (o : Over) (at : ℕ) → (location o.layout at).bit ≡ None → was_true o at ≡ false
unfolding was_true
was_blank o at e =
    ap (λ b. is_true (entry_value o.choice (kind_of_type o.source (location o.layout at).type) b (location o.layout at).target)) e
    ∙ blank_is_false (kind_of_type o.source (location o.layout at).type)

pub was_chosen : (o : Over) (at bit : ℕ) → (location o.layout at).bit ≡ Some bit
    → was_true o at ≡ is_chosen o (location o.layout at).type bit (location o.layout at).target
unfolding was_true is_chosen
was_chosen o at bit e =
    ap (λ b. is_true (entry_value o.choice (kind_of_type o.source (location o.layout at).type) b (location o.layout at).target)) e

pub ruleset blank_steps = (was_blank, was_chosen)
