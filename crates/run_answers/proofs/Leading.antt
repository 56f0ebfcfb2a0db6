-- Whether one of some objects leads to another one: object after object, and cell after cell.
use Rattle.std.proofs.Common.{◌≡◌, ℕ, Bool, true, false, not, nat_eq, List, [], ◌∷◌, ap, sym, refl, ◌∙◌, length}
use Rattle.std.specs.Prelude.{◌&&◌, ◌||◌}
use Rattle.std.specs.List.{list_any, range_with_len}
use Rattle.std.proofs.lemmas.Bool.{eqb-true}
use Rattle.run_store.specs.declared.Flag.TheVariants as flag
use Rattle.sc_world.specs.Layout.{location, is_pointer_cell}
use Rattle.sc_world.specs.Shows.{Over, has, root_at, cell_now, object_of, is_it, is_among, cell_leads}
use Rattle.run_answers.specs.Rest.{rest}
use Rattle.run_answers.specs.Seen.{leads_at, some_leads}
use Rattle.run_answers.proofs.Rests.{any_all, any_first, any_none}

-- an object that is among others, or the first of them
split : (p q f g e a : Bool) → (e ≡ true → f ≡ g)
    → (p && (q && (f && (e || a)))) ≡ ((g && (p && (e && q))) || (p && (q && (f && a))))
split false q f false e a h = refl
split false q f true e a h = refl
split true false f false e a h = refl
split true false f true false a h = refl
split true false f true true a h = refl
split true true f false false a h = refl
split true true f true false a h = refl
split true true false false true a h = refl
split true true false true true a h = h refl
split true true true true true a h = refl
split true true true false true true h = refl
split true true true false true false h = h refl

regroup : (f x y z w : Bool) → (((f && x) || y) || ((f && z) || w)) ≡ ((f && (x || z)) || (y || w))
regroup false x y z w = refl
regroup true true y z w = refl
regroup true false false true w = refl
regroup true false true true w = refl
regroup true false y false w = refl

no_source : (p q f : Bool) → (p && (q && (f && false))) ≡ false
no_source false q f = refl
no_source true false f = refl
no_source true true false = refl
no_source true true true = refl

nothing : (f : Bool) → false ≡ ((f && false) || false)
nothing false = refl
nothing true = refl

no_leads : (o : Over) (to : ℕ) (ks : List ℕ) → list_any (leads_at o [] to) ks ≡ false
unfolding leads_at
no_leads o to [] = refl
no_leads o to (k ∷ ks) =
    ap (λ b. b || list_any (leads_at o [] to) ks)
    (no_source (is_pointer_cell (location o.layout k)) (is_it to (object_of o (cell_now o k)))
    (not (has o flag.Freed (root_at o k))))
    ∙ no_leads o to ks

first_leads : (o : Over) (ns : List ℕ) (m to k : ℕ)
    → leads_at o (m ∷ ns) to k ≡ ((not (has o flag.Freed m) && cell_leads o m to k) || leads_at o ns to k)
unfolding leads_at
first_leads o ns m to k =
    split (is_pointer_cell (location o.layout k)) (is_it to (object_of o (cell_now o k)))
    (not (has o flag.Freed (root_at o k))) (not (has o flag.Freed m)) (nat_eq (root_at o k) m)
    (is_among ns (root_at o k)) (λ e. ap (λ x. not (has o flag.Freed x)) (eqb-true (root_at o k) m e))

all_lead : (o : Over) (ns : List ℕ) (m to : ℕ) (ks : List ℕ)
    → list_any (leads_at o (m ∷ ns) to) ks
    ≡ ((not (has o flag.Freed m) && list_any (cell_leads o m to) ks) || list_any (leads_at o ns to) ks)
all_lead o ns m to [] = nothing (not (has o flag.Freed m))
all_lead o ns m to (k ∷ ks) =
    (λ i. first_leads o ns m to k i || all_lead o ns m to ks i)
    ∙ regroup (not (has o flag.Freed m)) (cell_leads o m to k) (leads_at o ns to k) (list_any (cell_leads o m to) ks)
    (list_any (leads_at o ns to) ks)

exchange : (o : Over) (ns : List ℕ) (to : ℕ) (ks : List ℕ)
    → list_any (λ m. not (has o flag.Freed m) && list_any (cell_leads o m to) ks) ns
    ≡ list_any (leads_at o ns to) ks
exchange o [] to ks = sym (no_leads o to ks)
exchange o (m ∷ ns) to ks =
    ap (λ b. (not (has o flag.Freed m) && list_any (cell_leads o m to) ks) || b) (exchange o ns to ks)
    ∙ sym (all_lead o ns m to ks)

pub some_leads_is : (o : Over) (ns : List ℕ) (to : ℕ)
    → some_leads o ns to ≡ list_any (leads_at o ns to) (rest 0 (length o.layout.locations))
unfolding some_leads
some_leads_is o ns to =
    exchange o ns to (range_with_len 0 (length o.layout.locations)) ∙ any_all (leads_at o ns to) (length o.layout.locations)

pub ruleset lead_steps = (some_leads_is, any_first, any_none)
