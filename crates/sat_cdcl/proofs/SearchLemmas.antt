-- Turns, conflicts and answers.

use Rattle.std.proofs.Common.{◌≡◌, ℕ, zero, suc, ◌+◌, ◌-◌, ◌<◌, Bool, true, false, not, ◌&&◌, ◌||◌, if◌then◌else◌, List, [], ◌∷◌, ◌++◌, length, take, drop, get_or, slice_get, Option, None, Some, IfSome, is_some, Result, Ok, Err, IfOk, refl, sym, subst, ap, ◌∙◌, arith}
use Rattle.std.proofs.lemmas.Option.{slice_get-get_or}
use Rattle.std.proofs.lemmas.List.Folds.{list_all_more}
use Rattle.std.proofs.lemmas.Bool.{true≢false, false≢true}
use Rattle.std.proofs.Math.Seq.{take-length}
use Rattle.sat_base.specs.declared.literal.Lit.{Lit}
use Rattle.sat_base.specs.Logic.{lit_true, some_true, each_true, all_true, satisfied, at, negation, LitsBelow, ClausesBelow}
use Rattle.sat_trail.specs.declared.trail.Step.{Step}
use Rattle.sat_trail.specs.declared.trail.Put.{Put}
use Rattle.sat_trail.specs.declared.trail.Put.TheVariants.{Done, Taken, Absent}
use Rattle.sat_cdcl.specs.declared.conflict.Progress.{Progress}
use Rattle.sat_cdcl.specs.declared.conflict.Progress.TheVariants as progress
use Rattle.sat_cdcl.specs.declared.conflict.Progress.TheVariants.{Rose, Exhausted}
use Rattle.sat_cdcl.specs.declared.turn.Advance.{Advance}
use Rattle.sat_cdcl.specs.declared.turn.Advance.TheVariants.{Decided, Found, Clash}
use Rattle.sat_clauses.specs.Held.{Entails}
use Rattle.sat_trail.specs.Steps.{TrailState, AllTrue, AllImplied, Follows, Tells, Refutes, IsPut}
use Rattle.sat_trail.specs.Weight.{Extends, numbers, weight, trail_weight}
use Rattle.sat_trail.specs.Looks.{OthersFalse}
use Rattle.sat_trail.specs.Decided.{IsDecision, Agrees}
use Rattle.sat_cdcl.specs.Answered.{HasNone, IsModel, Clashes, AllFollow, Rises, IsClash, IsAdvance, IsAssumedOne, assumed_from}
use Rattle.sat_cdcl.specs.Progressed.{IsProgress}
use Rattle.sat_trail.specs.Order.{differs}
use Rattle.sat_clauses.proofs.TruthLemmas.{not_both, true_unless, false_unless, both, and_of}
use Rattle.sat_trail.proofs.FollowLemmas.{all_push, follows_push, follows_first, follows_all, follows_flipped, follows_true}
use Rattle.sat_trail.proofs.WeightLemmas.{weight-jump, weight_below}

lit_same : (f g : ℕ → Bool) (n : ℕ) (l : Lit) → l.var < n → ((x : ℕ) → x < n → f x ≡ g x) → lit_true f l ≡ lit_true g l
unfolding lit_true
lit_same f g n l below same = ap (λ v. if l.neg then not v else v) (same l.var below)

some_same : (f g : ℕ → Bool) (n : ℕ) (c : List Lit) → LitsBelow n c → ((x : ℕ) → x < n → f x ≡ g x) → some_true f c ≡ some_true g c
some_same f g n [] below same = refl
some_same f g n (l ∷ ls) below same =
    ap (λ b. b || some_true f ls) (lit_same f g n l (below 0 l (omega arith)) same)
    ∙ ap (λ b. lit_true g l || b) (some_same f g n ls (λ i d h. below (suc i) d (omega (arith, h))) same)

each_same : (f g : ℕ → Bool) (n : ℕ) (c : List Lit) → LitsBelow n c → ((x : ℕ) → x < n → f x ≡ g x) → each_true f c ≡ each_true g c
each_same f g n [] below same = refl
each_same f g n (l ∷ ls) below same =
    ap (λ b. b && each_true f ls) (lit_same f g n l (below 0 l (omega arith)) same)
    ∙ ap (λ b. lit_true g l && b) (each_same f g n ls (λ i d h. below (suc i) d (omega (arith, h))) same)

all_same : (f g : ℕ → Bool) (n : ℕ) (cs : List (List Lit)) → ClausesBelow n cs → ((x : ℕ) → x < n → f x ≡ g x) → all_true f cs ≡ all_true g cs
all_same f g n [] below same = refl
all_same f g n (c ∷ rest) below same =
    ap (λ b. b && all_true f rest) (some_same f g n c (below 0 c (omega arith)) same)
    ∙ ap (λ b. some_true g c && b) (all_same f g n rest (λ i d h. below (suc i) d (omega (arith, h))) same)

same_clash : (cs : List (List Lit)) (us : List Lit) (t : TrailState) → Clashes cs us t.steps → IsClash cs us t t
same_clash cs us t h = record { vars = refl; heavier = omega arith; follows = λ x. x; clashes = h }

-- the values of a full trail fail a clause
pub clash_clauses : (cs : List (List Lit)) (us : List Lit) (t : TrailState) (values : List Bool) → ClausesBelow t.vars cs → Agrees t values
    → all_true (at values) cs ≡ false → IsClash cs us t t
clash_clauses cs us t values below agrees fails =
    same_clash cs us t
    (λ f sat all. not_both (all_true f cs) (both _ _ sat).0 (all_same f (at values) t.vars cs below (agrees.told f all) ∙ fails))

-- or an assumption
pub clash_assumed : (cs : List (List Lit)) (us : List Lit) (t : TrailState) (values : List Bool) → LitsBelow t.vars us → Agrees t values
    → each_true (at values) us ≡ false → IsClash cs us t t
clash_assumed cs us t values below agrees fails =
    same_clash cs us t
    (λ f sat all. not_both (each_true f us) (both (all_true f cs) (each_true f us) sat).1 (each_same f (at values) t.vars us below (agrees.told f all) ∙ fails))

pub model_of : (cs : List (List Lit)) (us : List Lit) (t : TrailState) (values : List Bool) → Agrees t values → all_true (at values) cs ≡ true → each_true (at values) us ≡ true
    → IsModel t.vars cs us values
model_of cs us t values agrees all each = record { size = agrees.size; holds = and_of (all_true (at values) cs) (each_true (at values) us) all each }

-- propagation found a conflict
pub clash_of : (cs : List (List Lit)) (us : List Lit) (old new : TrailState) → Extends cs old new → Refutes cs new.steps → IsClash cs us old new
clash_of cs us old new e r = record {
  vars = e.vars;
  heavier = e.heavier;
  follows = λ h f sat. e.follows f (both (all_true f cs) (each_true f us) sat).0 (h f sat);
  clashes = λ f sat. r f (both (all_true f cs) (each_true f us) sat).0;
}

-- a turn after propagation
pub advance_after : (cs : List (List Lit)) (us : List Lit) (old mid new : TrailState) (a : Advance) → Extends cs old mid → IsAdvance cs us mid new a → IsAdvance cs us old new a
advance_after cs us old mid new Decided e r =
    let one = e.heavier in
    let two = r.heavier in
    record {
      vars = r.vars ∙ e.vars;
      heavier = omega (arith, one, two);
      follows = λ h. r.follows (λ f sat. e.follows f (both (all_true f cs) (each_true f us) sat).0 (h f sat));
    }
advance_after cs us old mid new (Found values) e r = record { size = r.size ∙ e.vars; holds = r.holds }
advance_after cs us old mid new (Clash conflict) e r =
    let one = e.heavier in
    let two = r.heavier in
    record {
      vars = r.vars ∙ e.vars;
      heavier = omega (arith, one, two);
      follows = λ h. r.follows (λ f sat. e.follows f (both (all_true f cs) (each_true f us) sat).0 (h f sat));
      clashes = r.clashes;
    }

pub rises_decided : (cs : List (List Lit)) (us : List Lit) (old new : TrailState) → IsDecision old new → Rises cs us old new
rises_decided cs us old new d = record { vars = d.vars; heavier = d.heavier; follows = λ h f sat. d.follows f (h f sat) }

-- a learnt clause asserts a literal
pub rises_asserted : (cs : List (List Lit)) (us : List Lit) (old new : TrailState) (k : ℕ) (d s : Step) (clause : List Lit) → slice_get old.steps k ≡ Some d → d.implied ≡ false
    → s.implied ≡ true → OthersFalse (take k old.steps) clause s.lit → new.steps ≡ take k old.steps ++ s ∷ [] → new.vars ≡ old.vars → k < old.vars → Entails cs clause
    → Rises cs us old new
rises_asserted cs us old new k d s clause found undone given others is vars below holds =
    let grown : weight old.vars old.steps < weight old.vars (take k old.steps ++ s ∷ []) = weight-jump old.vars old.steps k d s found undone given below in
    let now : trail_weight new ≡ weight old.vars (take k old.steps ++ s ∷ []) = ap (λ n. weight n new.steps) vars ∙ ap (weight old.vars) is in
    record {
      vars = vars;
      heavier = omega (arith, grown, now);
      follows = λ h f sat.
          subst (Follows f) (sym is)
          (follows_push f (take k old.steps) s (follows_first f k old.steps (h f sat))
          (λ _ all.
          true_unless (lit_true f s.lit)
          (λ none. not_both (some_true f clause) (holds f (both (all_true f cs) (each_true f us) sat).0) (others f all none))));
    }

-- the last decision gives way to its negation
pub rises_flipped : (cs : List (List Lit)) (us : List Lit) (old new : TrailState) (k : ℕ) → k < length old.steps → k < old.vars → new.vars ≡ old.vars
    → ((s : Step) → slice_get old.steps k ≡ Some s → s.implied ≡ false) → AllImplied (drop (k + 1) old.steps)
    → ((s : Step) → slice_get old.steps k ≡ Some s → new.steps ≡ take k old.steps ++ record { lit = negation s.lit; implied = true; reason = None } ∷ [])
    → Clashes cs us old.steps → Rises cs us old new
rises_flipped cs us old new k inside below vars undone last flipped clashes =
    let blank : Step = record { lit = record { var = 0; neg = false }; implied = false; reason = None } in
    let d : Step = get_or old.steps k blank in
    let found : slice_get old.steps k ≡ Some d = slice_get-get_or old.steps k blank inside in
    let s : Step = record { lit = negation d.lit; implied = true; reason = None } in
    let is : new.steps ≡ take k old.steps ++ s ∷ [] = flipped d found in
    let grown : weight old.vars old.steps < weight old.vars (take k old.steps ++ s ∷ []) = weight-jump old.vars old.steps k d s found (undone d found) refl below in
    let now : trail_weight new ≡ weight old.vars (take k old.steps ++ s ∷ []) = ap (λ n. weight n new.steps) vars ∙ ap (weight old.vars) is in
    record {
      vars = vars;
      heavier = omega (arith, grown, now);
      follows = λ h f sat. subst (Follows f) (sym is) (follows_flipped f old.steps k d s found last refl (clashes f sat) (h f sat));
    }

-- a conflict without a decision
pub none_of : (cs : List (List Lit)) (us : List Lit) (steps : List Step) → AllImplied steps → Clashes cs us steps → AllFollow cs us steps → HasNone cs us
none_of cs us steps implied clashes follow f =
    false_unless (satisfied f cs us) (λ sat. clashes f sat (follows_all f [] steps (follow f sat) tt implied))

-- the assumed literals are all true
pub follow_assumed : (cs : List (List Lit)) (us : List Lit) (steps : List Step) → ((f : ℕ → Bool) → each_true f us ≡ true → AllTrue f steps) → AllFollow cs us steps
follow_assumed cs us steps h f sat = follows_true f steps (h f (both (all_true f cs) (each_true f us) sat).1)

pub none_assumed : (cs : List (List Lit)) (us : List Lit) → ((f : ℕ → Bool) → each_true f us ≡ false) → HasNone cs us
none_assumed cs us h f = false_unless (satisfied f cs us) (λ sat. not_both (each_true f us) (both (all_true f cs) (each_true f us) sat).1 (h f))

take_all : {A : Type 0} (k : ℕ) (xs : List A) → k ≡ length xs → take k xs ≡ xs
take_all k xs e = ap (λ n. take n xs) e ∙ take-length xs

sign_false : (neg v value : Bool) → v ≡ value → differs value neg ≡ false → (if neg then not v else v) ≡ false
sign_false true true value same differ = refl
sign_false true false true same differ = absurd (false≢true same)
sign_false true false false same differ = absurd (true≢false differ)
sign_false false true true same differ = absurd (true≢false differ)
sign_false false true false same differ = absurd (true≢false same)
sign_false false false value same differ = refl

assumed_taken : (l : Lit) (old new : TrailState) (value : Bool) → new ≡ old → Tells old.steps (record { var = l.var; neg = false }) value
    → (b : Bool) → differs value l.neg ≡ b → IsAssumedOne l old new b
unfolding lit_true
assumed_taken l old new value same now true differ = λ f holds all. subst (λ t. AllTrue f t.steps) (sym same) all
assumed_taken l old new value same now false differ = λ f all. sign_false l.neg (f l.var) value (now f all) differ

-- a literal that is assumed
pub assumed_put : (l : Lit) (old new : TrailState) (k : ℕ) (s : Step) (put : Put) → k ≡ length old.steps → s.lit ≡ l → IsPut old new k s put
    → IsAssumedOne l old new (assumed_from put l.neg)
assumed_put l old new k s Done here is put = λ f now all.
    subst (AllTrue f) (sym (put ∙ ap (λ xs. xs ++ s ∷ []) (take_all k old.steps here))) (all_push f old.steps s all (ap (lit_true f) is ∙ now))
assumed_put l old new k s (Taken value) here is put =
    assumed_taken l old new value put.0
    (λ f all. ap (λ x. lit_true f (record { var = x.var; neg = false })) (sym is) ∙ put.1 f (subst (AllTrue f) (sym (take_all k old.steps here)) all))
    (differs value l.neg) refl
assumed_put l old new k s Absent here is put = λ f now all. subst (λ t. AllTrue f t.steps) (sym put.0) all

-- an assumed literal more
pub assumed_more : (us : List Lit) (i : ℕ) (d : Lit) (old new : TrailState) → i < length us
    → ((f : ℕ → Bool) → each_true f (take i us) ≡ true → AllTrue f old.steps)
    → ((f : ℕ → Bool) → lit_true f (get_or us i d) ≡ true → AllTrue f old.steps → AllTrue f new.steps)
    → (f : ℕ → Bool) → each_true f (take (i + 1) us) ≡ true → AllTrue f new.steps
assumed_more us i d old new inside before now f all =
    let split = both (each_true f (take i us)) (lit_true f (get_or us i d)) (sym (list_all_more (lit_true f) us i d inside) ∙ all) in
    now f split.1 (before f split.0)

each_take : (f : ℕ → Bool) (us : List Lit) (i : ℕ) → each_true f us ≡ true → each_true f (take i us) ≡ true
each_take f us zero h = refl
each_take f [] (suc i) h = refl
each_take f (l ∷ ls) (suc i) h =
    let split = both (lit_true f l) (each_true f ls) h in
    and_of (lit_true f l) (each_true f (take i ls)) split.0 (each_take f ls i split.1)

each_at : (f : ℕ → Bool) (us : List Lit) (i : ℕ) (d : Lit) → i < length us → each_true f us ≡ true → lit_true f (get_or us i d) ≡ true
each_at f [] i d inside h = absurd (omega (arith, inside))
each_at f (l ∷ ls) zero d inside h = (both (lit_true f l) (each_true f ls) h).0
each_at f (l ∷ ls) (suc i) d inside h = each_at f ls i d (omega (arith, inside)) (both (lit_true f l) (each_true f ls) h).1

pub assumed_fails : (us : List Lit) (i : ℕ) (d : Lit) (old : TrailState) → i < length us
    → ((f : ℕ → Bool) → each_true f (take i us) ≡ true → AllTrue f old.steps)
    → ((f : ℕ → Bool) → AllTrue f old.steps → lit_true f (get_or us i d) ≡ false)
    → (f : ℕ → Bool) → each_true f us ≡ false
assumed_fails us i d old inside before now f =
    false_unless (each_true f us)
    (λ all. not_both (lit_true f (get_or us i d)) (each_at f us i d inside all) (now f (before f (each_take f us i all))))

-- a conflict, and the way back
pub progress_after : {E : Type 0} (cs : List (List Lit)) (us : List Lit) (old mid new : TrailState) (r : Result Progress E) → IsClash cs us old mid
    → IfOk r (λ p. (assumed : List Lit) → Clashes cs assumed mid.steps → IsProgress cs assumed mid new p)
    → IfOk r (λ p. IsProgress cs us old new p)
progress_after cs us old mid new (Ok Rose) clash h =
    let r = h us clash.clashes in
    let one = clash.heavier in
    let two = r.heavier in
    record { vars = r.vars ∙ clash.vars; heavier = omega (arith, one, two); follows = λ x. r.follows (clash.follows x) }
progress_after cs us old mid new (Ok (progress.Found values)) clash h = let r = h us clash.clashes in record { size = r.size ∙ clash.vars; holds = r.holds }
progress_after cs us old mid new (Ok Exhausted) clash h = λ x. h us clash.clashes (clash.follows x)
progress_after cs us old mid new (Err e) clash h = tt

-- the trail has a last number
pub rises_smaller : (cs : List (List Lit)) (us : List Lit) (old new : TrailState) → Rises cs us old new
    → numbers new.vars - trail_weight new < numbers old.vars - trail_weight old
rises_smaller cs us old new r =
    let low = weight_below old.vars old.steps in
    let high = weight_below new.vars new.steps in
    let same = ap numbers r.vars in
    let more = r.heavier in
    omega (arith, low, high, same, more)

pub refuted_some : {A : Type 0} (o : Option A) (P : Type 0) → IfSome o (λ _. P) → is_some o ≡ true → P
refuted_some None P h e = absurd (false≢true e)
refuted_some (Some a) P h e = h
