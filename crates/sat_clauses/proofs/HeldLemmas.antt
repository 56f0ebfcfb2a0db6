-- References and the clauses that they read.

use Rattle.std.proofs.Common.{◌≡◌, ℕ, zero, suc, ◌+◌, ◌≤◌, inl, inr, Bool, true, false, List, [], ◌∷◌, ◌++◌, length, take, get_or, slice_get, Option, None, Some, Result, Ok, Err, OnErr, IsSome, IfSome, MatchOption, unwrap_or, refl, sym, subst, ap, ◌∙◌, arith}
use Rattle.std.proofs.lemmas.Bool.{false≢true}
use Rattle.std.proofs.lemmas.List.Folds.{list_all-append, list_all_more, list_all_at}
use Rattle.std.proofs.lemmas.Option.{slice_get_within, get_or_from_slice_get}
use Rattle.sat_base.specs.declared.literal.Lit.{Lit}
use Rattle.sat_base.specs.Logic.{some_true, all_true}
use Rattle.sat_pool.specs.declared.pool.Ref.{Ref}
use Rattle.sat_pool.specs.Region.{Block, reads}
use Rattle.sat_clauses.specs.Held.{clauses_of, AllLive, IsHeld, Entails}
use Rattle.sat_clauses.specs.Learnt.{Thins, Adds}
use Rattle.sat_clauses.proofs.TruthLemmas.{both, and_of}

pub some_of : {A : Type 0} (o : Option A) → IsSome o → (a : A) × (o ≡ Some a)
some_of None h = absurd (false≢true h)
some_of (Some a) h = (a, refl)

pub is_some : {A : Type 0} (o : Option A) (a : A) → o ≡ Some a → IsSome o
is_some o a e = subst IsSome (sym e) refl

abbrev pub Keeps : List Block → List Block → Type 0
Keeps old new = (q : ℕ) (c : List Lit) → reads old q ≡ Some c → reads new q ≡ Some c

pub kept : (old new : List Block) (refs : List Ref) → AllLive old refs → Keeps old new → (clauses_of new refs ≡ clauses_of old refs) × AllLive new refs
kept old new [] live keeps = (refl, tt)
kept old new (r ∷ rs) live keeps =
    let t = some_of (reads old r.at) live.0 in
    let now = keeps r.at t.0 t.1 in
    let rest = kept old new rs live.1 keeps in (
      ap (λ o. unwrap_or o [] ∷ clauses_of new rs) (now ∙ sym t.1) ∙ ap (λ cs. unwrap_or (reads old r.at) [] ∷ cs) rest.0,
      (is_some (reads new r.at) t.0 now, rest.1),
    )

pub live_push : (bs : List Block) (refs : List Ref) (r : Ref) → AllLive bs refs → IsSome (reads bs r.at) → AllLive bs (refs ++ r ∷ [])
live_push bs [] r live h = (h, tt)
live_push bs (x ∷ xs) r live h = (live.0, live_push bs xs r live.1 h)

pub clauses_of-push : (bs : List Block) (refs : List Ref) (r : Ref) (c : List Lit) → reads bs r.at ≡ Some c
    → clauses_of bs (refs ++ r ∷ []) ≡ clauses_of bs refs ++ c ∷ []
clauses_of-push bs [] r c h = ap (λ o. unwrap_or o [] ∷ []) h
clauses_of-push bs (x ∷ xs) r c h = ap (λ cs. unwrap_or (reads bs x.at) [] ∷ cs) (clauses_of-push bs xs r c h)

pub length-clauses_of : (bs : List Block) (refs : List Ref) → length (clauses_of bs refs) ≡ length refs
length-clauses_of bs [] = refl
length-clauses_of bs (r ∷ rs) = ap suc (length-clauses_of bs rs)

pub live_at : (bs : List Block) (refs : List Ref) (i : ℕ) (r : Ref) → AllLive bs refs → slice_get refs i ≡ Some r → IsSome (reads bs r.at)
live_at bs [] i r live h = absurd (cc h)
live_at bs (x ∷ xs) zero r live h = let e : x ≡ r = cc h in subst (λ t. IsSome (reads bs t.at)) e live.0
live_at bs (x ∷ xs) (suc i) r live h = live_at bs xs i r live.1 h

pub clause_at : (bs : List Block) (refs : List Ref) (i : ℕ) (r : Ref) (c : List Lit) → slice_get refs i ≡ Some r → reads bs r.at ≡ Some c
    → slice_get (clauses_of bs refs) i ≡ Some c
clause_at bs [] i r c h is = absurd (cc h)
clause_at bs (x ∷ xs) zero r c h is = let e : x ≡ r = cc h in ap (λ o. Some (unwrap_or o [])) (ap (λ t. reads bs t.at) e ∙ is)
clause_at bs (x ∷ xs) (suc i) r c h is = clause_at bs xs i r c h is

pub holds_at : (f : ℕ → Bool) (cs : List (List Lit)) (i : ℕ) (c : List Lit) → all_true f cs ≡ true → slice_get cs i ≡ Some c → some_true f c ≡ true
holds_at f [] i c all h = absurd (cc h)
holds_at f (x ∷ xs) zero c all h = let e : x ≡ c = cc h in subst (λ t. some_true f t ≡ true) e (both _ _ all).0
holds_at f (x ∷ xs) (suc i) c all h = holds_at f xs i c (both (some_true f x) (all_true f xs) all).1 h

-- a clause that is read follows
pub entailed_at : {B : Type 0} (view : B → List Lit) (given cs : List (List Lit)) (i : ℕ) (P : Type 0) (o : Option B)
    → ((f : ℕ → Bool) → all_true f given ≡ true → all_true f cs ≡ true)
    → MatchOption o P (λ b. slice_get cs i ≡ Some (view b)) → IfSome o (λ b. Entails given (view b))
entailed_at view given cs i P None follows h = tt
entailed_at view given cs i P (Some b) follows h = λ f all. holds_at f cs i (view b) (follows f all) h

pub held_kept : (old new : List Block) (given : List Ref) (learnt : List (Option (List Lit))) → Keeps old new → IsHeld old given learnt → IsHeld new given learnt
held_kept old new given learnt keeps h =
    let g = kept old new given h.given_live keeps in
    record { given_live = g.1; entailed = λ f all. h.entailed f (ap (all_true f) (sym g.0) ∙ all) }

pub held_given : (old new : List Block) (given : List Ref) (learnt : List (Option (List Lit))) (r : Ref) (c : List Lit) → Keeps old new → reads new r.at ≡ Some c
    → IsHeld old given learnt → IsHeld new (given ++ r ∷ []) learnt
held_given old new given learnt r c keeps is h =
    let g = kept old new given h.given_live keeps in
    let more = clauses_of-push new given r c is in
    record {
      given_live = live_push new given r g.1 (is_some (reads new r.at) c is);
      entailed = λ f all.
          let split = sym (list_all-append (some_true f) (clauses_of new given) (c ∷ [])) ∙ ap (all_true f) (sym more) ∙ all in
          h.entailed f (ap (all_true f) (sym g.0) ∙ (both _ _ split).0);
    }

pub held_learnt : (bs : List Block) (given : List Ref) (old new : List (Option (List Lit))) (c : List Lit) → IsHeld bs given old → Entails (clauses_of bs given) c → Adds old new c
    → IsHeld bs given new
held_learnt bs given old new c h follows adds = record {
  given_live = h.given_live;
  entailed = λ f all i d there.
      elim (adds.1 i d there) [
        | inl now ↦ subst (λ x. some_true f x ≡ true) (sym now.1) (follows f all)
        | inr before ↦ h.entailed f all i d before
      ];
}

pub held_thinned : (bs : List Block) (given : List Ref) (old new : List (Option (List Lit))) → IsHeld bs given old → Thins old new → IsHeld bs given new
held_thinned bs given old new h thins = record { given_live = h.given_live; entailed = λ f all i c there. h.entailed f all i c (thins i c there) }

pub on_err : {A B : Type 0} (r : Result A B) (P : Type 0) → P → OnErr r P
on_err (Ok a) P h = tt
on_err (Err b) P h = h

pub match_by : {B : Type 0} (o : Option B) (P Q : Type 0) (R S : B → Type 0) → (P → Q) → ((b : B) → R b → S b) → MatchOption o P R → MatchOption o Q S
match_by None P Q R S f g h = f h
match_by (Some b) P Q R S f g h = g b h

pub get_past : {A : Type 0} (xs : List A) (i : ℕ) → slice_get xs i ≡ None → length xs ≤ i
get_past [] i h = omega arith
get_past (x ∷ xs) zero h = absurd (cc h)
get_past (x ∷ xs) (suc i) h = let r = get_past xs i h in omega (arith, r)

pub take_past : {A : Type 0} (xs : List A) (i : ℕ) → length xs ≤ i → take i xs ≡ xs
take_past [] zero h = refl
take_past [] (suc i) h = refl
take_past (x ∷ xs) zero h = absurd (omega (arith, h))
take_past (x ∷ xs) (suc i) h = ap (λ t. x ∷ t) (take_past xs i (omega (arith, h)))

-- one clause more holds
pub all_more : (f : ℕ → Bool) (cs : List (List Lit)) (i : ℕ) (c : List Lit) → slice_get cs i ≡ Some c → some_true f c ≡ true → all_true f (take i cs) ≡ true
    → all_true f (take (i + 1) cs) ≡ true
all_more f cs i c found now before =
    list_all_more (some_true f) cs i c (slice_get_within cs i c found)
    ∙ and_of (all_true f (take i cs)) (some_true f (get_or cs i c)) before (ap (some_true f) (get_or_from_slice_get cs i c c found) ∙ now)

pub all_fails : (f : ℕ → Bool) (cs : List (List Lit)) (i : ℕ) (c : List Lit) → slice_get cs i ≡ Some c → some_true f c ≡ false → all_true f cs ≡ false
all_fails f cs i c found fails =
    list_all_at (some_true f) cs i c (slice_get_within cs i c found) (ap (some_true f) (get_or_from_slice_get cs i c c found) ∙ fails)

-- a learnt clause that is found follows
pub entailed_by : {B : Type 0} (view : B → List Lit) (given : List (List Lit)) (learnt : List (Option (List Lit))) (i : ℕ) (o : Option B)
    → ((f : ℕ → Bool) → all_true f given ≡ true → (c : List Lit) → slice_get learnt i ≡ Some (Some c) → some_true f c ≡ true)
    → IfSome o (λ b. slice_get learnt i ≡ Some (Some (view b))) → IfSome o (λ b. Entails given (view b))
entailed_by view given learnt i None follows h = tt
entailed_by view given learnt i (Some b) follows h = λ f all. follows f all (view b) h
