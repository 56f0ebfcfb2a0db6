-- Clauses that are inferred by resolution, and the end of a refutation.

use Rattle.std.proofs.Common.{◌≡◌, ◌⊎◌, inl, inr, ℕ, Bool, true, false, not, List, [], ◌∷◌, ◌++◌, map, slice_get, None, Some, refl, sym, subst, ap, ◌∙◌}
use Rattle.std.specs.List.{Contains}
use Rattle.std.proofs.lemmas.List.Elements.{Contains-append_left, Contains-append_right}
use Rattle.sat_base.specs.declared.literal.Lit.{Lit}
use Rattle.sat_base.specs.Logic.{negation}
use Rattle.sat_base.specs.Certificates.{Forced, by_assumption, by_clause, IsRup}
use Rattle.sat_clauses.specs.Certified.{units, HeldState, IsKnown, Infers, IsInferred, IsRefuted}
use Rattle.sat_clauses.proofs.CoverLemmas.{empty_has, head_in, tail_in, head_or_tail, some_same}
use Rattle.sat_clauses.proofs.CertifiedLemmas.{map_has, rup_more, infers_rup, with_units}
use Rattle.sat_cdcl.specs.Resolvents.{TakesAll, Leaves}
use Rattle.sat_cdcl.specs.Certified.{AreAssumedFalse, IsOpposed}

-- ---- lists

map_from : {A B : Type 0} (f : A → B) (xs : List A) (y : B) → Contains (map f xs) y → (x : A) × Contains xs x × (f x ≡ y)
map_from f [] y h = empty_has y h
map_from f (x ∷ xs) y h =
    elim (head_or_tail (f x) (map f xs) y h) [
      | inl same ↦ (x, head_in x xs, same)
      | inr later ↦ let t = map_from f xs y later in (t.0, tail_in x xs t.0 t.1, t.2)
    ]

-- each element is this one or has the property: it is among them, or all have it
one_or_all : (P : Lit → Type 0) (l : Lit) (c : List Lit) → ((q : Lit) → Contains c q → (q ≡ l) ⊎ P q) → Contains c l ⊎ ((q : Lit) → Contains c q → P q)
one_or_all P l [] h = inr (λ q none. empty_has q none)
one_or_all P l (x ∷ xs) h =
    elim (h x (head_in x xs)) [
      | inl same ↦ inl (subst (Contains (x ∷ xs)) same (head_in x xs))
      | inr has ↦
          elim (one_or_all P l xs (λ q later. h q (tail_in x xs q later))) [
            | inl there ↦ inl (tail_in x xs l there)
            | inr all ↦
                inr
                (λ q at.
                elim (head_or_tail x xs q at) [
                  | inl first ↦ subst P first has
                  | inr later ↦ all q later
                ])
          ]
    ]

not_twice : (b : Bool) → not (not b) ≡ b
not_twice true = refl
not_twice false = refl

negation_twice : (l : Lit) → negation (negation l) ≡ l
negation_twice l = ap (λ b. record { var = l.var; neg = b }) (not_twice l.neg)

-- ---- unit propagation

forced_through : (A : List (List Lit)) (gs hs : List Lit) (l : Lit) → ((g : Lit) → Contains gs g → Forced A hs g) → Forced A gs l → Forced A hs l
forced_through A gs hs _ all (by_assumption l h) = all l h
forced_through A gs hs _ all (by_clause c l one has others) = by_clause c l one has (λ q there ne. forced_through A gs hs (negation q) all (others q there ne))

rup_through : (A : List (List Lit)) (c : List Lit) → ((q : Lit) → Contains c q → Forced A [] (negation q)) → IsRup A c → IsRup A []
rup_through A c all h = record {
  clause = h.clause;
  one = h.one;
  forced = λ q there.
      forced_through A (map negation c) [] (negation q)
      (λ g at. let t = map_from negation c g at in subst (Forced A []) t.2 (all t.0 t.1)) (h.forced q there);
}

unit_forces : (A : List (List Lit)) (given : List Lit) (l : Lit) → Contains A (l ∷ []) → Forced A given l
unit_forces A given l one =
    by_clause (l ∷ []) l one (head_in l [])
    (λ q there ne.
    elim (head_or_tail l [] q there) [
      | inl same ↦ absurd (ne (sym same))
      | inr none ↦ empty_has q none
    ])

-- ---- resolution

infers_taken : (A : List (List Lit)) (old new clause : List Lit) → Contains A clause → TakesAll old new clause None → Infers A new
infers_taken A old new clause one takes given h = record {
  clause = clause;
  one = one;
  forced = λ q there.
      elim (takes.taken q there) [
        | inl none ↦ absurd (cc none)
        | inr has ↦ h q has
      ];
}

infers_resolved : (A : List (List Lit)) (old mid new clause : List Lit) (k : ℕ) (gone pivot : Lit) → gone ≡ negation pivot → slice_get old k ≡ Some gone
    → Leaves old mid k → TakesAll mid new clause (Some pivot) → Contains A clause → Infers A old → Infers A new
infers_resolved A old mid new clause k gone pivot is found leaves takes one before given h =
    elim
    (one_or_all (λ q. Forced A given (negation q)) pivot clause
    (λ q there.
    elim (takes.taken q there) [
      | inl same ↦ inl (sym (some_same pivot q same))
      | inr has ↦ inr (h q has)
    ])) [
      | inl there ↦
          let sure : Forced A given pivot =
          by_clause clause pivot one there
          (λ q at ne.
          elim (takes.taken q at) [
            | inl same ↦ absurd (ne (sym (some_same pivot q same)))
            | inr has ↦ h q has
          ]) in
          before given
          (λ q has.
          elim (leaves q has) [
            | inl at ↦
                let same : gone ≡ q = some_same gone q (sym found ∙ at) in
                subst (Forced A given) (sym (negation_twice pivot) ∙ ap negation (sym is ∙ same)) sure
            | inr stays ↦ h q (takes.kept q stays)
          ])
      | inr all ↦ record { clause = clause; one = one; forced = all }
    ]

pub inferred_taken : (s : HeldState) (old new clause : List Lit) → IsKnown s clause → TakesAll old new clause None → IsInferred s new
inferred_taken s old new clause known takes = infers_taken (s.given ++ s.learnt) old new clause known takes

pub inferred_resolved : (s : HeldState) (old mid new clause : List Lit) (k : ℕ) (gone pivot : Lit) → gone ≡ negation pivot → slice_get old k ≡ Some gone
    → Leaves old mid k → TakesAll mid new clause (Some pivot) → IsKnown s clause → IsInferred s old → IsInferred s new
inferred_resolved s old mid new clause k gone pivot is found leaves takes known before =
    infers_resolved (s.given ++ s.learnt) old mid new clause k gone pivot is found leaves takes known before

-- ---- the end

unit_in : (given logged : List (List Lit)) (assumed : List Lit) (l : Lit) → Contains assumed l → Contains ((given ++ units assumed) ++ logged) (l ∷ [])
unit_in given logged assumed l h =
    Contains-append_left (given ++ units assumed) logged (l ∷ [])
    (Contains-append_right given (units assumed) (l ∷ []) (map_has (λ q. q ∷ []) assumed l h))

refuted_one : (given logged : List (List Lit)) (assumed lits : List Lit) → Infers (given ++ logged) lits → AreAssumedFalse lits assumed
    → IsRup ((given ++ units assumed) ++ logged) []
refuted_one given logged assumed lits h all =
    let A = (given ++ units assumed) ++ logged in
    rup_through A lits (λ q there. unit_forces A [] (negation q) (unit_in given logged assumed (negation q) (all q there)))
    (rup_more (given ++ logged) A lits (with_units given (units assumed) logged) (infers_rup (given ++ logged) lits h))

pub refuted_inferred : (s : HeldState) (assumed lits : List Lit) → IsInferred s lits → AreAssumedFalse lits assumed → IsRefuted s assumed
refuted_inferred s assumed lits h all = refuted_one s.given s.learnt assumed lits h all

opposed_one : (given logged : List (List Lit)) (assumed : List Lit) → IsOpposed assumed → IsRup ((given ++ units assumed) ++ logged) []
opposed_one given logged assumed h =
    let A = (given ++ units assumed) ++ logged in
    let l = h.0 in
    record {
      clause = negation l ∷ [];
      one = unit_in given logged assumed (negation l) h.2;
      forced = λ q there.
          elim (head_or_tail (negation l) [] q there) [
            | inl same ↦ subst (Forced A []) (sym (negation_twice l) ∙ ap negation same) (unit_forces A [] l (unit_in given logged assumed l h.1))
            | inr none ↦ empty_has q none
          ];
    }

pub refuted_opposed : (s : HeldState) (assumed : List Lit) → IsOpposed assumed → IsRefuted s assumed
refuted_opposed s assumed h = opposed_one s.given s.learnt assumed h
