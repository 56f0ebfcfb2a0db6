-- The verdicts of functions that are needed, where those of the others are spared.
use Rattle.std.proofs.Common.{◌≡◌, ◌∙◌, ◌⊎◌, ℕ, ◌+◌, ◌^◌, ◌<◌, ◌≤◌, Bool, true, false, List, [], ◌∷◌, length, get_or, map, zero-add, refl, sym, subst, ap, arith, inl, inr}
use Rattle.std.specs.List.{list_any, All}
use Rattle.std.proofs.lemmas.Bool.{or_parts, cond-false, cases_lt}
use Rattle.std.proofs.lemmas.List.Elements.{All-head, All-tail, All-contains_itself, All-weaker}
use Rattle.std.proofs.lemmas.List.FromFn.{length-map-range_with_len, get_or-map-range_with_len}
use Rattle.std.specs.Prelude.{Contains}
use Rattle.sum_rows.specs.declared.report.Verdict.{Verdict}
use Rattle.plan_core.specs.declared.plan.Plan.{Plan}
use Rattle.plan_core.specs.Graph.{IsGraph, IsPlan, plan_of, callees, kept_callees}
use Rattle.program_verdicts.specs.CallGraph.{plan, row, rows}
use Rattle.whole_checks.proofs.Plans.{plan_is_plan, callees_are_kept}
use Rattle.sc_typed.specs.declared.program.Program.{Program}
use Rattle.program_verdicts.specs.Verdicts.{kept_of, no_verdict, verdict_in}
use Rattle.work_pool.specs.Outputs.{outputs_of}
use Rattle.whole_replays.specs.Spared.{is_spared, is_met, AreNeeded, verdict_unless_spared, verdict_at}

-- nothing is spared of no function
pub none_spared : (fs : List ℕ) → list_any (is_spared []) fs ≡ false
none_spared [] = refl
none_spared (f ∷ fs) = none_spared fs

module _ (p : Program) (depth reach : ℕ) (spared : List Bool) where
  pub one_needed : (f : ℕ) → is_spared spared f ≡ false → verdict_unless_spared p depth reach spared f ≡ verdict_in p depth reach f
  one_needed f is = cond-false (is_spared spared f) no_verdict (verdict_in p depth reach f) is

  pub all_needed : (fs : List ℕ) → list_any (is_spared spared) fs ≡ false
      → map (verdict_unless_spared p depth reach spared) fs ≡ map (verdict_in p depth reach) fs
  all_needed [] none = refl
  all_needed (f ∷ fs) none =
      let parts = or_parts (is_spared spared f) (list_any (is_spared spared) fs) none in
      ap (λ (v : Verdict). v ∷ map (verdict_unless_spared p depth reach spared) fs) (one_needed f parts.0)
      ∙ ap (λ (vs : List Verdict). verdict_in p depth reach f ∷ vs) (all_needed fs parts.1)

-- out of the outputs of all functions those of some
pub taken : (defined : ℕ → Verdict) (all : List Verdict) (n : ℕ) → all ≡ outputs_of defined n → (fs : List ℕ) → All (λ f. f < n) fs
    → map (verdict_at all) fs ≡ map defined fs
taken defined all n are [] inside = refl
taken defined all n are (f ∷ fs) inside =
    let here : f < n = All-head (λ g. g < n) f fs inside in
    ap (λ (v : Verdict). v ∷ map (verdict_at all) fs)
    (ap (λ (vs : List Verdict). get_or vs f no_verdict) are ∙ get_or-map-range_with_len defined 0 n f f no_verdict here (zero-add f))
    ∙ ap (λ (vs : List Verdict). defined f ∷ vs) (taken defined all n are fs (All-tail (λ g. g < n) f fs inside))

-- the callees of a function in a plan are functions of it
pub callees_inside : (rows : List (List ℕ)) → IsPlan rows → (f : ℕ) → All (λ g. g < length rows) (callees rows f)
callees_inside rows plan f =
    All-weaker (Contains (callees rows f)) (λ g. g < length rows) (λ g is. plan.inside f g is) (callees rows f) (All-contains_itself (callees rows f))

pub met_more : (rows : List (List ℕ)) (spared : List Bool) (n : ℕ) → ((f : ℕ) → f < n → is_met rows spared f ≡ true)
    → is_met rows spared n ≡ true → (f : ℕ) → f < n + 1 → is_met rows spared f ≡ true
met_more rows spared n before here f low = go (cases_lt f n)
  where
    go : (f < n) ⊎ (n ≤ f) → is_met rows spared f ≡ true
    go (inl earlier) = before f earlier
    go (inr last) =
        let same : n ≡ f = omega (arith, low, last) in
        subst (λ (k : ℕ). is_met rows spared k ≡ true) same here

-- ---- the kept callees of a function

-- the plan has a row for each function
as_many : (p : Program) → length (plan p).callees ≡ length p.functions
as_many p = length-map-range_with_len (kept_callees (rows p)) 0 (length (rows p)) ∙ length-map-range_with_len (row p) 0 (length p.functions)

pub kept_are_callees : (p : Program) (made : Plan) (f : ℕ) → made ≡ plan p → f < length p.functions → callees made.callees f ≡ kept_of p f
kept_are_callees p made f same inside =
    let many : length (plan p).callees ≡ length p.functions = as_many p in
    ap (λ (q : Plan). callees q.callees f) same ∙ callees_are_kept p f (omega (arith, many, inside))

pub is_plan : ((rows : List (List ℕ)) → IsGraph rows → IsPlan (plan_of rows).callees) → (p : Program) (made : Plan) → made ≡ plan p
    → length p.functions < 2 ^ 32 → IsPlan made.callees
is_plan law p made same few = let P : Plan → Type 0 = λ q. IsPlan q.callees in subst P (sym same) (plan_is_plan law p few)

-- their verdicts, out of those of all that are not spared
pub kept_verdicts : (p : Program) (made : Plan) (depth reach : ℕ) (spared : List Bool) (f : ℕ) (all vs : List Verdict)
    → ((rows : List (List ℕ)) → IsGraph rows → IsPlan (plan_of rows).callees) → made ≡ plan p → length p.functions < 2 ^ 32 → f < length p.functions
    → all ≡ outputs_of (verdict_unless_spared p depth reach spared) (length made.callees) → AreNeeded spared (callees made.callees f)
    → vs ≡ map (verdict_at all) (callees made.callees f) → vs ≡ map (verdict_in p depth reach) (kept_of p f)
kept_verdicts p made depth reach spared f all vs law same few inside outputs needed are =
    are
    ∙ (taken (verdict_unless_spared p depth reach spared) all (length made.callees) outputs (callees made.callees f)
    (callees_inside made.callees (is_plan law p made same few) f)
    ∙ (all_needed p depth reach spared (callees made.callees f) needed
    ∙ ap (map (verdict_in p depth reach)) (kept_are_callees p made f same inside)))
