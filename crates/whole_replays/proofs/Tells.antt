-- What is told where there is no plan, and where there is one.
use Rattle.std.proofs.Common.{◌≡◌, ◌∙◌, ℕ, Bool, true, false, List, [], map, Option, Some, sym, subst, ap}
use Rattle.std.specs.Prelude.{if◌then◌else◌, nat_le, slice_index_or}
use Rattle.sc_base.specs.declared.skip.LimitKind.{LimitKind}
use Rattle.sc_base.specs.declared.skip.LimitKind.TheVariants as limit
use Rattle.plan_core.specs.declared.plan.Plan.{Plan}
use Rattle.sc_typed.specs.declared.program.Program.{Program}
use Rattle.sc_check.specs.Typed.{Sources, Answer, Typed, Duplicate, TooMany, typed}
use Rattle.program_plan.specs.Planned.{edges_of, most_edges}
use Rattle.sum_rows.specs.declared.report.Verdict.{Verdict}
use Rattle.program_verdicts.specs.Verdicts.{kept_of, verdict_in, verdicts}
use Rattle.fn_replay.specs.Replays.{Form, Replayed, replay_given}
use Rattle.whole_checks.specs.Said.{said, said_of, said_with}
use Rattle.whole_checks.specs.Said as check
use Rattle.whole_checks.specs.Planned.{IsPlanned}
use Rattle.whole_replays.specs.Told.{Told, Twice, Beyond, told, told_of, told_of_function, told_of_replay, function_named}

module _ (form : Form) (s : Sources) (depth reach : ℕ) (name digits : List ℕ) where
  same_name : (a b : List ℕ) → check.Twice a ≡ check.Twice b → Twice b ≡ Twice a
  same_name a b is = cc

  same_limit : (k l : LimitKind) (m n : ℕ) → check.Beyond k m ≡ check.Beyond l n → Beyond l n ≡ Beyond k m
  same_limit k l m n is = cc

  twice_of : (a : Answer) (twice : List ℕ) → said_of s depth reach a ≡ check.Twice twice → Twice twice ≡ told_of form s depth reach name digits a
  twice_of (Typed p) twice is = go (nat_le (edges_of p) most_edges) is
    where
      go : (b : Bool) → (if b then said_with p (verdicts p depth reach) else check.Beyond limit.Edges (edges_of p)) ≡ check.Twice twice
          → Twice twice ≡ (if b then told_of_function form p depth reach digits (function_named p name) else Beyond limit.Edges (edges_of p))
      go true e = absurd (cc)
      go false e = absurd (cc)
  twice_of (Duplicate first) twice is = same_name (slice_index_or s.names first []) twice is
  twice_of (TooMany count) twice is = absurd (cc)

  beyond_of : (a : Answer) (kind : LimitKind) (count : ℕ) → said_of s depth reach a ≡ check.Beyond kind count
      → Beyond kind count ≡ told_of form s depth reach name digits a
  beyond_of (Typed p) kind count is = go (nat_le (edges_of p) most_edges) is
    where
      go : (b : Bool) → (if b then said_with p (verdicts p depth reach) else check.Beyond limit.Edges (edges_of p)) ≡ check.Beyond kind count
          → Beyond kind count ≡ (if b then told_of_function form p depth reach digits (function_named p name) else Beyond limit.Edges (edges_of p))
      go true e = absurd (cc)
      go false e = same_limit limit.Edges kind (edges_of p) count e
  beyond_of (Duplicate first) kind count is = absurd (cc)
  beyond_of (TooMany functions) kind count is = same_limit limit.Functions kind functions count is

  pub twice_is_told : (twice : List ℕ) → said s depth reach ≡ check.Twice twice → Twice twice ≡ told form s depth reach name digits
  unfolding said told
  twice_is_told twice is = twice_of (typed s) twice is

  pub beyond_is_told : (kind : LimitKind) (count : ℕ) → said s depth reach ≡ check.Beyond kind count
      → Beyond kind count ≡ told form s depth reach name digits
  unfolding said told
  beyond_is_told kind count is = beyond_of (typed s) kind count is

  pub run_is_told : (p : Program) (plan : Plan) (found : Option ℕ) → IsPlanned s p plan → found ≡ function_named p name
      → told_of_function form p depth reach digits found ≡ told form s depth reach name digits
  unfolding told
  run_is_told p plan found is first =
      let here : Told = told_of_function form p depth reach digits found in
      let P : Answer → Type 0 = λ a. here ≡ told_of form s depth reach name digits a in
      let Q : Bool → Type 0 =
      λ b. here ≡ (if b then told_of_function form p depth reach digits (function_named p name) else Beyond limit.Edges (edges_of p)) in
      subst P (sym is.typed) (subst Q (sym is.edges) (ap (told_of_function form p depth reach digits) first))

-- the replay of a function by the verdicts of its kept callees
pub replay_is_told : (form : Form) (p : Program) (depth reach f : ℕ) (digits kept : List ℕ) (vs : List Verdict) (made : Replayed) → kept ≡ kept_of p f
    → vs ≡ map (verdict_in p depth reach) (kept_of p f) → made ≡ replay_given form p depth reach f kept vs digits
    → told_of_replay made ≡ told_of_function form p depth reach digits (Some f)
replay_is_told form p depth reach f digits kept vs made callees verdicts is =
    ap told_of_replay
    (is
    ∙ (ap (λ (ks : List ℕ). replay_given form p depth reach f ks vs digits) callees
    ∙ ap (λ (ws : List Verdict). replay_given form p depth reach f (kept_of p f) ws digits) verdicts))
