-- What a call does, by its effect.
use Rattle.std.proofs.Common.{◌≡◌, ℕ, ◌≤◌, Bool, true, Option, Some, None, List, length, refl, sym, ◌∙◌, subst, arith}
use Rattle.bit_net.specs.declared.nodes.Node.{Node}
use Rattle.bit_net.specs.Runs.{Runs, Grown}
use Rattle.gl_store.specs.declared.values.Val.{Val}
use Rattle.gl_store.specs.declared.stores.Location.{Location as Guarded}
use Rattle.gl_store.specs.Meets.{Meets, locations_top}
use Rattle.sum_rows.specs.declared.row.Summary.{Summary}
use Rattle.run_store.specs.Concrete.{Cell}
use Rattle.sc_base.specs.declared.pos.Pos.{Pos}
use Rattle.sc_gather.specs.declared.effect.Effect.{Effect as Code}
use Rattle.sc_gather.specs.declared.effect.Effect.TheVariants as code
use Rattle.sc_gather.specs.Seen.{meaning}
use Rattle.sc_world.specs.declared.run.Reason.TheVariants as reason
use Rattle.sc_world.specs.Tree.{Ty}
use Rattle.sc_world.specs.Source.{Source, Operation, Try, Allocate, Release, Ends, Expect, Known, Unknown, sum_at}
use Rattle.sc_world.specs.Layout.{Layout, Occurrence}
use Rattle.sc_world.specs.World.{◌>>=◌, done, aside, bit_at}
use Rattle.sc_world.specs.Eval.{first_arg}
use Rattle.gate_runs.specs.declared.ends.Ends.{Ends as Gates}
use Rattle.gate_runs.specs.Stands.{AreEnds, Any, IsEndedWhere, aside_where}
use Rattle.gate_runs.proofs.Bind.{bind, does_done}
use Rattle.gate_steps.proofs.Known.{does_same}
use Rattle.gate_places.specs.Places.{env_of}
use Rattle.gate_acts.specs.Acts.{DoesOperation, DoesTry}
use Rattle.gate_objects.specs.Releases.{DoesRelease}
use Rattle.gate_objects.specs.Given.{DoesAllocate, DoesUnknown}
use Rattle.gate_known.specs.Known.{DoesKnown}
use Rattle.tr_call.specs.Calls.{DoesAct, DoesEnd, DoesKnownBy, FirstFits, IsFirst, IsSome, has_gates, some_cell, summary_of}
use Rattle.tr_call.proofs.Giving.{given_wanted, integer_wanted, pointer_wanted, try_integer, zero_wanted}

-- gates of a run are gates of a net that has grown
pub grown_ends : (n0 ns : List Node) (gates : Gates) → Grown n0 ns → AreEnds n0 gates → AreEnds ns gates
grown_ends n0 ns gates grown e =
    record {
      live = omega (arith, e.live, grown.longer);
      asides = omega (arith, e.asides, grown.longer);
      bads = omega (arith, e.bads, grown.longer);
      each = e.each;
    }

-- The program ends.

pub does_end : (s : Source) (n1 ns : List Node) (t : Ty) (always : ℕ) (old new : Gates) (r : Val) → Grown n1 ns
    → ((choice v : ℕ → Bool) → Runs n1 choice v → v always ≡ true) → IsEndedWhere n1 always reason.NoReturn old new → IsSome s ns t r → DoesEnd s ns t old new r
does_end s n1 ns t always old new r grown holds ended some =
    record {
      below = some.below;
      kind = some.kind;
      does = λ choice v runs l.
          let r1 = grown.runs choice v runs in
          does_same v l l old new (aside_where (λ w. true) reason.NoReturn >>= λ u. done (some_cell s t)) (aside {A = Cell} reason.NoReturn) (Meets v r) (λ w. refl)
          (bind v l l l old new new (aside_where (λ w. true) reason.NoReturn) (λ u. done (some_cell s t)) (Any {A = Unit {0}}) (Meets v r)
          (ended.does choice v r1 l (λ w. true) (λ w met. holds choice v r1))
          (λ u good. does_done v l new (some_cell s t) (Meets v r) (some.meets choice v runs)));
    }

-- an effect of the code that is known
pub of_effect : (s : Source) (p : Layout) (ns : List Node) (t : Ty) (o : Occurrence) (args : List Val) (old new : List Guarded) (g0 g1 : Gates) (r : Val) (e f : Code) → e ≡ f
    → (has_gates s t (meaning f) ≡ true → FirstFits s t args (meaning f) → DoesAct s p ns t o (meaning f) args old new g0 g1 r)
    → has_gates s t (meaning e) ≡ true → FirstFits s t args (meaning e) → DoesAct s p ns t o (meaning e) args old new g0 g1 r
of_effect s p ns t o args old new g0 g1 r e f same acts can first =
    subst (λ x. DoesAct s p ns t o (meaning x) args old new g0 g1 r) (sym same)
    (acts (subst (λ x. has_gates s t (meaning x) ≡ true) same can) (subst (λ x. FirstFits s t args (meaning x)) same first))

module _ (s : Source) (p : Layout) (n0 ns : List Node) (t : Ty) (o : Occurrence) (args : List Val) (old new : List Guarded) (g0 g1 : Gates) (r : Val) where
  module _ (first : Val) (grown : Grown n0 ns) (is : IsFirst n0 args first) (ends : AreEnds ns g1) (bads : length g1.bads.items ≡ length g0.bads.items) where
    pub act_operation : (n : ℕ) → has_gates s t (Operation n) ≡ true → DoesOperation s p ns t n first old new g0 g1 r → DoesAct s p ns t o (Operation n) args old new g0 g1 r
    act_operation n can d =
        record {
          below = d.below;
          kind = λ off. d.kind ∙ zero_wanted s t can off;
          top = d.top;
          same = d.same;
          ends = ends;
          bads = bads;
          does = λ bits v runs few temps turn pos cs met.
              d.does (bit_at bits) v runs bits temps turn pos (first_arg cs) (is.meets (bit_at bits) v (grown.runs (bit_at bits) v runs) cs met);
        }

    pub act_try : (success failure : ℕ) → has_gates s t (Try success failure) ≡ true → DoesTry s p ns t o.bit success failure first old new g0 g1 r
        → DoesAct s p ns t o (Try success failure) args old new g0 g1 r
    act_try success failure can d =
        record {
          below = d.below;
          kind = λ off. d.kind ∙ integer_wanted s t (try_integer s t success failure can);
          top = d.top;
          same = d.same;
          ends = ends;
          bads = bads;
          does = λ bits v runs few temps turn pos cs met.
              d.does bits v runs few temps turn o refl (first_arg cs) (is.meets (bit_at bits) v (grown.runs (bit_at bits) v runs) cs met);
        }

    pub act_release : has_gates s t Release ≡ true → DoesRelease p ns first old new g0 g1 r → DoesAct s p ns t o Release args old new g0 g1 r
    act_release can d =
        record {
          below = d.below;
          kind = λ off. cc;
          top = d.top;
          same = d.same;
          ends = ends;
          bads = bads;
          does = λ bits v runs few temps turn pos cs met.
              d.does (bit_at bits) v runs s bits temps turn (first_arg cs) (is.meets (bit_at bits) v (grown.runs (bit_at bits) v runs) cs met);
        }

  pub act_allocate : (zeroed : Bool) → has_gates s t (Allocate zeroed) ≡ true → AreEnds ns g0 → DoesAllocate p ns g0 o old new r
      → DoesAct s p ns t o (Allocate zeroed) args old new g0 g0 r
  act_allocate zeroed can ends d =
      record {
        below = d.below;
        kind = λ off. d.kind ∙ pointer_wanted s t can;
        top = d.top;
        same = d.same;
        ends = ends;
        bads = refl;
        does = λ bits v runs few temps turn pos cs met. d.does bits v runs few s temps turn;
      }

  pub act_ends : AreEnds ns g1 → length g1.bads.items ≡ length g0.bads.items → locations_top old ≤ length ns → DoesEnd s ns t g0 g1 r
      → DoesAct s p ns t o Ends args old old g0 g1 r
  act_ends ends bads top d =
      record {
        below = d.below;
        kind = d.kind;
        top = top;
        same = refl;
        ends = ends;
        bads = bads;
        does = λ bits v runs few temps turn pos cs met. d.does (bit_at bits) v runs old;
      }

  pub act_expect : FirstFits s t args Expect → AreEnds ns g0 → locations_top old ≤ length ns → IsFirst ns args r → DoesAct s p ns t o Expect args old old g0 g0 r
  act_expect fits ends top is =
      record {
        below = is.below;
        kind = λ off. is.kind ∙ fits off;
        top = top;
        same = refl;
        ends = ends;
        bads = refl;
        does = λ bits v runs few temps turn pos cs met. does_done v old g0 (first_arg cs) (Meets v r) (is.meets (bit_at bits) v runs cs met);
      }

  -- Callees.

  pub by_nothing : AreEnds ns g0 → DoesUnknown s p ns g0 o t args old new r → DoesKnownBy s p ns t o None args old new g0 g0 r
  by_nothing ends d =
      record {
        below = d.below;
        kind = d.kind;
        top = d.top;
        same = d.same;
        ends = ends;
        bads = refl;
        does = λ bits v runs few temps turn pos cs met. d.does bits v runs few temps turn cs met;
      }

  pub by_summary : (sum : Summary) → DoesKnown s p ns t o sum args old new g0 g1 r → DoesKnownBy s p ns t o (Some sum) args old new g0 g1 r
  by_summary sum d =
      record {
        below = d.below;
        kind = d.kind;
        top = d.top;
        same = d.same;
        ends = d.ends;
        bads = d.bads;
        does = λ bits v runs few temps turn pos cs met. d.does bits v runs few temps turn pos cs met;
      }

  pub act_known : (k : ℕ) → has_gates s t (Known k) ≡ true → DoesKnownBy s p ns t o (sum_at s k) args old new g0 g1 r
      → DoesAct s p ns t o (Known k) args old new g0 g1 r
  act_known k can d =
      record {
        below = d.below;
        kind = λ off. d.kind ∙ given_wanted s t can off;
        top = d.top;
        same = d.same;
        ends = d.ends;
        bads = d.bads;
        does = λ bits v runs few temps turn pos cs met. d.does bits v runs few temps turn pos cs met;
      }

  pub act_unknown : has_gates s t Unknown ≡ true → DoesKnownBy s p ns t o None args old new g0 g1 r → DoesAct s p ns t o Unknown args old new g0 g1 r
  act_unknown can d =
      record {
        below = d.below;
        kind = λ off. d.kind ∙ given_wanted s t can off;
        top = d.top;
        same = d.same;
        ends = d.ends;
        bads = d.bads;
        does = λ bits v runs few temps turn pos cs met. d.does bits v runs few temps turn pos cs met;
      }

  -- The same where it is told otherwise which callee there is.

  pub by_none : (sum : Option Summary) → sum ≡ None → AreEnds ns g0 → DoesUnknown s p ns g0 o t args old new r → DoesKnownBy s p ns t o sum args old new g0 g0 r
  by_none sum is ends d = subst (λ x. DoesKnownBy s p ns t o x args old new g0 g0 r) (sym is) (by_nothing ends d)

  pub by_some : (sum : Option Summary) (x : Summary) → sum ≡ Some x → DoesKnown s p ns t o x args old new g0 g1 r → DoesKnownBy s p ns t o sum args old new g0 g1 r
  by_some sum x is d = subst (λ y. DoesKnownBy s p ns t o y args old new g0 g1 r) (sym is) (by_summary x d)

  pub acts_known : (e : Code) (k : ℕ) → e ≡ code.Known k → has_gates s t (Known k) ≡ true
      → DoesKnownBy s p ns t o (summary_of s (meaning e)) args old new g0 g1 r → DoesAct s p ns t o (Known k) args old new g0 g1 r
  acts_known e k is can d = act_known k can (subst (λ x. DoesKnownBy s p ns t o (summary_of s (meaning x)) args old new g0 g1 r) is d)

  pub acts_unknown : (e : Code) → e ≡ code.Unknown → has_gates s t Unknown ≡ true
      → DoesKnownBy s p ns t o (summary_of s (meaning e)) args old new g0 g1 r → DoesAct s p ns t o Unknown args old new g0 g1 r
  acts_unknown e is can d = act_unknown can (subst (λ x. DoesKnownBy s p ns t o (summary_of s (meaning x)) args old new g0 g1 r) is d)
