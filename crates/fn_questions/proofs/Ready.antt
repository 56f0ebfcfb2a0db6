-- Questions that are asked.
use Rattle.std.proofs.Common.{◌≡◌, ◌⊎◌, ℕ, ◌<◌, ◌≤◌, ◌^◌, nat_eq, nat_lt, Bool, true, false, ◌&&◌, ◌||◌, List, [], length, map, Option, Some, None, inl, inr, refl, sym, ◌∙◌, ap, subst, arith}
use Rattle.std.specs.List.{list_all}
use Rattle.std.specs.Prelude.{IfSome, All}
use Rattle.std.proofs.lemmas.List.Elements.{All-nil, All-weaker}
use Rattle.std.proofs.lemmas.Bool.{ltb-true}
use Rattle.std.proofs.lemmas.List.Folds.{list_all-map}
use Rattle.bit_net.specs.declared.nodes.Node.{Node}
use Rattle.bit_net.specs.Runs.{Runs, Grown}
use Rattle.flow_ends.specs.Encoded.{IsAnswer, IsEncoded}
use Rattle.flow_ends.specs.declared.encoded.Encoded.{Encoded}
use Rattle.error_laws.specs.Errors.{IsErrorOf, all_of_params, does_of_params}
use Rattle.walk_laws.specs.Objects.{HasObjects}
use Rattle.location_texts.specs.Seen.{texts}
use Rattle.sc_gather.specs.declared.found.Site.{Site as Found}
use Rattle.sc_gather.specs.Seen.{call, meaning}
use Rattle.run_world.specs.Seen.{env}
use Rattle.sc_world.specs.Gather.{Site}
use Rattle.sc_world.specs.Source.{Source}
use Rattle.sc_world.specs.declared.run.Origin.TheVariants as origin
use Rattle.sc_world.specs.Layout.{Layout, location, location_of, or_zero}
use Rattle.sc_world.specs.World.{bit_at}
use Rattle.sc_world.specs.Exec.{run}
use Rattle.sc_world.specs.Shows as shows
use Rattle.sc_world.specs.Shows.{Over, Query, exits, is_fate, has_out_row, has_param_row, param_object, result, says}
use Rattle.sc_world.specs.Verdict.{run_over}
use Rattle.sum_rows.specs.declared.row.Row.{Row}
use Rattle.sum_rows.specs.declared.row.State.TheVariants as state
use Rattle.sc_world.specs.Known.{same_gives, same_state}
use Rattle.fn_facts.specs.declared.around.Around.{Around}
use Rattle.fn_facts.specs.Seen.{begins, ends_so, given, is_given, is_met, over, state_before, state_now}
use Rattle.fn_facts.specs.Showing.{AreShared, HasErrorsOf, IsReady, Shows}
use Rattle.fn_facts.proofs.Growing.{ready_grows, shared_grows, shows_grows}
use Rattle.fn_walks.specs.Seen.{fate}
use Rattle.fn_walks.specs.declared.walking.Walk.{Walk}
use Rattle.fn_walks.specs.Walks.{IsWalk}
use Rattle.fn_walks.proofs.Reaching.{walk_grows}
use Rattle.fn_questions.specs.declared.facts.Facts.{Facts}
use Rattle.fn_questions.specs.declared.facts.Begun.{Begun}
use Rattle.fn_questions.specs.declared.facts.Ended.{Ended}
use Rattle.fn_questions.specs.Asking.{AreFacts, IsReadyToAsk, ShowsBegin, ShowsEnd, errs_at_locations}
use Rattle.fn_questions.specs.Seen.{out_fate, row_with}

-- What is known stays while the net grows.

begun_grows : (a : Around) (old new : List Node) (b : Option Begun) → Grown old new → IfSome b (ShowsBegin a old) → IfSome b (ShowsBegin a new)
begun_grows a old new None g s = s
begun_grows a old new (Some b) g s = shows_grows a old new (λ o. begins o b.at b.row) b.gate.at g s

walk_grows_if : (a : Around) (old new : List Node) (w : Option Walk) → Grown old new → IfSome w (IsWalk a old) → IfSome w (IsWalk a new)
walk_grows_if a old new None g s = s
walk_grows_if a old new (Some w) g s = walk_grows a old new w g s

ended_grow : (a : Around) (old new : List Node) (es : List Ended) → Grown old new → All (ShowsEnd a old) es → All (ShowsEnd a new) es
ended_grow a old new es g all =
    All-weaker (ShowsEnd a old) (ShowsEnd a new)
    (λ e s. shows_grows a old new (λ o. exits o && ends_so o e.at e.row) e.gate.at g s) es all

pub facts_grow : (old new : List Node) (f : Facts) → Grown old new → AreFacts old f → AreFacts new f
facts_grow old new f g a =
    record {
      ready = ready_grows f.around old new g a.ready;
      objects = a.objects;
      shared = shared_grows f.around old new f.shared g a.shared;
      begun = begun_grows f.around old new f.begun g a.begun;
      ended = ended_grow f.around old new f.ended.items g a.ended;
      walk = walk_grows_if f.around old new f.walk g a.walk;
    }

-- rows that begin alike
begin_alike : (o : Over) (at : ℕ) (r s : Row) → r.given ≡ s.given → r.before ≡ s.before → begins o at r ≡ begins o at s
unfolding begins
begin_alike o at r s same_given same_before =
    ap (λ n. is_met o at && (nat_eq n (given o) && same_state r.before (state.At (state_before o at)))) same_given
    ∙ ap (λ x. is_met o at && (nat_eq s.given (given o) && same_state x (state.At (state_before o at)))) same_before

pub begun_shown : (a : Around) (ns : List Node) (b : Begun) (at : ℕ) (row : Row) → b.at ≡ at → b.row.given ≡ row.given → b.row.before ≡ row.before
    → ShowsBegin a ns b → Shows a ns (λ o. begins o at row) b.gate.at
begun_shown a ns b at row there same_given same_before s =
    record {
      below = s.below;
      value = λ bits v r w runs t.
          s.value bits v r w runs t
          ∙ ap (λ k. begins (over a bits r w) k b.row) there
          ∙ begin_alike (over a bits r w) at b.row row same_given same_before;
    }

-- rows that end alike
end_alike : (o : Over) (at : ℕ) (r s : Row) → r.result ≡ s.result → r.after ≡ s.after → ends_so o at r ≡ ends_so o at s
unfolding ends_so
end_alike o at r s same_gift same_after =
    ap (λ g. same_gives g (result o) && same_state r.after (state.At (state_now o at))) same_gift
    ∙ ap (λ x. same_gives s.result (result o) && same_state x (state.At (state_now o at))) same_after

pub ended_shown : (a : Around) (ns : List Node) (e : Ended) (at : ℕ) (row : Row) → e.at ≡ at → e.row.result ≡ row.result → e.row.after ≡ row.after
    → ShowsEnd a ns e → Shows a ns (λ o. exits o && ends_so o at row) e.gate.at
ended_shown a ns e at row there same_gift same_after s =
    record {
      below = s.below;
      value = λ bits v r w runs t.
          (let o = over a bits r w in
          s.value bits v r w runs t
          ∙ ap (λ b. exits o && b) (ap (λ k. ends_so o k e.row) there ∙ end_alike o at e.row row same_gift same_after));
    }

encoded_grows : (s : Source) (p : Layout) (old new : List Node) (e : Encoded) → Grown old new → IsEncoded s p old e → IsEncoded s p new e
encoded_grows s p old new e g is =
    record {
      inputs = g.inputs ∙ is.inputs;
      fates = record {
        over = omega (arith, is.fates.over, g.longer);
        bads = omega (arith, is.fates.bads, g.longer);
        stopped = omega (arith, is.fates.stopped, g.longer);
        touched = omega (arith, is.fates.touched, g.longer);
        noted = omega (arith, is.fates.noted, g.longer);
        each_bad = is.fates.each_bad;
        each_touched = is.fates.each_touched;
        each_noted = is.fates.each_noted;
        are_noted = record { holds = λ choice v runs. is.fates.are_noted.holds choice v (g.runs choice v runs) };
      };
      store = omega (arith, is.store, g.longer);
      kinds = is.kinds;
      result = omega (arith, is.result, g.longer);
      kind = is.kind;
      tells = λ bits few v runs. is.tells bits few v (g.runs (bit_at bits) v runs);
    }

pub ready_to_ask_grows : (old new : List Node) (f : Facts) → Grown old new → IsReadyToAsk old f → IsReadyToAsk new f
ready_to_ask_grows old new f g r =
    record {
      facts = facts_grow old new f g r.facts;
      texts = r.texts;
      encoded = encoded_grows (env f.around.here).source (env f.around.here).layout old new f.around.encoded.now g r.encoded;
      errors = r.errors;
    }

-- the same of what was asked once more
pub asked_on : (old new : List Node) (f f' : Facts) → Grown old new → IsReadyToAsk old f → AreFacts new f' → f'.around ≡ f.around → f'.texts ≡ f.texts
    → IsReadyToAsk new f'
asked_on old new f f' g r facts around spelled =
    record {
      facts = facts;
      texts = ap (λ t. (texts t).layout) spelled ∙ (r.texts ∙ sym (ap (λ (a : Around). (env a.here).layout) around));
      encoded =
          subst (λ (a : Around). IsEncoded (env a.here).source (env a.here).layout new a.encoded.now) (sym around)
          (encoded_grows (env f.around.here).source (env f.around.here).layout old new f.around.encoded.now g r.encoded);
      errors = subst (λ (a : Around). HasErrorsOf (env a.here).source (env a.here).layout) (sym around) r.errors;
    }

-- A gate that shows what runs answer is the answer.

says_of : (f : Facts) (ns : List Node) (q : Query) (g : ℕ) → IsReadyToAsk ns f → Shows f.around ns (λ o. says (texts f.texts) o q) g
    → (bits : List Bool) → length bits ≤ (env f.around.here).layout.bits → (v : ℕ → Bool) → Runs ns (bit_at bits) v
    → v g ≡ says (texts f.texts) (run_over (env f.around.here).source (env f.around.here).layout bits) q
says_of f ns q g r s bits few v runs =
    let ended = run (env f.around.here).source (env f.around.here).layout bits in
    s.value bits v ended.0 ended.1 runs (record { few = few; tells = r.encoded.tells bits few v runs; error = r.errors.error bits few })

pub answer_shown : (f : Facts) (ns : List Node) (q : Query) (g : ℕ) → IsReadyToAsk ns f → Shows f.around ns (λ o. says (texts f.texts) o q) g
    → IsAnswer (env f.around.here).source (texts f.texts) ns q g
answer_shown f ns q g r s =
    record {
      below = s.below;
      says =
          subst
          (λ p. (bits : List Bool) → length bits ≤ p.bits → (v : ℕ → Bool) → Runs ns (bit_at bits) v
          → v g ≡ says (texts f.texts) (run_over (env f.around.here).source p bits) q)
          (sym r.texts) (says_of f ns q g r s);
    }

-- What a function is asked about whose runs were made gates.

pub made_ready : (a : Around) (ns : List Node) → length a.here.places.now.locations.items < 2 ^ 32
    → IsEncoded (env a.here).source (env a.here).layout ns a.encoded.now → IsReady a ns
made_ready a ns few is =
    record { inputs = omega (arith, is.inputs); few = few; fates = is.fates; store = is.store; result = is.result }

abbrev pub ErrsThere : Source → Layout → Type 0
ErrsThere s p = (bits : List Bool) → IsErrorOf p (run s p bits).0

one_of : (a b : Bool) → (a || b) ≡ true → (a ≡ true) ⊎ (b ≡ true)
one_of true b h = inl refl
one_of false b h = inr h

errs_by : (s : Source) (p : Layout) → ((bits : List Bool) → 0 < length p.locations → IsErrorOf p (run s p bits).0)
    → ((bits : List Bool) → all_of_params s p ≡ true → IsErrorOf p (run s p bits).0)
    → (nat_lt 0 (length p.locations) ≡ true) ⊎ (all_of_params s p ≡ true) → ErrsThere s p
errs_by s p some none (inl h) = λ bits. some bits (ltb-true 0 (length p.locations) h)
errs_by s p some none (inr h) = λ bits. none bits h

pub errs_so : (s : Source) (p : Layout) → ((bits : List Bool) → 0 < length p.locations → IsErrorOf p (run s p bits).0)
    → ((bits : List Bool) → all_of_params s p ≡ true → IsErrorOf p (run s p bits).0) → errs_at_locations s p ≡ true → ErrsThere s p
errs_so s p some none h = errs_by s p some none (one_of (nat_lt 0 (length p.locations)) (all_of_params s p) h)

no_walk : (a : Around) (ns : List Node) (w : Option Walk) → w ≡ None → IfSome w (IsWalk a ns)
no_walk a ns w none = subst (λ x. IfSome x (IsWalk a ns)) (sym none) tt

nothing_begun : (a : Around) (ns : List Node) (b : Option Begun) → b ≡ None → IfSome b (ShowsBegin a ns)
nothing_begun a ns b none = subst (λ x. IfSome x (ShowsBegin a ns)) (sym none) tt

nothing_ended : (a : Around) (ns : List Node) (es : List Ended) → es ≡ [] → All (ShowsEnd a ns) es
nothing_ended a ns es none = subst (All (ShowsEnd a ns)) (sym none) (All-nil (ShowsEnd a ns))

pub new_ready : (f : Facts) (old new : List Node) → length f.around.here.places.now.locations.items < 2 ^ 32
    → (texts f.texts).layout ≡ (env f.around.here).layout
    → IsEncoded (env f.around.here).source (env f.around.here).layout old f.around.encoded.now → HasObjects (env f.around.here).layout
    → ErrsThere (env f.around.here).source (env f.around.here).layout
    → Grown old new → AreShared f.around new f.shared → f.begun ≡ None → f.ended.items ≡ [] → f.walk ≡ None → IsReadyToAsk new f
new_ready f old new few same is objects errs grown made none none_ended none_walked =
    let s = (env f.around.here).source in
    let p = (env f.around.here).layout in
    let now = encoded_grows s p old new f.around.encoded.now grown is in
    record {
      facts = record {
        ready = made_ready f.around new few now;
        objects = objects;
        shared = made;
        begun = nothing_begun f.around new f.begun none;
        ended = nothing_ended f.around new f.ended.items none_ended;
        walk = no_walk f.around new f.walk none_walked;
      };
      texts = same;
      encoded = now;
      errors = record { error = λ bits short. errs bits };
    }

-- Rows of what a parameter points to.

abbrev pub pointed : Around → ℕ → ℕ
pointed a n = or_zero (location (env a.here).layout (location_of (env a.here).layout (origin.Param n))).target

pub changes_shown : (a : Around) (ns : List Node) (n k g : ℕ) → k ≡ pointed a n → Shows a ns (λ o. exits o && is_fate (fate o k)) g
    → Shows a ns (λ o. exits o && is_fate (shows.fate o (param_object o n))) g
unfolding fate
changes_shown a ns n k g e s =
    record {
      below = s.below;
      value = λ bits v r w runs t.
          s.value bits v r w runs t ∙ ap (λ m. exits (over a bits r w) && is_fate (shows.fate (over a bits r w) m)) e;
    }

pub param_row_shown : (a : Around) (ns : List Node) (n k : ℕ) (r : Row) (g : ℕ) → k ≡ pointed a n
    → Shows a ns (λ o. exits o && (is_given o n && row_with r (λ p. same_state r.after (fate p k)) o)) g
    → Shows a ns (λ o. exits o && has_param_row o n r) g
unfolding row_with fate given is_given
param_row_shown a ns n k r g e s =
    record {
      below = s.below;
      value = λ bits v q w runs t.
          (let o = over a bits q w in
          s.value bits v q w runs t ∙ ap (λ m. exits o && (is_given o n && row_with r (λ p. same_state r.after (fate p m)) o)) e);
    }

pub out_row_shown : (a : Around) (ns : List Node) (n k : ℕ) (r : Row) (g : ℕ) → k ≡ pointed a n
    → Shows a ns (λ o. exits o && (is_given o n && row_with r (λ p. same_state r.after (out_fate p k)) o)) g
    → Shows a ns (λ o. exits o && has_out_row o n r) g
unfolding row_with out_fate given is_given
out_row_shown a ns n k r g e s =
    record {
      below = s.below;
      value = λ bits v q w runs t.
          (let o = over a bits q w in
          s.value bits v q w runs t ∙ ap (λ m. exits o && (is_given o n && row_with r (λ p. same_state r.after (out_fate p m)) o)) e);
    }

-- what holds of each call as the code has it holds of each as runs see it
pub each_call : (s : Source) (xs : List Found) → list_all (λ (x : Found). does_of_params s (meaning x.effect)) xs ≡ list_all (λ (x : Site). does_of_params s x.effect) (map call xs)
each_call s xs = sym (list_all-map (λ (x : Site). does_of_params s x.effect) call xs)
