-- A word that breaks the form ends the reading; else it goes behind the state words so far.
use Rattle.std.proofs.Common.{◌≡◌, ◌<◌, ◌≤◌, length, true, false, arith, rules}
use Rattle.fsm_spec.specs.Words.{is_word, is_among}
use Rattle.std.proofs.lemmas.Bool.Decides.{nat_tests}
use Rattle.fsm_spec.proofs.FormProofs.{none_of, some_of, states_grow, states_full, states_other, states_twice, states_few, states_done, states_end}
use Rattle.fsm_spec.proofs.forms.state_words.Goals as goal
use Rattle.fsm_spec.proofs.forms.state_words.Goals.{then-len-eq-MAX_STATES-via-then-len-eq-MAX_STATES, then-len-eq-MAX_STATES-via-else-len-eq-MAX_STATES+then-not-is_word, then-len-eq-MAX_STATES-via-else-len-eq-MAX_STATES+else-not-is_word+then-is_among}

pub returns-then-len-eq-MAX_STATES : goal.returns-then-len-eq-MAX_STATES
returns-then-len-eq-MAX_STATES c = elim c.then-len-eq-MAX_STATES.branch [
  | then-len-eq-MAX_STATES-via-then-len-eq-MAX_STATES w ↦ (
      let full : length c.loop-word.states ≡ 8 = omega arith in
      none_of _ (states_full _ _ _ _ _ c.loop-word.invariant c.in-Some.ensures full))
  | then-len-eq-MAX_STATES-via-else-len-eq-MAX_STATES+then-not-is_word w ↦ (
      let other : is_word c.in-Some.word.now ≡ false = first_of (cc, grind (arith, nat_tests)) in
      none_of _ (states_other _ _ _ _ _ c.loop-word.invariant c.in-Some.ensures other))
  | then-len-eq-MAX_STATES-via-else-len-eq-MAX_STATES+else-not-is_word+then-is_among w ↦ (
      let twice : is_among c.in-Some.word.now c.loop-word.states ≡ true = first_of (cc, grind (arith, nat_tests)) in
      none_of _ (states_twice _ _ _ _ _ c.loop-word.invariant c.in-Some.ensures twice))
]

pub loop-word-preserved : goal.loop-word-preserved
loop-word-preserved c =
    let word : is_word c.in-Some.word.now ≡ true = first_of (cc, grind (arith, nat_tests)) in
    let new : is_among c.in-Some.word.now c.loop-word.states ≡ false = first_of (cc, grind (arith, nat_tests)) in
    let room : length c.loop-word.states ≡ 8 → ⊥ = first_of (grind (arith, nat_tests), search rules) in
    rw c.in_ok-push.ensures.ok (rw c.in_ok-of.ensures (states_grow _ _ _ _ _ c.loop-word.invariant c.in-Some.ensures room word new))

pub returns-then-len-lt-MIN_STATES : goal.returns-then-len-lt-MIN_STATES
returns-then-len-lt-MIN_STATES c =
    let few : length c.loop-word.states < 2 = omega arith in
    none_of _ (states_few _ _ _ c.loop-word.invariant c.in_default.ensures.0 few)

pub returns : goal.returns
returns c =
    let enough : 2 ≤ length c.loop-word.states = omega arith in
    some_of _ _ (states_end _ _ _ c.loop-word.invariant c.in_default.ensures.0) (states_done _ _ _ c.loop-word.invariant c.in_default.ensures.0 enough)
