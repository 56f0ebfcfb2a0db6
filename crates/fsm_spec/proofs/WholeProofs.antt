-- Each machine that a file spells has two to eight states, and targets in range.
use Rattle.std.proofs.Common.{◌≡◌, ℕ, zero, suc, ◌<◌, ◌≤◌, Bool, true, List, [], ◌∷◌, length, refl, ap, subst, arith, Option, Some, None, inl, inr}
use Rattle.std.specs.Prelude.{◌&&◌, ◌==◌, nat_le, nat_lt, is_some, bytes_eq, option_map, option_and_then, slice_get, position, unwrap_or, codes}
use Rattle.std.specs.List.{list_all, cons_option, position_or_len}
use Rattle.std.proofs.lemmas.Bool.{and_parts, and_from, cases_Bool, leb-true, ltb-true, lt-ltb, eq-eqb}
use Rattle.fsm_spec.specs.declared.table.MachineSpec.{MachineSpec}
use Rattle.fsm_spec.specs.declared.table.Operation.{Operation}
use Rattle.fsm_spec.specs.declared.table.Returns.{Returns}
use Rattle.fsm_spec.specs.Words.{is_word, is_word_byte, lines, number_of, words}
use Rattle.fsm_spec.specs.Forms.{after, are_states, both, goal_in, head_in, is_function, name_in, operation_in, operation_of, returns_in, states_in, target_in, targets_in, with_targets}
use Rattle.fsm_spec.specs.Reading.{operation_at, operations_in, are_operations, begins, begins_with, broken_line, machine_of, Machine, Breaks, spelled, spelled_by}
use Rattle.fsm_spec.specs.Table.{IsWhole, first_target, has_targets, is_target, joined, targets_at, targets_of}
use Rattle.fsm_spec.specs.Lock.{lock_file, locks}

-- ---- targets

position_below : {X : Type 0} (p : X → Bool) (xs : List X) (i : ℕ) → position p xs ≡ Some i → i < length xs
position_below p xs i e = elim (cases_Bool (nat_lt (position_or_len p xs) (length xs))) [
  | inl t ↦ (
      let f : Some (position_or_len p xs) ≡ Some i = rw t at e in
      let g : position_or_len p xs ≡ i = cc in
      let h : position_or_len p xs < length xs = ltb-true _ _ t in
      omega arith)
  | inr f ↦ (let g : None ≡ Some i = rw f at e in absurd (cc))
]

numbered : (k : ℕ) (o : Option ℕ) (t : Option ℕ) → ((i : ℕ) → o ≡ Some i → i < k) → option_map Some o ≡ Some t → is_target k t ≡ true
numbered k None t below e = absurd (cc)
numbered k (Some i) t below e =
    let f : Some i ≡ t = cc in
    subst (λ (x : Option ℕ). is_target k x ≡ true) f (lt-ltb i k (below i refl))

goal_below : (states : List (List ℕ)) (goal : List ℕ) (t : Option ℕ) → goal_in states goal ≡ Some t → is_target (length states) t ≡ true
unfolding goal_in
goal_below states goal t e = elim (cases_Bool (bytes_eq goal (codes "!"))) [
  | inl y ↦ (
      let f : Some None ≡ Some t = rw y at e in
      let g : None ≡ t = cc in
      subst (λ (x : Option ℕ). is_target (length states) x ≡ true) g refl)
  | inr n ↦ (
      let f : option_map Some (number_of goal states) ≡ Some t = rw n at e in
      numbered (length states) (number_of goal states) t (position_below _ states) f)
]

then_some : {X Y : Type 0} (f : X → Option Y) (o : Option X) (y : Y) → option_and_then f o ≡ Some y → (x : X) × (f x ≡ Some y)
then_some f None y e = absurd (cc)
then_some f (Some x) y e = (x, e)

target_below : (states : List (List ℕ)) (state word : List ℕ) (t : Option ℕ) → target_in states state word ≡ Some t → is_target (length states) t ≡ true
unfolding target_in
target_below states state word t e =
    let rest = then_some (λ rest. option_and_then (goal_in states) (after (codes ">") rest)) (after state word) t e in
    let goal = then_some (goal_in states) (after (codes ">") rest.0) t rest.1 in
    goal_below states goal.0 t goal.1

both_whole : (k n : ℕ) (a : Option (Option ℕ)) (b : Option (List (Option ℕ))) (ts : List (Option ℕ)) → ((t : Option ℕ) → a ≡ Some t → is_target k t ≡ true) → ((us : List (Option ℕ)) → b ≡ Some us → (length us ≡ n) × (list_all (is_target k) us ≡ true)) → both a b ≡ Some ts → (length ts ≡ suc n) × (list_all (is_target k) ts ≡ true)
both_whole k n None b ts p q e = absurd (cc)
both_whole k n (Some t) None ts p q e = absurd (cc)
both_whole k n (Some t) (Some us) ts p q e =
    let f : t ∷ us ≡ ts = cc in
    let r = q us refl in
    subst (λ (xs : List (Option ℕ)). (length xs ≡ suc n) × (list_all (is_target k) xs ≡ true)) f (ap suc r.0, and_from _ _ (p t refl) r.1)

targets_whole : (states more ws : List (List ℕ)) (ts : List (Option ℕ)) → targets_in states more ws ≡ Some ts → (length ts ≡ length more) × (list_all (is_target (length states)) ts ≡ true)
targets_whole states [] [] ts e =
    let f : [] ≡ ts = cc in
    subst (λ (xs : List (Option ℕ)). (length xs ≡ 0) × (list_all (is_target (length states)) xs ≡ true)) f (refl, refl)
targets_whole states [] (w ∷ ws) ts e = absurd (cc)
targets_whole states (s ∷ more) [] ts e = absurd (cc)
targets_whole states (s ∷ more) (w ∷ ws) ts e = both_whole (length states) (length more) (target_in states s w) (targets_in states more ws) ts (target_below states s w) (targets_whole states more ws) e

-- ---- operations

made_whole : (k : ℕ) (f : List ℕ) (r : Returns) (a : Option (List (Option ℕ))) (o : Operation) → ((ts : List (Option ℕ)) → a ≡ Some ts → (length ts ≡ k) × (list_all (is_target k) ts ≡ true)) → operation_of f r a ≡ Some o → has_targets k o ≡ true
made_whole k f r None o p e = absurd (cc)
made_whole k f r (Some ts) o p e =
    let q = p ts refl in
    let g : record { function = f; returns = r; targets = ts } ≡ o = cc in
    let P : Operation → Type 0 = λ x. has_targets k x ≡ true in
    subst P g (and_from _ _ (eq-eqb (length ts) k q.0) q.1)

with_whole : (states : List (List ℕ)) (h : Option (List ℕ × Returns × List (List ℕ))) (o : Operation) → with_targets states h ≡ Some o → has_targets (length states) o ≡ true
with_whole states None o e = absurd (cc)
with_whole states (Some (f, r, ws)) o e = made_whole (length states) f r (targets_in states states ws) o (targets_whole states states ws) e

operation_whole : (states ws : List (List ℕ)) (o : Operation) → operation_in states ws ≡ Some o → has_targets (length states) o ≡ true
unfolding operation_in
operation_whole states ws o e = with_whole states (head_in ws) o e

-- each line has an operation, and each operation is whole
cons_whole : (k n : ℕ) (a : Option Operation) (os : List Operation) → ((o : Operation) → a ≡ Some o → has_targets k o ≡ true) → is_some a ≡ true → length os ≡ n → list_all (has_targets k) os ≡ true → (length (cons_option a os) ≡ suc n) × (list_all (has_targets k) (cons_option a os) ≡ true)
cons_whole k n None os p s l e = absurd (cc)
cons_whole k n (Some o) os p s l e = (ap suc l, and_from _ _ (p o refl) e)

operations_whole : (states ls : List (List ℕ)) → list_all (λ line. is_some (operation_at states line)) ls ≡ true → (length (operations_in states ls) ≡ length ls) × (list_all (has_targets (length states)) (operations_in states ls) ≡ true)
operations_whole states [] e = (refl, refl)
operations_whole states (l ∷ ls) e =
    let p = and_parts (is_some (operation_at states l)) (list_all (λ line. is_some (operation_at states line)) ls) e in
    let r = operations_whole states ls p.1 in
    cons_whole (length states) (length ls) (operation_at states l) (operations_in states ls) (operation_whole states (words l)) p.0 r.0 r.1

-- ---- the questions

get_whole : {X : Type 0} (p : X → Bool) (xs : List X) (i : ℕ) (x : X) → list_all p xs ≡ true → slice_get xs i ≡ Some x → p x ≡ true
get_whole p [] i x a e = absurd (cc)
get_whole p (y ∷ ys) zero x a e =
    let f : y ≡ x = cc in
    subst (λ z. p z ≡ true) f (and_parts (p y) (list_all p ys) a).0
get_whole p (y ∷ ys) (suc i) x a e = get_whole p ys i x (and_parts (p y) (list_all p ys) a).1 e

at_whole : (k : ℕ) (o : Option Operation) → ((x : Operation) → o ≡ Some x → has_targets k x ≡ true) → list_all (is_target k) (targets_of o) ≡ true
at_whole k None p = refl
at_whole k (Some x) p = (and_parts (length x.targets == k) (list_all (is_target k) x.targets) (p x refl)).1

joined_below : (k : ℕ) (o : Option (Option ℕ)) (t : ℕ) → ((x : Option ℕ) → o ≡ Some x → is_target k x ≡ true) → joined o ≡ Some t → t < k
joined_below k None t p e = absurd (cc)
joined_below k (Some x) t p e =
    let a : is_target k x ≡ true = p x refl in
    let b : nat_lt t k ≡ true = rw e at a in
    ltb-true t k b

first_below : (k : ℕ) (ts : List (Option ℕ)) (t : ℕ) → list_all (is_target k) ts ≡ true → first_target ts ≡ Some t → t < k
first_below k [] t a e = absurd (cc)
first_below k (None ∷ ts) t a e = first_below k ts t a e
first_below k (Some x ∷ ts) t a e =
    let f : x ≡ t = cc in
    subst (λ (y : ℕ). y < k) f (ltb-true x k (and_parts (nat_lt x k) (list_all (is_target k) ts) a).0)

whole_by : (machine : MachineSpec) → 2 ≤ length machine.states → length machine.states ≤ 8 → 1 ≤ length machine.operations → length machine.operations ≤ 64 → list_all (has_targets (length machine.states)) machine.operations ≡ true → IsWhole machine
whole_by machine a b c d e = record {
  least_states = a;
  most_states = b;
  least_operations = c;
  most_operations = d;
  targets = e;
  in_range = λ op state t f. joined_below (length machine.states) (slice_get (targets_at machine op) state) t (λ x g. get_whole (is_target (length machine.states)) (targets_at machine op) state x (at_whole (length machine.states) (slice_get machine.operations op) (λ o h. get_whole (has_targets (length machine.states)) machine.operations op o e h)) g) f;
  any_in_range = λ op t f. first_below (length machine.states) (targets_at machine op) t (at_whole (length machine.states) (slice_get machine.operations op) (λ o h. get_whole (has_targets (length machine.states)) machine.operations op o e h)) f;
}

-- ---- files

key_states : (ws ss : List (List ℕ)) → states_in ws ≡ Some ss → are_states ss ≡ true
unfolding states_in
key_states [] ss e = absurd (cc)
key_states (key ∷ names) ss e = elim (cases_Bool (bytes_eq key (codes "states") && are_states names)) [
  | inl t ↦ (
      let f : Some names ≡ Some ss = rw t at e in
      let g : names ≡ ss = cc in
      subst (λ (x : List (List ℕ)). are_states x ≡ true) g (and_parts (bytes_eq key (codes "states")) (are_states names) t).1)
  | inr n ↦ (let f : None ≡ Some ss = rw n at e in absurd (cc))
]

behind : (name : List ℕ) (o : Option (List (List ℕ))) (ls : List (List ℕ)) → ((ss : List (List ℕ)) → o ≡ Some ss → are_states ss ≡ true) → begins_with o ls ≡ true → 1 ≤ length ls → IsWhole (record { name = name; states = unwrap_or o []; operations = operations_in (unwrap_or o []) ls })
unfolding are_operations are_states
behind name None ls p e l = absurd (cc)
behind name (Some ss) ls p e l =
    let s = p ss refl in
    let s2 = and_parts (nat_le 2 (length ss)) _ s in
    let s8 = and_parts (nat_le (length ss) 8) _ s2.1 in
    let a = and_parts (nat_le (length ls) 64) _ e in
    let b = and_parts (list_all (λ line. is_some (operation_at ss line)) ls) _ a.1 in
    let r = operations_whole ss ls b.0 in
    let n : length (operations_in ss ls) ≡ length ls = r.0 in
    let most : length ls ≤ 64 = leb-true _ _ a.0 in
    whole_by _ (leb-true _ _ s2.0) (leb-true _ _ s8.0) (omega arith) (omega arith) r.1

lines_whole : (ls : List (List ℕ)) → nat_le 3 (length ls) ≡ true → begins ls ≡ true → IsWhole (machine_of ls)
lines_whole [] n e = absurd (cc)
lines_whole (first ∷ []) n e = absurd (cc)
lines_whole (first ∷ second ∷ ls) n e =
    let m : 3 ≤ suc (suc (length ls)) = leb-true _ _ n in
    behind (unwrap_or (name_in (words first)) []) (states_in (words second)) ls (key_states (words second)) (and_parts (is_some (name_in (words first))) (begins_with (states_in (words second)) ls) e).1 (omega arith)

by_whole : (ls : List (List ℕ)) (machine : MachineSpec) → spelled_by ls ≡ Machine machine → IsWhole machine
by_whole ls machine e = elim (cases_Bool (nat_le 3 (length ls) && begins ls)) [
  | inl t ↦ (
      let f : Machine (machine_of ls) ≡ Machine machine = rw t at e in
      let g : machine_of ls ≡ machine = cc in
      let p = and_parts (nat_le 3 (length ls)) (begins ls) t in
      subst IsWhole g (lines_whole ls p.0 p.1))
  | inr n ↦ (let f : Breaks (broken_line ls) ≡ Machine machine = rw n at e in absurd (cc))
]

pub whole : (bytes : List ℕ) (machine : MachineSpec) → spelled bytes ≡ Machine machine → IsWhole machine
unfolding spelled
whole bytes machine e = by_whole (lines bytes) machine e

lock_spelled : spelled lock_file ≡ Machine locks
unfolding is_word is_word_byte name_in are_states states_in is_function returns_in goal_in target_in head_in operation_in are_operations spelled locks
lock_spelled = refl

pub lock_whole : IsWhole locks
lock_whole = whole lock_file locks lock_spelled
