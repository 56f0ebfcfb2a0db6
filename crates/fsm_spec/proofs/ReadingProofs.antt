-- The lines of operations that were read so far, and what follows where one breaks the form; and what the first
-- lines add to that.
use Rattle.std.proofs.Common.{◌≡◌, ℕ, zero, suc, ◌+◌, ◌<◌, ◌≤◌, Bool, true, false, List, [], ◌∷◌, ◌++◌, length, take, refl, sym, ap, subst, ◌∙◌, arith, Option, Some, None, inl, inr, ◌⊎◌, Bor}
use Rattle.std.specs.Prelude.{◌&&◌, ◌||◌, nat_le, nat_lt, is_some, Result, Ok, Err, bytes_eq, MatchOption, option_map, IsErrAnd}
use Rattle.std.specs.List.{list_all, list_any, filter_map, cons_option}
use Rattle.std.proofs.lemmas.Bool.{and_left, and_right, and_from, cases_Bool, le-leb, lt-leb, lt-ltb, le-ltb, ltb-true, ltb-false}
use Rattle.std.proofs.lemmas.List.{append-nil, append_assoc, length-append, map-append, take_at, nil_from_length}
use Rattle.std.proofs.lemmas.Bool.Decides.{nat_tests}
use Rattle.fsm_spec.specs.declared.fault.MachineAnswer.{MachineAnswer}
use Rattle.fsm_spec.specs.declared.fault.MachineAnswer.TheVariants as answer
use Rattle.fsm_spec.specs.declared.table.Operation.{Operation}
use Rattle.fsm_spec.specs.declared.table.MachineSpec.{MachineSpec}
use Rattle.fsm_spec.specs.Words.{is_among, are_different, words}
use Rattle.fsm_spec.specs.Forms.{name_in, states_in}
use Rattle.fsm_spec.specs.Reading.{operation_at, operations_in, functions, are_operations, first_fault, begins, broken_line, Spelled, Machine, Breaks, spelled_by, Answers}
use Rattle.fsm_spec.specs.Steps.{Gives, at_line, or_number, next_in, new_in, operations_answer}
use Rattle.fsm_spec.proofs.FormProofs.{all_append, repeated, still_different}

filter_append : {X Y : Type 0} (f : X → Option Y) (xs ys : List X) → filter_map f (xs ++ ys) ≡ filter_map f xs ++ filter_map f ys
filter_append f [] ys = refl
filter_append f (x ∷ xs) ys = elim (f x) as (λ o. cons_option o (filter_map f (xs ++ ys)) ≡ cons_option o (filter_map f xs) ++ filter_map f ys) [
  | None ↦ filter_append f xs ys
  | Some y ↦ ap (λ l. y ∷ l) (filter_append f xs ys)
]

pub among_functions : (f : List ℕ) (operations : List Operation) → list_any (λ o. bytes_eq o.function f) operations ≡ is_among f (functions operations)
among_functions f [] = refl
among_functions f (o ∷ os) = ap (λ b. bytes_eq o.function f || b) (among_functions f os)

-- ---- the cases of `next_in`

pub record Follows (states : List (List ℕ)) (before : List Operation) (line : List ℕ) (o : Operation) : Type 0 where
  pub room : length before < 64
  pub form : operation_at states line ≡ Some o
  pub other : is_among o.function (functions before) ≡ false

follows_new : (states : List (List ℕ)) (before : List Operation) (line : List ℕ) (o : Operation) → length before < 64 → (at : Option Operation) → operation_at states line ≡ at → new_in before at ≡ Some o → Follows states before line o
follows_new states before line o room None e n = absurd (cc)
follows_new states before line o room (Some p) e n = elim (cases_Bool (is_among p.function (functions before))) [
  | inl there ↦ (let f : None ≡ Some o = rw there at n in absurd (cc))
  | inr new ↦ (let f : Some p ≡ Some o = rw new at n in
      let g : p ≡ o = cc in
      record { room = room; form = e ∙ f; other = subst (λ (q : Operation). is_among q.function (functions before) ≡ false) g new })
]

follows : (states : List (List ℕ)) (before : List Operation) (line : List ℕ) (o : Operation) → next_in states before line ≡ Some o → Follows states before line o
unfolding next_in
follows states before line o e = elim (cases_Bool (nat_lt (length before) 64)) [
  | inl room ↦ (let f : new_in before (operation_at states line) ≡ Some o = rw room at e in follows_new states before line o (ltb-true _ _ room) (operation_at states line) refl f)
  | inr full ↦ (let f : None ≡ Some o = rw full at e in absurd (cc))
]

breaks_by : (states : List (List ℕ)) (before : List Operation) (at : Option Operation) → new_in before at ≡ None → (at ≡ None) ⊎ ((o : Operation) × (at ≡ Some o) × (is_among o.function (functions before) ≡ true))
breaks_by states before None n = inl refl
breaks_by states before (Some o) n = elim (cases_Bool (is_among o.function (functions before))) [
  | inl there ↦ inr (o, refl, there)
  | inr new ↦ (let f : Some o ≡ None = rw new at n in absurd (cc))
]

stepped : (p : ℕ → Bool) (n more less : ℕ) → more ≡ suc less → p n ≡ true → first_fault p n more ≡ first_fault p (suc n) less
stepped p n more less e t = rw (e, t) refl

stopped : (p : ℕ → Bool) (n more less : ℕ) → more ≡ suc less → p n ≡ false → first_fault p n more ≡ n
stopped p n more less e t = rw (e, t) refl

pub next_full : (states : List (List ℕ)) (before : List Operation) (line : List ℕ) → 64 ≤ length before → None ≡ next_in states before line
unfolding next_in
next_full states before line many = rw (le-ltb (length before) 64 many) refl

pub next_none : (states : List (List ℕ)) (before : List Operation) (line : List ℕ) → operation_at states line ≡ None → None ≡ next_in states before line
unfolding next_in
next_none states before line none = elim (cases_Bool (nat_lt (length before) 64)) [
  | inl room ↦ rw room (rw none refl)
  | inr full ↦ rw full refl
]

pub next_twice : (states : List (List ℕ)) (before : List Operation) (line : List ℕ) (o : Operation) → operation_at states line ≡ Some o → list_any (λ p. bytes_eq p.function o.function) before ≡ true → None ≡ next_in states before line
unfolding next_in
next_twice states before line o some there =
    let among : is_among o.function (functions before) ≡ true = sym (among_functions o.function before) ∙ there in
    elim (cases_Bool (nat_lt (length before) 64)) [
      | inl room ↦ rw room (rw some (rw among refl))
      | inr full ↦ rw full refl
    ]

pub next_new : (states : List (List ℕ)) (before : List Operation) (line : List ℕ) (o : Operation) → length before < 64 → operation_at states line ≡ Some o → list_any (λ p. bytes_eq p.function o.function) before ≡ false → Some o ≡ next_in states before line
unfolding next_in
next_new states before line o room some new =
    let among : is_among o.function (functions before) ≡ false = sym (among_functions o.function before) ∙ new in
    rw (lt-ltb (length before) 64 room) (rw some (rw among refl))

-- ---- the lines so far

pub record Reads (states all left : List (List ℕ)) (operations : List Operation) : Type 0 where
  pub done : List (List ℕ)
  pub whole : all ≡ done ++ left
  pub made : operations ≡ operations_in states done
  pub form : list_all (λ line. is_some (operation_at states line)) done ≡ true
  pub different : are_different (functions operations) ≡ true
  pub count : length operations ≡ length done
  pub few : length done ≤ 64
  pub search : first_fault (λ n. are_operations states (take n all)) 1 (length all) ≡ first_fault (λ n. are_operations states (take n all)) (suc (length done)) (length left)

pub reads_begin : (states all : List (List ℕ)) → Reads states all all []
reads_begin states all = record { done = []; whole = refl; made = refl; form = refl; different = refl; count = refl; few = omega arith; search = refl }

fits : (states ls : List (List ℕ)) → length ls ≤ 64 → list_all (λ line. is_some (operation_at states line)) ls ≡ true → are_different (functions (operations_in states ls)) ≡ true → are_operations states ls ≡ true
unfolding are_operations
fits states ls few form different = and_from _ _ (le-leb (length ls) 64 few) (and_from _ _ form different)

grown : (states all left : List (List ℕ)) (ops : List Operation) (line : List ℕ) (rest : List (List ℕ)) (o : Operation) → (r : Reads states all left ops) → left ≡ line ∷ rest → Follows states ops line o → Reads states all rest (ops ++ o ∷ [])
grown states all left ops line rest o r e f =
    let done = r.done ++ line ∷ [] in
    let whole : all ≡ done ++ rest = r.whole ∙ ap (λ l. r.done ++ l) e ∙ sym (append_assoc r.done (line ∷ []) rest) in
    let one : operations_in states (line ∷ []) ≡ o ∷ [] = ap (λ x. cons_option x []) f.form in
    let made : ops ++ o ∷ [] ≡ operations_in states done = sym (filter_append (operation_at states) r.done (line ∷ []) ∙ ap (λ l. l ++ operations_in states (line ∷ [])) (sym r.made) ∙ ap (λ l. ops ++ l) one) in
    let here : is_some (operation_at states line) ≡ true = ap is_some f.form in
    let form : list_all (λ l. is_some (operation_at states l)) done ≡ true = all_append (λ l. is_some (operation_at states l)) r.done (line ∷ []) ∙ and_from _ _ r.form (and_from _ true here refl) in
    let names : functions (ops ++ o ∷ []) ≡ functions ops ++ o.function ∷ [] = map-append (λ (x : Operation). x.function) ops (o ∷ []) in
    let different : are_different (functions (ops ++ o ∷ [])) ≡ true = ap are_different names ∙ still_different (functions ops) o.function r.different f.other in
    let long : length done ≡ suc (length r.done) = omega (arith, length-append r.done (line ∷ [])) in
    let room : length ops < 64 = f.room in
    let few : length done ≤ 64 = omega (arith, r.count) in
    let passes : are_operations states (take (suc (length r.done)) all) ≡ true = rw whole (rw (take_at done rest (suc (length r.done)) long) (fits states done few form (ap (λ l. are_different (functions l)) (sym made) ∙ different))) in
    let left-length : length left ≡ suc (length rest) = ap length e in
    let search : first_fault (λ n. are_operations states (take n all)) 1 (length all) ≡ first_fault (λ n. are_operations states (take n all)) (suc (length done)) (length rest) = r.search ∙ stepped (λ n. are_operations states (take n all)) (suc (length r.done)) (length left) (length rest) left-length passes ∙ ap (λ n. first_fault (λ n. are_operations states (take n all)) (suc n) (length rest)) (sym long) in
    record { done = done; whole = whole; made = made; form = form; different = different; count = omega (arith, length-append ops (o ∷ []), r.count, long); few = few; search = search }

pub reads_more : (states all left : List (List ℕ)) (ops : List Operation) (line : List ℕ) (rest : List (List ℕ)) (o : Operation) → Reads states all left ops → left ≡ line ∷ rest → next_in states ops line ≡ Some o → Reads states all rest (ops ++ o ∷ [])
reads_more states all left ops line rest o r e n = grown states all left ops line rest o r e (follows states ops line o n)

-- a line that has no operation breaks the lines that begin with those so far and with it
broken : (states all left : List (List ℕ)) (ops : List Operation) (line : List ℕ) (more : List (List ℕ)) → (r : Reads states all left ops) → next_in states ops line ≡ None → are_operations states (r.done ++ line ∷ more) ≡ false
unfolding are_operations next_in
broken states all left ops line more r n = elim (cases_Bool (nat_lt (length ops) 64)) [
  | inl room ↦ (
      let m : new_in ops (operation_at states line) ≡ None = rw room at n in
      elim (breaks_by states ops (operation_at states line) m) [
        | inl none ↦ (
            let here : is_some (operation_at states line) ≡ false = ap is_some none in
            and_right _ _ (and_left _ _ (all_append (λ l. is_some (operation_at states l)) r.done (line ∷ more) ∙ and_right _ _ (and_left _ _ here))))
        | inr twice ↦ (
            let o = twice.0 in
            let first : operations_in states (line ∷ more) ≡ o ∷ operations_in states more = ap (λ x. cons_option x (operations_in states more)) twice.1 in
            let made : operations_in states (r.done ++ line ∷ more) ≡ ops ++ o ∷ operations_in states more = filter_append (operation_at states) r.done (line ∷ more) ∙ ap (λ l. l ++ operations_in states (line ∷ more)) (sym r.made) ∙ ap (λ l. ops ++ l) first in
            let names : functions (operations_in states (r.done ++ line ∷ more)) ≡ functions ops ++ o.function ∷ functions (operations_in states more) = ap functions made ∙ map-append (λ (x : Operation). x.function) ops (o ∷ operations_in states more) in
            and_right _ _ (and_right _ _ (ap are_different names ∙ repeated (functions ops) o.function (functions (operations_in states more)) twice.2)))
      ])
  | inr full ↦ (
      let count : length ops ≡ length r.done = r.count in
      let many : 64 ≤ length ops = ltb-false _ _ full in
      and_left _ _ (lt-leb (length (r.done ++ line ∷ more)) 64 (omega (arith, length-append r.done (line ∷ more)))))
]

pub reads_broken : (states all left : List (List ℕ)) (ops : List Operation) (line : List ℕ) (rest : List (List ℕ)) → Reads states all left ops → left ≡ line ∷ rest → next_in states ops line ≡ None → operations_answer states all ≡ Err (length ops + 3)
unfolding operations_answer
reads_broken states all left ops line rest r e n =
    let done = r.done in
    let whole : all ≡ done ++ line ∷ rest = r.whole ∙ ap (λ l. done ++ l) e in
    let whole2 : all ≡ (done ++ line ∷ []) ++ rest = whole ∙ sym (append_assoc done (line ∷ []) rest) in
    let all-broken : are_operations states all ≡ false = ap (are_operations states) whole ∙ broken states all left ops line rest r n in
    let long : length (done ++ line ∷ []) ≡ suc (length done) = omega (arith, length-append done (line ∷ [])) in
    let part : take (suc (length done)) all ≡ done ++ line ∷ [] = ap (take (suc (length done))) whole2 ∙ take_at (done ++ line ∷ []) rest (suc (length done)) long in
    let fails : are_operations states (take (suc (length done)) all) ≡ false = ap (are_operations states) part ∙ broken states all left ops line [] r n in
    let left-length : length left ≡ suc (length rest) = ap length e in
    let found : first_fault (λ n. are_operations states (take n all)) 1 (length all) ≡ suc (length done) = r.search ∙ stopped (λ n. are_operations states (take n all)) (suc (length done)) (length left) (length rest) left-length fails in
    let count : length ops ≡ length done = r.count in
    let number : suc (suc (suc (length done))) ≡ length ops + 3 = omega arith in
    rw (and_right (nat_le 1 (length all)) _ all-broken) (ap (λ n. Err (suc (suc n))) found ∙ ap Err number)

pub reads_end : (states all left : List (List ℕ)) (ops : List Operation) → Reads states all left ops → left ≡ [] → 0 < length ops → operations_answer states all ≡ Ok ops
unfolding operations_answer
reads_end states all left ops r e some =
    let whole : all ≡ r.done = r.whole ∙ ap (λ l. r.done ++ l) e ∙ append-nil r.done in
    let count : length ops ≡ length r.done = r.count in
    let many : 1 ≤ length all = rw whole (omega arith) in
    let fit : are_operations states all ≡ true = ap (are_operations states) whole ∙ fits states r.done r.few r.form (ap (λ l. are_different (functions l)) (sym r.made) ∙ r.different) in
    rw (and_from _ _ (le-leb 1 (length all) many) fit) (ap (λ l. Ok (operations_in states l)) whole ∙ ap Ok (sym r.made))

pub reads_none : (states all left : List (List ℕ)) (ops : List Operation) → Reads states all left ops → left ≡ [] → length ops ≡ 0 → operations_answer states all ≡ Err 3
unfolding operations_answer
reads_none states all left ops r e none =
    let whole : all ≡ r.done = r.whole ∙ ap (λ l. r.done ++ l) e ∙ append-nil r.done in
    let count : length ops ≡ length r.done = r.count in
    let empty : all ≡ [] = nil_from_length all (rw whole (omega arith)) in
    rw empty refl

-- ---- the first two lines

or_number_ok : {X : Type 0} (n : ℕ) (o : Option X) (x : X) → or_number n o ≡ Ok x → o ≡ Some x
or_number_ok n None x e = absurd (cc)
or_number_ok n (Some y) x e = (let f : y ≡ x = cc in ap Some f)

or_number_err : {X : Type 0} (n m : ℕ) (o : Option X) → or_number n o ≡ Err m → (o ≡ None) × (m ≡ n)
or_number_err n m None e = (refl, cc)
or_number_err n m (Some y) e = absurd (cc)

-- what taking a line off says
abbrev pub Takes : Option (Bor (List ℕ)) → List (List ℕ) → List (List ℕ) → Type 0
Takes o old new = MatchOption o ((old ≡ []) × (new ≡ [])) (λ line. old ≡ line.now ∷ new)

shifted : (p q : ℕ → Bool) → ((m : ℕ) → p (suc (suc m)) ≡ q m) → (m more : ℕ) → first_fault p (suc (suc m)) more ≡ suc (suc (first_fault q m more))
shifted p q e m zero = refl
shifted p q e m (suc more) = elim (cases_Bool (q m)) [
  | inl t ↦ rw (e m, t) (shifted p q e (suc m) more)
  | inr f ↦ rw (e m, f) refl
]

-- behind a name and states the lines are operations
begun : (first second : List ℕ) (name : List ℕ) (states ls : List (List ℕ)) → name_in (words first) ≡ Some name → states_in (words second) ≡ Some states → begins (first ∷ second ∷ ls) ≡ are_operations states ls
begun first second name states ls n s = rw (n, s) refl

three : (ls : List (List ℕ)) → nat_le 3 (suc (suc (length ls))) ≡ nat_le 1 (length ls)
three [] = refl
three (l ∷ ls) = grind (arith, nat_tests)

broken_there : (first second : List ℕ) (name : List ℕ) (states ls : List (List ℕ)) → name_in (words first) ≡ Some name → states_in (words second) ≡ Some states → broken_line (first ∷ second ∷ ls) ≡ suc (suc (first_fault (λ n. are_operations states (take n ls)) 1 (length ls)))
broken_there first second name states ls n s =
    let p = λ (k : ℕ). begins (take k (first ∷ second ∷ ls)) in
    let one : begins (first ∷ []) ≡ true = rw n refl in
    let two : begins (first ∷ second ∷ []) ≡ true = begun first second name states [] n s ∙ fits states [] (omega arith) refl refl in
    stepped p 1 (suc (suc (length ls))) (suc (length ls)) refl one
    ∙ stepped p 2 (suc (length ls)) (length ls) refl two
    ∙ shifted p (λ k. are_operations states (take k ls)) (λ m. begun first second name states (take m ls) n s) 1 (length ls)

abbrev pub spelled_after : List ℕ → List (List ℕ) → Result (List Operation) ℕ → Spelled
spelled_after name states (Ok operations) = Machine (record { name = name; states = states; operations = operations })
spelled_after name states (Err number) = Breaks number

both_there : (first second : List ℕ) (name : List ℕ) (states ls : List (List ℕ)) → name_in (words first) ≡ Some name → states_in (words second) ≡ Some states → spelled_by (first ∷ second ∷ ls) ≡ spelled_after name states (operations_answer states ls)
unfolding operations_answer
both_there first second name states ls n s = elim (cases_Bool (nat_le 1 (length ls) && are_operations states ls)) [
  | inl t ↦ (
      let whole : (nat_le 3 (suc (suc (length ls))) && begins (first ∷ second ∷ ls)) ≡ true = rw (three ls, begun first second name states ls n s) t in
      rw (whole, t) (rw (n, s) refl))
  | inr f ↦ (
      let part : (nat_le 3 (suc (suc (length ls))) && begins (first ∷ second ∷ ls)) ≡ false = rw (three ls, begun first second name states ls n s) f in
      rw (part, f) (ap Breaks (broken_there first second name states ls n s)))
]

pub spelled_gives : (ls ls1 ls2 : List (List ℕ)) (first second : Option (Bor (List ℕ))) (name : List ℕ) (states : List (List ℕ)) → Takes first ls ls1 → Takes second ls1 ls2 → at_line name_in 1 (option_map (λ l. l.now) first) ≡ Ok name → at_line states_in 2 (option_map (λ l. l.now) second) ≡ Ok states → spelled_by ls ≡ spelled_after name states (operations_answer states ls2)
spelled_gives ls ls1 ls2 None second name states t1 t2 n s = absurd (cc)
spelled_gives ls ls1 ls2 (Some first) None name states t1 t2 n s = absurd (cc)
spelled_gives ls ls1 ls2 (Some first) (Some second) name states t1 t2 n s =
    let e : ls ≡ first.now ∷ second.now ∷ ls2 = t1 ∙ ap (λ l. first.now ∷ l) t2 in
    ap spelled_by e ∙ both_there first.now second.now name states ls2 (or_number_ok 1 (name_in (words first.now)) name n) (or_number_ok 2 (states_in (words second.now)) states s)

fault_is : (e : MachineAnswer) (name : List ℕ) (states : List (List ℕ)) (read : Result (List Operation) ℕ) → Gives {X = List Operation} (Err e) read → Answers (Err e) (spelled_after name states read)
fault_is (answer.Line n) name states read g = ap (spelled_after name states) g
fault_is answer.OutOfMemory name states read g = tt

pub fault_answers : (r : Result MachineSpec MachineAnswer) (e : MachineAnswer) (name : List ℕ) (states : List (List ℕ)) (read : Result (List Operation) ℕ) → IsErrAnd r (λ x. x ≡ e) → Gives {X = List Operation} (Err e) read → Answers r (spelled_after name states read)
fault_answers (Ok m) e name states read i g = absurd i
fault_answers (Err x) e name states read i g = let P : MachineAnswer → Type 0 = λ y. Answers (Err y) (spelled_after name states read) in subst P (sym i) (fault_is e name states read g)
