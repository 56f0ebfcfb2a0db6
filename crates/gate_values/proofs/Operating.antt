-- Operators on two values.
use Rattle.std.proofs.Common.{◌≡◌, ℕ, zero, suc, ◌<◌, ◌%◌, ◌^◌, Bool, true, false, not, nat_eq, nat_lt, List, length, if◌then◌else◌, refl, sym, ◌∙◌, ap, subst, arith}
use Rattle.std.proofs.Math.Nat.{mod-eq_of_lt, pow-suc}
use Rattle.std.proofs.lemmas.Bool.{ltb-true}
use Rattle.bit_net.specs.declared.nodes.Node.{Node}
use Rattle.bit_net.specs.Runs.{Runs, Grown, Gives}
use Rattle.bit_words.specs.Number.{number, converted}
use Rattle.bit_words.specs.Spells.{Spells}
use Rattle.bit_words.specs.declared.Word.{Word as Words}
use Rattle.bit_words.proofs.NumberLemmas.{number-below}
use Rattle.gl_sets.specs.declared.sets.Set.{Set as Sets}
use Rattle.gl_store.specs.declared.values.Val.{Val}
use Rattle.gl_store.specs.declared.values.Val.TheVariants.{Word, Set, Unit as Empty}
use Rattle.gl_store.specs.declared.stores.Location.{Location}
use Rattle.gl_store.specs.Meets.{Meets}
use Rattle.gate_runs.specs.declared.ends.Ends.{Ends}
use Rattle.gate_runs.specs.Stands.{Does}
use Rattle.gate_runs.proofs.Bind.{bind, does_done}
use Rattle.gate_steps.specs.Steps.{GoesOnWhere}
use Rattle.gate_steps.proofs.Known.{does_give}
use Rattle.run_store.specs.Concrete.{Cell, Number, Pointer, Nothing, Numbers}
use Rattle.sc_tree.specs.declared.op.BinaryOp.{BinaryOp}
use Rattle.sc_tree.specs.declared.op.BinaryOp.TheVariants as op
use Rattle.sc_typed.specs.Arith.{truth, computed, takes}
use Rattle.sc_world.specs.Tree.{Ty, int_bits, has_sign}
use Rattle.sc_world.specs.World.{Env, Run, ◌>>=◌, done, unless}
use Rattle.sc_world.specs.Eval.{operated, not_taken, is_equality}
use Rattle.gate_values.specs.Operators.{IsComputed, IsSameTarget, IsTaken, is_shift}
use Rattle.gate_values.specs.Operated.{AreWords, DoesOperate, HasTypes}
use Rattle.gate_values.specs.Values.{IsTruthOf}

-- Of nothing there is nothing.

no_word_set : (v : ℕ → Bool) (l : List Location) (e : Ends) (env : Env) (o : BinaryOp) (t u : Ty) (a : Words) (b : Sets) (x y : Cell) → Meets v (Word a) x
    → Meets v (Set b) y → Does v l e (operated env o t u x y) l e (Meets v Empty)
no_word_set v l e env o t u a b (Number w n) (Pointer p) m k = does_done v l e Nothing (Meets v Empty) tt
no_word_set v l e env o t u a b (Number w n) (Number z i) m k = absurd k
no_word_set v l e env o t u a b (Number w n) Nothing m k = absurd k
no_word_set v l e env o t u a b (Pointer q) y m k = absurd m
no_word_set v l e env o t u a b Nothing y m k = absurd m

no_word_empty : (v : ℕ → Bool) (l : List Location) (e : Ends) (env : Env) (o : BinaryOp) (t u : Ty) (a : Words) (x y : Cell) → Meets v (Word a) x
    → Meets v Empty y → Does v l e (operated env o t u x y) l e (Meets v Empty)
no_word_empty v l e env o t u a (Number w n) Nothing m k = does_done v l e Nothing (Meets v Empty) tt
no_word_empty v l e env o t u a (Number w n) (Number z i) m k = absurd k
no_word_empty v l e env o t u a (Number w n) (Pointer p) m k = absurd k
no_word_empty v l e env o t u a (Pointer q) y m k = absurd m
no_word_empty v l e env o t u a Nothing y m k = absurd m

no_set_word : (v : ℕ → Bool) (l : List Location) (e : Ends) (env : Env) (o : BinaryOp) (t u : Ty) (a : Sets) (b : Words) (x y : Cell) → Meets v (Set a) x
    → Meets v (Word b) y → Does v l e (operated env o t u x y) l e (Meets v Empty)
no_set_word v l e env o t u a b (Pointer p) (Number w n) m k = does_done v l e Nothing (Meets v Empty) tt
no_set_word v l e env o t u a b (Pointer p) (Pointer q) m k = absurd k
no_set_word v l e env o t u a b (Pointer p) Nothing m k = absurd k
no_set_word v l e env o t u a b (Number w n) y m k = absurd m
no_set_word v l e env o t u a b Nothing y m k = absurd m

no_set_empty : (v : ℕ → Bool) (l : List Location) (e : Ends) (env : Env) (o : BinaryOp) (t u : Ty) (a : Sets) (x y : Cell) → Meets v (Set a) x
    → Meets v Empty y → Does v l e (operated env o t u x y) l e (Meets v Empty)
no_set_empty v l e env o t u a (Pointer p) Nothing m k = does_done v l e Nothing (Meets v Empty) tt
no_set_empty v l e env o t u a (Pointer p) (Number w n) m k = absurd k
no_set_empty v l e env o t u a (Pointer p) (Pointer q) m k = absurd k
no_set_empty v l e env o t u a (Number w n) y m k = absurd m
no_set_empty v l e env o t u a Nothing y m k = absurd m

no_empty : (v : ℕ → Bool) (l : List Location) (e : Ends) (env : Env) (o : BinaryOp) (t u : Ty) (x y : Cell) → Meets v Empty x
    → Does v l e (operated env o t u x y) l e (Meets v Empty)
no_empty v l e env o t u Nothing y m = does_done v l e Nothing (Meets v Empty) tt
no_empty v l e env o t u (Number w n) y m = absurd m
no_empty v l e env o t u (Pointer p) y m = absurd m

pub word_and_set : (ns : List Node) (o : BinaryOp) (s : Bool) (bits : ℕ) (a : Words) (b : Sets) (e : Ends) → DoesOperate ns o s bits (Word a) (Set b) e e Empty
word_and_set ns o s bits a b e =
    record { below = omega arith; kind = λ h. absurd (cc); does = λ choice v runs l env t u x y types m k. no_word_set v l e env o t u a b x y m k }

pub word_and_none : (ns : List Node) (o : BinaryOp) (s : Bool) (bits : ℕ) (a : Words) (e : Ends) → DoesOperate ns o s bits (Word a) Empty e e Empty
word_and_none ns o s bits a e =
    record { below = omega arith; kind = λ h. absurd (cc); does = λ choice v runs l env t u x y types m k. no_word_empty v l e env o t u a x y m k }

pub set_and_word : (ns : List Node) (o : BinaryOp) (s : Bool) (bits : ℕ) (a : Sets) (b : Words) (e : Ends) → DoesOperate ns o s bits (Set a) (Word b) e e Empty
set_and_word ns o s bits a b e =
    record { below = omega arith; kind = λ h. absurd (cc); does = λ choice v runs l env t u x y types m k. no_set_word v l e env o t u a b x y m k }

pub set_and_none : (ns : List Node) (o : BinaryOp) (s : Bool) (bits : ℕ) (a : Sets) (e : Ends) → DoesOperate ns o s bits (Set a) Empty e e Empty
set_and_none ns o s bits a e =
    record { below = omega arith; kind = λ h. absurd (cc); does = λ choice v runs l env t u x y types m k. no_set_empty v l e env o t u a x y m k }

pub none_and : (ns : List Node) (o : BinaryOp) (s : Bool) (bits : ℕ) (b : Val) (e : Ends) → DoesOperate ns o s bits Empty b e e Empty
none_and ns o s bits b e =
    record { below = omega arith; kind = λ h. absurd (cc); does = λ choice v runs l env t u x y types m k. no_empty v l e env o t u x y m }

pub ruleset unlike = (word_and_set, word_and_none, set_and_word, set_and_none, none_and)

-- Pointers.

pointers_do : (ns : List Node) (o : BinaryOp) (s : Bool) (bits : ℕ) (a b : Sets) (e : Ends) (gate : ℕ) (r : Val)
    → ((choice v : ℕ → Bool) → Runs ns choice v → (p q : ℕ) → Meets v (Set a) (Pointer p) → Meets v (Set b) (Pointer q)
    → v gate ≡ (if is_equality o then nat_eq p q else not (nat_eq p q)))
    → IsTruthOf ns gate bits r → DoesOperate ns o s bits (Set a) (Set b) e e r
pointers_do ns o s bits a b e gate r says is =
    record {
      below = is.below;
      kind = λ h. is.kind;
      does = λ choice v runs l env t u x y types m k. from choice v runs l env t u x y types m k;
    }
  where
    from : (choice v : ℕ → Bool) → Runs ns choice v → (l : List Location) (env : Env) (t u : Ty) (x y : Cell) → HasTypes env t u s bits (Set a)
        → Meets v (Set a) x → Meets v (Set b) y → Does v l e (operated env o t u x y) l e (Meets v r)
    from choice v runs l env t u (Pointer p) (Pointer q) types m k =
        let cell = Number (int_bits env.source.widths u) (truth (if is_equality o then nat_eq p q else not (nat_eq p q))) in
        does_done v l e cell (Meets v r)
        (subst (λ w. Meets v r (Number w (truth (if is_equality o then nat_eq p q else not (nat_eq p q))))) (sym types.result)
        (subst (λ h. Meets v r (Number bits (truth h))) (says choice v runs p q m k) (is.value choice v runs)))
    from choice v runs l env t u (Pointer p) (Number w n) types m k = absurd k
    from choice v runs l env t u (Pointer p) Nothing types m k = absurd k
    from choice v runs l env t u (Number w n) y types m k = absurd m
    from choice v runs l env t u Nothing y types m k = absurd m

pub equal_pointers : (ns : List Node) (o : BinaryOp) (s : Bool) (bits : ℕ) (a b : Sets) (e : Ends) (gate : ℕ) (r : Val) → is_equality o ≡ true
    → IsSameTarget ns a.pairs.items b.pairs.items gate → IsTruthOf ns gate bits r → DoesOperate ns o s bits (Set a) (Set b) e e r
equal_pointers ns o s bits a b e gate r equality same is =
    pointers_do ns o s bits a b e gate r
    (λ choice v runs p q m k.
    same.value choice v runs p q m k ∙ ap (λ c. if c then nat_eq p q else not (nat_eq p q)) (sym equality))
    is

pub other_pointers : (ns mid : List Node) (o : BinaryOp) (s : Bool) (bits : ℕ) (a b : Sets) (e : Ends) (same gate : ℕ) (r : Val) → is_equality o ≡ false
    → Grown mid ns → IsSameTarget mid a.pairs.items b.pairs.items same → Gives ns gate (λ choice v. not (v same)) → IsTruthOf ns gate bits r
    → DoesOperate ns o s bits (Set a) (Set b) e e r
other_pointers ns mid o s bits a b e same gate r other grown is_same is_not is =
    pointers_do ns o s bits a b e gate r
    (λ choice v runs p q m k.
    is_not.value choice v runs ∙ ap not (is_same.value choice v (grown.runs choice v runs) p q m k)
    ∙ ap (λ c. if c then nat_eq p q else not (nat_eq p q)) (sym other))
    is

-- Numbers.

below_power : (n : ℕ) → n < 2 ^ n
below_power zero = omega arith
below_power (suc n) = omega (arith, below_power n, pow-suc 2 n)

-- what an operator takes as its right operand is below 2 to the width
shift_takes : (o : BinaryOp) (n : ℕ) (s : Bool) (x y : ℕ) → is_shift o ≡ true → takes o n s x y ≡ nat_lt y n
shift_takes op.ShiftLeft n s x y e = refl
shift_takes op.ShiftRight n s x y e = refl
shift_takes _ n s x y e = absurd (cc)

right_stays : (o : BinaryOp) (n k : ℕ) (s : Bool) (x y : ℕ) → y < 2 ^ k → (is_shift o ≡ false → n ≡ k) → takes o n s x y ≡ true → y % 2 ^ n ≡ y
right_stays o n k s x y low same taken = by (is_shift o) refl
  where
    by : (b : Bool) → is_shift o ≡ b → y % 2 ^ n ≡ y
    by true e =
        let count : y < n = ltb-true y n (sym (shift_takes o n s x y e) ∙ taken) in
        mod-eq_of_lt (omega (arith, count, below_power n))
    by false e = mod-eq_of_lt (subst (λ i. y < 2 ^ i) (sym (same e)) low)

module _ (n1 n2 n3 n4 : List Node) (o : BinaryOp) (s : Bool) (bits : ℕ) (a b right made : Words) (old new : Ends) (gate : ℕ)
    (grown12 : Grown n1 n2) (stays : n3 ≡ n2) (grown34 : Grown n3 n4) (words : AreWords o bits a.bits.items b.bits.items)
    (taken : IsTaken n1 o s a.bits.items b.bits.items gate) (goes : GoesOnWhere n2 gate (not_taken o) old new)
    (is_right : Spells n3 right.bits.items (length a.bits.items) (λ v. converted false (length b.bits.items) (length a.bits.items) (number v b.bits.items)))
    (is_made : IsComputed n4 o s bits a.bits.items right.bits.items made.bits.items) where
  -- the run, with the numbers that the words spell
  abbrev spelled : (v : ℕ → Bool) → Run Cell
  spelled v =
      unless (takes o (length a.bits.items) s (number v a.bits.items) (number v b.bits.items)) (not_taken o)
      >>= λ _. done (Number bits (computed o (length a.bits.items) s (number v a.bits.items) (number v b.bits.items)))

  made_is : (choice v : ℕ → Bool) → Runs n4 choice v → takes o (length a.bits.items) s (number v a.bits.items) (number v b.bits.items) ≡ true
      → number v made.bits.items ≡ computed o (length a.bits.items) s (number v a.bits.items) (number v b.bits.items)
  made_is choice v runs holds =
      let same : number v right.bits.items ≡ number v b.bits.items =
      is_right.value choice v (grown34.runs choice v runs)
      ∙ right_stays o (length a.bits.items) (length b.bits.items) s (number v a.bits.items) (number v b.bits.items) (number-below v b.bits.items) words.same holds in
      is_made.value choice v runs (ap (λ k. takes o (length a.bits.items) s (number v a.bits.items) k) same ∙ holds)
      ∙ ap (λ k. computed o (length a.bits.items) s (number v a.bits.items) k) same

  spelled_does : (choice v : ℕ → Bool) → Runs n4 choice v → (l : List Location) → Does v l old (spelled v) l new (Meets v (Word made))
  spelled_does choice v runs l =
      let r2 : Runs n2 choice v = subst (λ ns. Runs ns choice v) stays (grown34.runs choice v runs) in
      let r1 : Runs n1 choice v = grown12.runs choice v r2 in
      let b' = takes o (length a.bits.items) s (number v a.bits.items) (number v b.bits.items) in
      let cell = Number bits (computed o (length a.bits.items) s (number v a.bits.items) (number v b.bits.items)) in
      bind v l l l old new new (unless b' (not_taken o)) (λ _. done cell) (λ u. v new.live.at ≡ true → b' ≡ true) (Meets v (Word made))
      (goes.does choice v r2 l b' (taken.value choice v r1))
      (λ u known.
      does_give v l new cell (Number bits (number v made.bits.items)) (Meets v (Word made))
      (λ on. record { wide = is_made.wide; value = made_is choice v runs (known on) })
      (record { wide = is_made.wide; value = refl }))

  numbers_from : (choice v : ℕ → Bool) → Runs n4 choice v → (l : List Location) (env : Env) (t u : Ty) (x y : Cell) → HasTypes env t u s bits (Word a)
      → Meets v (Word a) x → Meets v (Word b) y → Does v l old (operated env o t u x y) l new (Meets v (Word made))
  numbers_from choice v runs l env t u (Number w i) (Number z j) types m k =
      let P : (wide : ℕ) (sign : Bool) (x y out : ℕ) → Type 0 = λ wide sign x y out.
      Does v l old (unless (takes o wide sign x y) (not_taken o) >>= λ _. done (Number out (computed o wide sign x y))) l new (Meets v (Word made)) in
      subst (λ wide. P wide (has_sign t) i j (int_bits env.source.widths u)) (sym (types.width (length a.bits.items) refl))
      (subst (λ sign. P (length a.bits.items) sign i j (int_bits env.source.widths u)) (sym types.sign)
      (subst (λ out. P (length a.bits.items) s i j out) (sym types.result)
      (subst (λ x. P (length a.bits.items) s x j bits) m.value
      (subst (λ y. P (length a.bits.items) s (number v a.bits.items) y bits) k.value (spelled_does choice v runs l)))))
  numbers_from choice v runs l env t u (Number w i) (Pointer q) types m k = absurd k
  numbers_from choice v runs l env t u (Number w i) Nothing types m k = absurd k
  numbers_from choice v runs l env t u (Pointer p) y types m k = absurd m
  numbers_from choice v runs l env t u Nothing y types m k = absurd m

  pub numbers_operate : DoesOperate n4 o s bits (Word a) (Word b) old new (Word made)
  numbers_operate =
      record {
        below = is_made.below;
        kind = λ h. ap Numbers is_made.wide;
        does = numbers_from;
      }
