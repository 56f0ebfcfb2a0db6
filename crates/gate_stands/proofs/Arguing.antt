-- The rows of parameters.
use Rattle.std.proofs.Common.{◌≡◌, ℕ, zero, suc, ◌+◌, ◌<◌, ◌≤◌, Bool, true, false, not, ◌&&◌, ◌||◌, List, [], ◌∷◌, ◌++◌, length, take, get_or, inl, refl, sym, ◌∙◌, ap, subst, arith}
use Rattle.std.specs.Prelude.{slice_index_or}
use Rattle.std.specs.List.{list_any}
use Rattle.std.proofs.lemmas.List.{take_more, take_all}
use Rattle.bit_net.specs.declared.nodes.Gate.{Gate}
use Rattle.bit_net.specs.declared.nodes.Node.{Node}
use Rattle.bit_net.specs.Runs.{Runs, Grown, Gives}
use Rattle.bit_words.specs.Number.{number}
use Rattle.gl_store.specs.declared.values.Val.{Val}
use Rattle.gl_store.specs.Meets.{Meets}
use Rattle.run_store.specs.Concrete.{Cell}
use Rattle.sum_rows.specs.declared.row.Gives.{Gives as Results}
use Rattle.sum_rows.specs.declared.row.Item.{Item}
use Rattle.sum_rows.specs.declared.row.Item.TheVariants as item
use Rattle.sum_rows.specs.declared.row.ItemRows.{ItemRows}
use Rattle.sum_rows.specs.declared.row.Row.{Row}
use Rattle.sum_rows.specs.declared.row.State.{State}
use Rattle.sum_rows.specs.declared.row.State.TheVariants as state
use Rattle.sc_world.specs.Source.{Source}
use Rattle.sc_world.specs.Layout.{Layout, spot_at}
use Rattle.sc_world.specs.World.{Env, bit_at, is_true, null, number_at}
use Rattle.sc_world.specs.Known.{for_param, is_param, param_stands, param_state, params_stand, same_state, spot_behind, stands_if}
use Rattle.gate_places.specs.Places.{env_of}
use Rattle.gate_entry.specs.Entry.{IsNumber}
use Rattle.gate_values.specs.Values.{IsTruth}
use Rattle.gate_objects.specs.Escapes.{MeetsEach}
use Rattle.gate_paths.specs.Gathered.{spot_after}
use Rattle.gate_rows.specs.declared.sought.Outcome.{Outcome}
use Rattle.gate_rows.specs.declared.sought.Sought.{Sought}
use Rattle.gate_rows.specs.Sought.{gives_of, is_side, is_sought, is_spelt, param_number}
use Rattle.gate_rows.proofs.Rows.{param_is, sought_if}
use Rattle.gate_stands.specs.Params.{IsNoArgument, IsParamRow, ParamRowStands, ParamStands, ParamsStand}
use Rattle.gate_stands.proofs.Bools.{and_assoc, and_true}

-- Arguments.

args_at : (v : ℕ → Bool) (xs : List Val) (cs : List Cell) (n : ℕ) (d : Val) → n < length xs → MeetsEach v xs cs
    → Meets v (slice_index_or xs n d) (slice_index_or cs n null)
args_at v (x ∷ xs) (c ∷ cs) zero d low met = met.0
args_at v (x ∷ xs) (c ∷ cs) (suc n) d low met = args_at v xs cs n d (omega (arith, low)) met.1
args_at v [] cs n d low met = absurd (omega (arith, low))
args_at v (x ∷ xs) [] n d low met = absurd met

args_past : (v : ℕ → Bool) (xs : List Val) (cs : List Cell) (n : ℕ) → length xs ≤ n → MeetsEach v xs cs → slice_index_or cs n null ≡ null
args_past v [] [] n past met = refl
args_past v [] (c ∷ cs) n past met = absurd met
args_past v (x ∷ xs) (c ∷ cs) zero past met = absurd (omega (arith, past))
args_past v (x ∷ xs) (c ∷ cs) (suc n) past met = args_past v xs cs n (omega (arith, past)) met.1
args_past v (x ∷ xs) [] n past met = absurd met

null_not : is_true null ≡ false
null_not = refl

pub no_argument : (ns : List Node) (xs : List Val) (n gate : ℕ) → length xs ≤ n → Gives ns gate (λ choice v. true) → IsNoArgument ns xs n gate
no_argument ns xs n gate past gives =
    record {
      below = gives.below;
      value = λ choice v runs cs met.
          gives.value choice v runs ∙ sym (ap (λ c. not (is_true c)) (args_past v xs cs n past met) ∙ ap not null_not);
    }

pub argument_is : (n1 ns : List Node) (xs : List Val) (n : ℕ) (x : Val) (some gate : ℕ) → n < length xs → x ≡ slice_index_or xs n x → Grown n1 ns
    → IsTruth n1 x some → Gives ns gate (λ choice v. not (v some)) → IsNoArgument ns xs n gate
argument_is n1 ns xs n x some gate low here grown is gives =
    record {
      below = gives.below;
      value = λ choice v runs cs met.
          let c : Cell = slice_index_or cs n null in
          gives.value choice v runs
          ∙ ap not (is.value choice v (grown.runs choice v runs) c (subst (λ y. Meets v y c) (sym here) (args_at v xs cs n x low met)));
    }

-- One parameter.

pub is_param_row : (ns : List Node) (q : Sought) (given after' : List Gate) (result : Outcome) (rows : List Row) (gate : ℕ)
    → Gives ns gate (λ choice v. list_any (is_sought v q) rows) → q.given.now ≡ given → q.result ≡ result
    → ((v : ℕ → Bool) (x : State) → is_side v q.before x ≡ same_state state.Nil x)
    → ((v : ℕ → Bool) (x : State) → is_side v q.after x ≡ is_spelt (number v after') (param_number x))
    → IsParamRow ns given result after' rows gate
is_param_row ns q given after' result rows gate has same_given same_result from to =
    record {
      below = has.below;
      value = λ choice v runs.
          let n : ℕ = number v after' in
          has.value choice v runs
          ∙ sought_if v q (number v given) (gives_of v result) (ap (number v) same_given) (ap (gives_of v) same_result) state.Nil (param_state n) rows
          (from v)
          (λ x. to v x ∙ param_is n x)
          refl;
    }

pub param_row_named : (p : Layout) (n1 ns : List Node) (given after' after'' : List Gate) (result : Outcome) (bit : ℕ) (rows : List Row) (gate : ℕ)
    → Grown n1 ns → after'' ≡ after' → IsNumber p n1 bit 2 after' → IsParamRow ns given result after'' rows gate
    → ParamRowStands p ns given result bit rows gate
param_row_named p n1 ns given after' after'' result bit rows gate grown same_after is_after has =
    record {
      below = has.below;
      value = λ bits v runs few.
          has.value (bit_at bits) v runs
          ∙ ap (λ k. stands_if (number v given) (gives_of v result) (param_state k) rows)
          (ap (number v) same_after ∙ is_after.value bits v (grown.runs (bit_at bits) v runs) (inl few));
    }

pub param_gate : (s : Source) (p : Layout) (n1 n2 ns : List Node) (args : List Val) (given : List Gate) (result : Outcome) (spot n bit : ℕ) (x : ItemRows)
    (rows : List Row) (none row gate : ℕ)
    → Grown n1 n2 → Grown n2 ns → x.item ≡ item.Param n → bit ≡ (spot_at p spot).bit → rows ≡ x.rows → IsNoArgument n1 args n none
    → ParamRowStands p n2 given result bit rows row
    → Gives ns gate (λ choice v. v none || v row) → ParamStands s p ns args given result spot x gate
param_gate s p n1 n2 ns args given result spot n bit x rows none row gate g12 g2 is here same nothing has either =
    record {
      below = either.below;
      value = λ bits v runs few temps turn cs met.
          let env = env_of s p bits temps turn in
          let r2 = g2.runs (bit_at bits) v runs in
          let g : ℕ = number v given in
          let r : Results = gives_of v result in
          either.value (bit_at bits) v runs
          ∙ ap (λ b. b || v row) (nothing.value (bit_at bits) v (g12.runs (bit_at bits) v r2) cs met)
          ∙ ap (λ b. not (is_true (slice_index_or cs n null)) || b)
          (has.value bits v r2 few ∙ ap (λ k. stands_if g r (param_state (number_at bits k 2)) rows) here
          ∙ ap (stands_if g r (param_state (number_at bits (spot_at p spot).bit 2))) same)
          ∙ ap (λ i. for_param env cs g r spot x.rows i) (sym is);
    }

no_param : (env : Env) (cs : List Cell) (g : ℕ) (r : Results) (k : ℕ) (rows : List Row) (i : Item) → is_param i ≡ false → true ≡ for_param env cs g r k rows i
no_param env cs g r k rows (item.Param n) other = cc
no_param env cs g r k rows item.Exit other = refl
no_param env cs g r k rows (item.Lock path) other = refl
no_param env cs g r k rows (item.Out n) other = refl

pub other_item : (s : Source) (p : Layout) (ns : List Node) (args : List Val) (given : List Gate) (result : Outcome) (spot : ℕ) (x : ItemRows) (gate : ℕ)
    → is_param x.item ≡ false → Gives ns gate (λ choice v. true) → ParamStands s p ns args given result spot x gate
other_item s p ns args given result spot x gate other gives =
    record {
      below = gives.below;
      value = λ bits v runs few temps turn cs met.
          gives.value (bit_at bits) v runs
          ∙ no_param (env_of s p bits temps turn) cs (number v given) (gives_of v result) spot x.rows x.item other;
    }

-- The parameters so far.

params_push : (env : Env) (cs : List Cell) (g : ℕ) (r : Results) (k : ℕ) (xs : List ItemRows) (x : ItemRows)
    → params_stand env cs g r k (xs ++ x ∷ []) ≡ (params_stand env cs g r k xs && param_stands env cs g r (spot_after is_param k xs) x)
params_push env cs g r k [] x = and_true (param_stands env cs g r k x)
params_push env cs g r k (y ∷ xs) x =
    let j : ℕ = spot_behind (is_param y.item) k in
    ap (λ b. param_stands env cs g r k y && b) (params_push env cs g r j xs x)
    ∙ sym (and_assoc (param_stands env cs g r k y) (params_stand env cs g r j xs) (param_stands env cs g r (spot_after is_param j xs) x))

pub after_more : (test : Item → Bool) (k : ℕ) (xs : List ItemRows) (x : ItemRows)
    → spot_after test k (xs ++ x ∷ []) ≡ spot_behind (test x.item) (spot_after test k xs)
after_more test k [] x = refl
after_more test k (y ∷ xs) x = after_more test (spot_behind (test y.item) k) xs x

pub params_none : (s : Source) (p : Layout) (ns : List Node) (args : List Val) (given : List Gate) (result : Outcome) (spot : ℕ) (items : List ItemRows)
    (gate : ℕ) → Gives ns gate (λ choice v. true) → ParamsStand s p ns args given result spot (take 0 items) gate
params_none s p ns args given result spot items gate gives =
    record { below = gives.below; value = λ bits v runs few temps turn cs met. gives.value (bit_at bits) v runs }

pub params_step : (s : Source) (p : Layout) (n1 n2 n3 : List Node) (args : List Val) (given : List Gate) (result : Outcome) (spot k : ℕ) (items : List ItemRows)
    (i : ℕ) (x : ItemRows) (all one gate : ℕ) → i < length items → x ≡ get_or items i x → k ≡ spot_after is_param spot (take i items) → Grown n1 n2
    → Grown n2 n3
    → ParamsStand s p n1 args given result spot (take i items) all → ParamStands s p n2 args given result k x one
    → Gives n3 gate (λ choice v. v all && v one)
    → ParamsStand s p n3 args given result spot (take (i + 1) items) gate
params_step s p n1 n2 n3 args given result spot k items i x all one gate low is here g12 g23 before at both =
    let more : take (i + 1) items ≡ take i items ++ x ∷ [] = take_more items i x low ∙ ap (λ y. take i items ++ y ∷ []) (sym is) in
    record {
      below = both.below;
      value = λ bits v runs few temps turn cs met.
          let env = env_of s p bits temps turn in
          let r2 = g23.runs (bit_at bits) v runs in
          let g : ℕ = number v given in
          let r : Results = gives_of v result in
          both.value (bit_at bits) v runs
          ∙ ap (λ b. b && v one) (before.value bits v (g12.runs (bit_at bits) v r2) few temps turn cs met)
          ∙ ap (λ b. params_stand env cs g r spot (take i items) && b) (at.value bits v r2 few temps turn cs met ∙ ap (λ j. param_stands env cs g r j x) here)
          ∙ sym (ap (params_stand env cs g r spot) more ∙ params_push env cs g r spot (take i items) x);
    }

pub params_all : (s : Source) (p : Layout) (ns : List Node) (args : List Val) (given : List Gate) (result : Outcome) (spot : ℕ) (items : List ItemRows)
    (i gate : ℕ) → length items ≤ i → ParamsStand s p ns args given result spot (take i items) gate → ParamsStand s p ns args given result spot items gate
params_all s p ns args given result spot items i gate high h = subst (λ xs. ParamsStand s p ns args given result spot xs gate) (take_all i items high) h
