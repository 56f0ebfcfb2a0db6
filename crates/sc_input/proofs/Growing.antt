-- What holds while file after file is read: there are never too many names, and a refusal of one call is one of all
-- calls together.
use Rattle.std.proofs.Common.{◌≡◌, ◌∙◌, ℕ, suc, ◌+◌, ◌≤◌, ◌<◌, Bool, true, false, List, [], ◌∷◌, ◌++◌, length, map, take, drop, get_or, Option, Some, None, Result, Ok, Err, refl, sym, subst, ap, inl, inr, arith, append_assoc}
use Rattle.std.specs.Borrow.{Bor}
use Rattle.std.specs.Prelude.{if◌then◌else◌, IfOk, IfErr}
use Rattle.std.proofs.Math.Seq.{split_at, take-suc}
use Rattle.std.proofs.lemmas.List.{append-nil, map-append, length-append, take_all}
use Rattle.fsm_spec.specs.declared.table.MachineSpec.{MachineSpec}
use Rattle.fsm_spec.specs.Reading.{spelled, Machine}
use Rattle.sc_base.specs.Causes.{Rose}
use Rattle.sc_base.specs.Held.{is_named}
use Rattle.sc_base.specs.Names.{with_text}
use Rattle.sc_lexer.specs.Answer.{Grow}
use Rattle.sc_tree.specs.declared.unit.Unit.{Unit as FileUnit}
use Rattle.sc_input.specs.declared.input.Input.{Input}
use Rattle.sc_input.specs.declared.refusal.Refusal.{Refusal}
use Rattle.sc_input.specs.declared.refusal.Refusal.TheVariants as refusal
use Rattle.sc_input.specs.Input.{most_bytes, most_files, nothing_but, Outside, Adds, Answers, Begins, Fit, IsOpen, IsTooLarge}
use Rattle.sc_input.specs.Input.{RefuseBytes, RefuseFile, RefuseTree, HasNoTree, Stops, Give, more, no_tree, with_machine, without}

-- ---- names

-- one more text
put_grows : (there : Bool) (texts : List (List ℕ)) (text : List ℕ) → Grow 1 texts (if there then texts else texts ++ text ∷ [])
put_grows true texts text = record { added = []; grown = sym (append-nil texts); few = omega arith }
put_grows false texts text = record { added = text ∷ []; grown = refl; few = omega arith }

pub text_grows : (texts : List (List ℕ)) (text : List ℕ) → Grow 1 texts (with_text texts text)
text_grows texts text = put_grows (is_named text texts) texts text

-- what grows twice
pub grow_both : (m n : ℕ) (a b c : List (List ℕ)) → Grow m a b → Grow n b c → Grow (m + n) a c
grow_both m n a b c first next = record {
  added = first.added ++ next.added;
  grown = next.grown ∙ (ap (λ texts. texts ++ next.added) first.grown ∙ append_assoc a first.added next.added);
  few = omega (arith, first.few, next.few, length-append first.added next.added);
}

pub grow_length : (m : ℕ) (a b : List (List ℕ)) → Grow m a b → length b ≤ length a + m
grow_length m a b grown =
    let long : length b ≡ length a + length grown.added = ap length grown.grown ∙ length-append a grown.added in
    omega (arith, grown.few, long)

-- ---- refusals

-- a count that rose in one call rose in all calls together
pub rose_wider : (before first next now : ℕ) → before ≤ first → Rose first next → next ≤ now → Rose before now
rose_wider before first next now early rose late = omega (arith, early, rose, late)

pub bytes_wider : (step all : Outside) (used : ℕ) (name : List ℕ) (why : Refusal) → all.held ≡ step.held → all.firm ≡ step.firm
    → all.faults_before ≤ step.faults_before → step.faults_after ≤ all.faults_after → RefuseBytes step used name why
    → RefuseBytes all used name why
bytes_wider step all used name (refusal.Files count) held firm early late refused = absurd refused
bytes_wider step all used name (refusal.Unread shown) held firm early late refused =
    let rose = rose_wider all.faults_before step.faults_before step.faults_after all.faults_after early refused.1.rose late in
    (refused.0, record { rose = rose; not_firm = ap (is_named name) firm ∙ refused.1.not_firm })
bytes_wider step all used name refusal.Bytes held firm early late refused =
    subst (λ h. IsTooLarge h used name) (sym held) refused
bytes_wider step all used name (refusal.Machine line) held firm early late refused = absurd refused
bytes_wider step all used name (refusal.Lexical shown pos) held firm early late refused = absurd refused
bytes_wider step all used name (refusal.Unbalanced shown pos) held firm early late refused = absurd refused
bytes_wider step all used name refusal.OutOfMemory held firm early late refused = tt

pub file_wider : (step all : Outside) (before : Input) (name : List ℕ) (why : Refusal) → all.held ≡ step.held → all.firm ≡ step.firm
    → all.faults_before ≤ step.faults_before → step.faults_after ≤ all.faults_after → RefuseFile step before name why
    → RefuseFile all before name why
file_wider step all before name why held firm early late (inl refused) =
    inl (bytes_wider step all before.used name why held firm early late refused)
file_wider step all before name why held firm early late (inr refused) =
    inr (subst (λ h. HasNoTree h before name why) (sym held) refused)

pub stops_wider : (step all : Outside) (start : Input) (names : List (List ℕ)) (why : Refusal) → all.held ≡ step.held → all.firm ≡ step.firm
    → all.faults_before ≤ step.faults_before → step.faults_after ≤ all.faults_after → Stops step start names why
    → Stops all start names why
stops_wider step all start names why held firm early late stops = record {
  front = stops.front;
  name = stops.name;
  behind = stops.behind;
  before = stops.before;
  split = stops.split;
  read = subst (λ h. Give h start stops.front stops.before) (sym held) stops.read;
  refused = file_wider step all stops.before stops.name why held firm early late stops.refused;
}

-- ---- one more file

-- there are not too many names behind one more file
pub still_open : (before after : Input) (name bytes seen : List ℕ) (named : List (List ℕ)) (unit : FileUnit) → IsOpen before
    → length before.units < most_files → before.used + length bytes ≤ most_bytes → named ≡ with_text before.names name → seen ≡ bytes
    → Grow (length seen) named after.names → after.used ≡ before.used + length bytes → after.units ≡ before.units ++ (unit ∷ [])
    → IsOpen after
still_open before after name bytes seen named unit room few fit same shown grown used units =
    let one : Grow 1 before.names named = subst (λ texts. Grow 1 before.names texts) (sym same) (text_grows before.names name) in
    let first : length named ≤ length before.names + 1 = grow_length 1 before.names named one in
    let next : length after.names ≤ length named + length seen = grow_length (length seen) named after.names grown in
    let as_long : length seen ≡ length bytes = ap length shown in
    let trees : length after.units ≡ length before.units + 1 = ap length units ∙ length-append before.units (unit ∷ []) in
    record {
      used = omega (arith, fit, used);
      names = omega (arith, room.names, used, trees, first, next, as_long);
      few = omega (arith, few, trees);
    }

-- a file whose bytes are read, and that has no tokens
pub has_no_tree : (held : Option (List (List ℕ × List ℕ))) (before : Input) (name bytes seen : List ℕ) (named names : List (List ℕ)) (file : ℕ)
    (why : Refusal) → Fit held before.used name bytes → named ≡ with_text before.names name → seen ≡ bytes → file ≡ length before.units
    → Grow (length seen) named names → RefuseTree names file name seen why → HasNoTree held before name why
has_no_tree held before name bytes seen named names file why fit same shown numbered grown refused =
    let one : Grow 1 before.names named = subst (λ texts. Grow 1 before.names texts) (sym same) (text_grows before.names name) in
    let here : RefuseTree names (length before.units) name seen why = subst (λ n. RefuseTree names n name seen why) numbered refused in
    record {
      bytes = bytes;
      names = names;
      fit = fit;
      grown = grow_both 1 (length bytes) before.names named names one (subst (λ bs. Grow (length bs) named names) shown grown);
      refused = subst (λ bs. RefuseTree names (length before.units) name bs why) shown here;
    }

-- ---- file after file

-- one more file has one more tree
pub one_more_tree : (held : Option (List (List ℕ × List ℕ))) (name : List ℕ) (before after : Input) (i : ℕ) → Adds held name before after
    → length before.units ≡ i → length after.units ≡ i + 1
one_more_tree held name before after i added count =
    let trees : length after.units ≡ length before.units + 1 = ap length added.units ∙ length-append before.units (added.unit ∷ []) in
    omega (arith, trees, count)

-- Read behind the first so many files, one more file is read behind one more.
pub one_more : (held step : Option (List (List ℕ × List ℕ))) (start before after : Input) (names : List (Bor (List ℕ))) (i : ℕ) (d : Bor (List ℕ))
    → step ≡ held → i < length names → Give held start (map (λ name. name.now) (take i names)) before
    → Adds step (get_or names i d).now before after
    → Give held start (map (λ name. name.now) (take (i + 1) names)) after
one_more held step start before after names i d same within read added =
    let next : i + 1 ≡ suc i = omega arith in
    let shown : map (λ name. name.now) (take (i + 1) names) ≡ map (λ name. name.now) (take i names) ++ ((get_or names i d).now ∷ []) =
    ap (λ n. map (λ name. name.now) (take n names)) next
    ∙ (ap (map (λ name. name.now)) (take-suc names i d within)
    ∙ map-append (λ (name : Bor (List ℕ)). name.now) (take i names) (get_or names i d ∷ [])) in
    let here : Adds held (get_or names i d).now before after = subst (λ h. Adds h (get_or names i d).now before after) same added in
    subst (λ ns. Give held start ns after) (sym shown) (more (get_or names i d).now read here)

-- behind the last file all are read
pub all_read : (held : Option (List (List ℕ × List ℕ))) (start after : Input) (names : List (Bor (List ℕ))) (i : ℕ) → length names ≤ i
    → Give held start (map (λ name. name.now) (take i names)) after → Give held start (map (λ name. name.now) names) after
all_read held start after names i high read =
    subst (λ (ns : List (Bor (List ℕ))). Give held start (map (λ name. name.now) ns) after) (take_all i names high) read

-- The file behind the first so many is refused: so are all of them.
pub refused_at : (step all : Outside) (start before : Input) (names : List (Bor (List ℕ))) (i : ℕ) (d : Bor (List ℕ)) (why : Refusal)
    → step.held ≡ all.held → step.firm ≡ all.firm → all.faults_before ≤ step.faults_before → step.faults_after ≤ all.faults_after
    → i < length names → Give all.held start (map (λ name. name.now) (take i names)) before
    → RefuseFile step before (get_or names i d).now why → Stops all start (map (λ name. name.now) names) why
refused_at step all start before names i d why held firm early late within read refused = record {
  front = map (λ name. name.now) (take i names);
  name = (get_or names i d).now;
  behind = map (λ name. name.now) (drop (suc i) names);
  before = before;
  split = ap (map (λ name. name.now)) (split_at names i d within)
      ∙ map-append (λ (name : Bor (List ℕ)). name.now) (take i names) (get_or names i d ∷ drop (suc i) names);
  read = read;
  refused = file_wider step all before (get_or names i d).now why (sym held) (sym firm) early late refused;
}

-- ---- all files

-- without a machine nothing is read first
pub begins_without : (held : Option (List (List ℕ × List ℕ))) (input : Input) → input ≡ nothing_but None 0 → Begins held None input
begins_without held input same = without input same

-- the machine that a file spells
pub begins_with : (held : Option (List (List ℕ × List ℕ))) (name bytes : List ℕ) (spec : MachineSpec) (used : ℕ) (input : Input)
    → Fit held 0 name bytes → spelled bytes ≡ Machine spec → used ≡ length bytes → input ≡ nothing_but (Some spec) used
    → Begins held (Some name) input
begins_with held name bytes spec used input fit spells count same =
    with_machine name bytes spec input fit spells (subst (λ n. input ≡ nothing_but (Some spec) n) count same)

-- What all files give behind what was read first is the answer of both calls together.
pub answers_behind : (step all : Outside) (machine : Option (List ℕ)) (names : List (List ℕ)) (start : Input) (result : Result Input Refusal)
    → step.held ≡ all.held → step.firm ≡ all.firm → all.faults_before ≤ step.faults_before → step.faults_after ≤ all.faults_after
    → length names ≤ most_files → Begins all.held machine start → IfOk result (Give step.held start names)
    → IfErr result (Stops step start names) → Answers all machine names result
answers_behind step all machine names start (Ok input) held firm early late few begins read stops = record {
  few = few;
  start = start;
  begins = begins;
  read = subst (λ h. Give h start names input) held read;
}
answers_behind step all machine names start (Err why) held firm early late few begins read stops =
    no_tree few start begins (stops_wider step all start names why (sym held) (sym firm) early late stops)
