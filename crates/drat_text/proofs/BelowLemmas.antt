-- The variables of what was read are below the number of variables.
use Rattle.std.proofs.Common.{◌≡◌, ℕ, ◌-◌, ◌<◌, Bool, true, false, List, [], ◌∷◌, refl, sym, ap, ◌∙◌, arith, Option}
use Rattle.std.proofs.Common.{None, Some}
use Rattle.std.proofs.Common.{IfSome, All, inl, inr}
use Rattle.std.specs.Prelude.{if◌then◌else◌, ◌&&◌, ◌==◌, nat_le, option_and_then, bytes_eq, codes}
use Rattle.std.proofs.lemmas.Bool.{cases_Bool, and_parts}
use Rattle.std.proofs.lemmas.Bool.Decides.{nat_tests}
use Rattle.std.proofs.lemmas.List.Elements.{All-nil, All-push}
use Rattle.sat_base.specs.declared.literal.Lit.{Lit}
use Rattle.sat_base.specs.declared.certificate.Step.{Step}
use Rattle.sat_base.specs.declared.certificate.Step.TheVariants.{Add, Drop}
use Rattle.sat_base.specs.Logic.{LitsBelow, ClausesBelow}
use Rattle.drat_text.specs.declared.expecting.Expected.{Expected}
use Rattle.drat_text.specs.declared.expecting.Expected.TheVariants.{Problem, Format, VariableCount, ClauseCount}
use Rattle.drat_text.specs.declared.expecting.Expected.TheVariants.{Formula, Start, Added, Removed}
use Rattle.drat_text.specs.Parts.{words}
use Rattle.drat_text.specs.Numbers.{number, variable_of, variable, with_sign, literal}
use Rattle.drat_text.specs.Certificate.{Contents, StepBelow, IsBelow}
use Rattle.drat_text.specs.Expecting.{Text, begun, key, with_vars, with_count, with_literal, lit_or_end, with_clause}
use Rattle.drat_text.specs.Expecting.{with_step, formula_word}
use Rattle.drat_text.specs.Expecting.{added_word, removed_word, start_word}
use Rattle.drat_text.specs.Expecting.{word_at, with_word, with_words, begins_with_c, are_c_drat, expects_formula}
use Rattle.drat_text.specs.Expecting.{divided, with_line, may_end, finished}

-- ---- literals

variable_of_below : (vars n : ℕ) → IfSome (variable_of vars n) (λ v. v < vars)
variable_of_below vars n = elim (cases_Bool (nat_le 1 n && nat_le n vars)) [
  | inl both ↦
      let parts = and_parts (nat_le 1 n) (nat_le n vars) both in
      let low : nat_le 1 n ≡ true = parts.0 in
      let high : nat_le n vars ≡ true = parts.1 in
      let below : n - 1 < vars = grind (arith, nat_tests) in
      rw both below
  | inr out ↦ rw out tt
]

variable_below : (vars : ℕ) (word : List ℕ) → IfSome (variable vars word) (λ v. v < vars)
variable_below vars word =
    elim (number word) as (λ n. IfSome (option_and_then (variable_of vars) n) (λ v. v < vars)) [ None ↦ tt | Some n ↦ variable_of_below vars n ]

sign_below : (vars : ℕ) (neg : Bool) (v : Option ℕ) → IfSome v (λ w. w < vars) → IfSome (with_sign neg v) (λ l. l.var < vars)
sign_below vars neg None below = tt
sign_below vars neg (Some v) below = below

pub literal_below : (vars : ℕ) (word : List ℕ) → IfSome (literal vars word) (λ l. l.var < vars)
unfolding literal
literal_below vars [] = tt
literal_below vars (b ∷ bs) =
    elim (b == 45) as (λ t. IfSome (if t then with_sign true (variable vars bs) else with_sign false (variable vars (b ∷ bs))) (λ l. l.var < vars)) [
      | true ↦ sign_below vars true (variable vars bs) (variable_below vars bs)
      | false ↦ sign_below vars false (variable vars (b ∷ bs)) (variable_below vars (b ∷ bs))
    ]

-- ---- texts

abbrev pub is_header : Expected → Bool
is_header Problem = true
is_header Format = true
is_header VariableCount = true
is_header _ = false

-- before the number of variables nothing was read
abbrev pub IsEmpty : Text → Type 0
IsEmpty text = (text.clauses ≡ []) × (text.steps ≡ []) × (text.lits ≡ [])

pub record IsWithin (text : Text) : Type 0 where
  pub empty : is_header text.expected ≡ true → IsEmpty text
  pub lits : LitsBelow text.vars text.lits
  pub clauses : ClausesBelow text.vars text.clauses
  pub steps : All (StepBelow text.vars) text.steps

pub begun_within : IsWithin begun
begun_within = record { empty = λ h. (refl, refl, refl); lits = All-nil _; clauses = All-nil _; steps = All-nil _ }

choose : (b : Bool) (x y : Option Text) → IfSome x IsWithin → IfSome y IsWithin → IfSome (if b then x else y) IsWithin
choose true x y left right = left
choose false x y left right = right

follow : (o : Option Text) (f : Text → Option Text) → IfSome o IsWithin → ((t : Text) → IsWithin t → IfSome (f t) IsWithin)
    → IfSome (option_and_then f o) IsWithin
follow None f before more = tt
follow (Some t) f before more = more t before

-- what is expected changes alone
expects : (text : Text) (next : Expected) → (is_header next ≡ true → is_header text.expected ≡ true) → IsWithin text
    → IsWithin (record text { expected = next })
expects text next header within = record { empty = λ h. within.empty (header h); lits = within.lits; clauses = within.clauses; steps = within.steps }

vars_within : (text : Text) (n : Option ℕ) → IsEmpty text → IfSome (with_vars text n) IsWithin
vars_within text None empty = tt
vars_within text (Some n) empty = record {
  empty = λ h. empty;
  lits = rw (empty.2) (All-nil _);
  clauses = rw (empty.0) (All-nil _);
  steps = rw (empty.1) (All-nil _);
}

count_within : (text : Text) (n : Option ℕ) → IsWithin text → IfSome (with_count text n) IsWithin
count_within text None within = tt
count_within text (Some n) within =
    record { empty = λ h. absurd (let e : false ≡ true = h in (cc)); lits = within.lits; clauses = within.clauses; steps = within.steps }

literal_within : (next : Expected) (text : Text) (l : Option Lit) → is_header next ≡ false → IfSome l (λ l. l.var < text.vars) → IsWithin text
    → IfSome (with_literal next text l) IsWithin
literal_within next text None body below within = tt
literal_within next text (Some l) body below within = record {
  empty = λ h. absurd (let e : false ≡ true = sym body ∙ h in (cc));
  lits = All-push (λ q. q.var < text.vars) text.lits l within.lits below;
  clauses = within.clauses;
  steps = within.steps;
}

lit_or_end_within : (next : Expected) (ended text : Text) (word : List ℕ) → is_header next ≡ false → IsWithin ended → IsWithin text
    → IfSome (lit_or_end next ended text word) IsWithin
lit_or_end_within next ended text word body at_end within =
    choose (bytes_eq word (codes "0")) (Some ended) (with_literal next text (literal text.vars word)) at_end
    (literal_within next text (literal text.vars word) body (literal_below text.vars word) within)

clause_within : (text : Text) → is_header text.expected ≡ false → IsWithin text → IsWithin (with_clause text)
clause_within text body within = record {
  empty = λ h. absurd (let e : false ≡ true = sym body ∙ h in (cc));
  lits = All-nil _;
  clauses = All-push (LitsBelow text.vars) text.clauses text.lits within.clauses within.lits;
  steps = within.steps;
}

step_within : (step : Step) (text : Text) → StepBelow text.vars step → IsWithin text → IsWithin (with_step step text)
step_within step text below within = record {
  empty = λ h. absurd (let e : false ≡ true = h in (cc));
  lits = All-nil _;
  clauses = within.clauses;
  steps = All-push (StepBelow text.vars) text.steps step within.steps below;
}

-- ---- words

added_within : (text : Text) (word : List ℕ) → IsWithin text → IfSome (added_word text word) IsWithin
unfolding added_word
added_within text word within =
    lit_or_end_within Added (with_step (Add text.lits) text) text word refl (step_within (Add text.lits) text within.lits within) within

removed_within : (text : Text) (word : List ℕ) → IsWithin text → IfSome (removed_word text word) IsWithin
unfolding removed_word
removed_within text word within =
    lit_or_end_within Removed (with_step (Drop text.lits) text) text word refl (step_within (Drop text.lits) text within.lits within) within

start_within : (text : Text) (word : List ℕ) → IsWithin text → IfSome (start_word text word) IsWithin
unfolding start_word
start_within text word within =
    choose (bytes_eq word (codes "d")) (Some (record text { expected = Removed })) (added_word text word)
    (expects text Removed (λ h. absurd (let e : false ≡ true = h in (cc))) within) (added_within text word within)

formula_within : (text : Text) (word : List ℕ) → text.expected ≡ Formula → IsWithin text → IfSome (formula_word text word) IsWithin
unfolding formula_word
formula_within text word is within =
    choose (text.missing == 0) None (lit_or_end Formula (with_clause text) text word) tt
    (lit_or_end_within Formula (with_clause text) text word refl (clause_within text (ap is_header is) within) within)

-- one of the words of the header
key_within : (this : List ℕ) (next : Expected) (text : Text) (word : List ℕ) → is_header text.expected ≡ true → IsWithin text
    → IfSome (key this next text word) IsWithin
key_within this next text word header within =
    choose (bytes_eq word this) (Some (record text { expected = next })) None (expects text next (λ h. header) within) tt

word_at_within : (e : Expected) (text : Text) (word : List ℕ) → text.expected ≡ e → IsWithin text → IfSome (word_at e text word) IsWithin
word_at_within Problem text word is within = key_within (codes "p") Format text word (ap is_header is) within
word_at_within Format text word is within = key_within (codes "cnf") VariableCount text word (ap is_header is) within
word_at_within VariableCount text word is within = vars_within text (number word) (within.empty (ap is_header is))
word_at_within ClauseCount text word is within = count_within text (number word) within
word_at_within Formula text word is within = formula_within text word is within
word_at_within Start text word is within = start_within text word within
word_at_within Added text word is within = added_within text word within
word_at_within Removed text word is within = removed_within text word within

word_within : (text : Text) (word : List ℕ) → IsWithin text → IfSome (with_word text word) IsWithin
unfolding with_word
word_within text word within = word_at_within text.expected text word refl within

words_within : (text : Text) (some : List (List ℕ)) → IsWithin text → IfSome (with_words text some) IsWithin
words_within text [] within = within
words_within text (word ∷ rest) within =
    follow (with_word text word) (λ next. with_words next rest) (word_within text word within) (λ next w. words_within next rest w)

-- ---- lines

divided_within : (text : Text) → IsWithin text → IfSome (divided text) IsWithin
unfolding divided
divided_within text within =
    choose (expects_formula text.expected && text.missing == 0) (Some (record text { expected = Start })) None
    (expects text Start (λ h. absurd (let e : false ≡ true = h in (cc))) within) tt

pub line_within : (text : Text) (line : List ℕ) → IsWithin text → IfSome (with_line text line) IsWithin
unfolding with_line
line_within text line within =
    choose (begins_with_c line) (if are_c_drat (words line) then divided text else Some text) (with_words text (words line))
    (choose (are_c_drat (words line)) (divided text) (Some text) (divided_within text within) within) (words_within text (words line) within)

-- what was read, at the end
pub finished_below : (text : Text) → IsWithin text → IfSome (finished text) IsBelow
finished_below text within =
    let whole : Contents = record { vars = text.vars; clauses = text.clauses; steps = text.steps } in
    elim (may_end text.expected) as (λ b. IfSome (if b then Some whole else None) IsBelow) [
      | true ↦ record { formula = within.clauses; proof = within.steps }
      | false ↦ tt
    ]

pub taken_within : (text next : Text) (line : List ℕ) → with_line text line ≡ Some next → IsWithin text → IsWithin next
taken_within text next line taken within = rw taken at (line_within text line within)

pub below_at_end : (text : Text) (contents : Contents) → finished text ≡ Some contents → IsWithin text → IsBelow contents
below_at_end text contents is within = rw is at (finished_below text within)
