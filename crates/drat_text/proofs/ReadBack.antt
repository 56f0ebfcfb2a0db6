-- What is written is read back.
use Rattle.std.proofs.Common.{◌≡◌, ℕ, zero, suc, ◌+◌, ◌-◌, ◌≤◌, ◌<◌, ◌^◌, Bool, true, false, List, [], ◌∷◌, ◌++◌}
use Rattle.std.proofs.Common.{length, map, refl, sym, ap, ◌∙◌}
use Rattle.std.proofs.Common.{arith, Some, None, All, append_assoc, append-nil}
use Rattle.std.specs.Prelude.{◌==◌, codes, decimal, bytes_eq, option_and_then}
use Rattle.std.proofs.lemmas.Bool.Decides.{nat_tests}
use Rattle.std.specs.Char.{is_ascii_whitespace}
use Rattle.std.proofs.lemmas.List.Elements.{All-append, All-cons, All-nil, All-head, All-tail}
use Rattle.sat_base.specs.declared.literal.Lit.{Lit}
use Rattle.sat_base.specs.declared.certificate.Step.{Step}
use Rattle.sat_base.specs.declared.certificate.Step.TheVariants.{Add, Drop}
use Rattle.sat_base.specs.Logic.{LitsBelow, ClausesBelow}
use Rattle.drat_text.specs.declared.expecting.Expected.TheVariants.{Problem, Format, VariableCount, ClauseCount}
use Rattle.drat_text.specs.declared.expecting.Expected.TheVariants.{Formula, Start, Added, Removed}
use Rattle.drat_text.specs.declared.expecting.Expected.{Expected}
use Rattle.drat_text.specs.Parts.{has_bytes, is_line_feed, lines, words}
use Rattle.drat_text.specs.Numbers.{greatest, number, literal}
use Rattle.drat_text.specs.Certificate.{Contents, StepBelow}
use Rattle.drat_text.specs.Expecting.{Text, begun, with_word, with_words, formula_word, added_word, removed_word}
use Rattle.drat_text.specs.Expecting.{start_word, begins_with_c, divided, with_line}
use Rattle.drat_text.specs.Reading.{Spelled, Spells, with_lines, spelled}
use Rattle.drat_text.specs.Writing.{HasText, text_of, lit_word, lits_text, clauses_text, step_text, steps_text}
use Rattle.drat_text.specs.Writing.{header_text}
use Rattle.drat_text.proofs.WordLemmas.{are_digits, number_is, IsLitWord, lit_word_is, IsPlain, plain_decimal}
use Rattle.drat_text.proofs.WordLemmas.{word_then, word_last, IsInLine, in_line, line_then}

feed_cons : (b : ℕ) (bs : List ℕ) → is_line_feed b ≡ false → IsInLine bs → IsInLine (b ∷ bs)
feed_cons b bs one rest = All-cons (λ c. is_line_feed c ≡ false) b bs one rest

feed_nil : IsInLine []
feed_nil = All-nil (λ c. is_line_feed c ≡ false)

plain_cons : (b : ℕ) (bs : List ℕ) → is_ascii_whitespace b ≡ false → IsPlain bs → IsPlain (b ∷ bs)
plain_cons b bs one rest = All-cons (λ c. is_ascii_whitespace c ≡ false) b bs one rest

plain_nil : IsPlain []
plain_nil = All-nil (λ c. is_ascii_whitespace c ≡ false)

-- ---- the line of a clause

-- without its line feed
abbrev lits_line : List Lit → List ℕ
lits_line [] = codes "0"
lits_line (l ∷ ls) = lit_word l ++ 32 ∷ lits_line ls

lits_fed : (ls : List Lit) (rest : List ℕ) → lits_text ls ++ rest ≡ lits_line ls ++ 10 ∷ rest
lits_fed [] rest = refl
lits_fed (l ∷ ls) rest =
    append_assoc (lit_word l) (32 ∷ lits_text ls) rest ∙ ap (λ bs. lit_word l ++ 32 ∷ bs) (lits_fed ls rest)
    ∙ sym (append_assoc (lit_word l) (32 ∷ lits_line ls) (10 ∷ rest))

abbrev lits_words : List Lit → List (List ℕ)
lits_words [] = codes "0" ∷ []
lits_words (l ∷ ls) = lit_word l ∷ lits_words ls

words_of_lits : (vars : ℕ) (ls : List Lit) → vars ≤ greatest → LitsBelow vars ls → words (lits_line ls) ≡ lits_words ls
words_of_lits vars [] small below = refl
words_of_lits vars (l ∷ ls) small below =
    let is = lit_word_is vars l small (All-head (λ q. q.var < vars) l ls below) in
    word_then (lit_word l) (lits_line ls) is.some is.plain
    ∙ ap (λ ws. lit_word l ∷ ws) (words_of_lits vars ls small (All-tail (λ q. q.var < vars) l ls below))

lits_in_line : (vars : ℕ) (ls : List Lit) → vars ≤ greatest → LitsBelow vars ls → IsInLine (lits_line ls)
lits_in_line vars [] small below = All-cons (λ b. is_line_feed b ≡ false) 48 [] refl (All-nil (λ b. is_line_feed b ≡ false))
lits_in_line vars (l ∷ ls) small below =
    let is = lit_word_is vars l small (All-head (λ q. q.var < vars) l ls below) in
    All-append (λ b. is_line_feed b ≡ false) (lit_word l) (32 ∷ lits_line ls) (in_line (lit_word l) is.plain)
    (All-cons (λ b. is_line_feed b ≡ false) 32 (lits_line ls) refl (lits_in_line vars ls small (All-tail (λ q. q.var < vars) l ls below)))

no_comment : (vars : ℕ) (ls : List Lit) → vars ≤ greatest → LitsBelow vars ls → begins_with_c (lits_line ls) ≡ false
no_comment vars [] small below = refl
no_comment vars (l ∷ ls) small below =
    (lit_word_is vars l small (All-head (λ q. q.var < vars) l ls below)).no_comment (32 ∷ lits_line ls)

-- ---- texts

abbrev in_formula : (vars missing : ℕ) → List (List Lit) → List Lit → Text
in_formula vars missing clauses lits =
    record { expected = Formula; vars = vars; missing = missing; clauses = clauses; steps = []; lits = lits }

abbrev in_step : Expected → ℕ → List (List Lit) → List Step → List Lit → Text
in_step expected vars clauses steps lits =
    record { expected = expected; vars = vars; missing = 0; clauses = clauses; steps = steps; lits = lits }

push_more : (front ls : List Lit) (l : Lit) → (front ++ l ∷ []) ++ ls ≡ front ++ l ∷ ls
push_more front ls l = append_assoc front (l ∷ []) ls

not_zero : (m : ℕ) → (suc m == 0) ≡ false
not_zero m = grind (arith, nat_tests)

one_less : (m : ℕ) → suc m - 1 ≡ m
one_less m = omega arith

formula_end : (vars m : ℕ) (cs : List (List Lit)) (front : List Lit)
    → with_word (in_formula vars (suc m) cs front) (codes "0") ≡ Some (in_formula vars m (cs ++ front ∷ []) [])
unfolding with_word formula_word
formula_end vars m cs front = rw (not_zero m, one_less m) refl

formula_lit : (vars m : ℕ) (cs : List (List Lit)) (front : List Lit) (l : Lit) (word : List ℕ) → IsLitWord vars l word
    → with_word (in_formula vars (suc m) cs front) word ≡ Some (in_formula vars (suc m) cs (front ++ l ∷ []))
unfolding with_word formula_word
formula_lit vars m cs front l word is = rw (not_zero m, is.no_end, is.reads) refl

formula_lits : (vars m : ℕ) (cs : List (List Lit)) (front ls : List Lit) → vars ≤ greatest → LitsBelow vars ls
    → with_words (in_formula vars (suc m) cs front) (lits_words ls) ≡ Some (in_formula vars m (cs ++ (front ++ ls) ∷ []) [])
formula_lits vars m cs front [] small below =
    ap (option_and_then (λ next. with_words next [])) (formula_end vars m cs front)
    ∙ ap (λ (c : List Lit). Some (in_formula vars m (cs ++ c ∷ []) [])) (sym (append-nil front))
formula_lits vars m cs front (l ∷ ls) small below =
    ap (option_and_then (λ next. with_words next (lits_words ls)))
    (formula_lit vars m cs front l (lit_word l) (lit_word_is vars l small (All-head (λ q. q.var < vars) l ls below)))
    ∙ formula_lits vars m cs (front ++ l ∷ []) ls small (All-tail (λ q. q.var < vars) l ls below)
    ∙ ap (λ (c : List Lit). Some (in_formula vars m (cs ++ c ∷ []) [])) (push_more front ls l)

added_end : (vars : ℕ) (cs : List (List Lit)) (ss : List Step) (front : List Lit)
    → with_word (in_step Added vars cs ss front) (codes "0") ≡ Some (in_step Start vars cs (ss ++ Add front ∷ []) [])
unfolding with_word added_word
added_end vars cs ss front = refl

added_lit : (vars : ℕ) (cs : List (List Lit)) (ss : List Step) (front : List Lit) (l : Lit) (word : List ℕ) → IsLitWord vars l word
    → with_word (in_step Added vars cs ss front) word ≡ Some (in_step Added vars cs ss (front ++ l ∷ []))
unfolding with_word added_word
added_lit vars cs ss front l word is = rw (is.no_end, is.reads) refl

-- the word of the first of these literals
first_word : (vars : ℕ) (l : Lit) (ls : List Lit) → vars ≤ greatest → LitsBelow vars (l ∷ ls) → IsLitWord vars l (lit_word l)
first_word vars l ls small below = lit_word_is vars l small (All-head (λ q. q.var < vars) l ls below)

added_lits : (vars : ℕ) (cs : List (List Lit)) (ss : List Step) (front ls : List Lit) → vars ≤ greatest → LitsBelow vars ls
    → with_words (in_step Added vars cs ss front) (lits_words ls) ≡ Some (in_step Start vars cs (ss ++ Add (front ++ ls) ∷ []) [])
added_lits vars cs ss front [] small below =
    ap (option_and_then (λ next. with_words next [])) (added_end vars cs ss front)
    ∙ ap (λ (c : List Lit). Some (in_step Start vars cs (ss ++ Add c ∷ []) [])) (sym (append-nil front))
added_lits vars cs ss front (l ∷ ls) small below =
    ap (option_and_then (λ next. with_words next (lits_words ls))) (added_lit vars cs ss front l (lit_word l) (first_word vars l ls small below))
    ∙ added_lits vars cs ss (front ++ l ∷ []) ls small (All-tail (λ q. q.var < vars) l ls below)
    ∙ ap (λ (c : List Lit). Some (in_step Start vars cs (ss ++ Add c ∷ []) [])) (push_more front ls l)

removed_end : (vars : ℕ) (cs : List (List Lit)) (ss : List Step) (front : List Lit)
    → with_word (in_step Removed vars cs ss front) (codes "0") ≡ Some (in_step Start vars cs (ss ++ Drop front ∷ []) [])
unfolding with_word removed_word
removed_end vars cs ss front = refl

removed_lit : (vars : ℕ) (cs : List (List Lit)) (ss : List Step) (front : List Lit) (l : Lit) (word : List ℕ) → IsLitWord vars l word
    → with_word (in_step Removed vars cs ss front) word ≡ Some (in_step Removed vars cs ss (front ++ l ∷ []))
unfolding with_word removed_word
removed_lit vars cs ss front l word is = rw (is.no_end, is.reads) refl

removed_lits : (vars : ℕ) (cs : List (List Lit)) (ss : List Step) (front ls : List Lit) → vars ≤ greatest → LitsBelow vars ls
    → with_words (in_step Removed vars cs ss front) (lits_words ls) ≡ Some (in_step Start vars cs (ss ++ Drop (front ++ ls) ∷ []) [])
removed_lits vars cs ss front [] small below =
    ap (option_and_then (λ next. with_words next [])) (removed_end vars cs ss front)
    ∙ ap (λ (c : List Lit). Some (in_step Start vars cs (ss ++ Drop c ∷ []) [])) (sym (append-nil front))
removed_lits vars cs ss front (l ∷ ls) small below =
    ap (option_and_then (λ next. with_words next (lits_words ls))) (removed_lit vars cs ss front l (lit_word l) (first_word vars l ls small below))
    ∙ removed_lits vars cs ss (front ++ l ∷ []) ls small (All-tail (λ q. q.var < vars) l ls below)
    ∙ ap (λ (c : List Lit). Some (in_step Start vars cs (ss ++ Drop c ∷ []) [])) (push_more front ls l)

start_end : (vars : ℕ) (cs : List (List Lit)) (ss : List Step)
    → with_word (in_step Start vars cs ss []) (codes "0") ≡ Some (in_step Start vars cs (ss ++ Add [] ∷ []) [])
unfolding with_word start_word added_word
start_end vars cs ss = refl

start_lit : (vars : ℕ) (cs : List (List Lit)) (ss : List Step) (l : Lit) (word : List ℕ) → IsLitWord vars l word
    → with_word (in_step Start vars cs ss []) word ≡ Some (in_step Added vars cs ss (l ∷ []))
unfolding with_word start_word added_word
start_lit vars cs ss l word is = rw (is.no_d, is.no_end, is.reads) refl

start_lits : (vars : ℕ) (cs : List (List Lit)) (ss : List Step) (ls : List Lit) → vars ≤ greatest → LitsBelow vars ls
    → with_words (in_step Start vars cs ss []) (lits_words ls) ≡ Some (in_step Start vars cs (ss ++ Add ls ∷ []) [])
start_lits vars cs ss [] small below = ap (option_and_then (λ next. with_words next [])) (start_end vars cs ss)
start_lits vars cs ss (l ∷ ls) small below =
    ap (option_and_then (λ next. with_words next (lits_words ls))) (start_lit vars cs ss l (lit_word l) (first_word vars l ls small below))
    ∙ added_lits vars cs ss (l ∷ []) ls small (All-tail (λ q. q.var < vars) l ls below)

-- ---- lines

-- a line of words, which is no comment
words_line : (text next : Text) (line : List ℕ) (ws : List (List ℕ)) → begins_with_c line ≡ false → words line ≡ ws
    → with_words text ws ≡ Some next → with_line text line ≡ Some next
unfolding with_line
words_line text next line ws none are taken = rw (none, are) taken

line_taken : (passed : ℕ) (text next : Text) (line rest : List ℕ) (result : Spelled) → IsInLine line → with_line text line ≡ Some next
    → ((k : ℕ) → with_lines k next (lines rest) ≡ result) → with_lines passed text (lines (line ++ 10 ∷ rest)) ≡ result
line_taken passed text next line rest result inside taken more = rw (line_then line rest inside, taken) (more (suc passed))

clauses_read : (vars : ℕ) (cs done : List (List Lit)) (rest : List ℕ) (result : Spelled) → vars ≤ greatest → ClausesBelow vars cs
    → ((k : ℕ) → with_lines k (in_formula vars 0 (done ++ cs) []) (lines rest) ≡ result)
    → (passed : ℕ) → with_lines passed (in_formula vars (length cs) done []) (lines (clauses_text cs ++ rest)) ≡ result
clauses_read vars [] done rest result small below more passed =
    ap (λ (c : List (List Lit)). with_lines passed (in_formula vars 0 c []) (lines rest)) (sym (append-nil done)) ∙ more passed
clauses_read vars (c ∷ cs) done rest result small below more passed =
    let here : LitsBelow vars c = All-head (LitsBelow vars) c cs below in
    let bytes : clauses_text (c ∷ cs) ++ rest ≡ lits_line c ++ 10 ∷ (clauses_text cs ++ rest) =
    append_assoc (lits_text c) (clauses_text cs) rest ∙ lits_fed c (clauses_text cs ++ rest) in
    let taken = words_line (in_formula vars (suc (length cs)) done []) (in_formula vars (length cs) (done ++ c ∷ []) []) (lits_line c) (lits_words c)
    (no_comment vars c small here) (words_of_lits vars c small here) (formula_lits vars (length cs) done [] c small here) in
    ap (λ bs. with_lines passed (in_formula vars (suc (length cs)) done []) (lines bs)) bytes
    ∙ line_taken passed _ _ (lits_line c) (clauses_text cs ++ rest) result (lits_in_line vars c small here) taken
    (clauses_read vars cs (done ++ c ∷ []) rest result small (All-tail (LitsBelow vars) c cs below)
    (λ k. ap (λ (all : List (List Lit)). with_lines k (in_formula vars 0 all []) (lines rest)) (append_assoc done (c ∷ []) cs) ∙ more k))

-- the line of a step, without its line feed
abbrev step_line : Step → List ℕ
step_line (Add c) = lits_line c
step_line (Drop c) = 100 ∷ 32 ∷ lits_line c

step_fed : (s : Step) (rest : List ℕ) → step_text s ++ rest ≡ step_line s ++ 10 ∷ rest
step_fed (Add c) rest = lits_fed c rest
step_fed (Drop c) rest = ap (λ bs. 100 ∷ 32 ∷ bs) (lits_fed c rest)

step_in_line : (vars : ℕ) (s : Step) → vars ≤ greatest → StepBelow vars s → IsInLine (step_line s)
step_in_line vars (Add c) small below = lits_in_line vars c small below
step_in_line vars (Drop c) small below =
    All-cons (λ b. is_line_feed b ≡ false) 100 (32 ∷ lits_line c) refl
    (All-cons (λ b. is_line_feed b ≡ false) 32 (lits_line c) refl (lits_in_line vars c small below))

letter_d_plain : IsPlain (codes "d")
letter_d_plain = plain_cons 100 [] refl plain_nil

start_d : (vars : ℕ) (cs : List (List Lit)) (ss : List Step)
    → with_word (in_step Start vars cs ss []) (codes "d") ≡ Some (in_step Removed vars cs ss [])
unfolding with_word start_word
start_d vars cs ss = refl

step_taken : (vars : ℕ) (cs : List (List Lit)) (ss : List Step) (s : Step) → vars ≤ greatest → StepBelow vars s
    → with_line (in_step Start vars cs ss []) (step_line s) ≡ Some (in_step Start vars cs (ss ++ s ∷ []) [])
step_taken vars cs ss (Add c) small below =
    words_line _ _ (lits_line c) (lits_words c) (no_comment vars c small below) (words_of_lits vars c small below) (start_lits vars cs ss c small below)
step_taken vars cs ss (Drop c) small below =
    words_line _ _ (100 ∷ 32 ∷ lits_line c) (codes "d" ∷ lits_words c) refl
    (word_then (codes "d") (lits_line c) refl letter_d_plain ∙ ap (λ ws. codes "d" ∷ ws) (words_of_lits vars c small below))
    (ap (option_and_then (λ next. with_words next (lits_words c))) (start_d vars cs ss) ∙ removed_lits vars cs ss [] c small below)

last_line : (vars passed : ℕ) (cs : List (List Lit)) (ss : List Step)
    → with_lines passed (in_step Start vars cs ss []) (lines []) ≡ Spells (record { vars = vars; clauses = cs; steps = ss })
unfolding with_line
last_line vars passed cs ss = refl

steps_read : (vars : ℕ) (cs : List (List Lit)) (ss done : List Step) → vars ≤ greatest → All (StepBelow vars) ss
    → (passed : ℕ) → with_lines passed (in_step Start vars cs done []) (lines (steps_text ss))
    ≡ Spells (record { vars = vars; clauses = cs; steps = done ++ ss })
steps_read vars cs [] done small below passed =
    last_line vars passed cs done ∙ ap (λ (all : List Step). Spells (record { vars = vars; clauses = cs; steps = all })) (sym (append-nil done))
steps_read vars cs (s ∷ ss) done small below passed =
    let here : StepBelow vars s = All-head (StepBelow vars) s ss below in
    ap (λ bs. with_lines passed (in_step Start vars cs done []) (lines bs)) (step_fed s (steps_text ss))
    ∙ line_taken passed _ _ (step_line s) (steps_text ss) _ (step_in_line vars s small here) (step_taken vars cs done s small here)
    (λ k. steps_read vars cs ss (done ++ s ∷ []) small (All-tail (StepBelow vars) s ss below) k
    ∙ ap (λ (all : List Step). Spells (record { vars = vars; clauses = cs; steps = all })) (append_assoc done (s ∷ []) ss))

-- ---- the header and the line that divides

abbrev divider : List ℕ
divider = codes "c drat"

divider_in_line : IsInLine divider
divider_in_line =
    feed_cons 99 (codes " drat") refl (feed_cons 32 (codes "drat") refl (feed_cons 100 (codes "rat") refl (feed_cons 114 (codes "at") refl
    (feed_cons 97 (codes "t") refl (feed_cons 116 [] refl feed_nil)))))

divider_taken : (vars : ℕ) (cs : List (List Lit)) → with_line (in_formula vars 0 cs []) divider ≡ Some (in_step Start vars cs [] [])
unfolding with_line divided
divider_taken vars cs = refl

abbrev header_line : (vars count : ℕ) → List ℕ
header_line vars count = codes "p cnf " ++ (decimal vars ++ 32 ∷ decimal count)

header_fed : (vars count : ℕ) (rest : List ℕ) → header_text vars count ++ rest ≡ header_line vars count ++ 10 ∷ rest
header_fed vars count rest =
    ap (λ bs. codes "p cnf " ++ bs) (append_assoc (decimal vars) (32 ∷ (decimal count ++ 10 ∷ [])) rest
    ∙ ap (λ bs. decimal vars ++ 32 ∷ bs) (append_assoc (decimal count) (10 ∷ []) rest)
    ∙ ap (λ bs. decimal vars ++ 32 ∷ bs) refl)
    ∙ ap (λ bs. codes "p cnf " ++ bs) (sym (append_assoc (decimal vars) (32 ∷ decimal count) (10 ∷ rest)))

p_plain : IsPlain (codes "p")
p_plain = plain_cons 112 [] refl plain_nil

cnf_plain : IsPlain (codes "cnf")
cnf_plain = plain_cons 99 (codes "nf") refl (plain_cons 110 (codes "f") refl (plain_cons 102 [] refl plain_nil))

header_words : (vars count : ℕ) → vars ≤ greatest → count ≤ greatest
    → words (header_line vars count) ≡ codes "p" ∷ codes "cnf" ∷ decimal vars ∷ decimal count ∷ []
header_words vars count small few =
    let v = are_digits vars (omega arith) in
    let n = are_digits count (omega arith) in
    word_then (codes "p") (codes "cnf " ++ (decimal vars ++ 32 ∷ decimal count)) refl p_plain
    ∙ ap (λ ws. codes "p" ∷ ws) (word_then (codes "cnf") (decimal vars ++ 32 ∷ decimal count) refl cnf_plain
    ∙ ap (λ ws. codes "cnf" ∷ ws) (word_then (decimal vars) (decimal count) v.some (plain_decimal vars (omega arith))
    ∙ ap (λ ws. decimal vars ∷ ws) (word_last (decimal count) n.some (plain_decimal count (omega arith)))))

header_read : (vars count : ℕ) → vars ≤ greatest → count ≤ greatest
    → with_words begun (codes "p" ∷ codes "cnf" ∷ decimal vars ∷ decimal count ∷ []) ≡ Some (in_formula vars count [] [])
unfolding with_word
header_read vars count small few =
    rw (number_is vars (decimal vars) small (are_digits vars (omega arith)), number_is count (decimal count) few (are_digits count (omega arith))) refl

header_in_line : (vars count : ℕ) → vars ≤ greatest → count ≤ greatest → IsInLine (header_line vars count)
header_in_line vars count small few =
    let counts : List ℕ = decimal vars ++ 32 ∷ decimal count in
    let inside : IsInLine counts =
    All-append (λ b. is_line_feed b ≡ false) (decimal vars) (32 ∷ decimal count) (in_line (decimal vars) (plain_decimal vars (omega arith)))
    (feed_cons 32 (decimal count) refl (in_line (decimal count) (plain_decimal count (omega arith)))) in
    feed_cons 112 (codes " cnf " ++ counts) refl (feed_cons 32 (codes "cnf " ++ counts) refl (feed_cons 99 (codes "nf " ++ counts) refl
    (feed_cons 110 (codes "f " ++ counts) refl (feed_cons 102 (codes " " ++ counts) refl (feed_cons 32 counts refl inside)))))

pub read_back : (contents : Contents) → HasText contents → spelled (text_of contents) ≡ Spells contents
unfolding spelled text_of
read_back contents has =
    let vars = contents.vars in
    let cs = contents.clauses in
    let ss = contents.steps in
    let tail : List ℕ = clauses_text cs ++ (codes "c drat\n" ++ steps_text ss) in
    ap (λ bs. with_lines 0 begun (lines bs)) (header_fed vars (length cs) tail)
    ∙ line_taken 0 begun (in_formula vars (length cs) [] []) (header_line vars (length cs)) tail (Spells contents)
    (header_in_line vars (length cs) has.vars has.count)
    (words_line begun (in_formula vars (length cs) [] []) (header_line vars (length cs)) _ refl (header_words vars (length cs) has.vars has.count)
    (header_read vars (length cs) has.vars has.count))
    (clauses_read vars cs [] (codes "c drat\n" ++ steps_text ss) (Spells contents) has.vars has.below.formula
    (λ k. line_taken k (in_formula vars 0 cs []) (in_step Start vars cs [] []) divider (steps_text ss) (Spells contents) divider_in_line
    (divider_taken vars cs) (steps_read vars cs ss [] has.vars has.below.proof)))
