-- Loops that count turns up, beside readings that count them down.
use Rattle.std.proofs.Common.{◌≡◌, ℕ, zero, suc, ◌+◌, ◌-◌, ◌<◌, ◌≤◌, max, Bool, true, false, ◌&&◌, List, [], ◌∷◌, ◌++◌, Option, Some, None}
use Rattle.std.proofs.Common.{Result, Ok, Err, is_some, IsErrAnd, if◌then◌else◌, refl, sym, ap, subst, ◌∙◌, append_assoc, arith}
use Rattle.std.specs.Ordering.{ord_max}
use Rattle.std.proofs.Common.{nat_cmp, rules}
use Rattle.std.proofs.lemmas.Grind.{common_steps}
use Rattle.sc_tree.specs.declared.token.Token.{Token}
use Rattle.sc_tree.specs.declared.token.Punct.{Punct}
use Rattle.sc_tree.specs.declared.token.StrToken.{StrToken}
use Rattle.std.proofs.lemmas.List.{append-nil}
use Rattle.sc_tree.specs.declared.op.BinaryOp.{BinaryOp}
use Rattle.sc_base.specs.declared.pos.Pos.{Pos}
use Rattle.sc_base.specs.declared.pos.NameId.{NameId}
use Rattle.sc_tree.specs.Tokens.{first_pos}
use Rattle.sc_tree.specs.Tables.{◌>>=◌}
use Rattle.sc_parse_expr.specs.declared.found.Wanted.{Wanted}
use Rattle.sc_parse_expr.specs.declared.found.Phrase.{Phrase}
use Rattle.sc_parse_expr.specs.declared.found.Found.{Found}
use Rattle.sc_parse_expr.specs.declared.found.Operand.{Operand}
use Rattle.sc_parse_front.specs.Front.{front, front_string, behind, is_comma, binary_at, Suffix, Indexing, Calling, Fielding, Stepping, NoSuffix, suffix}
use Rattle.sc_parse_expr.specs.Read.{Read, read, Parse, Listed, listing, listed, commas, many}
use Rattle.sc_parse_expr.specs.Reading.{combined, chained, chain, suffixed, suffixes, sequenced, sequencing, sequence, operators, derived}
use Rattle.sc_parse_expr.specs.Reading.{derive, starts, piece_by, gathering, gather, joined, passed, strings, past_strings, enrolled, parse}
use Rattle.sc_parse_expr.specs.Reading.{wanted}
use Rattle.sc_parse_front.specs.Start.{Start, start}
use Rattle.sc_parse_expr.specs.Reading.{one_suffix, one_derived}
use Rattle.sc_parse_front.specs.Front.{is_suffix}
use Rattle.sc_parse_front.specs.Front.{is_derived}
use Rattle.sc_parse_expr.specs.declared.found.Declared.{Declared}
use Rattle.sc_tree.specs.declared.grammar.Piece.{Piece}
use Rattle.sc_tree.specs.declared.grammar.Gathered.{Gathered}
use Rattle.sc_tree.specs.Specifiers.{with_piece}
use Rattle.sc_parse_front.specs.declared.error.ParseError.{ParseError}
use Rattle.sc_parse_front.specs.declared.error.ParseError.TheVariants.{Memory, NoMatch}
use Rattle.sc_parse_front.specs.declared.start.Start as begun
use Rattle.sc_parse_front.specs.declared.start.Start.TheVariants as begin
use Rattle.sc_parse_front.specs.Start.{start_of}
use Rattle.sc_parse_expr.specs.Gives.{Gives, GivesAs}
use Rattle.sc_parse_front.specs.Error.{Makes}
use Rattle.sc_parse_expr.specs.Nests.{below}
use Rattle.sc_tree.specs.declared.expr.Head.{Head}
use Rattle.sc_parse_expr.specs.declared.found.Headed.{Headed}

-- the items of a list alone
abbrev pub items_of : {B : Type 0} → Read (Listed B) → Option (Read B)
items_of r = Some (read r.it.items r.height r.rest)

-- the greater of two numbers
pub ord_max_nat : (a b : ℕ) → ord_max nat_cmp a b ≡ max a b
ord_max_nat a b = first_of (search rules, grind (arith, common_steps))

-- a reading that goes on as long as the test says, by one step each time, and for at most so many turns
pub record Loops {X : Type 0} (loop : ℕ → X → Option X) (more : X → Bool) (step : X → Option X) : Type 0 where
  pub goes : (n : ℕ) (x : X) → more x ≡ true → loop (suc n) x ≡ (step x >>= λ y. loop n y)
  pub stops : (n : ℕ) (x : X) → more x ≡ false → loop n x ≡ Some x
  pub out : (x : X) → more x ≡ true → loop zero x ≡ None

module _ {X : Type 0} {loop : ℕ → X → Option X} {more : X → Bool} {step : X → Option X} (loops : Loops loop more step) where
  pub loop_stops : {o : Option X} (n : ℕ) (x : X) → o ≡ loop n x → more x ≡ false → o ≡ Some x
  loop_stops n x e not_so = e ∙ loops.stops n x not_so

  pub loop_refused : {o : Option X} (n at : ℕ) (x : X) → at < n → o ≡ loop (n - at) x → more x ≡ true → step x ≡ None → o ≡ None
  loop_refused n at x below e so none =
      let turn : n - at ≡ suc (n - (at + 1)) = omega arith in
      e ∙ ap (λ m. loop m x) turn ∙ loops.goes (n - (at + 1)) x so ∙ ap (λ o. o >>= λ y. loop (n - (at + 1)) y) none

  pub loop_next : {o : Option X} (n at : ℕ) (x y : X) → at < n → o ≡ loop (n - at) x → more x ≡ true → step x ≡ Some y → o ≡ loop (n - (at + 1)) y
  loop_next n at x y below e so some =
      let turn : n - at ≡ suc (n - (at + 1)) = omega arith in
      e ∙ ap (λ m. loop m x) turn ∙ loops.goes (n - (at + 1)) x so ∙ ap (λ o. o >>= λ y. loop (n - (at + 1)) y) some

  pub loop_out : {o : Option X} (n at : ℕ) (x : X) → n ≤ at → o ≡ loop (n - at) x → more x ≡ true → o ≡ None
  loop_out n at x done e so = let none : n - at ≡ 0 = omega arith in e ∙ ap (λ m. loop m x) none ∙ loops.out x so

module _ (types : List NameId) (limit : ℕ) (inner : Wanted → Parse Phrase) where
  abbrev pub more_suffixes : Read Operand → Bool
  more_suffixes a = is_suffix (suffix (front a.rest))

  abbrev pub suffix_step : Pos → Read Operand → Option (Read Operand)
  suffix_step begin a = one_suffix types limit inner begin (suffix (front a.rest)) a

  suffixed_goes : (go : Read Operand → Option (Read Operand)) (begin : Pos) (s : Suffix) (a : Read Operand) → is_suffix s ≡ true
      → suffixed types limit inner go begin s a ≡ (one_suffix types limit inner begin s a >>= λ r. go r)
  unfolding suffixed
  suffixed_goes go begin Indexing a so = refl
  suffixed_goes go begin Calling a so = refl
  suffixed_goes go begin (Fielding arrow) a so = refl
  suffixed_goes go begin (Stepping by) a so = refl
  suffixed_goes go begin NoSuffix a so = (cc)

  suffixed_stops : (go : Read Operand → Option (Read Operand)) (begin : Pos) (s : Suffix) (a : Read Operand) → is_suffix s ≡ false
      → suffixed types limit inner go begin s a ≡ Some a
  unfolding suffixed
  suffixed_stops go begin NoSuffix a not_so = refl
  suffixed_stops go begin Indexing a not_so = (cc)
  suffixed_stops go begin Calling a not_so = (cc)
  suffixed_stops go begin (Fielding arrow) a not_so = (cc)
  suffixed_stops go begin (Stepping by) a not_so = (cc)

  abbrev nothing : Read Operand → Option (Read Operand)
  nothing r = None

  bind_nothing : (o : Option (Read Operand)) → (o >>= nothing) ≡ None
  bind_nothing (Some x) = refl
  bind_nothing None = refl

  suffixes_stop : (begin : Pos) (n : ℕ) (a : Read Operand) → more_suffixes a ≡ false → suffixes types limit inner n begin a ≡ Some a
  unfolding suffixes
  suffixes_stop begin zero a not_so = suffixed_stops (λ r. None) begin (suffix (front a.rest)) a not_so
  suffixes_stop begin (suc n) a not_so = suffixed_stops (λ r. suffixes types limit inner n begin r) begin (suffix (front a.rest)) a not_so

  pub suffixes_loop : (begin : Pos) → Loops (λ n a. suffixes types limit inner n begin a) more_suffixes (suffix_step begin)
  unfolding suffixes
  suffixes_loop begin = record {
    goes = λ n a so. suffixed_goes (λ r. suffixes types limit inner n begin r) begin (suffix (front a.rest)) a so;
    stops = λ n a not_so. suffixes_stop begin n a not_so;
    out = λ a so. suffixed_goes (λ r. None) begin (suffix (front a.rest)) a so ∙ bind_nothing (suffix_step begin a);
  }

  -- the operators of the level above
  abbrev pub more_operators : ℕ → Read Operand → Bool
  more_operators l a = is_some (binary_at (suc l) (front a.rest))

  abbrev pub operator_step_by : ℕ → Pos → Option BinaryOp → Read Operand → Option (Read Operand)
  operator_step_by l begin (Some op) a = combined types limit inner l begin op a
  operator_step_by l begin None a = None

  abbrev pub operator_step : ℕ → Pos → Read Operand → Option (Read Operand)
  operator_step l begin a = operator_step_by l begin (binary_at (suc l) (front a.rest)) a

  chained_goes : (go : Read Operand → Option (Read Operand)) (l : ℕ) (begin : Pos) (o : Option BinaryOp) (a : Read Operand) → is_some o ≡ true
      → chained types limit inner go l begin o a ≡ (operator_step_by l begin o a >>= λ r. go r)
  unfolding chained
  chained_goes go l begin (Some op) a so = refl
  chained_goes go l begin None a so = (cc)

  chained_stops : (go : Read Operand → Option (Read Operand)) (l : ℕ) (begin : Pos) (o : Option BinaryOp) (a : Read Operand) → is_some o ≡ false
      → chained types limit inner go l begin o a ≡ Some a
  unfolding chained
  chained_stops go l begin None a not_so = refl
  chained_stops go l begin (Some op) a not_so = (cc)

  chain_stop : (l : ℕ) (begin : Pos) (n : ℕ) (a : Read Operand) → more_operators l a ≡ false → chain types limit inner n l begin a ≡ Some a
  unfolding chain
  chain_stop l begin zero a not_so = chained_stops (λ r. None) l begin (binary_at (suc l) (front a.rest)) a not_so
  chain_stop l begin (suc n) a not_so = chained_stops (λ r. chain types limit inner n l begin r) l begin (binary_at (suc l) (front a.rest)) a not_so

  pub chain_loop : (l : ℕ) (begin : Pos) → Loops (λ n a. chain types limit inner n l begin a) (more_operators l) (operator_step l begin)
  unfolding chain
  chain_loop l begin = record {
    goes = λ n a so. chained_goes (λ r. chain types limit inner n l begin r) l begin (binary_at (suc l) (front a.rest)) a so;
    stops = λ n a not_so. chain_stop l begin n a not_so;
    out = λ a so. chained_goes (λ r. None) l begin (binary_at (suc l) (front a.rest)) a so ∙ bind_nothing (operator_step l begin a);
  }

  abbrev pub more_commas : Read Operand → Bool
  more_commas a = is_comma (front a.rest)

  abbrev pub comma_step : Pos → Read Operand → Option (Read Operand)
  comma_step begin a = sequenced types limit inner begin a

  sequencing_goes : (go : Read Operand → Option (Read Operand)) (begin : Pos) (b : Bool) (a : Read Operand) → b ≡ true
      → sequencing types limit inner go begin b a ≡ (comma_step begin a >>= λ r. go r)
  unfolding sequencing
  sequencing_goes go begin true a so = refl
  sequencing_goes go begin false a so = (cc)

  sequencing_stops : (go : Read Operand → Option (Read Operand)) (begin : Pos) (b : Bool) (a : Read Operand) → b ≡ false
      → sequencing types limit inner go begin b a ≡ Some a
  unfolding sequencing
  sequencing_stops go begin false a not_so = refl
  sequencing_stops go begin true a not_so = (cc)

  sequence_stop : (begin : Pos) (n : ℕ) (a : Read Operand) → more_commas a ≡ false → sequence types limit inner n begin a ≡ Some a
  unfolding sequence
  sequence_stop begin zero a not_so = sequencing_stops (λ r. None) begin (is_comma (front a.rest)) a not_so
  sequence_stop begin (suc n) a not_so = sequencing_stops (λ r. sequence types limit inner n begin r) begin (is_comma (front a.rest)) a not_so

  pub sequence_loop : (begin : Pos) → Loops (λ n a. sequence types limit inner n begin a) more_commas (comma_step begin)
  unfolding sequence
  sequence_loop begin = record {
    goes = λ n a so. sequencing_goes (λ r. sequence types limit inner n begin r) begin (is_comma (front a.rest)) a so;
    stops = λ n a not_so. sequence_stop begin n a not_so;
    out = λ a so. sequencing_goes (λ r. None) begin (is_comma (front a.rest)) a so ∙ bind_nothing (comma_step begin a);
  }

  abbrev pub more_derived : Read Declared → Bool
  more_derived t = is_derived (suffix (front t.rest))

  abbrev pub derived_step : Read Declared → Option (Read Declared)
  derived_step t = one_derived types limit inner (suffix (front t.rest)) t

  derived_goes : (go : Read Declared → Option (Read Declared)) (s : Suffix) (t : Read Declared) → is_derived s ≡ true
      → derived types limit inner go s t ≡ (one_derived types limit inner s t >>= λ r. go r)
  unfolding derived
  derived_goes go Indexing t so = refl
  derived_goes go Calling t so = refl
  derived_goes go (Fielding arrow) t so = (cc)
  derived_goes go (Stepping by) t so = (cc)
  derived_goes go NoSuffix t so = (cc)

  derived_stops : (go : Read Declared → Option (Read Declared)) (s : Suffix) (t : Read Declared) → is_derived s ≡ false
      → derived types limit inner go s t ≡ Some t
  unfolding derived
  derived_stops go Indexing t not_so = (cc)
  derived_stops go Calling t not_so = (cc)
  derived_stops go (Fielding arrow) t not_so = refl
  derived_stops go (Stepping by) t not_so = refl
  derived_stops go NoSuffix t not_so = refl

  abbrev no_declared : Read Declared → Option (Read Declared)
  no_declared r = None

  bind_no_declared : (o : Option (Read Declared)) → (o >>= no_declared) ≡ None
  bind_no_declared (Some x) = refl
  bind_no_declared None = refl

  derive_stop : (n : ℕ) (t : Read Declared) → more_derived t ≡ false → derive types limit inner n t ≡ Some t
  unfolding derive
  derive_stop zero t not_so = derived_stops (λ r. None) (suffix (front t.rest)) t not_so
  derive_stop (suc n) t not_so = derived_stops (λ r. derive types limit inner n r) (suffix (front t.rest)) t not_so

  pub derive_loop : Loops (λ n t. derive types limit inner n t) more_derived derived_step
  unfolding derive
  derive_loop = record {
    goes = λ n t so. derived_goes (λ r. derive types limit inner n r) (suffix (front t.rest)) t so;
    stops = λ n t not_so. derive_stop n t not_so;
    out = λ t so. derived_goes (λ r. None) (suffix (front t.rest)) t so ∙ bind_no_declared (derived_step t);
  }

  -- pieces of specifiers
  abbrev pub more_pieces : Read Gathered → Bool
  more_pieces x = starts types limit inner (start types x.it.so_far x.rest)

  abbrev pub joined_piece : Read Gathered → Read Piece → Option (Read Gathered)
  joined_piece x p = with_piece x.it p.it >>= λ more. Some (read more (max x.height p.height) p.rest)

  abbrev pub piece_step : Read Gathered → Option (Read Gathered)
  piece_step x = piece_by types limit inner (start types x.it.so_far x.rest) x.rest >>= λ p. joined_piece x p

  joins : (go : Gathered → ℕ → Parse Gathered) (m : Option Gathered) (h : ℕ) (ts : List Token)
      → (m >>= λ more. go more h ts) ≡ ((m >>= λ more. Some (read more h ts)) >>= λ y. go y.it y.height y.rest)
  joins go (Some m) h ts = refl
  joins go None h ts = refl

  piece_joins : (go : Gathered → ℕ → Parse Gathered) (g : Gathered) (h : ℕ) (o : Option (Read Piece))
      → (o >>= λ x. with_piece g x.it >>= λ more. go more (max h x.height) x.rest)
      ≡ ((o >>= λ p. with_piece g p.it >>= λ more. Some (read more (max h p.height) p.rest)) >>= λ y. go y.it y.height y.rest)
  piece_joins go g h (Some x) = joins go (with_piece g x.it) (max h x.height) x.rest
  piece_joins go g h None = refl

  gathering_goes : (go : Gathered → ℕ → Parse Gathered) (s : Start) (g : Gathered) (h : ℕ) (ts : List Token) → starts types limit inner s ≡ true
      → gathering types limit inner go s g h ts ≡ (piece_by types limit inner s ts >>= λ x. with_piece g x.it >>= λ more. go more (max h x.height) x.rest)
  unfolding gathering
  gathering_goes go s g h ts so = ap (λ b. if b then (piece_by types limit inner s ts >>= λ x. with_piece g x.it >>= λ more.
      go more (max h x.height) x.rest) else Some (read g h ts)) so

  gathering_stops : (go : Gathered → ℕ → Parse Gathered) (s : Start) (g : Gathered) (h : ℕ) (ts : List Token) → starts types limit inner s ≡ false
      → gathering types limit inner go s g h ts ≡ Some (read g h ts)
  unfolding gathering
  gathering_stops go s g h ts not_so = ap (λ b. if b then (piece_by types limit inner s ts >>= λ x. with_piece g x.it >>= λ more.
      go more (max h x.height) x.rest) else Some (read g h ts)) not_so

  abbrev pub gather_from : ℕ → Read Gathered → Option (Read Gathered)
  gather_from n x = gather types limit inner n x.it x.height x.rest

  gather_goes : (n : ℕ) (x : Read Gathered) → more_pieces x ≡ true → gather_from (suc n) x ≡ (piece_step x >>= λ y. gather_from n y)
  unfolding gather
  gather_goes n x so = gathering_goes (λ more m us. gather types limit inner n more m us) (start types x.it.so_far x.rest) x.it x.height x.rest so
      ∙ piece_joins (λ more m us. gather types limit inner n more m us) x.it x.height (piece_by types limit inner (start types x.it.so_far x.rest) x.rest)

  gather_stop : (n : ℕ) (x : Read Gathered) → more_pieces x ≡ false → gather_from n x ≡ Some x
  unfolding gather
  gather_stop zero x not_so = gathering_stops (λ more m us. None) (start types x.it.so_far x.rest) x.it x.height x.rest not_so
  gather_stop (suc n) x not_so = gathering_stops (λ more m us. gather types limit inner n more m us) (start types x.it.so_far x.rest) x.it
      x.height x.rest not_so

  abbrev no_gathered : Read Gathered → Option (Read Gathered)
  no_gathered r = None

  bind_no_gathered : (o : Option (Read Gathered)) → (o >>= no_gathered) ≡ None
  bind_no_gathered (Some x) = refl
  bind_no_gathered None = refl

  gather_out : (x : Read Gathered) → more_pieces x ≡ true → gather_from zero x ≡ None
  unfolding gather
  gather_out x so = gathering_goes (λ more m us. None) (start types x.it.so_far x.rest) x.it x.height x.rest so
      ∙ piece_joins (λ more m us. None) x.it x.height (piece_by types limit inner (start types x.it.so_far x.rest) x.rest) ∙ bind_no_gathered (piece_step x)

  pub gather_loop : Loops gather_from more_pieces piece_step
  gather_loop = record { goes = gather_goes; stops = gather_stop; out = gather_out }

  -- what a level does not read, not_so weaker one does
  pub operators_none : (k more l : ℕ) (ts : List Token) → l ≡ more + k → operators types limit inner k ts ≡ None → operators types limit inner l ts ≡ None
  unfolding operators
  operators_none k zero l ts e none = let same : l ≡ k = omega arith in ap (λ n. operators types limit inner n ts) same ∙ none
  operators_none k (suc more) l ts e none =
      let next : l ≡ suc (more + k) = omega arith in
      ap (λ n. operators types limit inner n ts) next ∙ ap (λ o. o >>= chain types limit inner limit (more + k) (first_pos ts))
      (operators_none k more (more + k) ts refl none)

-- ---- lists with commas between

module _ {A B C : Type 0} (item : Parse A) (add : B → A → B) (ends : Option Punct → Bool) (keep : Read (Listed B) → Option (Read C)) where
  -- what is made of the items of a list that goes on from here
  abbrev pub commas_then : ℕ → B → ℕ → Parse C
  commas_then n xs h ts = commas item add ends n xs h ts >>= keep

  abbrev pub last_of : B → ℕ → Read A → Option (Read C)
  last_of xs h a = keep (read (record { items = add xs a.it; comma = false }) (max h a.height) a.rest)

  abbrev pub ended_of : B → ℕ → Read A → Option (Read C)
  ended_of xs h a = keep (read (record { items = add xs a.it; comma = true }) (max h a.height) (behind a.rest))

  commas_step : (n : ℕ) (xs : B) (h : ℕ) (ts : List Token) (a : Read A) → item ts ≡ Some a
      → commas_then (suc n) xs h ts ≡ (listed item add ends (λ ys m us. commas item add ends n ys m us) xs h a >>= keep)
  unfolding commas
  commas_step n xs h ts a is = ap (λ o. (o >>= λ a. listed item add ends (λ ys m us. commas item add ends n ys m us) xs h a) >>= keep) is

  commas_turn : {o : Option (Read C)} (n at : ℕ) (xs : B) (h : ℕ) (ts : List Token) → at < n → o ≡ commas_then (n - at) xs h ts → o
      ≡ commas_then (suc (n - (at + 1))) xs h ts
  commas_turn n at xs h ts below e = let turn : n - at ≡ suc (n - (at + 1)) = omega arith in e ∙ ap (λ m. commas_then m xs h ts) turn

  pub commas_refused : {o : Option (Read C)} (n at : ℕ) (xs : B) (h : ℕ) (ts : List Token) → at < n → o ≡ commas_then (n - at) xs h ts
      → item ts ≡ None → o ≡ None
  unfolding commas
  commas_refused n at xs h ts below e none = commas_turn n at xs h ts below e
      ∙ ap (λ o. (o >>= λ a. listed item add ends (λ ys m us. commas item add ends (n - (at + 1)) ys m us) xs h a) >>= keep) none

  commas_last_item : {o : Option (Read C)} (n at : ℕ) (xs : B) (h : ℕ) (ts : List Token) (a : Read A) → at < n → o
      ≡ commas_then (n - at) xs h ts → item ts ≡ Some a
      → is_comma (front a.rest) ≡ false → o ≡ last_of xs h a
  unfolding listed listing
  commas_last_item n at xs h ts a below e is not_so = commas_turn n at xs h ts below e ∙ commas_step (n - (at + 1)) xs h ts a is
      ∙ ap (λ b. listing item add ends (λ ys m us. commas item add ends (n - (at + 1)) ys m us) (add xs a.it) (max h a.height) b
      (if b then behind a.rest else a.rest) >>= keep) not_so

  commas_ended_item : {o : Option (Read C)} (n at : ℕ) (xs : B) (h : ℕ) (ts : List Token) (a : Read A) → at < n → o
      ≡ commas_then (n - at) xs h ts → item ts ≡ Some a
      → is_comma (front a.rest) ≡ true → ends (front (behind a.rest)) ≡ true → o ≡ ended_of xs h a
  unfolding listed listing
  commas_ended_item n at xs h ts a below e is so end = commas_turn n at xs h ts below e ∙ commas_step (n - (at + 1)) xs h ts a is
      ∙ ap (λ b. listing item add ends (λ ys m us. commas item add ends (n - (at + 1)) ys m us) (add xs a.it) (max h a.height) b
      (if b then behind a.rest else a.rest) >>= keep) so
      ∙ ap (λ b. (if b then Some (read (record { items = add xs a.it; comma = true }) (max h a.height) (behind a.rest)) else commas item add
      ends (n - (at + 1)) (add xs a.it) (max h a.height) (behind a.rest)) >>= keep) end

  commas_next_item : {o : Option (Read C)} (n at : ℕ) (xs : B) (h : ℕ) (ts : List Token) (a : Read A) → at < n → o
      ≡ commas_then (n - at) xs h ts → item ts ≡ Some a
      → is_comma (front a.rest) ≡ true → ends (front (behind a.rest)) ≡ false → o ≡ commas_then (n - (at + 1)) (add xs a.it) (max h a.height) (behind a.rest)
  unfolding listed listing
  commas_next_item n at xs h ts a below e is so end = commas_turn n at xs h ts below e ∙ commas_step (n - (at + 1)) xs h ts a is
      ∙ ap (λ b. listing item add ends (λ ys m us. commas item add ends (n - (at + 1)) ys m us) (add xs a.it) (max h a.height) b
      (if b then behind a.rest else a.rest) >>= keep) so
      ∙ ap (λ b. (if b then Some (read (record { items = add xs a.it; comma = true }) (max h a.height) (behind a.rest)) else commas item add
      ends (n - (at + 1)) (add xs a.it) (max h a.height) (behind a.rest)) >>= keep) end

  pub commas_last : {o : Option (Read C)} (n at : ℕ) (xs : B) (h : ℕ) (ts : List Token) (a : Read A) (ys : B) (m : ℕ) (us : List Token)
      → at < n → o ≡ commas_then (n - at) xs h ts → item ts ≡ Some a
      → is_comma (front a.rest) ≡ false → ys ≡ add xs a.it → m ≡ max h a.height → us ≡ a.rest → o ≡ keep (read (record { items = ys; comma = false }) m us)
  commas_last n at xs h ts a ys m us below e is not_so items height rest =
      commas_last_item n at xs h ts a below e is not_so ∙ ap (λ zs. keep (read (record { items = zs; comma = false }) (max h a.height) a.rest)) (sym items)
      ∙ ap (λ k. keep (read (record { items = ys; comma = false }) k a.rest)) (sym height)
      ∙ ap (λ vs. keep (read (record { items = ys; comma = false }) m vs)) (sym rest)

  pub commas_ended : {o : Option (Read C)} (n at : ℕ) (xs : B) (h : ℕ) (ts : List Token) (a : Read A) (ys : B) (m : ℕ) (us : List Token)
      → at < n → o ≡ commas_then (n - at) xs h ts → item ts ≡ Some a
      → is_comma (front a.rest) ≡ true → us ≡ behind a.rest → ends (front us) ≡ true → ys ≡ add xs a.it → m ≡ max h a.height → o
      ≡ keep (read (record { items = ys; comma = true }) m us)
  commas_ended n at xs h ts a ys m us below e is so rest end items height =
      commas_ended_item n at xs h ts a below e is so (ap (λ vs. ends (front vs)) (sym rest) ∙ end)
      ∙ ap (λ zs. keep (read (record { items = zs; comma = true }) (max h a.height) (behind a.rest))) (sym items)
      ∙ ap (λ k. keep (read (record { items = ys; comma = true }) k (behind a.rest))) (sym height)
      ∙ ap (λ vs. keep (read (record { items = ys; comma = true }) m vs)) (sym rest)

  pub commas_next : {o : Option (Read C)} (n at : ℕ) (xs : B) (h : ℕ) (ts : List Token) (a : Read A) (ys : B) (m : ℕ) (us : List Token)
      → at < n → o ≡ commas_then (n - at) xs h ts → item ts ≡ Some a
      → is_comma (front a.rest) ≡ true → us ≡ behind a.rest → ends (front us) ≡ false → ys ≡ add xs a.it → m ≡ max h a.height → o
      ≡ commas_then (n - (at + 1)) ys m us
  commas_next n at xs h ts a ys m us below e is so rest end items height =
      commas_next_item n at xs h ts a below e is so (ap (λ vs. ends (front vs)) (sym rest) ∙ end)
      ∙ ap (λ zs. commas_then (n - (at + 1)) zs (max h a.height) (behind a.rest)) (sym items)
      ∙ ap (λ k. commas_then (n - (at + 1)) ys k (behind a.rest)) (sym height) ∙ ap (λ vs. commas_then (n - (at + 1)) ys m vs) (sym rest)

  pub commas_out : {o : Option (Read C)} (n at : ℕ) (xs : B) (h : ℕ) (ts : List Token) → n ≤ at → o ≡ commas_then (n - at) xs h ts → o ≡ None
  unfolding commas
  commas_out n at xs h ts done e = let none : n - at ≡ 0 = omega arith in e ∙ ap (λ m. commas_then m xs h ts) none

-- ---- items up to where they end

module _ {A B : Type 0} (item : Parse A) (add : B → A → B) (ends : Option Punct → Bool) where
  many_stop : (n : ℕ) (xs : B) (h : ℕ) (ts : List Token) → ends (front ts) ≡ true → many item add ends n xs h ts ≡ Some (read xs h ts)
  unfolding many
  many_stop zero xs h ts end = ap (λ b. if b then Some (read xs h ts) else None) end
  many_stop (suc n) xs h ts end = ap (λ b. if b then Some (read xs h ts) else (item ts >>= λ a. many item add ends n (add xs a.it) (max h a.height) a.rest)) end

  many_step : (n : ℕ) (xs : B) (h : ℕ) (ts : List Token) → ends (front ts) ≡ false → many item add ends (suc n) xs h ts
      ≡ (item ts >>= λ a. many item add ends n (add xs a.it) (max h a.height) a.rest)
  unfolding many
  many_step n xs h ts more = ap (λ b. if b then Some (read xs h ts) else (item ts >>= λ a. many item add ends n (add xs a.it) (max h a.height) a.rest)) more

  many_turn : {o : Option (Read B)} (n at : ℕ) (xs : B) (h : ℕ) (ts : List Token) → at < n → o ≡ many item add ends (n - at) xs h ts → o
      ≡ many item add ends (suc (n - (at + 1))) xs h ts
  many_turn n at xs h ts below e = let turn : n - at ≡ suc (n - (at + 1)) = omega arith in e ∙ ap (λ m. many item add ends m xs h ts) turn

  pub many_ended : {o : Option (Read B)} (n : ℕ) (xs : B) (h : ℕ) (ts : List Token) → o ≡ many item add ends n xs h ts → ends (front ts)
      ≡ true → o ≡ Some (read xs h ts)
  many_ended n xs h ts e end = e ∙ many_stop n xs h ts end

  pub many_refused : {o : Option (Read B)} (n at : ℕ) (xs : B) (h : ℕ) (ts : List Token) → at < n → o ≡ many item add ends (n - at) xs h ts
      → ends (front ts) ≡ false → item ts ≡ None → o ≡ None
  many_refused n at xs h ts below e more none = many_turn n at xs h ts below e ∙ many_step (n - (at + 1)) xs h ts more
      ∙ ap (λ o. o >>= λ a. many item add ends (n - (at + 1)) (add xs a.it) (max h a.height) a.rest) none

  many_next_item : {o : Option (Read B)} (n at : ℕ) (xs : B) (h : ℕ) (ts : List Token) (a : Read A) → at < n → o
      ≡ many item add ends (n - at) xs h ts → ends (front ts) ≡ false → item ts ≡ Some a
      → o ≡ many item add ends (n - (at + 1)) (add xs a.it) (max h a.height) a.rest
  many_next_item n at xs h ts a below e more is = many_turn n at xs h ts below e ∙ many_step (n - (at + 1)) xs h ts more
      ∙ ap (λ o. o >>= λ a. many item add ends (n - (at + 1)) (add xs a.it) (max h a.height) a.rest) is

  pub many_next : {o : Option (Read B)} (n at : ℕ) (xs : B) (h : ℕ) (ts : List Token) (a : Read A) (ys : B) (m : ℕ) → at < n → o
      ≡ many item add ends (n - at) xs h ts → ends (front ts) ≡ false → item ts ≡ Some a
      → ys ≡ add xs a.it → m ≡ max h a.height → o ≡ many item add ends (n - (at + 1)) ys m a.rest
  many_next n at xs h ts a ys m below e more is items height =
      many_next_item n at xs h ts a below e more is ∙ ap (λ zs. many item add ends (n - (at + 1)) zs (max h a.height) a.rest) (sym items)
      ∙ ap (λ k. many item add ends (n - (at + 1)) ys k a.rest) (sym height)

  pub many_out : {o : Option (Read B)} (n at : ℕ) (xs : B) (h : ℕ) (ts : List Token) → n ≤ at → o ≡ many item add ends (n - at) xs h ts
      → ends (front ts) ≡ false → o ≡ None
  unfolding many
  many_out n at xs h ts done e more =
      let none : n - at ≡ 0 = omega arith in
      e ∙ ap (λ m. many item add ends m xs h ts) none ∙ ap (λ b. if b then Some (read xs h ts) else None) more

-- ---- what a call answers

-- a refusal is passed on where it refuses the whole
pub passed_on : {A B : Type 0} {o : Option (Read A)} {p : Option (Read B)} (r : Result (Found B) ParseError) (left more : List Token) (e : ParseError)
    → Gives o (Err e) left → IsErrAnd r (λ f. f ≡ e) → (o ≡ None → p ≡ None) → Gives p r more
passed_on (Ok x) left more e given is refused = absurd is
passed_on {p = p} (Err f) left more NoMatch given is refused = subst (λ x. Gives p (Err x) more) (sym is) (refused given)
passed_on {p = p} (Err f) left more Memory given is refused = subst (λ x. Gives p (Err x) more) (sym is) tt

pub operator_none : (r : Option BinaryOp) (l : ℕ) (p : Option Punct) → r ≡ binary_at (l + 1) p → r ≡ None → is_some (binary_at (suc l) p) ≡ false
operator_none r l p is none = let e : suc l ≡ l + 1 = omega arith in ap (λ n. is_some (binary_at n p)) e ∙ ap is_some (sym is ∙ none)

pub operator_some : (r : Option BinaryOp) (l : ℕ) (p : Option Punct) (op : BinaryOp) → r ≡ binary_at (l + 1) p → r ≡ Some op → binary_at (suc l) p ≡ Some op
operator_some r l p op is some = let e : suc l ≡ l + 1 = omega arith in ap (λ n. binary_at n p) e ∙ sym is ∙ some

pub operator_there : (r : Option BinaryOp) (l : ℕ) (p : Option Punct) (b : Bool) → r ≡ binary_at (l + 1) p → is_some r ≡ b → is_some (binary_at (suc l) p) ≡ b
operator_there r l p b is there = let e : suc l ≡ l + 1 = omega arith in ap (λ n. is_some (binary_at n p)) e ∙ ap is_some (sym is) ∙ there

-- ---- string literals

pub strings_step : (ts : List Token) (x : StrToken) → front_string ts ≡ Some x → strings ts ≡ x ∷ strings (behind ts)
unfolding strings
strings_step [] x is = (cc)
strings_step (t ∷ ts) x is = ap (λ o. joined o (strings ts)) is

pub past_strings_step : (ts : List Token) (x : StrToken) → front_string ts ≡ Some x → past_strings ts ≡ past_strings (behind ts)
unfolding past_strings
past_strings_step [] x is = (cc)
past_strings_step (t ∷ ts) x is = ap (λ o. passed o (past_strings ts) (t ∷ ts)) is

pub strings_end : (ts : List Token) → front_string ts ≡ None → strings ts ≡ []
unfolding strings
strings_end [] is = refl
strings_end (t ∷ ts) is = ap (λ o. joined o (strings ts)) is

pub past_strings_end : (ts : List Token) → front_string ts ≡ None → past_strings ts ≡ ts
unfolding past_strings
past_strings_end [] is = refl
past_strings_end (t ∷ ts) is = ap (λ o. passed o (past_strings ts) (t ∷ ts)) is

-- one more of the strings is seen
pub strings_more : (all new whole : List StrToken) (ts us : List Token) (x : StrToken) → all ++ strings ts ≡ whole → front_string ts
    ≡ Some x → new ≡ all ++ x ∷ [] → us ≡ behind ts → new ++ strings us ≡ whole
strings_more all new whole ts us x so is more rest =
    ap (λ vs. new ++ strings vs) rest ∙ ap (λ l. l ++ strings (behind ts)) more ∙ append_assoc all (x ∷ []) (strings (behind ts))
    ∙ sym (ap (λ l. all ++ l) (strings_step ts x is)) ∙ so

pub past_strings_more : (ts us : List Token) (x : StrToken) (whole : List Token) → past_strings ts ≡ whole → front_string ts ≡ Some x → us
    ≡ behind ts → past_strings us ≡ whole
past_strings_more ts us x whole so is rest = ap past_strings rest ∙ sym (past_strings_step ts x is) ∙ so

pub strings_all : (all whole : List StrToken) (ts : List Token) → all ++ strings ts ≡ whole → front_string ts ≡ None → all ≡ whole
strings_all all whole ts so is = sym (ap (λ l. all ++ l) (strings_end ts is) ∙ append-nil all) ∙ so

-- ---- what begins a piece

pub starts_as : (types : List NameId) (limit : ℕ) (inner : Wanted → Parse Phrase) (r : Option begun.Start) (s : Start) (b : Bool)
    → start_of r ≡ s → is_some r ≡ b → starts types limit inner s ≡ b
starts_as types limit inner r s b is some = ap (starts types limit inner) (sym is) ∙ started r ∙ some
  where
    started : (q : Option begun.Start) → starts types limit inner (start_of q) ≡ is_some q
    started (Some (begin.Storage x)) = refl
    started (Some (begin.Word x)) = refl
    started (Some (begin.Record x)) = refl
    started (Some begin.Enum) = refl
    started (Some (begin.Name x)) = refl
    started None = refl

-- a refusal to make something is passed on where it refuses the whole
pub made_passed_on : {A B : Type 0} {o : Option A} {p : Option (Read B)} (r : Result (Found B) ParseError) (more : List Token) (e : ParseError)
    → Makes o (Err e) → IsErrAnd r (λ f. f ≡ e) → (o ≡ None → p ≡ None) → Gives p r more
made_passed_on (Ok x) more e given is refused = absurd is
made_passed_on {p = p} (Err f) more NoMatch given is refused = subst (λ x. Gives p (Err x) more) (sym is) (refused given)
made_passed_on {p = p} (Err f) more Memory given is refused = subst (λ x. Gives p (Err x) more) (sym is) tt

-- ---- levels

module _ (types : List NameId) (limit : ℕ) (inner : Wanted → Parse Phrase) (ts : List Token) (begin : Pos) (begins : begin ≡ first_pos ts) where
  pub operators_next : (k : ℕ) (a b : Read Operand) → operators types limit inner k ts ≡ Some a → chain types limit inner limit k begin a
      ≡ Some b → operators types limit inner (k + 1) ts ≡ Some b
  unfolding operators
  operators_next k a b is more =
      let next : k + 1 ≡ suc k = omega arith in
      ap (λ n. operators types limit inner n ts) next ∙ ap (λ o. o >>= chain types limit inner limit k (first_pos ts)) is
      ∙ ap (λ q. chain types limit inner limit k q a) (sym begins) ∙ more

  pub operators_refused : (k level : ℕ) (a : Read Operand) → k < level → operators types limit inner k ts ≡ Some a
      → chain types limit inner limit k begin a ≡ None → operators types limit inner level ts ≡ None
  unfolding operators
  operators_refused k level a below is none =
      let rest : level ≡ (level - (k + 1)) + suc k = omega arith in
      operators_none types limit inner (suc k) (level - (k + 1)) level ts rest
      (ap (λ o. o >>= chain types limit inner limit k (first_pos ts)) is ∙ ap (λ q. chain types limit inner limit k q a) (sym begins) ∙ none)

-- as `passed_on`, where the call gives what is read in a form of its own
pub passed_on_as : {A B C : Type 0} {o : Option (Read A)} {p : Option (Read C)} (seen : B → C) (r : Result (Found B) ParseError)
    (left more : List Token) (e : ParseError)
    → Gives o (Err e) left → IsErrAnd r (λ f. f ≡ e) → (o ≡ None → p ≡ None) → GivesAs seen p r more
passed_on_as seen (Ok x) left more e given is refused = absurd is
passed_on_as {p = p} seen (Err f) left more NoMatch given is refused = subst (λ x. GivesAs seen p (Err x) more) (sym is) (refused given)
passed_on_as {p = p} seen (Err f) left more Memory given is refused = subst (λ x. GivesAs seen p (Err x) more) (sym is) tt

-- the parameters with one more
pub roll_more : (heads new : List Head) (named all : Bool) (x : Headed) → new ≡ heads ++ x.head ∷ [] → all ≡ (named && x.named)
    → record { heads = new; named = all } ≡ enrolled (record { heads = heads; named = named }) x
roll_more heads new named all x more both = ap (λ l. record { heads = l; named = all }) more ∙ ap (λ b. record { heads = heads ++ x.head ∷ []; named = b }) both

-- ---- the knot

pub parse_by : (types : List NameId) (limit : ℕ) (w : Wanted) (ts : List Token) → 0 < limit → parse types limit w ts
    ≡ wanted types limit (below types limit) w ts
unfolding parse
parse_by types zero w ts some = absurd (omega arith)
parse_by types (suc n) w ts some = let less : n ≡ suc n - 1 = omega arith in ap (λ m. wanted types (suc n) (λ v us. parse types m v us) w ts) less

pub parse_zero : (types : List NameId) (limit : ℕ) (w : Wanted) (ts : List Token) → limit ≡ 0 → parse types limit w ts ≡ None
unfolding parse
parse_zero types limit w ts none = ap (λ n. parse types n w ts) none
