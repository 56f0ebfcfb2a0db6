-- A node that drops a value of type `void`: a temp keeps it of which nothing is said, and all else stays.
use Rattle.std.proofs.Common.{◌≡◌, ℕ, zero, suc, ◌+◌, nat_eq, Bool, true, false, ◌&&◌, ◌||◌, List, [], ◌∷◌, length, slice_get, slice_index_or, refl, sym, ◌∙◌, ap, subst}
use Rattle.std.proofs.lemmas.Bool.{and_parts, ne_eqb, eqb-false, eqb-true}
use Rattle.bit_net.specs.declared.nodes.Node.{Node as Gates}
use Rattle.run_store.specs.Concrete.{Cell, Nothing}
use Rattle.sc_world.specs.Tree.{Ty, Void, Exp, Cast, Convert, Temp, is_void, type_of}
use Rattle.sc_world.specs.Source.{Source}
use Rattle.sc_world.specs.Layout.{Layout}
use Rattle.sc_world.specs.World.{Run, ◌>>=◌, done, bit_at}
use Rattle.sc_world.specs.Eval.{Want, Value, Place', convert}
use Rattle.flow_graph.specs.Nodes.{Keep, Kept, temp, keep, with_at, reads, act}
use Rattle.flow_graph.specs.Conditions.{Held, InTemp, InSlot, among}
use Rattle.flow_types.specs.Kinds.{Kinds}
use Rattle.flow_types.specs.Nodes.{NodeFits}
use Rattle.flow_ways.specs.declared.ways.Ways.{Ways}
use Rattle.flow_ways.specs.Held.{held, AreSplits}
use Rattle.flow_ways.specs.Steps.{Comes}
use Rattle.flow_stages.specs.Stage.{unread}
use Rattle.flow_stages.specs.Laws.{ends_now}
use Rattle.flow_stages.proofs.ByKind.{step}
use Rattle.flow_stages.proofs.OfNodes.{nodes_are_at, nodes_go_on_at, asked_before}
use Rattle.flow_turns.specs.declared.before.Before.{Before}
use Rattle.flow_turns.specs.declared.before.Arrival.{Arrival}
use Rattle.flow_turns.specs.declared.temps.Temps.{Temps}
use Rattle.flow_turns.specs.Kept.{HasKept, HaveKept, is_for_void, val_at}
use Rattle.gl_store.specs.Meets.{Meets}
use Rattle.run_laws.specs.Fits.{IsPlaceOf}
use Rattle.flow_turns.specs.Before.{IsHere, GoesBy, drops, drops_value, seen, arrived}
use Rattle.flow_turns.proofs.Turning.{fits_at}

void_is : (t : Ty) → is_void t ≡ true → t ≡ Void
void_is Void e = refl
void_is _ e = absurd (cc)

-- What the node does: it keeps a cell, and the walk goes on.
record Drops (s : Source) (p : Layout) (bits : List Bool) (m : ℕ) (e : Exp) (next : ℕ) : Type 0 where
  gives : Kept → Cell
  acts : (go : ℕ → Kept → Run Cell) (k : Kept) → act s p bits (Keep Value m e next) go k ≡ (done tt >>= λ (u : Unit {0}). go next (keep m (gives k) k))
  void : is_void (type_of e) ≡ true

cast_drops : (s : Source) (p : Layout) (bits : List Bool) (m j : ℕ) (t u : Ty) (next : ℕ) → t ≡ Void → u ≡ Void → Drops s p bits m (Cast (Temp j t) u) next
cast_drops s p bits m j t u next e f =
    subst (λ (x : Ty). Drops s p bits m (Cast (Temp j x) u) next) (sym e)
    (subst (λ (x : Ty). Drops s p bits m (Cast (Temp j Void) x) next) (sym f)
    (record { gives = λ k. convert (reads s p bits k) Void Void (temp k j); acts = λ go k. refl; void = refl }))

convert_drops : (s : Source) (p : Layout) (bits : List Bool) (m j : ℕ) (t u : Ty) (next : ℕ) → t ≡ Void → u ≡ Void → Drops s p bits m (Convert (Temp j t) u) next
convert_drops s p bits m j t u next e f =
    subst (λ (x : Ty). Drops s p bits m (Convert (Temp j x) u) next) (sym e)
    (subst (λ (x : Ty). Drops s p bits m (Convert (Temp j Void) x) next) (sym f)
    (record { gives = λ k. convert (reads s p bits k) Void Void (temp k j); acts = λ go k. refl; void = refl }))

drops_so : (s : Source) (p : Layout) (bits : List Bool) (m : ℕ) (e : Exp) (next : ℕ) → drops_value e ≡ true → Drops s p bits m e next
drops_so s p bits m (Cast (Temp j t) u) next h =
    let both = and_parts (is_void t) (is_void u) h in cast_drops s p bits m j t u next (void_is t both.0) (void_is u both.1)
drops_so s p bits m (Convert (Temp j t) u) next h =
    let both = and_parts (is_void t) (is_void u) h in convert_drops s p bits m j t u next (void_is t both.0) (void_is u both.1)
drops_so s p bits m _ next h = absurd (cc)

-- What is kept elsewhere stays.
one_less : (n j : ℕ) → nat_eq (suc n) (suc j) ≡ false → nat_eq n j ≡ false
one_less n j other = ne_eqb n j (λ same. eqb-false (suc n) (suc j) other (ap suc same))

with_other : {A : Type 0} (blank x d : A) (n j : ℕ) (xs : List A) → d ≡ blank → nat_eq n j ≡ false → slice_index_or (with_at blank n x xs) j d ≡ slice_index_or xs j d
with_other blank x d zero zero xs e other = absurd (cc)
with_other blank x d zero (suc j) [] e other = refl
with_other blank x d zero (suc j) (y ∷ ys) e other = refl
with_other blank x d (suc n) zero [] e other = sym e
with_other blank x d (suc n) zero (y ∷ ys) e other = refl
with_other blank x d (suc n) (suc j) [] e other = with_other blank x d n j [] e (one_less n j other)
with_other blank x d (suc n) (suc j) (y ∷ ys) e other = with_other blank x d n j ys e (one_less n j other)

temp_other : (k : Kept) (m j : ℕ) (c : Cell) → nat_eq m j ≡ false → temp (keep m c k) j ≡ temp k j
temp_other k m j c other = with_other Nothing c Nothing m j k.temps refl other

among_other : (m j : ℕ) → nat_eq m j ≡ false → among (InTemp j) (InTemp m ∷ []) ≡ false
among_other m j e = ap (λ b. b || false) (ne_eqb j m (λ same. eqb-false m j e (sym same)))

has_still : (v : ℕ → Bool) (p : Layout) (kinds : Kinds) (t : Temps) (k : Kept) (m j : ℕ) (c : Cell) → nat_eq m j ≡ false → HasKept v p kinds.temps t k j
    → HasKept v p kinds.temps t (keep m c k) j
has_still v p kinds t k m j c other h =
    let e = sym (temp_other k m j c other) in
    record { kept = h.kept; meets = subst (λ (x : Cell). Meets v (val_at t j) x) e h.meets; sure = h.sure; place = λ u at. subst (λ (x : Cell). IsPlaceOf p u x) e (h.place u at) }

-- one temp more has something, of type `void`
have_still : (v : ℕ → Bool) (p : Layout) (kinds : Kinds) (t : Temps) (k : Kept) (m : ℕ) (c : Cell) (free free' : Held → Bool) → is_for_void (slice_get kinds.temps m) ≡ true
    → ((j : ℕ) → nat_eq m j ≡ false → free' (InTemp j) ≡ false → free (InTemp j) ≡ false)
    → ((j : ℕ) → free' (InSlot j) ≡ false → free (InSlot j) ≡ false) → HaveKept v p kinds.temps t k free → HaveKept v p kinds.temps t (keep m c k) free'
have_still v p kinds t k m c free free' void temps slots h = record {
  temps = λ j asked some. by j asked some (nat_eq m j) refl;
  slots = λ j asked. (let had = h.slots j (slots j asked) in record { kept = had.kept; meets = had.meets });
}
  where
    by : (j : ℕ) → free' (InTemp j) ≡ false → is_for_void (slice_get kinds.temps j) ≡ false → (b : Bool) → nat_eq m j ≡ b → HasKept v p kinds.temps t (keep m c k) j
    by j asked some true e = absurd (let same : is_for_void (slice_get kinds.temps m) ≡ is_for_void (slice_get kinds.temps j) = ap (λ i. is_for_void (slice_get kinds.temps i)) (eqb-true m j e) in
        let both : true ≡ false = sym void ∙ (same ∙ some) in cc)
    by j asked some false e = has_still v p kinds t k m j c e (h.temps j (temps j e asked) some)

never_now : (over on : Bool) → ends_now over on on ≡ false
never_now true true = refl
never_now true false = refl
never_now false true = refl
never_now false false = refl

or_never : (a over on x : Bool) → a ≡ (a || (ends_now over on on && x))
or_never a over on x = by a ∙ ap (λ b. a || (b && x)) (sym (never_now over on))
  where
    by : (a : Bool) → a ≡ (a || false)
    by true = refl
    by false = refl

or_never' : (a over on : Bool) → a ≡ (a || ends_now over on on)
or_never' a over on = by a ∙ ap (λ b. a || b) (sym (never_now over on))
  where
    by : (a : Bool) → a ≡ (a || false)
    by true = refl
    by false = refl

void_for : (s : Source) (p : Layout) (k : Kinds) (m : ℕ) (e : Exp) (next : ℕ) → NodeFits s p k (Keep Value m e next) → is_void (type_of e) ≡ true → is_for_void (slice_get k.temps m) ≡ true
void_for s p k m e next fits void = ap is_for_void fits.1 ∙ void

skipped_value : (ns : List Gates) (next : ℕ) (x : Before) (w : Ways) (here : Arrival) → AreSplits ns x.ways.splits.items → IsHere ns here → Comes next here.ways.items x.ways w
    → (m : ℕ) (e : Exp) → drops_value e ≡ true → GoesBy ns ns (Keep Value m e next) here x (record x { ways = w })
skipped_value ns next x w here splits gate comes m e is_drop = record {
  past = λ s p nodes node is h. (let n = Keep Value m e next in
      let cut = nodes_are_at nodes node n is in
      record {
        kinds = h.kinds;
        fit = h.fit;
        shape = record { locations = h.shape.locations; kinds = h.shape.kinds; temps = h.shape.temps; result = h.shape.result; blank = h.shape.blank };
        tells = λ bits few v runs.
            (let t = h.tells bits few v runs in
            let a : Drops s p bits m e next = drops_so s p bits m e next is_drop in
            let void = void_for s p h.kinds m e next (fits_at s p h.kinds nodes node n is h.fit.types) a.void in
            let old = arrived v p h.kinds node here x in
            let new = seen v p h.kinds (record x { ways = w }) in
            let on = v here.gate.at in
            let goes = λ (q : ℕ). comes.held v (splits.all (bit_at bits) v runs) q ∙ ap (λ b. held v x.ways.waits.items q || (nat_eq next q && b)) (sym (gate.gate.value (bit_at bits) v runs)) in
            record {
              stage = step {A = Unit {0}} (record { source = s; layout = p; bits = bits }) nodes (length p.locations) node n next (λ (k : Kept). done {A = Unit {0}} tt) (λ (u : Unit {0}) (k : Kept). keep m (a.gives k) k) on on on (λ (l : ℕ). false) (held v x.ways.waits.items) old new
                  (λ (u : Unit {0}). Unit {0}) cut (record { held = λ q. refl; gone = h.gone v }) goes
                  (record {
                    node = λ go k world. ap (λ f. f world) (a.acts go k);
                    later = nodes_go_on_at nodes node n is h.fit.on;
                    narrow = λ off. off;
                    wide = λ k has there. there;
                    does = λ k has. record { acts = λ world stored begins. (begins, (λ l low. refl), stored, tt); rests = λ off ps stored. stored };
                    other = t.other;
                    does_other = record { acts = λ world stored begins. (begins, (λ l low. refl), stored, tt); rests = λ off ps stored. stored };
                    tells = record {
                      over = or_never' old.over old.over on;
                      bad = λ l low. or_never (old.bad l) old.over on false;
                      touched = λ ps stored l low. or_never (old.touched l) old.over on _;
                      untouched = λ never l low. refl;
                    };
                    kept = λ k u has there live good.
                        have_still v p h.kinds x.temps k m (a.gives k) (unread nodes node node) (unread nodes (node + 1) next) void
                        (λ j other asked. asked_before nodes node n (InTemp j) cut (among_other m j other) asked)
                        (λ j asked. asked_before nodes node n (InSlot j) cut refl asked) has;
                    temps = λ off some k free has. has;
                    gives = λ r g. g;
                  })
                  t.stage;
              other = t.other;
              some = t.some;
              given = t.given;
              gives = t.gives;
            });
      });
}

pub skipped : (ns : List Gates) (next : ℕ) (x : Before) (w : Ways) (here : Arrival) → AreSplits ns x.ways.splits.items → IsHere ns here → Comes next here.ways.items x.ways w
    → (want : Want) (m : ℕ) (e : Exp) → drops (Keep want m e next) ≡ true → GoesBy ns ns (Keep want m e next) here x (record x { ways = w })
skipped ns next x w here splits gate comes Value m e h = skipped_value ns next x w here splits gate comes m e h
skipped ns next x w here splits gate comes Place' m e h = absurd (cc)
