-- Locations that are put one behind the other.
use Rattle.std.proofs.Common.{◌≡◌, ◌⊎◌, ℕ, zero, suc, ◌+◌, ◌<◌, ◌≤◌, Bool, false, List, [], ◌∷◌, ◌++◌, length, map, take, get_or, inl, inr, refl, sym, ◌∙◌, ap, subst, arith, append_assoc}
use Rattle.std.specs.List.{AllByRecursion}
use Rattle.std.proofs.lemmas.List.{append-nil, map-append, take_more, take_all}
use Rattle.std.proofs.lemmas.List.Elements.{All-from_recursion, recursion_from_All}
use Rattle.bit_net.specs.declared.nodes.Gate.{Gate}
use Rattle.bit_net.specs.declared.nodes.Node.{Node}
use Rattle.bit_net.specs.Runs.{Runs, Grown, Gives}
use Rattle.bit_words.specs.declared.Word.{Word as Words}
use Rattle.gl_store.specs.declared.values.Val.TheVariants.{Word}
use Rattle.gl_store.specs.declared.stores.Flags.{Flags}
use Rattle.gl_store.specs.declared.stores.Location.{Location as Guarded}
use Rattle.gl_store.specs.Meets.{MeetsPlace, MeetsAll, val_kind, val_top, kinds, flags_top, locations_top}
use Rattle.run_store.specs.Concrete.{Kind, NoCell, Numbers, Place}
use Rattle.sc_world.specs.Source.{Source}
use Rattle.sc_world.specs.Layout.{Layout, Location, nowhere}
use Rattle.sc_world.specs.World.{bit_at, kind_of_type, entry_place, state_place, entry_world}
use Rattle.layout_base.specs.declared.layout.Location.{Location as Laid}
use Rattle.layout_base.specs.Seen.{layout_of, location_of}
use Rattle.run_world.specs.declared.pointers.Here.{Here}
use Rattle.run_world.specs.Seen.{env}
use Rattle.gate_entry.specs.Entry.{AreMade, ArePut, IsCell, IsChoiceOf, IsEntered, IsState, IsUnmarked, KindOf, PlaceOf, ReadsWithin, cell_kind, state_kind}

pub unmarked : (ns : List Node) (g : Gate) → Gives ns g.at (λ choice v. false)
    → IsUnmarked ns record { touched = g; written = g; allocated = g; freed = g; escaped = g }
unmarked ns g never =
    record {
      below = omega (arith, never.below);
      value = λ choice v runs.
          (let off = never.value choice v runs in record { touched = off; written = off; allocated = off; freed = off; escaped = off });
    }

-- A list of locations behind another one.

tops_join : (a b : List Guarded) (n : ℕ) → locations_top a ≤ n → locations_top b ≤ n → locations_top (a ++ b) ≤ n
unfolding locations_top
tops_join [] b n h k = k
tops_join (x ∷ a) b n h k = omega (arith, tops_join a b n (omega arith) k)

top_one : (l : Guarded) (n : ℕ) → val_top l.val ≤ n → flags_top l.flags ≤ n → locations_top (l ∷ []) ≤ n
unfolding locations_top
top_one l n h k = omega arith

top_none : (n : ℕ) → locations_top [] ≤ n
unfolding locations_top
top_none n = omega arith

kinds_join : (a b : List Guarded) → kinds (a ++ b) ≡ kinds a ++ kinds b
kinds_join [] b = refl
kinds_join (x ∷ a) b = ap (λ ks. val_kind x.val ∷ ks) (kinds_join a b)

meets_join : (v : ℕ → Bool) (a b : List Guarded) (ps qs : List Place) → MeetsAll v a ps → MeetsAll v b qs → MeetsAll v (a ++ b) (ps ++ qs)
meets_join v [] b [] qs h k = k
meets_join v (x ∷ a) b (p ∷ ps) qs h k = (h.0, meets_join v a b ps qs h.1 k)
meets_join v _ b _ qs h k = absurd h

-- What the choice gives of the locations.

all_split : {A : Type 0} (P : A → Type 0) (xs ys : List A) → AllByRecursion P (xs ++ ys) → AllByRecursion P xs × AllByRecursion P ys
all_split P [] ys h = (tt, h)
all_split P (x ∷ xs) ys h = let rest = all_split P xs ys h.1 in ((h.0, rest.0), rest.1)

choice_front : (s : Source) (p : Layout) (ls : List Location) (l : Location) (bits : List Bool) → IsChoiceOf s p (ls ++ l ∷ []) bits → IsChoiceOf s p ls bits
choice_front s p ls l bits (inl short) = inl short
choice_front s p ls l bits (inr all) =
    inr (All-from_recursion (ReadsWithin s p) ls ((all_split (ReadsWithin s p) ls (l ∷ []) (recursion_from_All (ReadsWithin s p) (ls ++ l ∷ []) all)).0))

choice_last : (s : Source) (p : Layout) (ls : List Location) (l : Location) (bits : List Bool) → IsChoiceOf s p (ls ++ l ∷ []) bits
    → (length bits ≤ p.bits) ⊎ ReadsWithin s p l
choice_last s p ls l bits (inl short) = inl short
choice_last s p ls l bits (inr all) =
    inr (((all_split (ReadsWithin s p) ls (l ∷ []) (recursion_from_All (ReadsWithin s p) (ls ++ l ∷ []) all)).1).0)

-- One location more.

pub record IsMade (s : Source) (p : Layout) (ns : List Node) (kind : KindOf) (place : PlaceOf) (l : Location) (made : Guarded) : Type 0 where
  pub below : val_top made.val ≤ length ns
  pub flags : flags_top made.flags ≤ length ns
  pub same : val_kind made.val ≡ kind l
  pub meets : (bits : List Bool) (v : ℕ → Bool) → Runs ns (bit_at bits) v → (length bits ≤ p.bits) ⊎ ReadsWithin s p l → MeetsPlace v made (place bits l)

module _ (s : Source) (p : Layout) (kind : KindOf) (place : PlaceOf) where
  made_none : (ns : List Node) → AreMade s p ns kind place [] []
  made_none ns = record { below = top_none (length ns); same = refl; meets = λ bits v runs has. tt }

  made_more : (old ns : List Node) (ls : List Location) (l : Location) (made : List Guarded) (one : Guarded) → Grown old ns
      → AreMade s p old kind place ls made → IsMade s p ns kind place l one → AreMade s p ns kind place (ls ++ l ∷ []) (made ++ one ∷ [])
  made_more old ns ls l made one grown are is =
      record {
        below = tops_join made (one ∷ []) (length ns) (omega (arith, are.below, grown.longer)) (top_one one (length ns) is.below is.flags);
        same = kinds_join made (one ∷ []) ∙ ap (λ ks. ks ++ val_kind one.val ∷ []) are.same ∙ ap (λ k. map kind ls ++ k ∷ []) is.same
            ∙ sym (map-append kind ls (l ∷ []));
        meets = λ bits v runs has.
            subst (λ ps. MeetsAll v (made ++ one ∷ []) ps) (sym (map-append (place bits) ls (l ∷ [])))
            (meets_join v made (one ∷ []) (map (place bits) ls) (place bits l ∷ [])
            (are.meets bits v (grown.runs (bit_at bits) v runs) (choice_front s p ls l bits has))
            (is.meets bits v runs (choice_last s p ls l bits has), tt));
      }

  pub put_none : (ns : List Node) (old : List Guarded) → ArePut s p ns kind place [] old old
  put_none ns old = record { put = []; is = sym (append-nil old); made = made_none ns }

  put_more : (old ns : List Node) (ls : List Location) (l : Location) (first stored new : List Guarded) (one : Guarded) → Grown old ns
      → new ≡ stored ++ one ∷ [] → IsMade s p ns kind place l one → ArePut s p old kind place ls first stored → ArePut s p ns kind place (ls ++ l ∷ []) first new
  put_more old ns ls l first stored new one grown pushed is are =
      record {
        put = are.put ++ one ∷ [];
        is = pushed ∙ ap (λ xs. xs ++ one ∷ []) are.is ∙ append_assoc first are.put (one ∷ []);
        made = made_more old ns ls l are.put one grown are.made is;
      }

  -- the next of some locations that are seen as those of the layout
  pub put_step : {A : Type 0} (see : A → Location) (xs : List A) (i : ℕ) (x : A) → i < length xs → x ≡ get_or xs i x → (old ns : List Node) (first stored new : List Guarded)
      (one : Guarded) → Grown old ns → new ≡ stored ++ one ∷ [] → IsMade s p ns kind place (see x) one
      → ArePut s p old kind place (map see (take i xs)) first stored → ArePut s p ns kind place (map see (take (i + 1) xs)) first new
  put_step see xs i x low here old ns first stored new one grown pushed is are =
      let more : map see (take (i + 1) xs) ≡ map see (take i xs) ++ see x ∷ [] =
      ap (λ ys. map see ys) (take_more xs i x low) ∙ map-append see (take i xs) (get_or xs i x ∷ [])
      ∙ ap (λ y. map see (take i xs) ++ see y ∷ []) (sym here) in
      subst (λ ls. ArePut s p ns kind place ls first new) (sym more)
      (put_more old ns (map see (take i xs)) (see x) first stored new one grown pushed is are)

  pub put_whole : {A : Type 0} (see : A → Location) (xs : List A) (i : ℕ) → length xs ≤ i → (ns : List Node) (first stored : List Guarded)
      → ArePut s p ns kind place (map see (take i xs)) first stored → ArePut s p ns kind place (map see xs) first stored
  put_whole see xs i all ns first stored are = subst (λ ys. ArePut s p ns kind place (map see ys) first stored) (take_all i xs all) are

-- the flags of a cell, and the cell
pub made_cell : (s : Source) (p : Layout) (first ns : List Node) (l : Location) (one : Guarded) → Grown first ns → IsUnmarked first one.flags
    → IsCell s p ns l one.val → IsMade s p ns (cell_kind s) (entry_place s) l one
made_cell s p first ns l one grown off is =
    record {
      below = is.below;
      flags = omega (arith, off.below, grown.longer);
      same = is.same;
      meets = λ bits v runs has.
          record { cell = is.meets bits v runs has; marks = off.value (bit_at bits) v (grown.runs (bit_at bits) v runs) };
    }

pub made_state : (s : Source) (p : Layout) (first ns : List Node) (l : Location) (word : Words) (flags : Flags) → Grown first ns → IsUnmarked first flags
    → IsState s p ns l word.bits.items → IsMade s p ns state_kind (state_place s) l record { val = Word word; flags = flags }
made_state s p first ns l word flags grown off is =
    record {
      below = is.below;
      flags = omega (arith, off.below, grown.longer);
      same = ap Numbers is.wide;
      meets = λ bits v runs has.
          record {
            cell = record { wide = is.wide; value = is.value bits v runs has };
            marks = off.value (bit_at bits) v (grown.runs (bit_at bits) v runs);
          };
    }

-- The whole store.

-- the locations of the layout
pub laid_out : (h : Here) (ls : List Laid) → ls ≡ h.places.now.locations.items → map location_of ls ≡ (env h).layout.locations
unfolding env layout_of
laid_out h ls e = ap (λ xs. map location_of xs) e

-- a kind in the front of the kinds
kind_front : (s : Source) (ls : List Location) (ks : List Kind) (at : ℕ) → at < length ls
    → get_or (map (cell_kind s) ls ++ ks) at NoCell ≡ kind_of_type s (get_or ls at nowhere).type
kind_front s [] ks at low = absurd (omega arith)
kind_front s (l ∷ ls) ks zero low = refl
kind_front s (l ∷ ls) ks (suc at) low = kind_front s ls ks at (omega arith)

pub is_entered : (s : Source) (p : Layout) (n1 ns : List Node) (ls ms : List Location) (none cells stored : List Guarded) → ls ≡ p.locations → ms ≡ p.locations
    → none ≡ [] → Grown n1 ns → ArePut s p n1 (cell_kind s) (entry_place s) ls none cells → ArePut s p ns state_kind (state_place s) ms cells stored
    → IsEntered s p ns stored
is_entered s p n1 ns ls ms none cells stored f g e grown put_first put_second =
    let first : ArePut s p n1 (cell_kind s) (entry_place s) p.locations none cells =
    subst (λ xs. ArePut s p n1 (cell_kind s) (entry_place s) xs none cells) f put_first in
    let second : ArePut s p ns state_kind (state_place s) p.locations cells stored =
    subst (λ xs. ArePut s p ns state_kind (state_place s) xs cells stored) g put_second in
    let is : stored ≡ first.put ++ second.put = second.is ∙ ap (λ xs. xs ++ second.put) (first.is ∙ ap (λ xs. xs ++ first.put) e) in
    let same : kinds stored ≡ map (cell_kind s) p.locations ++ map state_kind p.locations =
    ap kinds is ∙ kinds_join first.put second.put ∙ ap (λ ks. ks ++ kinds second.put) first.made.same
    ∙ ap (λ ks. map (cell_kind s) p.locations ++ ks) second.made.same in
    record {
      below = subst (λ xs. locations_top xs ≤ length ns) (sym is)
          (tops_join first.put second.put (length ns) (omega (arith, first.made.below, grown.longer)) second.made.below);
      laid = record { kinds = λ at low. ap (λ ks. get_or ks at NoCell) same ∙ kind_front s p.locations (map state_kind p.locations) at low };
      same = same;
      meets = λ bits v runs has.
          subst (λ xs. MeetsAll v xs (entry_world s p bits).places) (sym is)
          (meets_join v first.put second.put (map (entry_place s bits) p.locations) (map (state_place s bits) p.locations)
          (first.made.meets bits v (grown.runs (bit_at bits) v runs) has) (second.made.meets bits v runs has));
    }
