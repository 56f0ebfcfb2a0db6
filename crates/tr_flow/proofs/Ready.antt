-- What a walk and a call ask of the store and of the temps, in the words of the graph.
use Rattle.std.proofs.Common.{◌≡◌, ℕ, suc, zero, ◌<◌, List, [], ◌∷◌, ◌++◌, length, map, slice_index_or, refl, ◌∙◌, ap, arith}
use Rattle.bit_net.specs.declared.nodes.Node.{Node}
use Rattle.bit_net.specs.Runs.{Grown}
use Rattle.gl_store.specs.declared.values.Val.{Val}
use Rattle.gl_store.specs.declared.stores.Location.{Location as Guarded}
use Rattle.gl_store.specs.Meets.{kinds}
use Rattle.run_store.specs.Concrete.{Kind, NoCell, Numbers}
use Rattle.gate_runs.specs.declared.ends.Ends.{Ends}
use Rattle.gate_runs.specs.Stands.{HasBegun}
use Rattle.gate_places.specs.Places.{IsLaid}
use Rattle.sc_world.specs.Source.{Source}
use Rattle.sc_world.specs.Layout.{Layout, Location, nowhere}
use Rattle.sc_world.specs.World.{kind_of_type, state_width}
use Rattle.flow_ends.specs.Encoded.{kinds_of}
use Rattle.flow_turns.specs.Kept.{vals_top}
use Rattle.expr_fits.specs.Temps.{temps_top}

-- the kinds of the locations stand before those of their states
kind_in : (s : Source) (ls : List Location) (rest : List Kind) (at : ℕ) → at < length ls
    → slice_index_or (map (λ (l : Location). kind_of_type s l.type) ls ++ rest) at NoCell ≡ kind_of_type s (slice_index_or ls at nowhere).type
kind_in s [] rest at low = absurd (omega arith)
kind_in s (l ∷ ls) rest zero low = refl
kind_in s (l ∷ ls) rest (suc at) low = kind_in s ls rest at (omega arith)

pub laid_of : (s : Source) (p : Layout) (stored : List Guarded) → kinds stored ≡ kinds_of s p.locations → IsLaid s p stored
laid_of s p stored same = record {
  kinds = λ at low.
      ap (λ (ks : List Kind). slice_index_or ks at NoCell) same
      ∙ kind_in s p.locations (map (λ (l : Location). Numbers state_width) p.locations) at low;
}

-- temps have one top by both names
pub same_top : (xs : List Val) → temps_top xs ≡ vals_top xs
unfolding temps_top vals_top
same_top [] = refl
same_top (x ∷ xs) = let rest = same_top xs in cc

pub began_grown : (ns ns' : List Node) (on : ℕ) (g : Ends) → Grown ns ns' → HasBegun ns on g → HasBegun ns' on g
began_grown ns ns' on g more h = record {
  live = h.live;
  asides = λ choice v r k. h.asides choice v (more.runs choice v r) k;
  bads = λ choice v r k. h.bads choice v (more.runs choice v r) k;
}
