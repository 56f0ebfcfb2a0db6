-- A whole layout: each bit belongs to one location or one call.
use Rattle.std.proofs.Common.{[], length, refl, ap, subst, arith}
use Rattle.std.proofs.lemmas.Bool.{le-ltb}
use Rattle.std.specs.Prelude.{Ok, Err}
use Rattle.std.specs.List.{flat_map}
use Rattle.sc_world.specs.Build.{Built, goes_on}
use Rattle.sc_world.specs.Source.{Source}
use Rattle.sc_world.specs.Gather.{Found, nothing_found, gather_function}
use Rattle.sc_world.specs.Layout.{Layout, no_layout, no_occurrence}
use Rattle.sc_world.specs.Objects.{Ground}
use Rattle.sc_world.specs.Occurrences.{occur_all, number_all}
use Rattle.sc_world.specs.Places.{lay_out, places, places_of}
use Rattle.verdict_laws.specs.Bits.{EachOfOne, one_if, location_bits, occurrence_bits, things}
use Rattle.verdict_laws.proofs.Steps.{Post, chained, weaker}
use Rattle.verdict_laws.proofs.Settled.{OfLayout, laid_of}
use Rattle.verdict_laws.proofs.Tiles.{Tiled, many_append}
use Rattle.verdict_laws.proofs.Moves.{Moves, entry_then, Apart, apart_moves}
use Rattle.verdict_laws.proofs.Numbered.{Numbered, total_all}
use Rattle.verdict_laws.proofs.Numbering.{Lined, all_number}
use Rattle.verdict_laws.proofs.Lining.{Line, all_line}

-- each bit of a layout is of one of its things
abbrev pub Owned : Source → Layout → Type 0
Owned s p = EachOfOne p.bits (things s p)

module _ (g : Ground) where
  abbrev empty : Layout
  empty = record no_layout { sites = g.found.sites }

  empty_apart : Apart g 0 empty
  empty_apart = record {
    low = λ i less. absurd (omega (arith, less));
    inside = λ j a less e. absurd (omega (arith, less));
    apart = λ i j a before less d e. absurd (omega (arith, less));
    fresh = λ j a i later less e high root_is. absurd (omega (arith, less));
  }

  empty_tiled : Tiled g.source (λ k. 0) empty
  unfolding Tiled
  empty_tiled k = omega (arith, ap one_if (le-ltb k 0 (omega arith)))

  numbered_owned : (p : Layout) → Numbered g (length p.occurrences) p → Owned g.source p
  unfolding Tiled
  numbered_owned p is k =
      omega (
        arith,
        is.tiled k,
        many_append k (flat_map (location_bits g.source) p.locations)
            (flat_map (occurrence_bits g.source p.sites p.spots) p.occurrences),
        total_all (occurrence_bits g.source p.sites p.spots) k no_occurrence p.occurrences,
      )

  calls_owned : (q : Layout) → Moves g empty q
      → Post (λ u z. Owned g.source z) (goes_on (occur_all 0 g.found.sites g q) (λ u. number_all 0 g.found.sites g))
  calls_owned q a =
      chained (λ u z. Line g g.found.sites q z) (λ u z. Owned g.source z) (occur_all 0 g.found.sites g q)
      (λ u. number_all 0 g.found.sites g)
      (all_line g 0 [] g.found.sites q refl a.same.sites)
      (λ u z l.
      weaker (λ u y. Numbered g (length y.occurrences) y) (λ u y. Owned g.source y) (number_all 0 g.found.sites g z)
      (all_number g 0 g.found.sites z
      (record {
        apart = l.further.apart (apart_moves g 0 empty q a empty_apart);
        room = λ j less. absurd (omega (arith, less));
        tiled = l.further.tiled (λ k. 0) (a.same.tiled (λ k. 0) empty_tiled);
      })
      (subst (λ n. Lined g n g.found.sites z) (ap length a.same.occurrences) l.lined))
      (λ u y is. numbered_owned y is))

  laid_owned : Post (λ u z. Owned g.source z) (lay_out g empty)
  laid_owned =
      entry_then g empty (Owned g.source) (λ q. goes_on (occur_all 0 g.found.sites g q) (λ u. number_all 0 g.found.sites g))
      (λ q a. calls_owned q a)

pub places_owned : (s : Source) → OfLayout (Owned s) (places s)
places_owned s = by (gather_function s nothing_found)
  where
    by : (m : Built Found (Unit {0})) → OfLayout (Owned s) (places_of s m)
    by (Err e) = tt
    by (Ok (u, f)) =
        laid_of (Owned s) (lay_out (record { source = s; found = f }) (record no_layout { sites = f.sites }))
        (laid_owned (record { source = s; found = f }))
