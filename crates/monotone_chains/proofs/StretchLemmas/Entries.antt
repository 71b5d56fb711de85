-- The entries of a table of long stretches: where these stand, and along which way an edge goes by what is found of it.
use Rattle.std.proofs.Common.{◌≡◌, ◌≢◌, inl, inr, ℕ, ◌<◌, List, [], ◌∷◌, ◌++◌, Result, get_or, length, map, reverse, refl, sym, ap, ◌∙◌, subst, arith}
use Rattle.std.specs.List.{All, Contains}
use Rattle.std.specs.Result.{OnOk}
use Rattle.std.proofs.lemmas.Int.{by_lt_z, ints}
use Rattle.std.proofs.lemmas.List.{reverse-reverse}
use Rattle.std.proofs.lemmas.List.Elements.{All-contains, Contains-get_or}
use Rattle.std.proofs.lemmas.Result.{on_ok_weaker}
use Rattle.i_tree.proofs.RootLemmas.Joined.{All-to_map}
use Rattle.plane.proofs.PairsLemmas.Bags.{Contains-from_map, Contains-map}
use Rattle.plane.specs.SweepLine.Heights.{rightwards}
use Rattle.plane.specs.declared.edge.Edge.{Edge}
use Rattle.plane.specs.declared.point.Point.{Point}
use Rattle.overlay.specs.Contours.Outlines.{ring_point}
use Rattle.plane.specs.Ends.{edge_between, reversed}
use Rattle.monotone_chains.specs.Stretches.{GoesAlong, IsLong, IsStretch, but_last, chord}
use Rattle.monotone_chains.specs.Stretches.Cut.{way}
use Rattle.monotone_chains.specs.Stretches.Widening.{IsTable, entry_of}
use Rattle.monotone_chains.specs.declared.stretches.parts.Part.{Part}
use Rattle.monotone_chains.specs.declared.stretches.widening.LongStretch.{LongStretch}
use Rattle.monotone_chains.proofs.StretchLemmas.Boxes.{chord-sloped}
use Rattle.monotone_chains.proofs.StretchLemmas.Directed.{rightwards-reversed, goes-along, goes-back}
use Rattle.monotone_chains.proofs.StretchLemmas.Reverse.{chord-reverse}

-- The part at the entry's place is long, and the entry has its chord.
pub record Stands (parts : List Part) (entry : LongStretch) (d : Part) : Type 0 where
  pub inside : entry.place < length parts
  pub among : Contains (map way parts) (way (get_or parts entry.place d))
  pub long : IsLong (way (get_or parts entry.place d))
  pub chord_is : entry.chord ≡ rightwards (chord (way (get_or parts entry.place d)))

module _ (parts : List Part) (table : List LongStretch) (are : IsTable parts table) where
  abbrev stretches : List (List Point)
  stretches = map way parts

  pub entry-stands : (entry : LongStretch) (d : Part) → Contains table entry → Stands parts entry d
  entry-stands entry d among =
      let (k, inside, of) = All-contains (λ (e : LongStretch). (k : ℕ) × (k < length parts) × ((d : Part) → IsLong (way (get_or parts k d)) × (e ≡ entry_of k (get_or parts k d)))) table entry are.long.each among in
      let (long, is) = of d in
      let place : k ≡ entry.place = sym (ap (λ (e : LongStretch). e.place) is) in record {
        inside = omega (arith, inside, place);
        among = subst (λ (n : ℕ). Contains (map way parts) (way (get_or parts n d))) place (Contains-map way parts (get_or parts k d) (Contains-get_or parts k d inside));
        long = subst (λ (n : ℕ). IsLong (way (get_or parts n d))) place long;
        chord_is = subst (λ (n : ℕ). entry.chord ≡ rightwards (chord (way (get_or parts n d)))) place (ap (λ (e : LongStretch). e.chord) is);
      }

  -- each long stretch has one
  long-entry : (stretch : List Point) → Contains stretches stretch → IsLong stretch → (entry : LongStretch) × Contains table entry × (entry.chord ≡ rightwards (chord stretch))
  long-entry stretch among long =
      let (part, (k, inside, at), is) = Contains-from_map way parts stretch among in
      let goes : way (get_or parts k part) ≡ stretch = ap way at ∙ is in
      (entry_of k (get_or parts k part), are.long.all k part inside (subst IsLong (sym goes) long), ap (λ (s : List Point). rightwards (chord s)) goes)

  -- the points along which they go are stretches
  each : All IsStretch stretches
  each = All-to_map IsStretch way parts are.each

  -- an edge whose chord none of them has goes straight
  pub straight-goes : (from to : Point) → (from.x ≢ to.x → (entry : LongStretch) → Contains table entry → entry.chord ≢ rightwards (edge_between from to))
      → GoesAlong stretches (edge_between from to) (from ∷ to ∷ [])
  straight-goes from to none = inr (refl, λ stretch among long. (onwards stretch among long, back stretch among long))
    where
      onwards : (stretch : List Point) → Contains stretches stretch → IsLong stretch → chord stretch ≢ edge_between from to
      onwards stretch among long is =
          let sloped = chord-sloped stretch (All-contains IsStretch stretches stretch each among) long in
          let (entry, held, chord_is) = long-entry stretch among long in
          none (λ same. sloped (ap (λ (e : Edge). e.x1) is ∙ sym same ∙ sym (ap (λ (e : Edge). e.x0) is))) entry held (chord_is ∙ ap rightwards is)

      back : (stretch : List Point) → Contains stretches stretch → IsLong stretch → chord stretch ≢ reversed (edge_between from to)
      back stretch among long is =
          let sloped = chord-sloped stretch (All-contains IsStretch stretches stretch each among) long in
          let (entry, held, chord_is) = long-entry stretch among long in
          let differ : from.x ≢ to.x = λ same. sloped (ap (λ (e : Edge). e.x1) is ∙ same ∙ sym (ap (λ (e : Edge). e.x0) is)) in
          none differ entry held (chord_is ∙ ap rightwards is ∙ rightwards-reversed (edge_between from to) (λ same. differ (sym same)))

-- one with its chord goes along the stretch, one way or the other
pub stretch-goes : {E : Type 0} (stretches : List (List Point)) (stretch : List Point) (from to : Point) (result : Result (Unit {0}) E) (old new : List Point) → Contains stretches stretch → IsLong stretch → from.x ≢ to.x
    → rightwards (chord stretch) ≡ rightwards (edge_between from to)
    → ((ring_point stretch 0).x ≡ from.x → OnOk result (new ≡ old ++ but_last stretch))
    → ((ring_point stretch 0).x ≢ from.x → OnOk result (new ≡ old ++ but_last (reverse stretch)))
    → OnOk result ((way : List Point) × GoesAlong stretches (edge_between from to) way × (new ≡ old ++ but_last way))
stretch-goes stretches stretch from to result old new among long sloped same along back =
    by_lt_z (ring_point stretch 0).x from.x
    (λ less. other (λ is. omega (arith, ints, less, is)))
    (λ upto. by_lt_z from.x (ring_point stretch 0).x (λ less. other (λ is. omega (arith, ints, less, is))) (λ from_on. one (omega (arith, ints, upto, from_on))))
  where
    one : (ring_point stretch 0).x ≡ from.x → OnOk result ((way : List Point) × GoesAlong stretches (edge_between from to) way × (new ≡ old ++ but_last way))
    one starts = on_ok_weaker result (λ is. (stretch, inl (goes-along stretch from to sloped same starts, inl among), is)) (along starts)

    other : (ring_point stretch 0).x ≢ from.x → OnOk result ((way : List Point) × GoesAlong stretches (edge_between from to) way × (new ≡ old ++ but_last way))
    other starts =
        let turned = chord-reverse stretch (omega (arith, long)) ∙ ap reversed (goes-back stretch from to sloped same starts) in
        on_ok_weaker result (λ is. (reverse stretch, inl (turned, inr (subst (Contains stretches) (sym (reverse-reverse stretch)) among)), is)) (back starts)
