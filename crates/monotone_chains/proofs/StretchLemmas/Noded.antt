-- Noded edges with the points of stretches in place of their chords are noded.
use Rattle.std.proofs.Common.{◌≡◌, ◌≢◌, ◌⊎◌, inl, inr, ⊎_elim, zero, suc, List, [], ◌∷◌, reverse, refl, sym, ap, ◌∙◌, subst, arith}
use Rattle.std.specs.List.{All, AllPairs, AllZip, Contains, flat_map}
use Rattle.std.proofs.lemmas.List.Elements.{All-contains, Contains-append_cases}
use Rattle.i_tree.proofs.RootLemmas.Lists.{Contains-here, Contains-there}
use Rattle.plane.specs.declared.edge.Edge.{Edge}
use Rattle.plane.specs.declared.point.Point.{Point}
use Rattle.plane.specs.Meet.Edges.{IsOf, RationalPoint}
use Rattle.plane.proofs.MeetLemmas.Along.{same_or_apart}
use Rattle.overlay.specs.Fill.Filled.{AreDistinct, AreNoded, HaveSameEnds, IsNextInColumn}
use Rattle.noding.specs.Meeting.{MeetAtEnds}
use Rattle.plane.specs.Ends.{reversed}
use Rattle.noding.specs.Windings.{pieces}
use Rattle.monotone_chains.specs.Stretches.{GoesAlong, IsLong, IsStretch, chord}
use Rattle.overlay.proofs.FillLemmas.Kept.{same-exchanged}
use Rattle.noding.proofs.SnapLemmas.Hobby.Ends.{exchange_meet}
use Rattle.monotone_chains.proofs.StretchLemmas.Boxes.{AllPairs-any, ClearIfLong, clear-any}
use Rattle.monotone_chains.proofs.StretchLemmas.NodedNear.{HasEnds, near-ends, placed-near}
use Rattle.monotone_chains.proofs.StretchLemmas.NodedKinds.{GoesAlone, GoesLong, long-ends, long-rises, sloped-chord, way-kind}
use Rattle.monotone_chains.proofs.StretchLemmas.NodedUpright.{upright-meets}
use Rattle.monotone_chains.proofs.StretchLemmas.NodedWays.{piece-sloped, way-noded}
use Rattle.monotone_chains.proofs.StretchLemmas.Placed.{IsPlaced}
use Rattle.monotone_chains.proofs.StretchLemmas.Reverse.{chord-reverse}
use Rattle.monotone_chains.proofs.StretchLemmas.NodedSides.{clear-meet}

-- ---- the edge of which a piece is

-- It is a piece of the way of one of the edges.
pub record PieceOf (all : List (List Point)) (edges : List Edge) (piece : Edge) : Type 0 where
  pub edge : Edge
  pub way : List Point
  pub among : Contains edges edge
  pub goes : GoesAlong all edge way
  pub is : Contains (pieces way) piece

pub piece-of : (all : List (List Point)) (edges : List Edge) (ways : List (List Point)) (piece : Edge) → AllZip (GoesAlong all) edges ways → Contains (flat_map pieces ways) piece → PieceOf all edges piece
piece-of all [] [] piece are (k, within, is) = absurd (omega (arith, within))
piece-of all [] (way ∷ ways) piece are among = absurd are
piece-of all (edge ∷ edges) [] piece are among = absurd are
piece-of all (edge ∷ edges) (way ∷ ways) piece (goes, are) among = elim (Contains-append_cases (pieces way) (flat_map pieces ways) piece among) [
  | inl here ↦ record {
    edge = edge;
    way = way;
    among = Contains-here edge edges;
    goes = goes;
    is = here;
  }
  | inr later ↦
      let found = piece-of all edges ways piece are later in record {
        edge = found.edge;
        way = found.way;
        among = Contains-there edge edges found.edge found.among;
        goes = found.goes;
        is = found.is;
      }
]

-- that of a way over the ends of its edge alone is the edge
pub alone-piece : (all : List (List Point)) (edge : Edge) (way : List Point) (piece : Edge) → GoesAlone all edge way → Contains (pieces way) piece → edge ≡ piece
alone-piece all edge way piece alone among = only (subst (λ (edges : List Edge). Contains edges piece) alone.is among)
  where
    only : Contains (edge ∷ []) piece → edge ≡ piece
    only (zero, within, is) = is
    only (suc k, within, is) = absurd (omega (arith, within))

-- ---- edges with the same ends as a third

pub same-both : (one other third : Edge) → HaveSameEnds one third → HaveSameEnds other third → HaveSameEnds one other
same-both one other third (inl same) (inl same_too) = inl (same ∙ sym same_too)
same-both one other third (inl same) (inr back) = inr (same ∙ ap reversed (sym back))
same-both one other third (inr back) (inl same) = inr (back ∙ ap reversed (sym same))
same-both one other third (inr back) (inr back_too) = inl (back ∙ sym back_too)

module _ (all : List (List Point)) (each : All IsStretch all) (clear : AllPairs ClearIfLong all) (edges : List Edge) (noded : AreNoded edges) (distinct : AreDistinct edges)
    (vertical : All (λ edge. edge.x1 ≡ edge.x0 → IsNextInColumn edges edge) edges) (placed : All (λ edge. edge.x1 ≢ edge.x0 → IsPlaced all edge) edges) where
  -- edges along one stretch are one, and so are their ways
  one-edge : (e f : Edge) → Contains edges e → Contains edges f → HaveSameEnds e f → e ≡ f
  one-edge e f first second same = ⊎_elim (λ one. one) (λ differ. absurd (differ same))
      (AllPairs-any (λ a b. ¬ (HaveSameEnds a b)) (λ a b differ back. differ (same-exchanged b a back)) edges distinct e f first second)

  one-way : (e f : Edge) (way other_way : List Point) (first : GoesLong all e way) (second : GoesLong all f other_way) → first.stretch ≡ second.stretch → e ≡ f → way ≡ other_way
  one-way e f way other_way first second same same_edge = go first.along second.along
    where
      s : List Point
      s = first.stretch

      is : IsStretch s
      is = All-contains IsStretch all s each first.among

      chords : chord way ≡ chord other_way
      chords = first.chord_is ∙ same_edge ∙ sym second.chord_is

      no : ¬ (chord s ≡ reversed (chord s))
      no back = sloped-chord s (chord s) is first.long (inl refl) (ap (λ (e : Edge). e.x1) back)

      turn : chord (reverse s) ≡ reversed (chord s)
      turn = let some = is.some in chord-reverse s (omega (arith, some))

      go : (way ≡ first.stretch) ⊎ (way ≡ reverse first.stretch) → (other_way ≡ second.stretch) ⊎ (other_way ≡ reverse second.stretch) → way ≡ other_way
      go (inl a) (inl b) = a ∙ same ∙ sym b
      go (inr a) (inr b) = a ∙ ap reverse same ∙ sym b
      go (inl a) (inr b) = absurd (no (sym (ap chord a) ∙ chords ∙ ap chord (b ∙ ap reverse (sym same)) ∙ turn))
      go (inr a) (inl b) = absurd (no (sym (ap chord (b ∙ sym same)) ∙ sym chords ∙ ap chord a ∙ turn))

  module _ (one other : Edge) (point : RationalPoint) (of_one : IsOf one point) (of_other : IsOf other point) where
    both-long : (a : PieceOf all edges one) (b : PieceOf all edges other) → GoesLong all a.edge a.way → GoesLong all b.edge b.way → MeetAtEnds one other point
    both-long a b first second = elim (clear-any all clear first.stretch second.stretch first.among second.among) [
      | inl same ↦
          let ends = same-both a.edge b.edge (chord second.stretch) (subst (λ (s : List Point). HaveSameEnds a.edge (chord s)) same first.turned) second.turned in
          let ways = one-way a.edge b.edge a.way b.way first second same (one-edge a.edge b.edge a.among b.among ends) in
          way-noded a.way (long-rises all each clear a.edge a.way first) one other point a.is (subst (λ (points : List Point). Contains (pieces points) other) (sym ways) b.is) of_one of_other
      | inr clear_if ↦
          clear-meet first.stretch second.stretch one other point (clear_if (inl first.long)) (long-ends all each clear a.edge a.way first one a.is)
          (near-ends second.stretch other (long-ends all each clear b.edge b.way second other b.is))
          (piece-sloped a.way (long-rises all each clear a.edge a.way first) one a.is) (piece-sloped b.way (long-rises all each clear b.edge b.way second) other b.is) of_one of_other
    ]

    long-alone : (a : PieceOf all edges one) → GoesLong all a.edge a.way → Contains edges other → ((t : List Point) → Contains all t → IsLong t → ¬ (HaveSameEnds other (chord t))) → MeetAtEnds one other point
    long-alone a first among no_chord = elim (same_or_apart other.x1 other.x0) [
      | inl upright ↦ upright-meets all each clear edges noded vertical placed first.stretch first.among first.long a.edge a.among first.turned other among upright one point ends sloped of_one of_other
      | inr other_sloped ↦
          let (t, of_all, near, if_long) = placed-near all each other (All-contains (λ e. e.x1 ≢ e.x0 → IsPlaced all e) edges other placed among other_sloped) in
          elim (clear-any all clear first.stretch t first.among of_all) [
            | inl same ↦ let long = subst IsLong same first.long in absurd (no_chord t of_all long (if_long long))
            | inr clear_if ↦ clear-meet first.stretch t one other point (clear_if (inl first.long)) ends near sloped other_sloped of_one of_other
          ]
    ]
      where
        ends : HasEnds first.stretch one
        ends = long-ends all each clear a.edge a.way first one a.is

        sloped : one.x1 ≢ one.x0
        sloped = piece-sloped a.way (long-rises all each clear a.edge a.way first) one a.is

  widened-meet : (one other : Edge) (point : RationalPoint) → PieceOf all edges one → PieceOf all edges other → IsOf one point → IsOf other point → MeetAtEnds one other point
  widened-meet one other point a b of_one of_other = go (way-kind all each clear a.edge a.way a.goes) (way-kind all each clear b.edge b.way b.goes)
    where
      -- a way over the ends alone
      held : (piece : Edge) (c : PieceOf all edges piece) → GoesAlone all c.edge c.way → Contains edges piece
      held piece c alone = subst (Contains edges) (alone-piece all c.edge c.way piece alone c.is) c.among

      no_chord : (piece : Edge) (c : PieceOf all edges piece) → GoesAlone all c.edge c.way → (t : List Point) → Contains all t → IsLong t → ¬ (HaveSameEnds piece (chord t))
      no_chord piece c alone t of_all long same = alone.other t of_all long (subst (λ (e : Edge). HaveSameEnds e (chord t)) (sym (alone-piece all c.edge c.way piece alone c.is)) same)

      go : GoesLong all a.edge a.way ⊎ GoesAlone all a.edge a.way → GoesLong all b.edge b.way ⊎ GoesAlone all b.edge b.way → MeetAtEnds one other point
      go (inl first) (inl second) = both-long one other point of_one of_other a b first second
      go (inl first) (inr alone) = long-alone one other point of_one of_other a first (held other b alone) (no_chord other b alone)
      go (inr alone) (inl second) = exchange_meet one other point (long-alone other one point of_other of_one b second (held one a alone) (no_chord one a alone))
      go (inr alone) (inr alone_too) = noded one other point (held one a alone) (held other b alone_too) of_one of_other

  -- all pieces of the ways of noded edges are noded
  pub noded-widened : (ways : List (List Point)) → AllZip (GoesAlong all) edges ways → AreNoded (flat_map pieces ways)
  noded-widened ways are one other point first second of_one of_other =
      widened-meet one other point (piece-of all edges ways one are first) (piece-of all edges ways other are second) of_one of_other
