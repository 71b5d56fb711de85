-- Some piece isn't vertical where some edge isn't.
use Rattle.std.proofs.Common.{◌≡◌, ◌≢◌, inl, inr, zero, suc, List, [], ◌∷◌, refl, sym, ap, ◌∙◌, subst, arith}
use Rattle.std.specs.List.{All, AllPairs, AllZip, Contains, flat_map}
use Rattle.std.proofs.lemmas.List.Elements.{Contains-append_left, Contains-append_right}
use Rattle.i_tree.proofs.RootLemmas.Lists.{Contains-here}
use Rattle.plane.specs.declared.edge.Edge.{Edge}
use Rattle.plane.specs.declared.point.Point.{Point}
use Rattle.overlay.specs.Polygons.{HasSloped}
use Rattle.plane.specs.Ends.{edge_between}
use Rattle.noding.specs.Windings.{pieces}
use Rattle.monotone_chains.specs.Stretches.{GoesAlong, IsStretch, chord}
use Rattle.monotone_chains.proofs.StretchLemmas.Boxes.{ClearIfLong}
use Rattle.monotone_chains.proofs.StretchLemmas.NodedKinds.{long-rises, way-kind}
use Rattle.monotone_chains.proofs.StretchLemmas.NodedWays.{piece-sloped}

-- One of the edges isn't vertical.
abbrev SomeSloped : List Edge → Type 0
SomeSloped edges = (edge : Edge) × Contains edges edge × (edge.x0 ≢ edge.x1)

-- points whose chord isn't vertical have pieces
some-piece : (points : List Point) → (chord points).x0 ≢ (chord points).x1 → (piece : Edge) × Contains (pieces points) piece
some-piece [] sloped = absurd (sloped refl)
some-piece (a ∷ []) sloped = absurd (sloped refl)
some-piece (a ∷ b ∷ points) sloped = (edge_between a b, Contains-here (edge_between a b) (pieces (b ∷ points)))

module _ (all : List (List Point)) (each : All IsStretch all) (clear : AllPairs ClearIfLong all) where
  -- the way of an edge
  way-sloped : (edge : Edge) (way : List Point) → GoesAlong all edge way → edge.x0 ≢ edge.x1 → SomeSloped (pieces way)
  way-sloped edge way goes sloped = elim (way-kind all each clear edge way goes) [
    | inl long ↦
        let (piece, among) = some-piece way (λ level. sloped (ap (λ (e : Edge). e.x0) (sym long.chord_is) ∙ level ∙ ap (λ (e : Edge). e.x1) long.chord_is)) in
        (piece, among, λ same. piece-sloped way (long-rises all each clear edge way long) piece among (sym same))
    | inr alone ↦ (edge, subst (λ (edges : List Edge). Contains edges edge) (sym alone.is) (Contains-here edge []), sloped)
  ]

  -- the ways of edges
  ways-sloped : (edges : List Edge) (ways : List (List Point)) → AllZip (GoesAlong all) edges ways → SomeSloped edges → SomeSloped (flat_map pieces ways)
  ways-sloped [] ways go (edge, (k, within, is), sloped) = absurd (omega (arith, within))
  ways-sloped (first ∷ edges) [] go some = absurd go
  ways-sloped (first ∷ edges) (way ∷ ways) (goes, go) (edge, (zero, within, is), sloped) =
      let (piece, among, is_sloped) = way-sloped first way goes (λ level. sloped (ap (λ (e : Edge). e.x0) (sym is) ∙ level ∙ ap (λ (e : Edge). e.x1) is)) in
      (piece, Contains-append_left (pieces way) (flat_map pieces ways) piece among, is_sloped)
  ways-sloped (first ∷ edges) (way ∷ ways) (goes, go) (edge, (suc k, within, is), sloped) =
      let (piece, among, is_sloped) = ways-sloped edges ways go (edge, (k, omega (arith, within), is), sloped) in
      (piece, Contains-append_right (pieces way) (flat_map pieces ways) piece among, is_sloped)

  pub HasSloped-widened : (edges : List Edge) (ways : List (List Point)) → AllZip (GoesAlong all) edges ways → HasSloped edges → HasSloped (flat_map pieces ways)
  HasSloped-widened [] [] go sloped some = absurd (some refl)
  HasSloped-widened [] (way ∷ ways) go sloped some = absurd go
  HasSloped-widened (edge ∷ edges) ways go sloped some = ways-sloped (edge ∷ edges) ways go (sloped never)
    where
      never : edge ∷ edges ≡ [] → ⊥
      never h = cc
