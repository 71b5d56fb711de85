-- The way of an edge: along a long stretch, or over its own ends alone.
use Rattle.std.proofs.Common.{◌≡◌, ◌≢◌, ◌⊎◌, inl, inr, ⊎_elim, List, [], ◌∷◌, length, reverse, refl, sym, ap, ◌∙◌, subst, arith}
use Rattle.std.specs.List.{All, AllPairs, Contains}
use Rattle.std.proofs.lemmas.Bool.{cases_lt}
use Rattle.std.proofs.lemmas.List.{length-reverse, reverse-reverse}
use Rattle.std.proofs.lemmas.List.Elements.{All-contains}
use Rattle.plane.specs.declared.edge.Edge.{Edge}
use Rattle.plane.specs.declared.point.Point.{Point}
use Rattle.overlay.specs.Fill.Filled.{HaveSameEnds}
use Rattle.plane.specs.Ends.{end_of, reversed, start_of}
use Rattle.noding.specs.Windings.{pieces}
use Rattle.monotone_chains.specs.Stretches.{Falls, GoesAlong, IsLong, IsStretch, Rises, chord}
use Rattle.monotone_chains.proofs.StretchLemmas.Boxes.{ClearIfLong, chord-from, chord-sloped, chord-to, clear-any, long-ways}
use Rattle.monotone_chains.proofs.StretchLemmas.NodedNear.{HasEnds, near-ends}
use Rattle.monotone_chains.proofs.StretchLemmas.NodedWays.{piece-points}
use Rattle.monotone_chains.proofs.StretchLemmas.Reverse.{Contains-reversed, chord-reverse, ways-reverse}
use Rattle.monotone_chains.proofs.StretchLemmas.NodedSides.{clear-upright}

-- The way goes along a long stretch, whose chord is the edge, each one way or the other.
pub record GoesLong (all : List (List Point)) (edge : Edge) (way : List Point) : Type 0 where
  pub stretch : List Point
  pub among : Contains all stretch
  pub long : IsLong stretch
  pub turned : HaveSameEnds edge (chord stretch)
  pub along : (way ≡ stretch) ⊎ (way ≡ reverse stretch)
  pub chord_is : chord way ≡ edge

-- It goes over the ends of the edge, which is the chord of no long stretch.
pub record GoesAlone (all : List (List Point)) (edge : Edge) (way : List Point) : Type 0 where
  pub is : pieces way ≡ edge ∷ []
  pub other : (t : List Point) → Contains all t → IsLong t → ¬ (HaveSameEnds edge (chord t))

-- an edge with the ends of a chord goes between points of its stretch
pub ends-chord : (s : List Point) (edge : Edge) → IsStretch s → HaveSameEnds edge (chord s) → HasEnds s edge
ends-chord s edge is (inl same) = subst (HasEnds s) (sym same) (chord-from s is, chord-to s is)
ends-chord s edge is (inr same) = subst (HasEnds s) (sym same) (chord-to s is, chord-from s is)

-- it isn't vertical
pub sloped-chord : (s : List Point) (edge : Edge) → IsStretch s → IsLong s → HaveSameEnds edge (chord s) → edge.x1 ≢ edge.x0
sloped-chord s edge is long (inl same) level = chord-sloped s is long (sym (ap (λ (e : Edge). e.x1) same) ∙ level ∙ ap (λ (e : Edge). e.x0) same)
sloped-chord s edge is long (inr same) level = chord-sloped s is long (sym (ap (λ (e : Edge). e.x0) same) ∙ sym level ∙ ap (λ (e : Edge). e.x1) same)

-- two points alone are the ends of their chord
two-points : (way : List Point) (edge : Edge) → length way ≡ 2 → chord way ≡ edge → way ≡ start_of edge ∷ end_of edge ∷ []
two-points [] edge two is = absurd (omega (arith, two))
two-points (a ∷ []) edge two is = absurd (omega (arith, two))
two-points (a ∷ b ∷ []) edge two is = ap (λ (e : Edge). start_of e ∷ end_of e ∷ []) is
two-points (a ∷ b ∷ c ∷ points) edge two is = absurd (omega (arith, two))

two-pieces : (way : List Point) (edge : Edge) → way ≡ start_of edge ∷ end_of edge ∷ [] → pieces way ≡ edge ∷ []
two-pieces way edge is = ap (λ (points : List Point). pieces points) is

module _ (all : List (List Point)) (each : All IsStretch all) (clear : AllPairs ClearIfLong all) where
  stretch-is : (s : List Point) → Contains all s → IsStretch s
  stretch-is s among = All-contains IsStretch all s each among

  -- the chord of a short stretch is that of no long one
  short-chord : (s t : List Point) (edge : Edge) → Contains all s → Contains all t → ¬ (IsLong s) → IsLong t → HaveSameEnds edge (chord s) → ¬ (HaveSameEnds edge (chord t))
  short-chord s t edge of_all of_all_too short long same other = elim (clear-any all clear s t of_all of_all_too) [
    | inl one ↦ short (subst IsLong (sym one) long)
    | inr clear_if ↦ sloped-chord t edge (stretch-is t of_all_too) long other
        (clear-upright s t edge (clear_if (inr long)) (ends-chord s edge (stretch-is s of_all) same) (near-ends t edge (ends-chord t edge (stretch-is t of_all_too) other)))
  ]

  -- along a stretch
  module _ (edge : Edge) (way s : List Point) (is : chord way ≡ edge) (of_all : Contains all s) (along : (way ≡ s) ⊎ (way ≡ reverse s)) where
    turned-chord : HaveSameEnds edge (chord s)
    turned-chord = go along
      where
        go : (way ≡ s) ⊎ (way ≡ reverse s) → HaveSameEnds edge (chord s)
        go (inl same) = inl (sym is ∙ ap chord same)
        go (inr same) = let some = (stretch-is s of_all).some in inr (sym is ∙ ap chord same ∙ chord-reverse s (omega (arith, some)))

    way-length : length way ≡ length s
    way-length = ⊎_elim (λ same. ap length same) (λ same. ap length same ∙ length-reverse s) along

    stretch-kind : GoesLong all edge way ⊎ GoesAlone all edge way
    stretch-kind = elim (cases_lt 2 (length s)) [
      | inl long ↦ inl (record {
        stretch = s;
        among = of_all;
        long = long;
        turned = turned-chord;
        along = along;
        chord_is = is;
      })
      | inr upto ↦
          let some = (stretch-is s of_all).some in
          let size = way-length in
          let short : ¬ (IsLong s) = λ long. omega (arith, long, upto) in inr (record {
            is = two-pieces way edge (two-points way edge (omega (arith, some, size, upto)) is);
            other = λ t of_all_too long. short-chord s t edge of_all of_all_too short long turned-chord;
          })
    ]

  -- each way is one of these
  pub way-kind : (edge : Edge) (way : List Point) → GoesAlong all edge way → GoesLong all edge way ⊎ GoesAlone all edge way
  way-kind edge way (inl (is, inl of_all)) = stretch-kind edge way way is of_all (inl refl)
  way-kind edge way (inl (is, inr of_all)) = stretch-kind edge way (reverse way) is of_all (inr (sym (reverse-reverse way)))
  way-kind edge way (inr (is, other)) = inr (record {
    is = two-pieces way edge is;
    other = λ t of_all long same. ⊎_elim (λ one. (other t of_all long).0 (sym one)) (λ back. (other t of_all long).1 (ap reversed (sym back))) same;
  })

  module _ (edge : Edge) (way : List Point) (goes : GoesLong all edge way) where
    -- x rises along it, or falls
    pub long-rises : Rises way ⊎ Falls way
    long-rises = go goes.along
      where
        ways : Rises goes.stretch ⊎ Falls goes.stretch
        ways = long-ways goes.stretch (stretch-is goes.stretch goes.among) goes.long

        go : (way ≡ goes.stretch) ⊎ (way ≡ reverse goes.stretch) → Rises way ⊎ Falls way
        go (inl same) = subst (λ (points : List Point). Rises points ⊎ Falls points) (sym same) ways
        go (inr same) = subst (λ (points : List Point). Rises points ⊎ Falls points) (sym same) (ways-reverse goes.stretch ways)

    -- its pieces go between points of the stretch
    pub long-ends : (piece : Edge) → Contains (pieces way) piece → HasEnds goes.stretch piece
    long-ends piece among = let (from, to) = piece-points way piece among in (of_stretch (start_of piece) from, of_stretch (end_of piece) to)
      where
        of_stretch : (p : Point) → Contains way p → Contains goes.stretch p
        of_stretch p of = ⊎_elim (λ same. subst (λ (points : List Point). Contains points p) same of) (λ same. Contains-reversed goes.stretch p (subst (λ (points : List Point). Contains points p) same of)) goes.along
