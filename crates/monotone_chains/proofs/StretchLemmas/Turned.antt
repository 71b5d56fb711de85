-- Points the other way: their pieces are those reversed, and count as much less.
use Rattle.std.proofs.Common.{◌≡◌, ◌<◌, pos, ◌-ℤ◌, List, [], ◌∷◌, ◌++◌, length, reverse, arith, ap, refl, sym, ◌∙◌}
use Rattle.std.proofs.lemmas.Int.{ints}
use Rattle.std.proofs.lemmas.List.{reverse-append}
use Rattle.plane.specs.declared.edge.Edge.{Edge}
use Rattle.plane.specs.declared.point.Point.{Point}
use Rattle.plane.specs.Meet.Edges.{RationalPoint}
use Rattle.plane.specs.Ends.{edge_between, reversed}
use Rattle.noding.specs.Windings.{pieces, winding}
use Rattle.monotone_chains.specs.Stretches.{chord}
use Rattle.noding.proofs.SnapLemmas.Windings.{winding-append, winding-added}
use Rattle.monotone_chains.proofs.StretchLemmas.Reverse.{chord-reverse}

-- ---- windings

winding-reversed : (edge : Edge) (point : RationalPoint) → winding (reversed edge ∷ []) point ≡ (pos 0 -ℤ winding (edge ∷ []) point)
winding-reversed edge point =
    let one = winding-added (reversed edge ∷ []) point in
    let other = winding-added (edge ∷ []) point in
    omega (arith, ints, one, other)

-- the pieces up to one point more
pieces-more : (points : List Point) (one next : Point) → pieces ((points ++ one ∷ []) ++ next ∷ []) ≡ pieces (points ++ one ∷ []) ++ edge_between one next ∷ []
pieces-more [] one next = refl
pieces-more (first ∷ []) one next = refl
pieces-more (first ∷ second ∷ points) one next = ap (λ (edges : List Edge). edge_between first second ∷ edges) (pieces-more (second ∷ points) one next)

-- of two points or more the first piece comes last where they are turned, from its end to its start
pub pieces-turned : (from to : Point) (others : List Point) → pieces (reverse (from ∷ to ∷ others)) ≡ pieces (reverse (to ∷ others)) ++ edge_between to from ∷ []
pieces-turned from to others =
    let one : reverse (from ∷ to ∷ others) ≡ reverse (to ∷ others) ++ from ∷ [] = reverse-append (from ∷ []) (to ∷ others) in
    let two : reverse (to ∷ others) ≡ reverse others ++ to ∷ [] = reverse-append (to ∷ []) others in
    ap pieces (one ∙ ap (λ (points : List Point). points ++ from ∷ []) two)
    ∙ pieces-more (reverse others) to from
    ∙ ap (λ (points : List Point). pieces points ++ edge_between to from ∷ []) (sym two)

pub winding-reverse : (points : List Point) (point : RationalPoint) → winding (pieces (reverse points)) point ≡ (pos 0 -ℤ winding (pieces points) point)
winding-reverse [] point = refl
winding-reverse (from ∷ []) point = refl
winding-reverse (from ∷ to ∷ others) point =
    let sum = ap (λ (edges : List Edge). winding edges point) (pieces-turned from to others) ∙ winding-append (pieces (reverse (to ∷ others))) (edge_between to from ∷ []) point in
    let rest = winding-reverse (to ∷ others) point in
    let turned = winding-reversed (edge_between from to) point in
    let whole = winding-append (edge_between from to ∷ []) (pieces (to ∷ others)) point in
    omega (arith, ints, sum, rest, turned, whole)

-- so points and their chord count the same, at whatever points, exactly if they do the other way
pub turned-same : (points : List Point) (point shifted : RationalPoint) → 0 < length points → winding (pieces points) point ≡ winding (chord points ∷ []) shifted → winding (pieces (reverse points)) point ≡ winding (reversed (chord points) ∷ []) shifted
turned-same points point shifted some same =
    let one = winding-reverse points point in
    let other = winding-reversed (chord points) shifted in
    omega (arith, ints, one, other, same)

pub turned-back : (points : List Point) (point shifted : RationalPoint) → 0 < length points → winding (pieces (reverse points)) point ≡ winding (chord (reverse points) ∷ []) shifted → winding (pieces points) point ≡ winding (chord points ∷ []) shifted
turned-back points point shifted some same =
    let one = winding-reverse points point in
    let other = ap (λ (edge : Edge). winding (edge ∷ []) shifted) (chord-reverse points some) ∙ winding-reversed (chord points) shifted in
    omega (arith, ints, one, other, same)
