use Rattle.std.proofs.Common.{List, ◌*◌, ◌<◌, ◌^◌, length, take, drop, sym, subst, arith}
use Rattle.std.specs.List.Sorted.{IsPermutation}
use Rattle.std.proofs.lemmas.List.{take-append-drop}
use Rattle.std.proofs.lemmas.List.Sorted.{IsPermutation-refl}
use Rattle.std.proofs.lemmas.Result.{IfOk-weaker}
use Rattle.plane.specs.declared.edge.Edge.{Edge}
use Rattle.overlay.specs.declared.fill.pieces.Piece.{Piece}
use Rattle.overlay.specs.Fill.Turned.{StandFor}
use Rattle.overlay.specs.Joined.{AreJoinedEdges, weighed_pieces}
use Rattle.overlay.proofs.JoinedLemmas.Standing.{are-broken, broken, broken_clip, they-stand}
use Rattle.overlay.proofs.PieceLemmas.Made.{stand-turned, turned-few}
use Rattle.overlay.proofs.boundary.pieces.standing_pieces.Goals as goal

pub returns-in_ok-pieces_of_stretches-in-Some-clause-ok : goal.returns-in_ok-pieces_of_stretches-in-Some-clause-ok
returns-in_ok-pieces_of_stretches-in-Some-clause-ok g c =
    let edges = c.args.edges.now in
    let count = c.args.count in
    let subject = take count edges in
    let clip = drop count edges in
    let stretches = c.deref.result.now in
    let found : AreJoinedEdges subject clip c.in-Some.stretches.items = rw c.in-Some.is at c.in_ok-stretches.ensures in
    let joined = subst (AreJoinedEdges subject clip) (sym c.deref.ensures.value) found in
    let (chains, are, is, few) = c.in_ok-pieces_of_stretches-in-Some.ensures.ok in (
      broken subject clip stretches joined chains are,
      broken_clip subject clip stretches joined chains are,
      are-broken subject clip stretches joined chains are,
      subst (StandFor (broken subject clip stretches joined chains are) (broken_clip subject clip stretches joined chains are)) (sym is)
          (they-stand subject clip stretches joined chains are
          (subst (λ (list : List Edge). length list * length (weighed_pieces stretches chains) < 2 ^ 63) (sym (take-append-drop count edges)) (subst (λ (list : List Piece). length edges * length list < 2 ^ 63) is few))),
      λ told. cc,
    )

pub returns-in-None-clause-ok : goal.returns-in-None-clause-ok
returns-in-None-clause-ok g c =
    IfOk-weaker c.broken_pieces.result _ _
    (λ out (broken, broken_clip, are, is, few, sloped). (
      broken,
      broken_clip,
      are,
      stand-turned broken broken_clip out.pieces.items (subst (λ (list : List Piece). IsPermutation list out.pieces.items) is (IsPermutation-refl out.pieces.items)) (let most = turned-few broken broken_clip out.pieces.items is in omega (arith, most, few)),
      sloped,
    ))
    c.broken_pieces.ensures.ok
