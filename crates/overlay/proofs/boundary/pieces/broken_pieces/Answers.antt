use Rattle.std.proofs.Common.{◌++◌, List, drop, length, take, ap, ◌∙◌, arith}
use Rattle.std.specs.List.{flat_map}
use Rattle.std.proofs.lemmas.Grind.{flat_map-append}
use Rattle.std.proofs.lemmas.List.{length-append, take-append-drop}
use Rattle.plane.specs.declared.edge.Edge.{Edge}
use Rattle.plane.specs.declared.point.Point.{Point}
use Rattle.overlay.specs.declared.fill.pieces.Piece.{Piece}
use Rattle.noding.specs.declared.stops.Stop.{Stop}
use Rattle.overlay.specs.Boundary.{chain_pieces}
use Rattle.noding.specs.Windings.{pieces}
use Rattle.overlay.proofs.BoundaryLemmas.Broken.{broken-chains}
use Rattle.i_tree.proofs.SegLemmas.Tests.{nat_eq-is}
use Rattle.overlay.proofs.PieceLemmas.Made.{AreSloped-both}
use Rattle.overlay.proofs.boundary.pieces.broken_pieces.Goals as goal

pub returns-clause-ok : goal.returns-clause-ok
returns-clause-ok g c =
    let (chains, are, is, few) = c.in_ok-append_pieces.ensures in
    let edges = c.args.edges.now in
    let count = c.args.count in
    let broken = flat_map pieces (take count chains) in
    let broken_clip = flat_map pieces (drop count chains) in
    let whole = ap (λ (lists : List (List Point)). length (flat_map pieces lists)) (take-append-drop count chains) in
    let parts = ap (λ (list : List Edge). length list) (flat_map-append pieces (take count chains) (drop count chains)) in
    let sum = length-append broken broken_clip in
    let gained = is ∙ ap (λ (before : List Piece). before ++ chain_pieces count chains) c.in_ok-pieces.ensures.items in
    let (room, countable) = c.in_ok-most.ensures in
    let first = ap (λ (list : List Stop). length list) c.deref.ensures.value in
    let second = ap (λ (list : List Stop). length list) c.deref-2.ensures.value in (
      broken,
      broken_clip,
      broken-chains edges chains count c.requires are,
      gained,
      omega (arith, whole, parts, sum, room, countable, first, second, few),
      λ all. AreSloped-both broken broken_clip c.append_pieces.new.out.items gained (let size = c.len.ensures in let same = nat_eq-is c.len.result c.in_ok-most.most all in omega (arith, same, size, whole, parts, sum, room, first, second, few)),
    )
