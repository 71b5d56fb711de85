use Rattle.std.proofs.Common.{ℕ, ◌+◌, ◌<◌, ◌∙◌, ◌<ℤ◌, ◌≡◌, ◌≤ℤ◌, List, ap, arith, length, pos, subst, subst₂, sym}
use Rattle.std.proofs.lemmas.Bool.{OnTrue_at, OnTrue_from}
use Rattle.std.proofs.lemmas.Int.{ints}
use Rattle.plane.specs.declared.edge.Edge.{Edge}
use Rattle.plane.specs.declared.point.Point.{Point}
use Rattle.plane.specs.Ends.{end_of, start_of}
use Rattle.offset.specs.Cuts.{IsSafe, IsSafeBack, IsSafeOn, edge_at, end_spoke, start_spoke, tips, tips_of}
use Rattle.offset.specs.Raw.{furthest, moved}
use Rattle.offset.specs.Shape.{sides, turn}
use Rattle.offset.proofs.CutLemmas.Moved.{pair-joined, three-points}
use Rattle.offset.proofs.ShapeLemmas.{length-sides, next-inside}
use Rattle.offset.proofs.cuts.is_safe.Goals as goal

pub returns : goal.returns
returns c =
    let corners = c.args.corners.now in
    let ring = c.args.ring.now in
    let edges = sides ring in
    let index = c.args.index in
    let edge = edge_at edges index in
    let next = edge_at edges (index + 1) in
    let size = length-sides ring in
    let inside : index + 1 < length ring = omega (arith, c.requires.within, c.if-next-ring.false) in
    let joined : end_of edge ≡ start_of next = pair-joined ring index c.requires.within ∙ ap (λ (n : ℕ). start_of (edge_at edges n)) (next-inside index (length ring) inside) in
    let points = three-points c.start_of.result c.end_of.result c.end_of-2.result (end_of edge) (moved (furthest corners edge) (end_of edge)) (moved (furthest corners next) (end_of edge))
    (c.start_of.ensures ∙ ap (λ (line : Edge). start_of line) c.end_spoke-from.ensures)
    (c.end_of.ensures ∙ ap (λ (line : Edge). end_of line) c.end_spoke-from.ensures)
    (c.end_of-2.ensures ∙ ap (λ (line : Edge). end_of line) c.start_spoke-to.ensures ∙ ap (λ (p : Point). moved (furthest corners next) p) (sym joined)) in
    OnTrue_from c.is_safe_on.result (IsSafe corners edges index) (λ is. record {
      inside = omega (arith, size, inside);
      right = subst₂ (λ (one other : Edge). turn one other ≤ℤ pos 0) c.side_at.ensures c.side_at-2.ensures (omega (arith, ints, c.turn.ensures, c.if-turn-gt0.false));
      apart = subst₂ (λ (one other : Edge). turn one other <ℤ pos 0) c.end_spoke-from.ensures c.start_spoke-to.ensures (omega (arith, ints, c.turn-2.ensures, c.if-turn-ge0.false));
      gentle = c.if-not-is_gentle.ensures;
      back = subst (λ (all : List Point). IsSafeBack corners edges index all) points c.if-not-is_safe_back.ensures;
      on = subst (λ (all : List Point). IsSafeOn corners edges index all) points (OnTrue_at is c.is_safe_on.ensures);
    })
