use Rattle.std.proofs.Common.{◌≡◌, ◌≤◌, List, [], ◌∷◌, ◌++◌, ap, ap₂, sym, ◌∙◌, pos, get_or, length, take, drop, append_assoc, arith}
use Rattle.plane.specs.declared.edge.Edge.{Edge}
use Rattle.plane.specs.declared.point.Point.{Point}
use Rattle.plane.specs.Ends.{edge_between}
use Rattle.noding.specs.Windings.{pieces}
use Rattle.noding.proofs.pieces.push_pieces.Goals as goal

-- the first two points of a chain are the ends of its first piece
first_piece : (chain window : List Point) (edge : Edge) (d : Point) → 2 ≤ length chain → window ≡ take 2 chain → edge ≡ edge_between (get_or window 0 d) (get_or window 1 d) → pieces chain ≡ edge ∷ pieces (drop 1 chain)
first_piece [] window edge d long first is = absurd (omega (arith, long))
first_piece (from ∷ []) window edge d long first is = absurd (omega (arith, long))
first_piece (from ∷ to ∷ others) window edge d long first is =
    ap (λ (e : Edge). e ∷ pieces (to ∷ others)) (sym (is ∙ ap (λ (w : List Point). edge_between (get_or w 0 d) (get_or w 1 d)) first))

pub loop-pair-preserved : goal.loop-pair-preserved
loop-pair-preserved g c =
    let (size, is) = c.loop-pair.invariant in
    let (same, (long, window, rest, _)) = c.in-Some.ensures.steps in
    let chain = c.loop-pair.pair-iterator.rest.now in
    let edge = c.edge_between.result in
    let first = first_piece chain c.in-Some.pair.now edge (record { x = pos 0; y = pos 0 }) (omega (arith, size, long)) (window ∙ ap (λ n. take n chain) size) c.edge_between.ensures in (
      same ∙ size,
      ap₂ (λ (edges : List Edge) (points : List Point). edges ++ pieces points) c.in_ok-push.ensures.items rest
          ∙ append_assoc c.loop-pair.edges.items (edge ∷ []) (pieces (drop 1 chain))
          ∙ ap (λ (edges : List Edge). c.loop-pair.edges.items ++ edges) (sym first)
          ∙ is,
    )
