use Rattle.std.proofs.Common.{◌≤◌, List, [], ◌++◌, length, take, get_or, ap, sym, ◌∙◌, arith}
use Rattle.std.specs.List.{flat_map}
use Rattle.std.proofs.lemmas.List.{flat_map_more, take_all, take_more}
use Rattle.plane.specs.declared.edge.Edge.{Edge}
use Rattle.plane.specs.declared.point.Point.{Point}
use Rattle.noding.specs.Windings.{pieces}
use Rattle.noding.proofs.ChainLemmas.Standing.{IsNext-at, length-offsets}
use Rattle.noding.proofs.pieces.pieces_of.Goals as goal

pub chain_at-requires : goal.chain_at-requires
chain_at-requires g c =
    let (chains, are) = c.requires in
    let next = IsNext-at chains c.args.points.now c.args.ends.now c.loop-end.end-index c.loop-end.start are c.loop-end-test.true (c.loop-end.invariant chains are).1 in
    (next.rising, next.within)

pub loop-end-preserved : goal.loop-end-preserved
loop-end-preserved g c = λ chains are.
    let (so_far, begins) = c.loop-end.invariant chains are in
    let i = c.loop-end.end-index in
    let next = IsNext-at chains c.args.points.now c.args.ends.now i c.loop-end.start are c.loop-end-test.true begins in (
      c.in_ok-push_pieces.ensures
          ∙ ap (λ (chain : List Point). c.loop-end.edges.items ++ pieces chain) (c.chain_at.ensures ∙ next.is)
          ∙ ap (λ (edges : List Edge). edges ++ pieces (get_or chains i [])) so_far
          ∙ flat_map_more pieces [] (take i chains) (get_or chains i [])
          ∙ ap (λ (all : List (List Point)). flat_map pieces all) (sym (take_more chains i [] next.inside)),
      next.stops,
    )

pub returns : goal.returns
returns g c = λ chains are.
    let past = c.loop-end-test.false in
    let all : length chains ≤ c.loop-end.end-index = omega (arith, past, ap length are.1, length-offsets 0 chains) in
    (c.loop-end.invariant chains are).0 ∙ ap (λ (some : List (List Point)). flat_map pieces some) (take_all c.loop-end.end-index chains all)
