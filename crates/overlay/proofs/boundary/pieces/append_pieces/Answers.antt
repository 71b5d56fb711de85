use Rattle.std.proofs.Common.{◌≡◌, ◌++◌, ◌∷◌, [], inl, inr, List, pos, get_or, length, take, sym, ap, ◌∙◌, subst, append_assoc, arith}
use Rattle.std.specs.List.{AllZip, flat_map}
use Rattle.std.proofs.lemmas.Bool.{cases_lt}
use Rattle.std.proofs.lemmas.List.{flat_map_more, length-append, length-take-le, take_all, take_more}
use Rattle.std.proofs.lemmas.Option.{slice_get-get_or}
use Rattle.plane.specs.declared.edge.Edge.{Edge}
use Rattle.overlay.specs.declared.fill.pieces.Piece.{Piece}
use Rattle.overlay.specs.declared.fill.pieces.Operand.{Operand}
use Rattle.overlay.specs.Boundary.{chain_pieces}
use Rattle.overlay.specs.Fill.Turned.{turned}
use Rattle.noding.specs.Local.{IsNodeChain}
use Rattle.noding.specs.Windings.{pieces}
use Rattle.overlay.proofs.BoundaryLemmas.Pieces.{chain_pieces-clip, chain_pieces-subject, chain-few}
use Rattle.noding.proofs.ChainLemmas.Runs.{IsNodeChain-run, Split-next}
use Rattle.noding.proofs.ChainLemmas.Zips.{AllZip-length, AllZip-more}
use Rattle.overlay.proofs.boundary.pieces.append_pieces.Goals as goal

pub loop-place-preserved : goal.loop-place-preserved
loop-place-preserved g c =
    let (split, (chains, are, is, few)) = c.loop-place.invariant in
    let (run, (chain, goes, gained)) = c.in_ok-next.ensures in
    let edges = c.args.edges.now in
    let stops = c.args.stops.now in
    let count = c.args.count in
    let place = c.loop-place.place in
    let next = c.loop-place.next in
    let end = c.in_ok-next.next in
    let before = c.args.out.now.items in
    let none : Edge = record { x0 = pos 0; y0 = pos 0; x1 = pos 0; y1 = pos 0 } in
    let edge = get_or edges place none in
    let stands = slice_get-get_or edges place none c.loop-place-test.true in
    let is_chain = IsNodeChain-run edges stops c.requires place next end split run edge stands chain goes in
    let size : length chains ≡ place = AllZip-length (IsNodeChain edges) (take place edges) chains are ∙ length-take-le place edges (let within = c.loop-place-test.true in omega (arith, within)) in
    let more : chain_pieces count chains ++ turned c.operand_at.result (pieces chain) ≡ chain_pieces count (chains ++ chain ∷ []) = elim (cases_lt place count) [
      | inl less ↦ ap (λ (operand : Operand). chain_pieces count chains ++ turned operand (pieces chain)) (c.operand_at.ensures.subject less) ∙ sym (chain_pieces-subject count chains chain (omega (arith, size, less)))
      | inr upto ↦ ap (λ (operand : Operand). chain_pieces count chains ++ turned operand (pieces chain)) (c.operand_at.ensures.clip upto) ∙ sym (chain_pieces-clip count chains chain (omega (arith, size, upto)))
    ] in (
      Split-next edges stops c.requires place next end split run,
      (
        chains ++ chain ∷ [],
        subst (λ (done : List Edge). AllZip (IsNodeChain edges) done (chains ++ chain ∷ [])) (sym (take_more edges place none c.loop-place-test.true))
            (AllZip-more (IsNodeChain edges) (take place edges) chains edge chain are is_chain),
        gained ∙ ap (λ (list : List Piece). list ++ turned c.operand_at.result (pieces chain)) is ∙ append_assoc before (chain_pieces count chains) (turned c.operand_at.result (pieces chain)) ∙ ap (λ (list : List Piece). before ++ list) more,
        (let rising = run.rising in
            let inside = run.inside in
            let one = chain-few edge next end stops chain rising inside goes in
            let sum = ap (λ (list : List Edge). length list) (flat_map_more pieces [] chains chain) in
            let parts = length-append (flat_map pieces chains) (pieces chain) in
            let all = length-append chains (chain ∷ []) in
            omega (arith, rising, one, sum, parts, all, few)),
      ),
    )

pub returns : goal.returns
returns g c =
    let (split, (chains, are, is, few)) = c.loop-place.invariant in
    let edges = c.args.edges.now in
    let all = subst (λ (done : List Edge). AllZip (IsNodeChain edges) done chains) (take_all c.loop-place.place edges c.loop-place-test.false) are in
    let size = AllZip-length (IsNodeChain edges) edges chains all in
    let inside = split.inside in
    (chains, all, is, omega (arith, size, inside, few))
