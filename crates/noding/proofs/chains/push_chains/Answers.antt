use Rattle.std.proofs.Common.{◌≡◌, ◌+◌, ◌++◌, ◌∷◌, [], ℕ, List, pos, get_or, length, take, sym, ap, ap₂, ◌∙◌, subst, append-nil, append_assoc, arith}
use Rattle.std.specs.List.{AllZip, flat_map}
use Rattle.std.proofs.lemmas.List.{flat_map_more, length-append, take_all, take_more}
use Rattle.std.proofs.lemmas.Option.{slice_get-get_or}
use Rattle.plane.specs.declared.edge.Edge.{Edge}
use Rattle.plane.specs.declared.point.Point.{Point}
use Rattle.plane.proofs.PairsLemmas.Extends.{OnErr-always, Extends-trans}
use Rattle.noding.specs.Offsets.{offsets}
use Rattle.noding.specs.Stops.{IsRun}
use Rattle.noding.proofs.ChainLemmas.Runs.{offsets-more, Split-none, Split-run}
use Rattle.noding.proofs.ChainLemmas.Zips.{AllZip-more}
use Rattle.noding.proofs.chains.push_chains.Goals as goal

pub loop-place-init : goal.loop-place-init
loop-place-init g c = (Split-none c.args.stops.now, ([], tt, sym (append-nil c.args.points.now.items), sym (append-nil c.args.ends.now.items)))

pub returns-in_err-next-clause-err : goal.returns-in_err-next-clause-err
returns-in_err-next-clause-err g c =
    let (split, (chains, are, points, ends)) = c.loop-place.invariant in
    OnErr-always c.from_residual.result _ (
      Extends-trans c.args.points.now.items c.loop-place.points.items c.append_chain.new.points.items (flat_map (λ chain. chain) chains, points) c.in_err-next.ensures.err,
      (offsets (length c.args.points.now.items) chains, ends),
    )

pub returns-in_err-push-clause-err : goal.returns-in_err-push-clause-err
returns-in_err-push-clause-err g c =
    let (split, (chains, are, points, ends)) = c.loop-place.invariant in
    let (run, (chain, goes, gained)) = c.in_ok-next.ensures.ok in
    OnErr-always c.from_residual-in_err-push.result _ (
      Extends-trans c.args.points.now.items c.loop-place.points.items c.append_chain.new.points.items (flat_map (λ chain. chain) chains, points) (chain, gained),
      (offsets (length c.args.points.now.items) chains, c.in_err-push.ensures.items ∙ ends),
    )

pub loop-place-preserved : goal.loop-place-preserved
loop-place-preserved g c =
    let (split, (chains, are, points, ends)) = c.loop-place.invariant in
    let (run, (chain, goes, gained)) = c.in_ok-next.ensures.ok in
    let edges = c.args.edges.now in
    let stops = c.args.stops.now in
    let place = c.loop-place.place in
    let next = c.loop-place.next in
    let end = c.in_ok-next.next in
    let before = c.args.points.now.items in
    let none : Edge = record { x0 = pos 0; y0 = pos 0; x1 = pos 0; y1 = pos 0 } in
    let edge = get_or edges place none in
    let stands = slice_get-get_or edges place none c.loop-place-test.true in
    let is : IsRun edges stops edge chain = record { place = place; start = next; end = end; stands = stands; split = split; run = run; goes = goes } in
    let joined : c.append_chain.new.points.items ≡ (before ++ flat_map (λ chain. chain) chains) ++ chain = gained ∙ ap (λ (list : List Point). list ++ chain) points in
    let told = c.len.ensures in
    let size : c.len.result ≡ length c.append_chain.new.points.items = omega (arith, told) in
    let all : c.len.result ≡ (length before + length (flat_map (λ chain. chain) chains)) + length chain =
    size ∙ ap (λ (list : List Point). length list) joined ∙ length-append (before ++ flat_map (λ chain. chain) chains) chain ∙ ap (λ (n : ℕ). n + length chain) (length-append before (flat_map (λ chain. chain) chains)) in (
      Split-run stops c.requires place next end split run,
      (
        chains ++ chain ∷ [],
        subst (λ (done : List Edge). AllZip (IsRun edges stops) done (chains ++ chain ∷ [])) (sym (take_more edges place none c.loop-place-test.true))
            (AllZip-more (IsRun edges stops) (take place edges) chains edge chain are is),
        joined ∙ flat_map_more (λ chain. chain) before chains chain,
        c.in_ok-push.ensures.items ∙ ap₂ (λ (list : List ℕ) (n : ℕ). list ++ n ∷ []) ends all ∙ append_assoc c.args.ends.now.items (offsets (length before) chains) _
            ∙ ap (λ (list : List ℕ). c.args.ends.now.items ++ list) (sym (offsets-more (length before) chains chain)),
      ),
    )

pub returns-clause-ok : goal.returns-clause-ok
returns-clause-ok g c =
    let (split, (chains, are, points, ends)) = c.loop-place.invariant in
    (chains, subst (λ (done : List Edge). AllZip (IsRun c.args.edges.now c.args.stops.now) done chains) (take_all c.loop-place.place c.args.edges.now c.loop-place-test.false) are, points, ends)
