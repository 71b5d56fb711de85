use Rattle.std.proofs.Common.{◌≡◌, ◌<◌, ◌+◌, ◌++◌, ◌∷◌, [], ℕ, List, length, ap, ap₂, sym, ◌∙◌, append-nil, append_assoc, arith}
use Rattle.std.specs.List.{between, flat_map}
use Rattle.std.proofs.lemmas.List.{flat_map_more, length-append}
use Rattle.plane.specs.declared.point.Point.{Point}
use Rattle.noding.specs.Offsets.{offsets}
use Rattle.noding.proofs.ChainLemmas.Runs.{offsets-more}
use Rattle.layers.specs.LineParts.{points_along}
use Rattle.layers.proofs.LineLemmas.Runs.{runs-begin, runs-end, runs-more}
use Rattle.layers.proofs.lines.joining.append_runs.Goals as goal

pub loop-next-init : goal.loop-next-init
loop-next-init g c =
    let first = c.place_of-next.ensures in record {
      within = first.within;
      begins = first.found;
      appended = (
        [],
        runs-begin c.args.edges.now c.args.kept.now c.requires.flags c.place_of-next.result first.within first.others,
        sym (append-nil c.args.points.now.items),
        sym (append-nil c.args.ends.now.items),
      );
    }

pub loop-next-preserved : goal.loop-next-preserved
loop-next-preserved g c =
    let edges = c.args.edges.now in
    let kept = c.args.kept.now in
    let next = c.loop-next.next in
    let end = c.place_of-end.result in
    let told = c.place_of-end.ensures in
    let further = c.place_of-next-in-loop-next.ensures in
    let begun = c.loop-next.invariant in
    let inside : next < length kept = (let same = c.requires.flags in let some = c.loop-next-test.true in omega (arith, same, some)) in
    let (runs, go, points, ends) = begun.appended in
    let run = points_along (between next end edges) in
    let before = c.args.points.now.items in
    let joined : c.append_points.new.points.items ≡ (before ++ flat_map (λ run. run) runs) ++ run = c.in_ok-append_points.ensures.ok ∙ ap (λ (list : List Point). list ++ run) points in
    let size : c.len.result ≡ length c.append_points.new.points.items = (let len = c.len.ensures in omega (arith, len)) in
    let all : c.len.result ≡ (length before + length (flat_map (λ run. run) runs)) + length run =
    size ∙ ap (λ (list : List Point). length list) joined ∙ length-append (before ++ flat_map (λ run. run) runs) run ∙ ap (λ (n : ℕ). n + length run) (length-append before (flat_map (λ run. run) runs)) in record {
      within = further.within;
      begins = further.found;
      appended = (
        runs ++ run ∷ [],
        runs-more edges kept c.requires.flags next end c.place_of-next-in-loop-next.result runs c.requires.path c.loop-next-test.true told.from further.from further.within told.others told.found further.others
            (λ d. begun.begins d inside) go,
        joined ∙ flat_map_more (λ run. run) before runs run,
        c.in_ok-push.ensures.items ∙ ap₂ (λ (list : List ℕ) (n : ℕ). list ++ n ∷ []) ends all ∙ append_assoc c.args.ends.now.items (offsets (length before) runs) _
            ∙ ap (λ (list : List ℕ). c.args.ends.now.items ++ list) (sym (offsets-more (length before) runs run)),
      );
    }

pub returns-clause-ok : goal.returns-clause-ok
returns-clause-ok g c =
    let (runs, go, points, ends) = c.loop-next.invariant.appended in
    (runs, runs-end c.args.edges.now c.args.kept.now c.requires.flags c.loop-next.next runs c.loop-next-test.false go, points, ends)
