use Rattle.std.proofs.Common.{◌≡◌, ◌≢◌, ◌++◌, [], ◌∷◌, ◌-◌, ◌+◌, ◌<◌, ◌≤ℤ◌, Bool, ℕ, List, length, take, drop, get_or, append-nil, ap, ap₂, sym, subst, ◌∙◌, arith}
use Rattle.std.specs.List.{All, AllPairs}
use Rattle.std.proofs.lemmas.List.{get_or-take, length-take-le, take-append-drop}
use Rattle.i_tree.proofs.RootLemmas.Joined.{AllPairs-front}
use Rattle.plane.specs.declared.point.Point.{Point}
use Rattle.plane.proofs.PairsLemmas.Extends.{OnErr-always}
use Rattle.overlay.specs.declared.fill.pieces.Piece.{Piece}
use Rattle.overlay.specs.Fill.Counts.{Counts, kept_edge}
use Rattle.overlay.specs.Fill.Few.{counts_upto}
use Rattle.overlay.specs.Fill.Handed.{HasLooked, IsCarriedBy, IsHandedBy}
use Rattle.overlay.specs.Fill.Rules.{is_result}
use Rattle.overlay.specs.Fill.Sweep.{Fits, below_of, kept_of, no_piece, nothing, plus}
use Rattle.overlay.proofs.KeptLemmas.Begun.{piece_at}
use Rattle.overlay.proofs.KeptLemmas.Below.{below-fits}
use Rattle.overlay.proofs.KeptLemmas.Carried.{a-begun, carried-is, q-begun}
use Rattle.overlay.proofs.KeptLemmas.Few.{counts-within, above-last, begun-from, below-counted, kept-more}
use Rattle.overlay.proofs.KeptLemmas.Handed.{below-ended, handed-begun}
use Rattle.overlay.proofs.KeptLemmas.Looked.{HasLooked-none, looked-next, noted-more, noted-size}
use Rattle.overlay.proofs.KeptLemmas.Parts.{weigh-first_ones}
use Rattle.overlay.proofs.fill.handed.append_by_handing.Goals as goal

pub loop-place-init : goal.loop-place-init
loop-place-init g c = record {
  size = ap (λ (list : List Counts). length list) c.in_ok-below.ensures.items;
  below = λ i less. absurd (omega (arith, less));
  looked = λ some. HasLooked-none (piece_at c.args.pieces.now 0).edge.x0 (take 0 c.args.pieces.now) c.new.result.items c.new.ensures.items;
  above = λ some. absurd (omega (arith, some));
  kept = sym (append-nil c.args.out.now.items);
}

pub known_below-known-requires-clause-above : goal.known_below-known-requires-clause-above
known_below-known-requires-clause-above g c =
    let pieces = c.args.pieces.now in
    let fill = c.requires.pieces in
    let k = c.loop-place.place in
    let within = c.loop-place-test.true in
    let size = length-take-le k pieces (omega (arith, within)) in
    λ last. let some = last.0 in c.loop-place.invariant.above (omega (arith, some, size)) ∙ above-last pieces fill k within c.start_of-point.result last

pub known_below-known-requires-clause-below : goal.known_below-known-requires-clause-below
known_below-known-requires-clause-below g c =
    let pieces = c.args.pieces.now in
    let ends = c.args.ends.now in
    let fill = c.requires.pieces in
    let are = c.requires.ends in
    let k = c.loop-place.place in
    let within = c.loop-place-test.true in
    let next = c.count_before-next_end.result in
    let value = c.deref.ensures.value in
    let size = c.loop-place.invariant.size in
    let long = ap (λ (list : List Counts). length list) value in
    λ place handed.
    let here = subst (λ (point : Point). IsHandedBy (take k pieces) ends next point place) c.start_of-point.ensures handed in
    let less = handed-begun pieces fill ends are k within next place here in (
      omega (arith, less, size, long),
      ap (λ (list : List Counts). get_or list place nothing) value
          ∙ c.loop-place.invariant.below place less
          ∙ below-ended pieces fill ends are k within next place here
          ∙ sym (below-counted pieces fill k within)
          ∙ ap (λ (point : Point). counts_upto point (take k pieces)) (sym c.start_of-point.ensures),
    )

pub known_below-known-requires-clause-carried : goal.known_below-known-requires-clause-carried
known_below-known-requires-clause-carried g c =
    let pieces = c.args.pieces.now in
    let ends = c.args.ends.now in
    let fill = c.requires.pieces in
    let are = c.requires.ends in
    let k = c.loop-place.place in
    let within = c.loop-place-test.true in
    let next = c.count_before-next_end.result in
    let value = c.deref.ensures.value in
    let size = c.loop-place.invariant.size in
    let long = ap (λ (list : List Counts). length list) value in
    let begun = length-take-le k pieces (omega (arith, within)) in
    λ place other told.
    let here = subst (λ (point : Point). IsCarriedBy (take k pieces) ends next point place other) c.start_of-point.ensures told in
    let less = q-begun pieces fill ends are k within next place other here in
    let less_too = a-begun pieces fill ends are k within next place other here in
    let some : 0 < k = omega (arith, less) in (
      omega (arith, less, size, long),
      omega (arith, less_too, begun),
      omega (arith, less_too, size, long),
      carried-is pieces fill ends are k within next place other here (get_or c.deref.result.now place nothing) c.loop-place.above (get_or c.deref.result.now other nothing) (get_or (take k pieces) other no_piece)
          (ap (λ (list : List Counts). get_or list place nothing) value ∙ c.loop-place.invariant.below place less)
          (c.loop-place.invariant.above some)
          (ap (λ (list : List Counts). get_or list other nothing) value ∙ c.loop-place.invariant.below other less_too)
          (get_or-take k pieces other no_piece less_too)
          ∙ sym (below-counted pieces fill k within)
          ∙ ap (λ (point : Point). counts_upto point (take k pieces)) (sym c.start_of-point.ensures),
    )

pub known_below-known-requires-clause-within : goal.known_below-known-requires-clause-within
known_below-known-requires-clause-within g c =
    let fill = c.requires.pieces in
    let k = c.loop-place.place in
    counts-within c.start_of-point.result (take k c.args.pieces.now) fill.most fill.countable (weigh-first_ones fill.most c.args.pieces.now fill.are.distinct fill.weigh k)

pub counts_below-requires-clause-begun : goal.counts_below-requires-clause-begun
counts_below-requires-clause-begun g c =
    let pieces = c.args.pieces.now in
    let k = c.loop-place.place in
    subst (λ (point : Point). All (λ (p : Piece). p.edge.x0 ≤ℤ point.x) (take k pieces)) (sym c.start_of-point.ensures) (begun-from pieces c.requires.pieces k c.loop-place-test.true)

pub counts_below-requires-clause-apart : goal.counts_below-requires-clause-apart
counts_below-requires-clause-apart g c =
    let pieces = c.args.pieces.now in
    let k = c.loop-place.place in
    AllPairs-front (λ (one other : Piece). one.edge ≢ other.edge) (take k pieces) (drop k pieces) (subst (AllPairs (λ (one other : Piece). one.edge ≢ other.edge)) (sym (take-append-drop k pieces)) c.requires.pieces.are.distinct)

pub counts_below-requires-clause-weigh : goal.counts_below-requires-clause-weigh
counts_below-requires-clause-weigh g c = let fill = c.requires.pieces in (fill.most, fill.countable, weigh-first_ones fill.most c.args.pieces.now fill.are.distinct fill.weigh c.loop-place.place)

pub counts_below-requires-clause-looked : goal.counts_below-requires-clause-looked
counts_below-requires-clause-looked g c =
    let pieces = c.args.pieces.now in
    let k = c.loop-place.place in
    subst (λ (point : Point). HasLooked point.x (take k pieces) c.loop-place.looked.count c.loop-place.looked.live.items) (sym c.start_of-point.ensures) (c.loop-place.invariant.looked c.loop-place-test.true)

pub plus-above-requires : goal.plus-above-requires
plus-above-requires g c =
    let pieces = c.args.pieces.now in
    let fill = c.requires.pieces in
    let k = c.loop-place.place in
    let within = c.loop-place-test.true in
    let is = c.in_ok-counts.ensures.counts ∙ ap (λ (point : Point). counts_upto point (take k pieces)) c.start_of-point.ensures ∙ below-counted pieces fill k within in
    subst (λ (below : Counts). Fits below (piece_at pieces k)) (sym is) (below-fits pieces fill k within)

pub returns-in_err-counts-clause-err : goal.returns-in_err-counts-clause-err
returns-in_err-counts-clause-err g c =
    OnErr-always c.from_residual-in_err-counts.result _ (kept_of (λ counts. is_result c.args.choice.rule c.args.choice.operation counts.subject counts.clip) c.args.pieces.now (take c.loop-place.place c.args.pieces.now), c.loop-place.invariant.kept)

pub returns-in_err-push-clause-err : goal.returns-in_err-push-clause-err
returns-in_err-push-clause-err g c =
    OnErr-always c.from_residual-in_err-push.result _ (kept_of (λ counts. is_result c.args.choice.rule c.args.choice.operation counts.subject counts.clip) c.args.pieces.now (take c.loop-place.place c.args.pieces.now), c.loop-place.invariant.kept)

pub returns-in_err-keep-clause-err : goal.returns-in_err-keep-clause-err
returns-in_err-keep-clause-err g c =
    OnErr-always c.from_residual-in_err-keep.result _ (kept_of (λ counts. is_result c.args.choice.rule c.args.choice.operation counts.subject counts.clip) c.args.pieces.now (take c.loop-place.place c.args.pieces.now), c.in_err-keep.ensures.err ∙ c.loop-place.invariant.kept)

pub loop-place-preserved : goal.loop-place-preserved
loop-place-preserved g c =
    let inside : Counts → Bool = λ counts. is_result c.args.choice.rule c.args.choice.operation counts.subject counts.clip in
    let pieces = c.args.pieces.now in
    let fill = c.requires.pieces in
    let k = c.loop-place.place in
    let within = c.loop-place-test.true in
    let out = c.loop-place.out.items in
    let below = c.loop-place.below.items in
    let counts = c.in_ok-counts.counts in
    let looked = c.counts_below.new.looked in
    let is = c.in_ok-counts.ensures.counts ∙ ap (λ (point : Point). counts_upto point (take k pieces)) c.start_of-point.ensures ∙ below-counted pieces fill k within in
    let noted = c.in_ok-push.ensures.items ∙ ap (λ (sum : Counts). below ++ sum ∷ []) is in
    record {
      size = noted-size pieces k below c.loop-place.invariant.size c.push.new.self.items noted;
      below = noted-more pieces k below c.loop-place.invariant.size c.push.new.self.items noted c.loop-place.invariant.below;
      looked = λ more. looked-next pieces fill k within looked.count looked.live.items more
          (subst (λ (point : Point). HasLooked point.x (take k pieces) looked.count looked.live.items) c.start_of-point.ensures c.in_ok-counts.ensures.looked);
      above = λ some. c.plus-above.ensures ∙ ap (λ (sum : Counts). plus sum (piece_at pieces k)) is ∙ ap (λ (n : ℕ). plus (below_of pieces (piece_at pieces n)) (piece_at pieces n)) (let less : k ≡ (k + 1) - 1 = omega arith in less);
      kept = kept-more pieces fill k within inside c.args.out.now.items out _ counts is
          c.loop-place.invariant.kept
          (c.in_ok-keep.ensures.ok ∙ ap₂ (λ (b a : Bool). out ++ kept_edge b a (piece_at pieces k).edge []) c.is_result-is_below.ensures (c.is_result-is_above.ensures ∙ ap inside c.plus-above.ensures));
    }
