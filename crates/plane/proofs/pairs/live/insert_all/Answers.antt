use Rattle.std.proofs.Common.{◌≡◌, ℕ, pos, ap, sym, subst, subst₂, ◌∙◌}
use Rattle.i_tree.specs.Seg.Buckets.{Accepts, Buckets}
use Rattle.i_tree.specs.declared.seg.exp.SegRange.{SegRange}
use Rattle.plane.specs.Pairs.Strips.{range_in}
use Rattle.plane.specs.Pairs.Live.{IsIn}
use Rattle.plane.proofs.PairsLemmas.Live.{inserted}
use Rattle.plane.proofs.PairsLemmas.Told.{Accepts-in}
use Rattle.plane.proofs.pairs.live.insert_all.Goals as goal

pub insert_by_range-requires : goal.insert_by_range-requires
insert_by_range-requires g c =
    let (buckets, _, _) = c.loop-placed.invariant in
    let placed = c.placed-item.result in
    let is_in : IsIn g.T.Boxed.bounds c.args.strips c.args.strip placed =
    subst (IsIn g.T.Boxed.bounds c.args.strips c.args.strip) (sym c.placed-item.is) (c.requires.within c.loop-placed.placed-index placed c.loop-placed-test.true) in
    let range : c.range_in-range.result ≡ range_in c.args.strips c.args.strip (g.T.Boxed.bounds c.placed-item.result.item) = c.range_in-range.ensures ∙ ap (range_in c.args.strips c.args.strip) c.bounds.ensures in
    subst₂ (λ (b : Buckets) (r : SegRange ℕ). Accepts b (pos r.min) (pos r.max)) (sym buckets) (sym range)
    (Accepts-in c.args.strips c.args.strip c.args.tree.now.buckets c.requires.over (g.T.Boxed.bounds placed.item) (c.requires.proper placed.item) is_in.above is_in.reaches)

pub loop-placed-preserved : goal.loop-placed-preserved
loop-placed-preserved g c =
    let (buckets, unasked, so_far) = c.loop-placed.invariant in
    let range : c.range_in-range.result ≡ range_in c.args.strips c.args.strip (g.T.Boxed.bounds c.placed-item.result.item) = c.range_in-range.ensures ∙ ap (range_in c.args.strips c.args.strip) c.bounds.ensures in (
      c.insert_by_range.ensures.buckets ∙ buckets,
      c.insert_by_range.ensures.latest ∙ unasked,
      inserted g.T.Boxed.bounds c.args.strips c.args.strip c.args.tree.now.buckets c.args.items.now c.loop-placed.placed-index c.placed-item.result c.loop-placed.tree.latest c.loop-placed.tree.buckets c.range_in-range.result
          c.loop-placed.tree.members c.insert_by_range.new.self.members c.loop-placed-test.true c.placed-item.is (c.requires.proper c.placed-item.result.item) unasked buckets range so_far (c.in_ok-insert_by_range.ensures).ok,
    )
