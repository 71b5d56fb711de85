use Rattle.std.proofs.Common.{sym, subst}
use Rattle.std.proofs.lemmas.List.Filters.{dedup_is}
use Rattle.plane.specs.contracts.point.PointOrd.TheImpl.Laws.{matches_eq-law, total-law as point_total}
use Rattle.plane.proofs.PointLemmas.{point-same}
use Rattle.plane.specs.Gains.{HaveSame}
use Rattle.plane.proofs.GainsLemmas.{HaveSame-sorted}
use Rattle.noding.proofs.crossings.sort_points.Goals as goal

pub returns : goal.returns
returns g c =
    let before = c.args.points.now.items in
    subst (HaveSame before) (sym (dedup_is _ _ _ c.dedup.ensures.filtered))
    (HaveSame-sorted point_total point-same matches_eq-law before c.sort_in_buckets.new.items.items c.sort_in_buckets.ensures.permutation)
