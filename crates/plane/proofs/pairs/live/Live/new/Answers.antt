use Rattle.std.proofs.Common.{ℕ, ℤ, pos, subst, sym}
use Rattle.std.specs.Bool.{⊤}
use Rattle.std.proofs.lemmas.Option.{MatchOption-at_some}
use Rattle.i_tree.specs.Seg.Ranges.{CanBeCut, IsCutInto}
use Rattle.i_tree.specs.Seg.Segments.{Contents}
use Rattle.i_tree.specs.declared.seg.exp.SegRange.{SegRange}
use Rattle.plane.specs.declared.pairs.sweep.Placed.{Placed}
use Rattle.plane.proofs.PairsLemmas.Strips.{CanBeCut-heights, IsOverStrip-cut, IsSome-cut}
use Rattle.plane.proofs.pairs.live.Live.new.Goals as goal

pub unwrap-tree-requires : goal.unwrap-tree-requires
unwrap-tree-requires g c =
    IsSome-cut c.in_ok-new.field-0 (c.in_ok-new.ensures).cases
    (subst (λ (range : SegRange ℕ). CanBeCut pos 31 range) (sym c.heights.ensures) (CanBeCut-heights c.args.strips))

pub returns-clause-over : goal.returns-clause-over
returns-clause-over g c =
    IsOverStrip-cut c.args.strips c.unwrap-tree.result.buckets
    (subst (λ (range : SegRange ℕ). IsCutInto pos range c.unwrap-tree.result.buckets) c.heights.ensures
    (MatchOption-at_some ⊤ (λ (tree : Contents ℤ (Placed g.row.T.Denot)). IsCutInto pos c.heights.result tree.buckets) c.unwrap-tree.result c.unwrap-tree.ensures (c.in_ok-new.ensures).layout))
