use Rattle.std.proofs.Common.{◌^◌, IsTrue, ◌↔◌, sym, ◌∙◌, subst}
use Rattle.i_tree.specs.Seg.Buckets.{Buckets, Accepts}
use Rattle.i_tree.proofs.SegLemmas.Numbers.{accepts_upto}
use Rattle.i_tree.proofs.seg.layout.Layout.accepts.Goals as goal

-- that the view of the fields is the layout's value
pub returns : goal.returns
returns g c =
    subst (λ (buckets : Buckets). IsTrue c.le.result ↔ Accepts buckets (g.R.LayoutNumber.whole c.args.min) (g.R.LayoutNumber.whole c.args.max)) c.self.view_is
    (accepts_upto g.R.PartialOrd.partial_cmp g.R.Ord.cmp g.met.R.Ord.matches_partial_cmp g.R.LayoutNumber.whole g.met.R.LayoutNumber.order
    c.self.inside.start c.self.inside.end c.args.min c.args.max (2 ^ c.self.inside.scale) c.le.result
    (sym c.lt.ensures ∙ c.if-lt.false) (sym c.lt-else-lt.ensures ∙ c.if-lt-2.false) c.le.ensures)
