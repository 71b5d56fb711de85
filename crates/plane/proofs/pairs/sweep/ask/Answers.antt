use Rattle.std.proofs.Common.{◌≡◌, false, ℕ, pos, List, SFits, w32, to_z, of_z, sym, ap, subst, subst₂, ◌∙◌, rules}
use Rattle.std.proofs.lemmas.Bool.{cond-false}
use Rattle.std.proofs.lemmas.Int.{to_z-of_z}
use Rattle.i_tree.specs.Seg.Buckets.{Accepts}
use Rattle.i_tree.specs.Seg.Members.{Member}
use Rattle.i_tree.specs.declared.seg.exp.SegRange.{SegRange}
use Rattle.plane.specs.Pairs.Sweep.{Asks, GainsPairs}
use Rattle.plane.specs.declared.pairs.items.Bounds.{Bounds}
use Rattle.plane.specs.declared.pairs.sweep.Placed.{Placed}
use Rattle.plane.proofs.PairsLemmas.Extends.{OnErr-always, Extends-same}
use Rattle.plane.proofs.PairsLemmas.Serving.{Asks-called}
use Rattle.plane.proofs.PairsLemmas.Told.{Accepts-in}
use Rattle.plane.proofs.pairs.sweep.ask.Goals as goal

pub collect_by_range-requires-clause-accepted : goal.collect_by_range-requires-clause-accepted
collect_by_range-requires-clause-accepted g c =
    subst (λ (range : SegRange ℕ). Accepts c.args.live.now.tree.buckets (pos range.min) (pos range.max)) (sym c.requires.range)
    (Accepts-in c.args.strips c.args.strip c.args.live.now.tree.buckets c.requires.over (g.T.Boxed.bounds c.args.placed.item) (c.requires.boxed.proper c.args.placed.item) c.requires.base c.requires.reaches)

pub returns-in_err-collect_by_range-clause-err : goal.returns-in_err-collect_by_range-clause-err
returns-in_err-collect_by_range-clause-err g c = OnErr-always c.from_residual.result _ (Extends-same c.args.out.now.items)

pub returns-clause-ok : goal.returns-clause-ok
returns-clause-ok g c =
    let bounds = g.T.Boxed.bounds in
    let fits : SFits w32 c.bounds.result.left = search rules in
    let time = to_z-of_z w32 c.bounds.result.left fits ∙ ap (λ (box : Bounds). box.left) c.bounds.ensures in
    let many : c.args.live.now.is_few ≡ false = c.if-live.false in
    let Asked : List (Member (Placed g.row.T.Denot)) → List (Member (Placed g.row.T.Denot)) → Type 0 = λ old new. Asks bounds g.T.Meets.Meeting c.args.strips c.args.strip c.args.placed c.args.live.now.tree.buckets old new c.args.out.now.items c.append_told.new.out.items in
    subst₂ Asked (sym (cond-false c.args.live.now.is_few _ c.args.live.now.tree.members many)) (sym (cond-false c.args.live.now.is_few _ c.collect_by_range.new.self.members many))
    (Asks-called c.args.strips c.args.strip c.args.placed c.args.live.now.tree.buckets c.args.live.now.tree.members c.collect_by_range.new.self.members
    c.args.out.now.items c.append_told.new.out.items c.clear.new.self.items c.collect_by_range.new.out.items (to_z w32 (of_z w32 c.bounds.result.left)) c.args.range time c.requires.range
    c.clear.ensures.items (c.in_ok-collect_by_range.ensures).ok
    (subst (λ (found : List (Placed g.row.T.Denot)). GainsPairs bounds g.T.Meets.Meeting c.args.strips c.args.strip c.args.placed found c.args.out.now.items c.append_told.new.out.items) c.deref.ensures.value (c.in_ok-append_told.ensures).ok)
    c.collect_by_range.ensures.members c.collect_by_range.ensures.filters)
