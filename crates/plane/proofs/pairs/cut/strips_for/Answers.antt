use Rattle.std.proofs.Common.{◌≡◌, ◌≤ℤ◌, ℕ, ℤ, length, SFits, to_z, of_z, w32, ap, ◌∙◌, subst, arith, rules}
use Rattle.std.specs.List.{All, sum_by}
use Rattle.std.proofs.lemmas.Int.{ints, to_z-of_z}
use Rattle.std.proofs.lemmas.List.{take_all}
use Rattle.std.proofs.lemmas.List.Elements.{All-more, All-weaker}
use Rattle.std.proofs.lemmas.List.Sums.{sum_by_more}
use Rattle.i_tree.specs.Seg.Buckets.{distance}
use Rattle.plane.specs.Pairs.Strips.{IsWideEnough}
use Rattle.plane.specs.declared.pairs.items.Bounds.{Bounds}
use Rattle.plane.specs.declared.pairs.strips.Strips.{Strips}
use Rattle.plane.proofs.PairsLemmas.Few.{IsBetween, height_of, ReachFew-wide}
use Rattle.plane.proofs.pairs.cut.strips_for.Goals as goal

pub loop-item-preserved : goal.loop-item-preserved
loop-item-preserved g c =
    let items = c.args.items.now in
    let item = c.item-item.result in
    let index = c.loop-item.item-index in
    let base : ℤ = to_z w32 c.loop-item.base-bits in
    let top : ℤ = to_z w32 c.loop-item.top-bits in
    let base' : ℤ = to_z w32 (of_z w32 c.min-base.result) in
    let top' : ℤ = to_z w32 (of_z w32 c.max-top.result) in
    let P : g.row.T.Denot → Type 0 = λ one. IsBetween base' top' (g.T.Boxed.bounds one) in
    let Q : g.row.T.Denot → Type 0 = λ one. IsBetween base top (g.T.Boxed.bounds one) in
    let base_is : base' ≡ c.min-base.result = search rules in
    let top_is : top' ≡ c.max-top.result = search rules in
    let base_upto = c.min-base.ensures.self_bound in
    let top_from = c.max-top.ensures.self_bound in
    let least = c.min-base.ensures.other_bound in
    let greatest = c.max-top.ensures.other_bound in
    let low : SFits w32 c.bounds-bounds.result.low = search rules in
    let high : SFits w32 c.bounds-bounds.result.high = search rules in
    let low_is = to_z-of_z w32 c.bounds-bounds.result.low low ∙ ap (λ (bounds : Bounds). bounds.low) c.bounds-bounds.ensures in
    let high_is = to_z-of_z w32 c.bounds-bounds.result.high high ∙ ap (λ (bounds : Bounds). bounds.high) c.bounds-bounds.ensures in
    let height : c.abs_diff.result ≡ height_of (g.T.Boxed.bounds item) = (simp to_z-of_z at c.abs_diff.ensures) ∙ ap height_of c.bounds-bounds.ensures in
    let here : P item = record { above = omega (arith, ints, base_is, least, low_is); below = omega (arith, ints, top_is, greatest, high_is) } in
    let so_far = c.loop-item.invariant in
    let more = sum_by_more (λ (one : g.row.T.Denot). height_of (g.T.Boxed.bounds one)) items index item c.loop-item-test.true in
    let same = ap (λ (one : g.row.T.Denot). height_of (g.T.Boxed.bounds one)) c.item-item.is in
    record {
      between = All-more P items index item c.loop-item-test.true
          (All-weaker Q P (λ one is. let above = is.above in let below = is.below in record { above = omega (arith, ints, above, base_is, base_upto); below = omega (arith, ints, below, top_is, top_from) }) _ so_far.between)
          (subst P c.item-item.is here);
      heights = omega (arith, so_far.heights, more, same, height);
      fits = omega (arith, so_far.fits);
    }

pub returns-clause-base : goal.returns-clause-base
returns-clause-base g c =
    let items = c.args.items.now in
    let base : ℤ = to_z w32 c.loop-item.base-bits in
    let P : g.row.T.Denot → Type 0 = λ item. IsBetween base (to_z w32 c.loop-item.top-bits) (g.T.Boxed.bounds item) in
    let Q : g.row.T.Denot → Type 0 = λ item. base ≤ℤ (g.T.Boxed.bounds item).low in
    All-weaker P Q (λ item is. is.above) items (subst (All P) (take_all c.loop-item.item-index items c.loop-item-test.false) c.loop-item.invariant.between)

pub returns-clause-few : goal.returns-clause-few
returns-clause-few g c =
    let items = c.args.items.now in
    let base : ℤ = to_z w32 c.loop-item.base-bits in
    let top : ℤ = to_z w32 c.loop-item.top-bits in
    let bits = c.bits_for.result in
    let strips : Strips = record { base = base; bits = bits; wide = c.bits_for.ensures.wide; fits = c.bits_for.ensures.fits } in
    let all = take_all c.loop-item.item-index items c.loop-item-test.false in
    let heights = c.loop-item.invariant.heights ∙ ap (sum_by (λ (item : g.row.T.Denot). height_of (g.T.Boxed.bounds item))) all in
    let wide = subst (λ (sum : ℕ). IsWideEnough (length items) (distance base top) sum bits) heights
    (subst (λ (span : ℕ). IsWideEnough (length items) span c.loop-item.heights bits) c.abs_diff-2.ensures c.bits_for.ensures.few) in
    ReachFew-wide g.T.Boxed.bounds strips items top c.requires.proper
    (subst (All (λ item. IsBetween base top (g.T.Boxed.bounds item))) all c.loop-item.invariant.between) (omega (arith, c.abs_diff-2.ensures, c.abs_diff-2.type_inv)) wide
