use Rattle.std.proofs.Common.{◌≡◌, ◌≤ℤ◌, ◌+◌, ◌∷◌, [], ◌++◌, Some, to_z, of_z, SFits, w32, ap, sym, ◌∙◌, subst, arith, rules}
use Rattle.std.proofs.lemmas.Int.{ints, to_z-of_z}
use Rattle.std.proofs.lemmas.List.Sums.{sum_by_more}
use Rattle.std.proofs.lemmas.Option.{slice_get-get_or}
use Rattle.plane.specs.Pairs.Parts.{Lists, part_of}
use Rattle.plane.specs.Pairs.Strips.{strip_at, reached_by, Reaches}
use Rattle.plane.specs.declared.pairs.items.Bounds.{Bounds}
use Rattle.plane.proofs.PairsLemmas.Parts.{IsUpto, Lists-from, Lists-more, Lists-all}
use Rattle.plane.proofs.PairsLemmas.Told.{strip_at-mono}
use Rattle.plane.proofs.pairs.parts.push_parts.Goals as goal

pub strip_at-last-requires : goal.strip_at-last-requires
strip_at-last-requires g c =
    let item = c.index-items-place.result in
    let above : c.args.strips.base ≤ℤ (g.T.Boxed.bounds item).low =
    subst (λ (one : g.row.T.Denot). c.args.strips.base ≤ℤ (g.T.Boxed.bounds one).low) (sym c.index-items-place.is) (c.requires.base c.args.place item c.requires.inside) in
    let proper = (c.requires.proper item).tall in
    let fits : SFits w32 c.bounds-bounds.result.high = search rules in
    let is = ap (λ (bounds : Bounds). bounds.high) c.bounds-bounds.ensures in
    simp to_z-of_z (omega (arith, ints, above, proper, is))

pub overflow_add-strip-end : goal.overflow_add-strip-end
overflow_add-strip-end g c = let few = c.strip_at-last.ensures.few in search rules

pub loop-strip-init : goal.loop-strip-init
loop-strip-init g c =
    let items = c.args.items.now in
    let place = c.args.place in
    let item = c.index-items-place.result in
    let low : SFits w32 c.bounds-bounds.result.low = search rules in
    let first = (simp to_z-of_z at c.strip_at-first.ensures.value) ∙ ap (λ (bounds : Bounds). strip_at c.args.strips bounds.low) c.bounds-bounds.ensures in
    let stands = slice_get-get_or items place item c.requires.inside ∙ ap (λ (one : g.row.T.Denot). Some one) (sym c.index-items-place.is) in
    record {
      lists = Lists-from g.T.Boxed.bounds c.args.strips items place item stands c.args.parts.now.items c.strip_at-first.result (omega (arith, first)) c.requires.before;
      count = omega (arith, c.requires.count);
    }

pub loop-strip-preserved : goal.loop-strip-preserved
loop-strip-preserved g c =
    let items = c.args.items.now in
    let place = c.args.place in
    let item = c.index-items-place.result in
    let strip = c.loop-strip.strip in
    let low : SFits w32 c.bounds-bounds.result.low = search rules in
    let high : SFits w32 c.bounds-bounds.result.high = search rules in
    let first = (simp to_z-of_z at c.strip_at-first.ensures.value) ∙ ap (λ (bounds : Bounds). strip_at c.args.strips bounds.low) c.bounds-bounds.ensures in
    let last = (simp to_z-of_z at c.strip_at-last.ensures.value) ∙ ap (λ (bounds : Bounds). strip_at c.args.strips bounds.high) c.bounds-bounds.ensures in
    let reaches : Reaches c.args.strips (g.T.Boxed.bounds item) strip = record { from = omega (arith, first); upto = omega (arith, last) } in
    let fits : SFits w32 c.bounds-bounds.result.left = search rules in
    let left : to_z w32 (of_z w32 c.bounds-bounds.result.left) ≡ (g.T.Boxed.bounds item).left = to_z-of_z w32 c.bounds-bounds.result.left fits ∙ ap (λ (bounds : Bounds). bounds.left) c.bounds-bounds.ensures in
    let all : c.push.new.self.items ≡ c.loop-strip.parts.items ++ part_of place (g.T.Boxed.bounds item) strip ∷ [] = rw left at c.in_ok-push.ensures.items in
    let stands = slice_get-get_or items place item c.requires.inside ∙ ap (λ (one : g.row.T.Denot). Some one) (sym c.index-items-place.is) in
    record {
      lists = subst (Lists g.T.Boxed.bounds c.args.strips items (IsUpto place (strip + 1))) (sym all)
          (Lists-more g.T.Boxed.bounds c.args.strips items place item stands c.loop-strip.parts.items strip reaches c.loop-strip.invariant.lists);
      count = omega (arith, c.loop-strip.invariant.count, c.in_ok-push.ensures.len);
    }

pub returns-clause-lists : goal.returns-clause-lists
returns-clause-lists g c =
    let items = c.args.items.now in
    let place = c.args.place in
    let item = c.index-items-place.result in
    let high : SFits w32 c.bounds-bounds.result.high = search rules in
    let last = (simp to_z-of_z at c.strip_at-last.ensures.value) ∙ ap (λ (bounds : Bounds). strip_at c.args.strips bounds.high) c.bounds-bounds.ensures in
    let stands = slice_get-get_or items place item c.requires.inside ∙ ap (λ (one : g.row.T.Denot). Some one) (sym c.index-items-place.is) in
    Lists-all g.T.Boxed.bounds c.args.strips items place item stands c.loop-strip.parts.items c.loop-strip.strip (omega (arith, last)) c.loop-strip.invariant.lists

pub returns-clause-count : goal.returns-clause-count
returns-clause-count g c =
    let items = c.args.items.now in
    let place = c.args.place in
    let item = c.index-items-place.result in
    let low : SFits w32 c.bounds-bounds.result.low = search rules in
    let high : SFits w32 c.bounds-bounds.result.high = search rules in
    let first = (simp to_z-of_z at c.strip_at-first.ensures.value) ∙ ap (λ (bounds : Bounds). strip_at c.args.strips bounds.low) c.bounds-bounds.ensures in
    let last = (simp to_z-of_z at c.strip_at-last.ensures.value) ∙ ap (λ (bounds : Bounds). strip_at c.args.strips bounds.high) c.bounds-bounds.ensures in
    let more = sum_by_more (λ (one : g.row.T.Denot). reached_by c.args.strips (g.T.Boxed.bounds one)) items place item c.requires.inside in
    let same = ap (λ (one : g.row.T.Denot). reached_by c.args.strips (g.T.Boxed.bounds one)) c.index-items-place.is in
    let above = subst (λ (one : g.row.T.Denot). c.args.strips.base ≤ℤ (g.T.Boxed.bounds one).low) (sym c.index-items-place.is) (c.requires.base place item c.requires.inside) in
    let rises = strip_at-mono c.args.strips (g.T.Boxed.bounds item).low (g.T.Boxed.bounds item).high above (c.requires.proper item).tall in
    omega (arith, c.loop-strip.invariant.count, first, last, more, same, rises)
