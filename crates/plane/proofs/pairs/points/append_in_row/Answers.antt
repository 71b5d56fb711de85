use Rattle.std.proofs.Common.{◌≡◌, ◌<ℤ◌, ◌<◌, ◌+◌, ℤ, SFits, w32, to_z, of_z, length, get_or, ap, ◌∙◌, subst, arith, rules}
use Rattle.std.proofs.lemmas.Int.{to_z-of_z}
use Rattle.std.proofs.lemmas.Option.{slice_get-get_or}
use Rattle.plane.specs.Pairs.Points.{IsFirstFrom, MeetsPart}
use Rattle.plane.specs.declared.pairs.items.Bounds.{Bounds}
use Rattle.plane.proofs.PairsLemmas.Extends.{OnErr-always}
use Rattle.plane.proofs.PairsLemmas.Ordered.{BeginAs-points}
use Rattle.plane.proofs.PairsLemmas.Points.{Gains-none, Gains-same, Gains-then, nothing, told_none, told_more, told_apart, told_upto, told_all}
use Rattle.plane.proofs.pairs.points.append_in_row.Goals as goal

pub loop-next-init : goal.loop-next-init
loop-next-init g c =
    let box = g.X.Boxed.bounds c.args.item in
    let Meeting = g.X.Meets.Meeting c.args.item in
    let points = c.args.table.now.points.now in
    let parts = c.args.table.now.parts.now in
    let row = c.args.row in
    let from = c.first_from-from.result in
    let fits : SFits w32 c.bounds-bounds.result.left = search rules in
    let left = to_z-of_z w32 c.bounds-bounds.result.left fits ∙ ap (λ (bounds : Bounds). bounds.left) c.bounds-bounds.ensures in
    let first = subst (λ (left : ℤ). IsFirstFrom parts row left from) left c.first_from-from.ensures in
    Gains-none (λ i j. (i ≡ c.args.place) × MeetsPart Meeting points parts (λ at part. (at < from) × (part.strip ≡ row)) j) c.args.out.now.items
    (told_none g.Y.Boxed.bounds points c.requires.rows.are_points c.args.table.now.rows parts c.requires.rows.are_parts Meeting box (c.requires.boxed.near c.args.item) c.args.place row from first)

pub returns-then-is_past-clause-ok : goal.returns-then-is_past-clause-ok
returns-then-is_past-clause-ok g c =
    let box = g.X.Boxed.bounds c.args.item in
    let Meeting = g.X.Meets.Meeting c.args.item in
    let points = c.args.table.now.points.now in
    let parts = c.args.table.now.parts.now in
    let row = c.args.row in
    let from = c.first_from-from.result in
    let fits : SFits w32 c.bounds-bounds.result.left = search rules in
    let left = to_z-of_z w32 c.bounds-bounds.result.left fits ∙ ap (λ (bounds : Bounds). bounds.left) c.bounds-bounds.ensures in
    let first = subst (λ (left : ℤ). IsFirstFrom parts row left from) left c.first_from-from.ensures in
    let next = c.loop-next.next in
    let part = get_or parts next nothing in
    let upto = c.loop-next.auto.next in
    let right_fits : SFits w32 c.bounds-bounds.result.right = search rules in
    let right : to_z w32 (of_z w32 c.bounds-bounds.result.right) ≡ box.right = to_z-of_z w32 c.bounds-bounds.result.right right_fits ∙ ap (λ (bounds : Bounds). bounds.right) c.bounds-bounds.ensures in
    let test = c.loop-next-test.true in
    let ends = c.start_of-end.ensures.within in
    let many = c.requires.rows.are_ordered.many in
    let inside : next < length parts = omega (arith, test, ends) in
    let point = get_or c.args.table.now.ordered.now next c.index-table-next.result in
    let begins = (BeginAs-points g.Y.Boxed.bounds points c.args.table.now.rows parts c.requires.rows.are_parts c.args.table.now.ordered.now c.requires.rows.are_ordered).each next part point (slice_get-get_or parts next nothing inside)
    (slice_get-get_or c.args.table.now.ordered.now next c.index-table-next.result (omega (arith, many, inside))) in
    let past = subst (λ (at : ℤ). box.right <ℤ at) begins (subst (λ (right : ℤ). right <ℤ (g.Y.Boxed.bounds point).left) right c.if-is_past.ensures) in
    Gains-same (λ i j. (i ≡ c.args.place) × MeetsPart Meeting points parts (λ at part. (at < next) × (part.strip ≡ row)) j) (λ i j. (i ≡ c.args.place) × MeetsPart Meeting points parts (λ _ part. part.strip ≡ row) j)
    (told_upto g.Y.Boxed.bounds points c.requires.rows.are_points c.args.table.now.rows parts c.requires.rows.are_parts Meeting box (c.requires.boxed.near c.args.item) c.args.place row from first next part (slice_get-get_or parts next nothing inside) c.requires.rows.are_parts.in_order upto (λ _. past))
    c.args.out.now.items c.loop-next.out.items c.loop-next.invariant

pub bounds-table-next : goal.bounds-table-next
bounds-table-next g c =
    let test = c.loop-next-test.true in
    let ends = c.start_of-end.ensures.within in
    let many = c.requires.rows.are_ordered.many in
    omega (arith, test, ends, many)

pub first_from-from-requires-clause-begin : goal.first_from-from-requires-clause-begin
first_from-from-requires-clause-begin g c = BeginAs-points g.Y.Boxed.bounds c.args.table.now.points.now c.args.table.now.rows c.args.table.now.parts.now c.requires.rows.are_parts c.args.table.now.ordered.now c.requires.rows.are_ordered

pub returns-in_err-append_if_met-clause-err : goal.returns-in_err-append_if_met-clause-err
returns-in_err-append_if_met-clause-err g c =
    let (pairs, is, _) = c.loop-next.invariant in
    OnErr-always c.from_residual.result _ (pairs, (c.in_err-append_if_met.ensures).err ∙ is)

pub loop-next-preserved : goal.loop-next-preserved
loop-next-preserved g c =
    let box = g.X.Boxed.bounds c.args.item in
    let Meeting = g.X.Meets.Meeting c.args.item in
    let points = c.args.table.now.points.now in
    let parts = c.args.table.now.parts.now in
    let row = c.args.row in
    let from = c.first_from-from.result in
    let fits : SFits w32 c.bounds-bounds.result.left = search rules in
    let left = to_z-of_z w32 c.bounds-bounds.result.left fits ∙ ap (λ (bounds : Bounds). bounds.left) c.bounds-bounds.ensures in
    let first = subst (λ (left : ℤ). IsFirstFrom parts row left from) left c.first_from-from.ensures in
    let next = c.loop-next.next in
    let part = get_or parts next nothing in
    let test = c.loop-next-test.true in
    let ends = c.start_of-end.ensures in
    let within = ends.within in
    let inside : next < length parts = omega (arith, test, within) in
    let listed = slice_get-get_or parts next nothing inside in
    let many = c.requires.rows.are_ordered.many in
    let point = get_or c.args.table.now.ordered.now next c.index-table-next.result in
    let above = (first.from next part listed c.loop-next.auto.next).above in
    let below = ends.below next part listed test in
    let in_row : part.strip ≡ row = omega (arith, above, below) in
    let stands = c.requires.rows.are_ordered.each next part point listed (slice_get-get_or c.args.table.now.ordered.now next c.index-table-next.result (omega (arith, many, inside))) in
    Gains-then (λ i j. (i ≡ c.args.place) × MeetsPart Meeting points parts (λ at part. (at < next) × (part.strip ≡ row)) j) (λ i j. (i ≡ c.args.place) × (j ≡ part.place) × Meeting point)
    (λ i j. (i ≡ c.args.place) × MeetsPart Meeting points parts (λ at part. (at < (next + 1)) × (part.strip ≡ row)) j)
    (told_apart g.Y.Boxed.bounds points c.requires.rows.are_points c.args.table.now.rows parts c.requires.rows.are_parts Meeting box (c.requires.boxed.near c.args.item) c.args.place row from first next part listed point)
    (told_more g.Y.Boxed.bounds points c.requires.rows.are_points c.args.table.now.rows parts c.requires.rows.are_parts Meeting box (c.requires.boxed.near c.args.item) c.args.place row from first next part listed point stands in_row)
    c.args.out.now.items c.loop-next.out.items c.append_if_met.new.out.items c.loop-next.invariant (c.in_ok-append_if_met.ensures).ok

pub returns-clause-ok : goal.returns-clause-ok
returns-clause-ok g c =
    let box = g.X.Boxed.bounds c.args.item in
    let Meeting = g.X.Meets.Meeting c.args.item in
    let points = c.args.table.now.points.now in
    let parts = c.args.table.now.parts.now in
    let row = c.args.row in
    let from = c.first_from-from.result in
    let fits : SFits w32 c.bounds-bounds.result.left = search rules in
    let left = to_z-of_z w32 c.bounds-bounds.result.left fits ∙ ap (λ (bounds : Bounds). bounds.left) c.bounds-bounds.ensures in
    let first = subst (λ (left : ℤ). IsFirstFrom parts row left from) left c.first_from-from.ensures in
    let next = c.loop-next.next in
    Gains-same (λ i j. (i ≡ c.args.place) × MeetsPart Meeting points parts (λ at part. (at < next) × (part.strip ≡ row)) j) (λ i j. (i ≡ c.args.place) × MeetsPart Meeting points parts (λ _ part. part.strip ≡ row) j)
    (told_all g.Y.Boxed.bounds points c.requires.rows.are_points c.args.table.now.rows parts c.requires.rows.are_parts Meeting box (c.requires.boxed.near c.args.item) c.args.place row from first c.start_of-end.result next c.start_of-end.ensures c.loop-next-test.false)
    c.args.out.now.items c.loop-next.out.items c.loop-next.invariant
