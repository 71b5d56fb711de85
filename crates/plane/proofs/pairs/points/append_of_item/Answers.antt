use Rattle.std.proofs.Common.{◌≡◌, ◌<◌, ◌+◌, SFits, w32, ap, ◌∙◌, arith, rules}
use Rattle.std.specs.Int.{int_max}
use Rattle.std.proofs.lemmas.Int.{to_z-of_z}
use Rattle.plane.specs.Pairs.Points.{MeetsAt, MeetsPart}
use Rattle.plane.specs.Pairs.Strips.{strip_at}
use Rattle.plane.specs.declared.pairs.items.Bounds.{Bounds}
use Rattle.plane.proofs.PairsLemmas.Extends.{OnErr-always, Extends-trans}
use Rattle.plane.proofs.PairsLemmas.Points.{Gains-none, Gains-same, Gains-then, rows_none, rows_more, rows_apart, rows_all}
use Rattle.plane.proofs.pairs.points.append_of_item.Goals as goal

pub loop-row-init : goal.loop-row-init
loop-row-init g c =
    let box = g.X.Boxed.bounds c.args.item in
    let Meeting = g.X.Meets.Meeting c.args.item in
    let points = c.args.table.now.points.now in
    let parts = c.args.table.now.parts.now in
    let base : SFits w32 c.args.table.now.rows.base = search rules in
    let low : SFits w32 c.bounds-bounds.result.low = search rules in
    let fits : SFits w32 c.max.result = search rules in
    let greater = (simp to_z-of_z at c.max.ensures.value) ∙ ap (λ (bounds : Bounds). int_max bounds.low c.args.table.now.rows.base) c.bounds-bounds.ensures in
    let first = (simp to_z-of_z at c.strip_at-first.ensures.value) ∙ ap (strip_at c.args.table.now.rows) greater in
    Gains-none (λ i j. (i ≡ c.args.place) × MeetsPart Meeting points parts (λ _ part. part.strip < c.strip_at-first.result) j) c.args.out.now.items
    (rows_none g.Y.Boxed.bounds points c.requires.rows.are_points c.args.table.now.rows parts c.requires.rows.are_parts Meeting box (c.requires.boxed.near c.args.item) c.args.place c.requires.rows.base c.strip_at-first.result first)

pub returns-in_err-append_in_row-clause-err : goal.returns-in_err-append_in_row-clause-err
returns-in_err-append_in_row-clause-err g c =
    let (pairs, is, _) = c.loop-row.invariant in
    OnErr-always c.from_residual.result _ (Extends-trans c.args.out.now.items c.loop-row.out.items c.append_in_row.new.out.items (pairs, is) (c.in_err-append_in_row.ensures).err)

pub loop-row-preserved : goal.loop-row-preserved
loop-row-preserved g c =
    let box = g.X.Boxed.bounds c.args.item in
    let Meeting = g.X.Meets.Meeting c.args.item in
    let points = c.args.table.now.points.now in
    let parts = c.args.table.now.parts.now in
    let row = c.loop-row.row in
    Gains-then (λ i j. (i ≡ c.args.place) × MeetsPart Meeting points parts (λ _ part. part.strip < row) j) (λ i j. (i ≡ c.args.place) × MeetsPart Meeting points parts (λ _ part. part.strip ≡ row) j)
    (λ i j. (i ≡ c.args.place) × MeetsPart Meeting points parts (λ _ part. part.strip < row + 1) j)
    (rows_apart g.Y.Boxed.bounds points c.requires.rows.are_points c.args.table.now.rows parts c.requires.rows.are_parts Meeting box (c.requires.boxed.near c.args.item) c.args.place c.requires.rows.base row)
    (rows_more g.Y.Boxed.bounds points c.requires.rows.are_points c.args.table.now.rows parts c.requires.rows.are_parts Meeting box (c.requires.boxed.near c.args.item) c.args.place c.requires.rows.base row)
    c.args.out.now.items c.loop-row.out.items c.append_in_row.new.out.items c.loop-row.invariant (c.in_ok-append_in_row.ensures).ok

pub returns-clause-ok : goal.returns-clause-ok
returns-clause-ok g c =
    let box = g.X.Boxed.bounds c.args.item in
    let Meeting = g.X.Meets.Meeting c.args.item in
    let points = c.args.table.now.points.now in
    let parts = c.args.table.now.parts.now in
    let row = c.loop-row.row in
    let base : SFits w32 c.args.table.now.rows.base = search rules in
    let high : SFits w32 c.bounds-bounds.result.high = search rules in
    let fits : SFits w32 c.max-2.result = search rules in
    let greater = (simp to_z-of_z at c.max-2.ensures.value) ∙ ap (λ (bounds : Bounds). int_max bounds.high c.args.table.now.rows.base) c.bounds-bounds.ensures in
    let last = (simp to_z-of_z at c.strip_at-last.ensures.value) ∙ ap (strip_at c.args.table.now.rows) greater in
    let end = c.loop-row-test.false in
    Gains-same (λ i j. (i ≡ c.args.place) × MeetsPart Meeting points parts (λ _ part. part.strip < row) j) (λ i j. (i ≡ c.args.place) × MeetsAt Meeting points j)
    (rows_all g.Y.Boxed.bounds points c.requires.rows.are_points c.args.table.now.rows parts c.requires.rows.are_parts Meeting box (c.requires.boxed.near c.args.item) c.args.place c.requires.rows.base c.args.table.now.starts.now c.requires.rows.are_starts row (omega (arith, last, end, c.min-end.ensures)))
    c.args.out.now.items c.loop-row.out.items c.loop-row.invariant
