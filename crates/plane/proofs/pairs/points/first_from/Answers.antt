use Rattle.std.proofs.Common.{inl, inr, ◌≡◌, ◌⊎◌, ℕ, ◌+◌, ◌*◌, ◌/◌, ℤ, ◌<ℤ◌, ◌≤ℤ◌, w32, to_z, of_z, get_or, ap, subst, arith}
use Rattle.std.proofs.lemmas.Int.{to_z-of_z}
use Rattle.std.proofs.lemmas.Option.{slice_get-get_or}
use Rattle.plane.specs.Pairs.Points.{IsFirstFrom}
use Rattle.plane.proofs.PairsLemmas.Ordered.{stands_at}
use Rattle.plane.proofs.PairsLemmas.Points.{short_upto, from_there, from_end, nothing, starts_upto, in_row, not_short}
use Rattle.plane.proofs.pairs.points.first_from.Goals as goal

pub overflow_sub-size : goal.overflow_sub-size
overflow_sub-size g c = starts_upto c.args.parts.now c.args.row c.start_of-start.result c.start_of-end.result c.start_of-start.ensures c.start_of-end.ensures

pub loop-size-init : goal.loop-size-init
loop-size-init g c =
    let upto = starts_upto c.args.parts.now c.args.row c.start_of-start.result c.start_of-end.result c.start_of-start.ensures c.start_of-end.ensures in
    record {
      behind = omega arith;
      upto = omega (arith, upto);
      short = λ at part listed before. inl (c.start_of-start.ensures.below at part listed before);
      from = λ at part listed behind. from_end c.args.parts.now c.args.row c.start_of-end.result _ c.start_of-end.ensures at part listed (omega (arith, upto, behind));
    }

pub loop-size-preserved : goal.loop-size-preserved
loop-size-preserved g c =
    let parts = c.args.parts.now in
    let row = c.args.row in
    let left = to_z w32 (of_z w32 c.args.left) in
    let so_far = c.loop-size.invariant in
    let behind = so_far.behind in
    let upto = so_far.upto in
    let within = c.start_of-end.ensures.within in
    let test = c.loop-size-test.true in
    let half = c.loop-size.size / 2 in
    let middle = c.loop-size.first + half in
    let part = get_or parts middle nothing in
    let listed = slice_get-get_or parts middle nothing (omega (arith, upto, within, test)) in
    let in_row : part.strip ≡ row = in_row parts row c.start_of-start.result c.start_of-end.result c.start_of-start.ensures c.start_of-end.ensures middle part listed (omega (arith, behind)) (omega (arith, upto, test)) in
    let point = c.index-ordered-middle.result in
    let many = c.requires.begin.many in
    let begins = c.requires.begin.each middle part point listed (stands_at c.args.ordered.now middle point (omega (arith, many, upto, within, test)) c.index-ordered-middle.is) in
    elim (subst (λ (x : ℤ). ((c.count_before.result ≡ 1) × (x <ℤ left)) ⊎ ((c.count_before.result ≡ 0) × (left ≤ℤ x))) begins c.count_before.ensures) [
      | inl (one, less) ↦
          let scaled = ap (λ (many : ℕ). half * many) one in
          let step : half * c.count_before.result ≡ half = omega (arith, scaled) in
          record {
            behind = omega (arith, step, behind);
            upto = omega (arith, step, upto);
            short = λ at other listed' before. short_upto row left parts c.requires.in_order middle part listed (inr (in_row, less)) at other listed' (omega (arith, step, before));
            from = λ at other listed' behind'. so_far.from at other listed' (omega (arith, step, behind'));
          }
      | inr (none, more) ↦
          let scaled = ap (λ (many : ℕ). half * many) none in
          let step : half * c.count_before.result ≡ 0 = omega (arith, scaled) in
          record {
            behind = omega (arith, step, behind);
            upto = omega (arith, step, upto);
            short = λ at other listed' before. so_far.short at other listed' (omega (arith, step, before));
            from = λ at other listed' behind'. from_there row left parts c.requires.in_order middle part listed (not_short row left part (omega (arith, in_row)) more) at other listed' (omega (arith, step, behind'));
          }
    ]

pub bounds-ordered-first : goal.bounds-ordered-first
bounds-ordered-first g c =
    let upto = c.loop-size.invariant.upto in
    let within = c.start_of-end.ensures.within in
    let size = c.if-size-eq1.true in
    let many = c.requires.begin.many in
    omega (arith, upto, within, size, many)

pub returns-then-size-eq1 : goal.returns-then-size-eq1
returns-then-size-eq1 g c =
    let parts = c.args.parts.now in
    let row = c.args.row in
    let wide = to_z w32 (of_z w32 c.args.left) in
    let so_far = c.loop-size.invariant in
    let behind = so_far.behind in
    let upto = so_far.upto in
    let within = c.start_of-end.ensures.within in
    let size = c.if-size-eq1.true in
    let first = c.loop-size.first in
    let part = get_or parts first nothing in
    let listed = slice_get-get_or parts first nothing (omega (arith, upto, within, size)) in
    let in_row : part.strip ≡ row = in_row parts row c.start_of-start.result c.start_of-end.result c.start_of-start.ensures c.start_of-end.ensures first part listed behind (omega (arith, upto, size)) in
    let point = c.index-ordered-first.result in
    let many = c.requires.begin.many in
    let begins = c.requires.begin.each first part point listed (stands_at c.args.ordered.now first point (omega (arith, many, upto, within, size)) c.index-ordered-first.is) in
    subst (λ (left : ℤ). IsFirstFrom parts row left (first + c.count_before-first.result)) (to_z-of_z w32 c.args.left c.ranges.left)
    (elim (subst (λ (x : ℤ). ((c.count_before-first.result ≡ 1) × (x <ℤ wide)) ⊎ ((c.count_before-first.result ≡ 0) × (wide ≤ℤ x))) begins c.count_before-first.ensures) [
      | inl (one, less) ↦
          record {
            short = λ at other listed' before. short_upto row wide parts c.requires.in_order first part listed (inr (in_row, less)) at other listed' (omega (arith, one, before));
            from = λ at other listed' behind'. so_far.from at other listed' (omega (arith, one, size, behind'));
          }
      | inr (none, more) ↦
          record {
            short = λ at other listed' before. so_far.short at other listed' (omega (arith, none, before));
            from = λ at other listed' behind'. from_there row wide parts c.requires.in_order first part listed (not_short row wide part (omega (arith, in_row)) more) at other listed' (omega (arith, none, behind'));
          }
    ])

pub returns-else-size-eq1 : goal.returns-else-size-eq1
returns-else-size-eq1 g c =
    let so_far = c.loop-size.invariant in
    let test = c.loop-size-test.false in
    let size = c.if-size-eq1.false in
    subst (λ (left : ℤ). IsFirstFrom c.args.parts.now c.args.row left c.loop-size.first) (to_z-of_z w32 c.args.left c.ranges.left)
    (record { short = so_far.short; from = λ at other listed' behind'. so_far.from at other listed' (omega (arith, test, size, behind')) })
