-- The order along the status with its two edges exchanged.
use Rattle.std.proofs.Common.{◌≡◌, ℤ, refl, ap, ◌∙◌, arith}
use Rattle.std.specs.Cmp.{int_cmp_total, nat_cmp_total}
use Rattle.std.specs.Int.{int_max}
use Rattle.std.specs.Ordering.{int_cmp, nat_cmp, ordering_reverse}
use Rattle.std.specs.declared.cmp.Ordering.{Ordering}
use Rattle.std.specs.declared.cmp.Ordering.TheVariants.{Less, Equal, Greater}
use Rattle.std.proofs.lemmas.Int.{ints, clamps}
use Rattle.plane.specs.declared.sweep_line.active.ActiveEdge.{ActiveEdge}
use Rattle.plane.specs.SweepLine.Heights.{height_by_runs, rise_by_run}
use Rattle.plane.specs.SweepLine.Active.{then_cmp, common_start, cmp_active}

turned : (first second : Ordering) → then_cmp (ordering_reverse first) (ordering_reverse second) ≡ ordering_reverse (then_cmp first second)
turned Less second = refl
turned Equal second = refl
turned Greater second = refl

-- two comparisons, one after the other, each turned round
then_cmp-turned : (first second first_turned second_turned : Ordering) → first_turned ≡ ordering_reverse first → second_turned ≡ ordering_reverse second
    → then_cmp first_turned second_turned ≡ ordering_reverse (then_cmp first second)
then_cmp-turned first second first_turned second_turned is is_too =
    ap (λ r. then_cmp r second_turned) is ∙ ap (λ r. then_cmp (ordering_reverse first) r) is_too ∙ turned first second

max_exchanged : (a b : ℤ) → int_max a b ≡ int_max b a
max_exchanged a b = omega (arith, ints, clamps)

pub cmp_active-exchanged : (one other : ActiveEdge) → cmp_active other one ≡ ordering_reverse (cmp_active one other)
cmp_active-exchanged one other =
    let slopes = int_cmp (rise_by_run one.edge other.edge) (rise_by_run other.edge one.edge) in
    let slopes_turned = int_cmp (rise_by_run other.edge one.edge) (rise_by_run one.edge other.edge) in
    let begins = int_cmp one.edge.x0 other.edge.x0 in
    let begins_turned = int_cmp other.edge.x0 one.edge.x0 in
    let places = nat_cmp one.place other.place in
    let places_turned = nat_cmp other.place one.place in
    let start = common_start one other in
    ap (λ (x : ℤ). then_cmp (int_cmp (height_by_runs other.edge one.edge x) (height_by_runs one.edge other.edge x)) (then_cmp slopes_turned (then_cmp begins_turned places_turned))) (max_exchanged other.edge.x0 one.edge.x0)
    ∙ then_cmp-turned (int_cmp (height_by_runs one.edge other.edge start) (height_by_runs other.edge one.edge start)) (then_cmp slopes (then_cmp begins places))
    (int_cmp (height_by_runs other.edge one.edge start) (height_by_runs one.edge other.edge start)) (then_cmp slopes_turned (then_cmp begins_turned places_turned))
    (int_cmp_total.antisymm (height_by_runs other.edge one.edge start) (height_by_runs one.edge other.edge start))
    (then_cmp-turned slopes (then_cmp begins places) slopes_turned (then_cmp begins_turned places_turned)
    (int_cmp_total.antisymm (rise_by_run other.edge one.edge) (rise_by_run one.edge other.edge))
    (then_cmp-turned begins places begins_turned places_turned (int_cmp_total.antisymm other.edge.x0 one.edge.x0) (nat_cmp_total.antisymm other.place one.place)))

-- what stands before another, that stands behind it
pub greater_from_less : (one other : ActiveEdge) → cmp_active one other ≡ Less → cmp_active other one ≡ Greater
greater_from_less one other less = cmp_active-exchanged one other ∙ ap ordering_reverse less

pub less_from_greater : (one other : ActiveEdge) → cmp_active one other ≡ Greater → cmp_active other one ≡ Less
less_from_greater one other greater = cmp_active-exchanged one other ∙ ap ordering_reverse greater
