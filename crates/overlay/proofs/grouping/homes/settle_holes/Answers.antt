use Rattle.std.proofs.Common.{◌≡◌, ◌<◌, ◌+◌, ℕ, Option, Some, None, get_or, length, refl, set, ap, subst, sym, ◌∙◌, arith}
use Rattle.std.specs.Prelude.{IfSome}
use Rattle.overlay.specs.Grouping.{AreHomes, home_of}
use Rattle.overlay.specs.declared.grouping.sides.Side.{Side}
use Rattle.overlay.proofs.GroupingLemmas.Homes.{HaveSettled, homes-set, settled-none, settled-some}
use Rattle.overlay.proofs.GroupingLemmas.Placed.{home-outer}
use Rattle.overlay.proofs.GroupingLemmas.Told.{no_hole}
use Rattle.overlay.proofs.grouping.homes.settle_holes.Goals.{in-Some, in_default}
use Rattle.overlay.proofs.grouping.homes.settle_holes.Goals as goal

pub loop-hole-init : goal.loop-hole-init
loop-hole-init c = record { have = c.requires.homes; settled = λ k d before. absurd (omega (arith, before)) }

pub returns-clause-homes : goal.returns-clause-homes
returns-clause-homes c = c.loop-hole.invariant.have

pub returns-clause-settled : goal.returns-clause-settled
returns-clause-settled c = λ k d within. (let past = c.loop-hole-test.false in c.loop-hole.invariant.settled k d (omega (arith, past, within)) within)

pub loop-hole-preserved : goal.loop-hole-preserved
loop-hole-preserved c =
    let are_outer = c.args.are_outer.now in
    let holes = c.args.holes.now in
    let homes = c.loop-hole.homes in
    let k = c.loop-hole.hole-index in
    let inside = c.loop-hole-test.true in
    let have = c.loop-hole.invariant in
    elim c.match-hole.branch [
      | in-Some w ↦ (
          let ring = (get_or holes k no_hole).first.ring in
          let (ring_inside, hole, below_inside) = c.requires.of k no_hole inside in
          let below = subst (λ (one : Option Side). IfSome one (λ side. side.ring < length are_outer)) w.in-Some.is below_inside in
          let size = have.have.size in
          let set_it = w.homes-is ∙ ap (λ (home : ℕ). set homes ring home) w.home_of.ensures in
          settled-some are_outer holes c.requires.turn k inside homes have no_hole w.in-Some.below w.in-Some.is c.match-hole.homes set_it hole (omega (arith, size, ring_inside))
          (subst (AreHomes are_outer) (sym set_it) (homes-set are_outer homes ring (home_of are_outer homes w.in-Some.below.ring) have.have (home-outer are_outer homes have.have w.in-Some.below.ring below))))
      | in_default w ↦ subst (HaveSettled are_outer holes (k + 1)) (sym w.homes-is) (settled-none are_outer holes c.requires.turn k inside homes have no_hole (none-found (get_or holes k no_hole).below w.in_default.not-Some))
    ]
  where
    none-found : (found : Option Side) → ((side : Side) → found ≡ Some side → ⊥) → found ≡ None
    none-found None never = refl
    none-found (Some side) never = absurd (never side refl)
