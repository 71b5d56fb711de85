use Rattle.std.proofs.Common.{◌≡◌, ◌*◌, List, pos, get_or, length, take, refl, ap, sym, ◌∙◌, ◌-◌, subst, append-nil, arith}
use Rattle.std.proofs.lemmas.Bool.{eqb-false}
use Rattle.plane.specs.declared.point.Point.{Point}
use Rattle.overlay.specs.Contours.Rings.{ring_edges}
use Rattle.tiles.specs.Pushing.{HasSides}
use Rattle.tiles.specs.declared.window.Window.{Window}
use Rattle.tiles.proofs.Beside.{IsAt}
use Rattle.tiles.proofs.Chains.{Reaches}
use Rattle.tiles.proofs.Closing.{closes-cropped}
use Rattle.tiles.proofs.Gone.{GoneOver, gone-all, gone-more, gone-none, ring_start}
use Rattle.tiles.proofs.cropping.append_cropped.Goals as goal

pub loop-pair-init : goal.loop-pair-init
loop-pair-init g c =
    let ring = c.args.ring.now in
    let out = c.args.out.now.items in
    let rest : c.into_iter-pair-iterator.result.rest.now ≡ ring = cc in
    let size : c.into_iter-pair-iterator.result.size ≡ 2 = cc in (
      size,
      subst (λ (points : List Point). GoneOver c.args.wide ring points out out) (sym rest)
          (gone-none c.args.wide ring out out (λ empty. eqb-false _ _ (sym c.is_empty.ensures ∙ c.if-is_empty.false) (ap (λ (points : List Point). length points) empty)) (sym (append-nil out))),
    )

pub loop-pair-preserved : goal.loop-pair-preserved
loop-pair-preserved g c =
    let (size, gone) = c.loop-pair.invariant in
    let (same, (long, window, rest, _)) = c.in-Some.ensures.steps in
    let told = c.len-start.ensures in
    let none : Point = record { x = pos 0; y = pos 0 } in
    let left = c.loop-pair.pair-iterator.rest.now in
    let pair = c.in-Some.pair.now in (
      same ∙ size,
      gone-more c.args.wide c.requires c.args.ring.now left c.args.out.now.items c.loop-pair.out.items c.go_over.new.out.items gone c.len-start.result (omega (arith, told))
          (get_or pair 0 none) (get_or pair 1 none) c.next.new.self.rest.now pair none (omega (arith, size, long)) (window ∙ ap (λ n. take n left) size) rest refl refl c.in_ok-go_over.ensures.ok,
    )

pub returns-clause-ok : goal.returns-clause-ok
returns-clause-ok g c = λ window is.
    let (size, gone) = c.loop-pair.invariant in
    let (_, (short, _)) = c.in-None.ensures.steps in
    let told = c.len-start.ensures in
    let none : Point = record { x = pos 0; y = pos 0 } in
    let ring = c.args.ring.now in
    let before = c.args.out.now.items in
    let (last, chain, chain_is, at, reaches) =
    gone-all c.args.wide c.requires ring c.loop-pair.pair-iterator.rest.now before c.loop-pair.out.items c.go_over-2.new.out.items gone c.len-start.result (omega (arith, told))
    (get_or ring (length ring - 1) none) (get_or ring 0 none) none (omega (arith, short, size)) refl refl c.in_ok-go_over-2.ensures.ok in
    let (cropped, closed, cropped_is) = c.close_up.ensures before chain chain_is (omega (arith, told)) in (
      cropped,
      closes-cropped window ring (ring_start ring) (2 * length ring) last chain cropped
          (subst HasSides is c.requires)
          (subst (λ (wide : Window). IsAt wide (ring_start ring) last) is at)
          (subst (λ (wide : Window). Reaches wide ring (ring_start ring) (ring_edges ring) (2 * length ring) last chain) is reaches)
          (omega arith) closed,
      cropped_is,
    )
