use Rattle.std.proofs.Common.{◌++◌, ◌∙◌, ◌∷◌, ◌≡◌, ℕ, false, true, [], List, ap, ap₂, append_assoc, arith, get_or, length, subst, sym}
use Rattle.std.proofs.lemmas.Result.{IfErr-weaker, on_ok_weaker}
use Rattle.plane.specs.declared.edge.Edge.{Edge}
use Rattle.plane.specs.declared.point.Point.{Point}
use Rattle.plane.specs.Ends.{edge_between, end_of, start_of}
use Rattle.overlay.specs.Contours.Rings.{has_two_ends}
use Rattle.offset.specs.Cuts.{cut, curve_of_two, edge_at, moved_by_furthest}
use Rattle.offset.specs.Faults.{IsRawFault}
use Rattle.offset.specs.Raw.{furthest, joint, nowhere, raw_of_two}
use Rattle.offset.specs.Shape.{neighbours, sides}
use Rattle.offset.proofs.CutLemmas.Moved.{apart-ends, begins, length-moved, moved-at, pair-joined, pair-there, two-pushed}
use Rattle.offset.proofs.PieceLemmas.Joints.{no-joint}
use Rattle.offset.proofs.RawLemmas.{later-fails}
use Rattle.offset.proofs.ShapeLemmas.{next-within, two-at}
use Rattle.offset.proofs.cuts.append_curve_at.Goals as goal

-- no corner is cut that isn't
uncut : (P : Type 0) → false ≡ true → P
uncut P is = absurd (contrary is)
  where
    contrary : false ≡ true → ⊥
    contrary h = cc

pub bounds-moved-index : goal.bounds-moved-index
bounds-moved-index g c = let size = length-moved c.args.corners.now c.args.ring.now c.args.moved.now c.requires.moved in omega (arith, size, c.requires.within)

pub bounds-moved-next : goal.bounds-moved-next
bounds-moved-next g c =
    let size = length-moved c.args.corners.now c.args.ring.now c.args.moved.now c.requires.moved in
    let within = next-within c.args.index (length c.args.ring.now) c.requires.within in
    omega (arith, size, within, c.next_place-next.ensures)

-- where one corner moves both, nothing joins them
pub returns-then-not-differ-clause-ok : goal.returns-then-not-differ-clause-ok
returns-then-not-differ-clause-ok g c =
    let corners = c.args.corners.now in
    let ring = c.args.ring.now in
    let edges = sides ring in
    let index = c.args.index in
    let next = c.next_place-next.result in
    let within = next-within index (length ring) c.requires.within in
    let edge = edge_at edges index in
    let after = edge_at edges next in
    let joined = pair-joined ring index c.requires.within ∙ ap (λ (n : ℕ). start_of (edge_at edges n)) (sym c.next_place-next.ensures) in
    let from = moved-at corners ring c.args.moved.now c.requires.moved index _ c.requires.within in
    let to = moved-at corners ring c.args.moved.now c.requires.moved next _ (omega (arith, within, c.next_place-next.ensures)) in
    let one : has_two_ends (edge_between (furthest corners edge) (furthest corners after)) ≡ false =
    sym (apart-ends corners edge after _ _ from to joined) ∙ sym (c.differ.ensures ∙ ap₂ (λ (p q : Point). has_two_ends (edge_between p q)) c.end_of.ensures c.start_of.ensures) ∙ c.if-not-differ.true in (
      false,
      uncut _,
      c.in_ok-push.ensures.items
          ∙ ap (λ (e : Edge). c.args.edges.now.items ++ e ∷ []) from
          ∙ ap (λ (joins : List Edge). c.args.edges.now.items ++ (moved_by_furthest corners edge ∷ joins)) (sym (no-joint corners c.requires.shape edge after one))
          ∙ ap (λ (two : Edge × Edge). c.args.edges.now.items ++ curve_of_two corners (two, false)) (sym (pair-there ring index next c.requires.within c.next_place-next.ensures)),
    )

pub returns-then-is_safe-clause-ok : goal.returns-then-is_safe-clause-ok
returns-then-is_safe-clause-ok g c =
    let corners = c.args.corners.now in
    let ring = c.args.ring.now in
    let edges = sides ring in
    let index = c.args.index in
    let next = c.next_place-next.result in
    let within = next-within index (length ring) c.requires.within in
    let edge = edge_at edges index in
    let after = edge_at edges next in
    let joined = pair-joined ring index c.requires.within ∙ ap (λ (n : ℕ). start_of (edge_at edges n)) (sym c.next_place-next.ensures) in
    let from = moved-at corners ring c.args.moved.now c.requires.moved index _ c.requires.within in
    let to = moved-at corners ring c.args.moved.now c.requires.moved next _ (omega (arith, within, c.next_place-next.ensures)) in
    let straight = c.edge_between.ensures ∙ ap₂ (λ (p q : Point). edge_between p q) (c.end_of-then-is_safe.ensures ∙ ap (λ (e : Edge). end_of e) from) (c.start_of-then-is_safe.ensures ∙ begins corners edge after _ to joined) in (
      true,
      λ is. c.if-is_safe.ensures,
      two-pushed c.args.edges.now.items _ _ _ _ (moved_by_furthest corners edge) (cut corners (edge, after)) c.in_ok-push.ensures.items c.in_ok-push-2.ensures.items from straight
          ∙ ap (λ (two : Edge × Edge). c.args.edges.now.items ++ curve_of_two corners (two, true)) (sym (pair-there ring index next c.requires.within c.next_place-next.ensures)),
    )

pub append_joint_of-requires-clause-from : goal.append_joint_of-requires-clause-from
append_joint_of-requires-clause-from g c =
    moved-at c.args.corners.now c.args.ring.now c.args.moved.now c.requires.moved c.args.index _ c.requires.within ∙ ap (λ (e : Edge). moved_by_furthest c.args.corners.now e) (sym c.side_at.ensures)

pub append_joint_of-requires-clause-to : goal.append_joint_of-requires-clause-to
append_joint_of-requires-clause-to g c =
    let within = next-within c.args.index (length c.args.ring.now) c.requires.within in
    moved-at c.args.corners.now c.args.ring.now c.args.moved.now c.requires.moved c.next_place-next.result _ (omega (arith, within, c.next_place-next.ensures)) ∙ ap (λ (e : Edge). moved_by_furthest c.args.corners.now e) (sym c.side_at-2.ensures)

pub append_joint_of-requires-clause-joined : goal.append_joint_of-requires-clause-joined
append_joint_of-requires-clause-joined g c =
    let edges = sides c.args.ring.now in
    ap (λ (e : Edge). end_of e) c.side_at.ensures
    ∙ pair-joined c.args.ring.now c.args.index c.requires.within
    ∙ ap (λ (n : ℕ). start_of (edge_at edges n)) (sym c.next_place-next.ensures)
    ∙ ap (λ (e : Edge). start_of e) (sym c.side_at-2.ensures)

pub returns-clause-ok : goal.returns-clause-ok
returns-clause-ok g c =
    let corners = c.args.corners.now in
    let from = moved-at corners c.args.ring.now c.args.moved.now c.requires.moved c.args.index _ c.requires.within ∙ ap (λ (e : Edge). moved_by_furthest corners e) (sym c.side_at.ensures) in
    let two = two-at c.args.ring.now c.args.index c.next_place-next.result c.side_at.result c.side_at-2.result c.requires.within c.next_place-next.ensures c.side_at.ensures c.side_at-2.ensures in
    on_ok_weaker c.append_joint_of.result
    (λ made. (
      false,
      uncut _,
      made
          ∙ ap (λ (edges : List Edge). edges ++ joint corners c.side_at.result c.side_at-2.result) (c.in_ok-push.ensures.items ∙ ap (λ (e : Edge). c.args.edges.now.items ++ e ∷ []) from)
          ∙ append_assoc c.args.edges.now.items (moved_by_furthest corners c.side_at.result ∷ []) (joint corners c.side_at.result c.side_at-2.result)
          ∙ ap (λ (both : Edge × Edge). c.args.edges.now.items ++ curve_of_two corners (both, false)) two,
    ))
    c.append_joint_of.ensures.ok

pub returns-clause-fault : goal.returns-clause-fault
returns-clause-fault g c =
    let corners = c.args.corners.now in
    let two = two-at c.args.ring.now c.args.index c.next_place-next.result c.side_at.result c.side_at-2.result c.requires.within c.next_place-next.ensures c.side_at.ensures c.side_at-2.ensures in
    IfErr-weaker c.append_joint_of.result _ (IsRawFault (raw_of_two corners (get_or (neighbours (sides c.args.ring.now)) c.args.index (nowhere, nowhere))))
    (λ fault fails. subst (λ (both : Edge × Edge). IsRawFault (raw_of_two corners both) fault) two (later-fails (moved_by_furthest corners c.side_at.result ∷ []) (joint corners c.side_at.result c.side_at-2.result) fault fails))
    c.append_joint_of.ensures.fault
