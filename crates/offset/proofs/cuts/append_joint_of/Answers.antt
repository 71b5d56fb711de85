use Rattle.std.proofs.Common.{[], ◌++◌, ◌≡◌, ◌∙◌, Bool, ap, ap₂, arith, cond, false, List, map, pos, subst, sym, true}
use Rattle.std.specs.Prelude.{int_lt}
use Rattle.std.proofs.lemmas.Int.{ints}
use Rattle.std.proofs.lemmas.Result.{IfErr-weaker, on_ok_weaker}
use Rattle.plane.specs.declared.edge.Edge.{Edge}
use Rattle.plane.specs.declared.point.Point.{Point}
use Rattle.plane.specs.Ends.{edge_between, end_of, start_of}
use Rattle.overlay.specs.Contours.Rings.{has_two_ends}
use Rattle.offset.specs.Faults.{IsRawFault}
use Rattle.offset.specs.Raw.{fan, furthest, joint, moved, moved_edge, ways, ways_by}
use Rattle.offset.specs.Shape.{turn}
use Rattle.offset.proofs.CutLemmas.Moved.{apart-moved, two-pushed}
use Rattle.offset.proofs.RawLemmas.{fails-lt, passes-lt}
use Rattle.offset.proofs.cuts.append_joint_of.Goals as goal

-- the one of two, as a test chooses
chosen : (corners : List Point) (edge next : Edge) (t : Bool) → int_lt (pos 0) (turn edge next) ≡ t → joint corners edge next ≡ cond t (map (moved_edge (end_of edge)) (fan corners edge next)) (ways corners edge next)
chosen corners edge next t is = ap (λ (t : Bool). cond t (map (moved_edge (end_of edge)) (fan corners edge next)) (ways corners edge next)) is

pub returns-then-turn-gt0-clause-ok : goal.returns-then-turn-gt0-clause-ok
returns-then-turn-gt0-clause-ok g c =
    let corners = c.args.corners.now in
    let edge = c.args.edge in
    let next = c.args.next in
    let left = chosen corners edge next true (passes-lt (pos 0) (turn edge next) (omega (arith, ints, c.turn.ensures, c.if-turn-gt0.true))) in
    on_ok_weaker c.append_fan.result (λ made. made ∙ ap (λ (edges : List Edge). c.args.edges.now.items ++ edges) (sym left)) c.append_fan.ensures.ok

pub returns-then-turn-gt0-clause-fault : goal.returns-then-turn-gt0-clause-fault
returns-then-turn-gt0-clause-fault g c =
    let corners = c.args.corners.now in
    let edge = c.args.edge in
    let next = c.args.next in
    let left = chosen corners edge next true (passes-lt (pos 0) (turn edge next) (omega (arith, ints, c.turn.ensures, c.if-turn-gt0.true))) in
    IfErr-weaker c.append_fan.result _ (IsRawFault (joint corners edge next)) (λ fault fails. subst (λ (edges : List Edge). IsRawFault edges fault) (sym left) fails) c.append_fan.ensures.fault

pub returns-clause-ok : goal.returns-clause-ok
returns-clause-ok g c =
    let corners = c.args.corners.now in
    let edge = c.args.edge in
    let next = c.args.next in
    let at = end_of edge in
    let from = furthest corners edge in
    let to = furthest corners next in
    let ended = ap (λ (e : Edge). end_of e) c.requires.from in
    let begun = ap (λ (e : Edge). start_of e) c.requires.to ∙ ap (λ (p : Point). moved to p) (sym c.requires.joined) in
    let first = c.edge_between.ensures ∙ ap₂ (λ (p q : Point). edge_between p q) (c.end_of.ensures ∙ ended) c.end_of-2.ensures in
    let second = c.edge_between-2.ensures ∙ ap₂ (λ (p q : Point). edge_between p q) c.end_of-3.ensures (c.start_of.ensures ∙ begun) in
    let apart : has_two_ends (edge_between from to) ≡ true = sym (apart-moved from to at) ∙ sym (ap₂ (λ (p q : Point). has_two_ends (edge_between p q)) ended begun) ∙ c.requires.apart in
    let both = chosen corners edge next false (fails-lt (pos 0) (turn edge next) (omega (arith, ints, c.turn.ensures, c.if-turn-gt0.false))) ∙ ap (λ (t : Bool). cond t (ways_by from to at) []) apart in
    two-pushed c.args.edges.now.items _ _ _ _ (edge_between (moved from at) at) (edge_between at (moved to at)) c.in_ok-push.ensures.items c.in_ok-push-2.ensures.items first second
    ∙ ap (λ (edges : List Edge). c.args.edges.now.items ++ edges) (sym both)
