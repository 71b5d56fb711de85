use Rattle.std.proofs.Common.{◌∙◌, ◌++◌, ◌∷◌, ◌≡◌, [], ap, append_assoc, arith, cond, Bool, true, false, List, map, pos, subst, sym}
use Rattle.std.specs.Prelude.{int_lt}
use Rattle.std.proofs.lemmas.Int.{ints}
use Rattle.std.proofs.lemmas.Result.{IfErr-weaker, on_ok_weaker}
use Rattle.plane.specs.declared.edge.Edge.{Edge}
use Rattle.plane.specs.declared.point.Point.{Point}
use Rattle.plane.specs.Ends.{end_of}
use Rattle.offset.specs.declared.joins.Join.TheVariants.{Bevel}
use Rattle.offset.specs.Faults.{IsRawFault}
use Rattle.offset.specs.Joins.{bevel, bevelled_joint, joined_of_two}
use Rattle.offset.specs.Raw.{furthest, moved_edge, ways}
use Rattle.offset.specs.Shape.{turn}
use Rattle.offset.proofs.RawLemmas.{earlier-fails, fails-lt, handed-on, later-fails, passes-lt}
use Rattle.offset.proofs.joins.append_bevelled.Goals as goal

pub returns-in_err-push_moved-clause-fault : goal.returns-in_err-push_moved-clause-fault
returns-in_err-push_moved-clause-fault g c =
    let corners = c.args.corners.now in
    let edge = c.args.edge in
    let from = c.corner_behind.ensures ∙ c.requires.near in
    handed-on c.from_residual.result _ (IsRawFault (joined_of_two Bevel corners (edge, c.args.next))) c.from_residual.ensures.1
    (earlier-fails (moved_edge (furthest corners edge) edge ∷ []) (bevelled_joint corners edge c.args.next) _
    (subst (λ (by : Point). IsRawFault (moved_edge by edge ∷ []) c.in_err-push_moved.field-0.0) from c.in_err-push_moved.ensures.fault))

-- the edge moved stands there, and what joins it with the next one behind it
behind : (before : List Edge) (moved one two : List Edge) (joint : List Edge) → one ≡ (before ++ moved) → two ≡ (one ++ joint) → two ≡ (before ++ (moved ++ joint))
behind before moved one two joint first second = second ∙ ap (λ (edges : List Edge). edges ++ joint) first ∙ append_assoc before moved joint

-- the one of two, as a test chooses
chosen : (t u : Bool) (one other : List Edge) → t ≡ u → cond t one other ≡ cond u one other
chosen t u one other same = ap (λ (t : Bool). cond t one other) same

pub returns-then-turn-gt0-clause-ok : goal.returns-then-turn-gt0-clause-ok
returns-then-turn-gt0-clause-ok g c =
    let corners = c.args.corners.now in
    let edge = c.args.edge in
    let next = c.args.next in
    let left = chosen _ true (map (moved_edge (end_of edge)) (bevel corners edge next)) (ways corners edge next) (passes-lt (pos 0) (turn edge next) (omega (arith, ints, c.turn.ensures, c.if-turn-gt0.true))) in
    let first = c.in_ok-push_moved.ensures.ok ∙ ap (λ (by : Point). c.args.edges.now.items ++ moved_edge by edge ∷ []) (c.corner_behind.ensures ∙ c.requires.near) in
    on_ok_weaker c.append_bevel.result
    (λ second. behind c.args.edges.now.items (moved_edge (furthest corners edge) edge ∷ []) _ _ (bevelled_joint corners edge next) first (second ∙ ap (λ (edges : List Edge). c.push_moved.new.edges.items ++ edges) (sym left)))
    c.append_bevel.ensures.ok

pub returns-then-turn-gt0-clause-fault : goal.returns-then-turn-gt0-clause-fault
returns-then-turn-gt0-clause-fault g c =
    let corners = c.args.corners.now in
    let edge = c.args.edge in
    let next = c.args.next in
    let left = chosen _ true (map (moved_edge (end_of edge)) (bevel corners edge next)) (ways corners edge next) (passes-lt (pos 0) (turn edge next) (omega (arith, ints, c.turn.ensures, c.if-turn-gt0.true))) in
    IfErr-weaker c.append_bevel.result _ (IsRawFault (joined_of_two Bevel corners (edge, next)))
    (λ fault fails. later-fails (moved_edge (furthest corners edge) edge ∷ []) (bevelled_joint corners edge next) fault (subst (λ (edges : List Edge). IsRawFault edges fault) (sym left) fails))
    c.append_bevel.ensures.fault

pub returns-then-turn-gt0-clause-near : goal.returns-then-turn-gt0-clause-near
returns-then-turn-gt0-clause-near g c = on_ok_weaker c.append_bevel.result (λ made. c.place_near.ensures) c.append_bevel.ensures.ok

pub returns-else-turn-gt0-clause-near : goal.returns-else-turn-gt0-clause-near
returns-else-turn-gt0-clause-near g c = on_ok_weaker c.append_ways.result (λ made. c.place_near.ensures) c.append_ways.ensures.ok

pub returns-else-turn-gt0-clause-ok : goal.returns-else-turn-gt0-clause-ok
returns-else-turn-gt0-clause-ok g c =
    let corners = c.args.corners.now in
    let edge = c.args.edge in
    let next = c.args.next in
    let other = chosen _ false (map (moved_edge (end_of edge)) (bevel corners edge next)) (ways corners edge next) (fails-lt (pos 0) (turn edge next) (omega (arith, ints, c.turn.ensures, c.if-turn-gt0.false))) in
    let first = c.in_ok-push_moved.ensures.ok ∙ ap (λ (by : Point). c.args.edges.now.items ++ moved_edge by edge ∷ []) (c.corner_behind.ensures ∙ c.requires.near) in
    on_ok_weaker c.append_ways.result
    (λ second. behind c.args.edges.now.items (moved_edge (furthest corners edge) edge ∷ []) _ _ (bevelled_joint corners edge next) first (second ∙ ap (λ (edges : List Edge). c.push_moved.new.edges.items ++ edges) (sym other)))
    c.append_ways.ensures.ok

pub returns-else-turn-gt0-clause-fault : goal.returns-else-turn-gt0-clause-fault
returns-else-turn-gt0-clause-fault g c =
    let corners = c.args.corners.now in
    let edge = c.args.edge in
    let next = c.args.next in
    let other = chosen _ false (map (moved_edge (end_of edge)) (bevel corners edge next)) (ways corners edge next) (fails-lt (pos 0) (turn edge next) (omega (arith, ints, c.turn.ensures, c.if-turn-gt0.false))) in
    IfErr-weaker c.append_ways.result _ (IsRawFault (joined_of_two Bevel corners (edge, next)))
    (λ fault fails. later-fails (moved_edge (furthest corners edge) edge ∷ []) (bevelled_joint corners edge next) fault (subst (λ (edges : List Edge). IsRawFault edges fault) (sym other) fails))
    c.append_ways.ensures.fault
