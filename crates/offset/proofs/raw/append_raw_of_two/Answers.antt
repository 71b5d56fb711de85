use Rattle.std.proofs.Common.{◌∙◌, ◌++◌, ◌∷◌, ◌≡◌, [], ap, append_assoc, false, List, subst, sym}
use Rattle.std.proofs.lemmas.Result.{IfErr-weaker, on_ok_weaker}
use Rattle.plane.specs.declared.edge.Edge.{Edge}
use Rattle.plane.specs.declared.point.Point.{Point}
use Rattle.plane.specs.Ends.{edge_between}
use Rattle.overlay.specs.Contours.Rings.{has_two_ends}
use Rattle.offset.specs.Faults.{IsRawFault}
use Rattle.offset.specs.Raw.{furthest, joint, moved_edge, raw_of_two}
use Rattle.offset.proofs.PieceLemmas.Joints.{no-joint}
use Rattle.offset.proofs.RawLemmas.{earlier-fails, handed-on, later-fails}
use Rattle.offset.proofs.raw.append_raw_of_two.Goals as goal

pub returns-in_err-push_moved-clause-fault : goal.returns-in_err-push_moved-clause-fault
returns-in_err-push_moved-clause-fault g c =
    let corners = c.args.corners.now in
    let edge = c.args.edge in
    let from = c.corner_behind-from.ensures ∙ c.requires.near in
    handed-on c.from_residual.result _ (IsRawFault (raw_of_two corners (edge, c.args.next))) c.from_residual.ensures.1
    (earlier-fails (moved_edge (furthest corners edge) edge ∷ []) (joint corners edge c.args.next) _
    (subst (λ (by : Point). IsRawFault (moved_edge by edge ∷ []) c.in_err-push_moved.field-0.0) from c.in_err-push_moved.ensures.fault))

-- the edge moved stands there, and what joins it with the next one behind it
behind : (before : List Edge) (moved one two : List Edge) (joint : List Edge) → one ≡ (before ++ moved) → two ≡ (one ++ joint) → two ≡ (before ++ (moved ++ joint))
behind before moved one two joint first second = second ∙ ap (λ (edges : List Edge). edges ++ joint) first ∙ append_assoc before moved joint

pub append_joint-requires-clause-from : goal.append_joint-requires-clause-from
append_joint-requires-clause-from g c = c.corner_behind-from.ensures ∙ c.requires.near

pub append_joint-requires-clause-to : goal.append_joint-requires-clause-to
append_joint-requires-clause-to g c = c.corner_behind-to.ensures ∙ c.place_near.ensures

pub append_joint-requires-clause-apart : goal.append_joint-requires-clause-apart
append_joint-requires-clause-apart g c = sym c.differ.ensures ∙ c.if-differ.true

pub returns-then-differ-clause-ok : goal.returns-then-differ-clause-ok
returns-then-differ-clause-ok g c =
    let corners = c.args.corners.now in
    let edge = c.args.edge in
    let next = c.args.next in
    let from = c.corner_behind-from.ensures ∙ c.requires.near in
    let first = c.in_ok-push_moved.ensures.ok ∙ ap (λ (by : Point). c.args.edges.now.items ++ moved_edge by edge ∷ []) from in
    on_ok_weaker c.append_joint.result
    (λ second. behind c.args.edges.now.items (moved_edge (furthest corners edge) edge ∷ []) _ _ (joint corners edge next) first second)
    c.append_joint.ensures.ok

pub returns-then-differ-clause-fault : goal.returns-then-differ-clause-fault
returns-then-differ-clause-fault g c =
    let corners = c.args.corners.now in
    let edge = c.args.edge in
    IfErr-weaker c.append_joint.result _ (IsRawFault (raw_of_two corners (edge, c.args.next)))
    (λ fault fails. later-fails (moved_edge (furthest corners edge) edge ∷ []) (joint corners edge c.args.next) fault fails)
    c.append_joint.ensures.fault

pub returns-then-differ-clause-near : goal.returns-then-differ-clause-near
returns-then-differ-clause-near g c = on_ok_weaker c.append_joint.result (λ made. c.place_near.ensures) c.append_joint.ensures.ok

-- where one corner moves both, nothing joins them
pub returns-else-differ-clause-ok : goal.returns-else-differ-clause-ok
returns-else-differ-clause-ok g c =
    let corners = c.args.corners.now in
    let edge = c.args.edge in
    let next = c.args.next in
    let from = c.corner_behind-from.ensures ∙ c.requires.near in
    let to = c.corner_behind-to.ensures ∙ c.place_near.ensures in
    let one : has_two_ends (edge_between (furthest corners edge) (furthest corners next)) ≡ false =
    ap (λ (p : Point). has_two_ends (edge_between p (furthest corners next))) (sym from)
    ∙ ap (λ (p : Point). has_two_ends (edge_between c.corner_behind-from.result p)) (sym to)
    ∙ sym c.differ.ensures ∙ c.if-differ.false in
    let first = c.in_ok-push_moved.ensures.ok ∙ ap (λ (by : Point). c.args.edges.now.items ++ moved_edge by edge ∷ []) from in
    first ∙ ap (λ (edges : List Edge). c.args.edges.now.items ++ (moved_edge (furthest corners edge) edge ∷ edges)) (sym (no-joint corners c.requires.shape edge next one))

pub returns-else-differ-clause-near : goal.returns-else-differ-clause-near
returns-else-differ-clause-near g c = c.place_near.ensures
