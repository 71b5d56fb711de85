use Rattle.std.proofs.Common.{◌≡◌, ◌∙◌, ◌∷◌, ◌++◌, [], ap, ap₂, List, subst}
use Rattle.std.proofs.lemmas.Result.{IfErr-weaker, on_ok_weaker}
use Rattle.plane.specs.declared.edge.Edge.{Edge}
use Rattle.plane.specs.declared.point.Point.{Point}
use Rattle.plane.specs.Ends.{edge_between, end_of, reversed, start_of}
use Rattle.offset.specs.Faults.{IsRawFault}
use Rattle.offset.specs.Lines.{along}
use Rattle.offset.specs.Raw.{furthest, moved_edge}
use Rattle.offset.proofs.RawLemmas.{earlier-fails, four-more, handed-on, later-fails}
use Rattle.offset.proofs.lines.append_along.Goals as goal

-- the four edges
abbrev first : List Point → Edge → Edge
first corners edge = moved_edge (furthest corners edge) edge

abbrev second : List Point → Edge → Edge
second corners edge = moved_edge (end_of edge) (edge_between (furthest corners edge) (furthest corners (reversed edge)))

abbrev third : List Point → Edge → Edge
third corners edge = moved_edge (furthest corners (reversed edge)) (reversed edge)

abbrev fourth : List Point → Edge → Edge
fourth corners edge = moved_edge (start_of edge) (edge_between (furthest corners (reversed edge)) (furthest corners edge))

pub returns-in_err-push_moved-clause-fault : goal.returns-in_err-push_moved-clause-fault
returns-in_err-push_moved-clause-fault g c =
    let corners = c.args.shape.now in
    let edge = c.args.edge in
    let right : c.furthest-right.result ≡ furthest corners edge = c.furthest-right.ensures in
    let one = ap (λ (by : Point). moved_edge by edge) right in
    handed-on c.from_residual.result _ (IsRawFault (along corners edge)) c.from_residual.ensures.1
    (earlier-fails (first corners edge ∷ []) (second corners edge ∷ third corners edge ∷ fourth corners edge ∷ []) _ (subst (λ (e : Edge). IsRawFault (e ∷ []) c.in_err-push_moved.field-0.0) one c.in_err-push_moved.ensures.fault))

pub returns-in_err-push_moved-2-clause-fault : goal.returns-in_err-push_moved-2-clause-fault
returns-in_err-push_moved-2-clause-fault g c =
    let corners = c.args.shape.now in
    let edge = c.args.edge in
    let right : c.furthest-right.result ≡ furthest corners edge = c.furthest-right.ensures in
    let left : c.furthest-left.result ≡ furthest corners (reversed edge) = c.furthest-left.ensures ∙ ap (λ (e : Edge). furthest corners e) c.reverse-back.ensures in
    let two = ap₂ (λ (at : Point) (e : Edge). moved_edge at e) c.end_of.ensures (c.edge_between.ensures ∙ ap₂ (λ (p q : Point). edge_between p q) right left) in
    handed-on c.from_residual-in_err-push_moved-2.result _ (IsRawFault (along corners edge)) c.from_residual-in_err-push_moved-2.ensures.1
    (later-fails (first corners edge ∷ []) (second corners edge ∷ third corners edge ∷ fourth corners edge ∷ []) _ (earlier-fails (second corners edge ∷ []) (third corners edge ∷ fourth corners edge ∷ []) _ (subst (λ (e : Edge). IsRawFault (e ∷ []) c.in_err-push_moved-2.field-0.0) two c.in_err-push_moved-2.ensures.fault)))

pub returns-in_err-push_moved-3-clause-fault : goal.returns-in_err-push_moved-3-clause-fault
returns-in_err-push_moved-3-clause-fault g c =
    let corners = c.args.shape.now in
    let edge = c.args.edge in
    let left : c.furthest-left.result ≡ furthest corners (reversed edge) = c.furthest-left.ensures ∙ ap (λ (e : Edge). furthest corners e) c.reverse-back.ensures in
    let three = ap₂ (λ (by : Point) (e : Edge). moved_edge by e) left c.reverse-back.ensures in
    handed-on c.from_residual-in_err-push_moved-3.result _ (IsRawFault (along corners edge)) c.from_residual-in_err-push_moved-3.ensures.1
    (later-fails (first corners edge ∷ second corners edge ∷ []) (third corners edge ∷ fourth corners edge ∷ []) _ (earlier-fails (third corners edge ∷ []) (fourth corners edge ∷ []) _ (subst (λ (e : Edge). IsRawFault (e ∷ []) c.in_err-push_moved-3.field-0.0) three c.in_err-push_moved-3.ensures.fault)))

pub returns-clause-ok : goal.returns-clause-ok
returns-clause-ok g c =
    let corners = c.args.shape.now in
    let edge = c.args.edge in
    let right : c.furthest-right.result ≡ furthest corners edge = c.furthest-right.ensures in
    let left : c.furthest-left.result ≡ furthest corners (reversed edge) = c.furthest-left.ensures ∙ ap (λ (e : Edge). furthest corners e) c.reverse-back.ensures in
    let one = ap (λ (by : Point). moved_edge by edge) right in
    let two = ap₂ (λ (at : Point) (e : Edge). moved_edge at e) c.end_of.ensures (c.edge_between.ensures ∙ ap₂ (λ (p q : Point). edge_between p q) right left) in
    let three = ap₂ (λ (by : Point) (e : Edge). moved_edge by e) left c.reverse-back.ensures in
    let four = ap₂ (λ (at : Point) (e : Edge). moved_edge at e) c.start_of.ensures (c.edge_between-2.ensures ∙ ap₂ (λ (p q : Point). edge_between p q) left right) in
    on_ok_weaker c.push_moved-4.result
    (λ last. four-more c.args.edges.now.items _ _ _ _ (first corners edge) (second corners edge) (third corners edge) (fourth corners edge)
    (c.in_ok-push_moved.ensures.ok ∙ ap (λ (e : Edge). c.args.edges.now.items ++ e ∷ []) one)
    (c.in_ok-push_moved-2.ensures.ok ∙ ap (λ (e : Edge). c.push_moved.new.edges.items ++ e ∷ []) two)
    (c.in_ok-push_moved-3.ensures.ok ∙ ap (λ (e : Edge). c.push_moved-2.new.edges.items ++ e ∷ []) three)
    (last ∙ ap (λ (e : Edge). c.push_moved-3.new.edges.items ++ e ∷ []) four))
    c.push_moved-4.ensures.ok

pub returns-clause-fault : goal.returns-clause-fault
returns-clause-fault g c =
    let corners = c.args.shape.now in
    let edge = c.args.edge in
    let right : c.furthest-right.result ≡ furthest corners edge = c.furthest-right.ensures in
    let left : c.furthest-left.result ≡ furthest corners (reversed edge) = c.furthest-left.ensures ∙ ap (λ (e : Edge). furthest corners e) c.reverse-back.ensures in
    let four = ap₂ (λ (at : Point) (e : Edge). moved_edge at e) c.start_of.ensures (c.edge_between-2.ensures ∙ ap₂ (λ (p q : Point). edge_between p q) left right) in
    IfErr-weaker c.push_moved-4.result _ (IsRawFault (along corners edge))
    (λ fault fails. later-fails (first corners edge ∷ second corners edge ∷ third corners edge ∷ []) (fourth corners edge ∷ []) fault (subst (λ (e : Edge). IsRawFault (e ∷ []) fault) four fails))
    c.push_moved-4.ensures.fault
