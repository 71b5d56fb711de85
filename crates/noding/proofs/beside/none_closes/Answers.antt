use Rattle.std.proofs.Common.{◌∙◌, Bool, MatchBool, get_or, pos, subst, subst₂, sym}
use Rattle.std.proofs.lemmas.List.{take_all, take_more}
use Rattle.std.proofs.lemmas.List.Elements.{All-push}
use Rattle.std.proofs.lemmas.Option.{same_Some, slice_get-get_or}
use Rattle.plane.specs.declared.edge.Edge.{Edge}
use Rattle.noding.specs.Beside.{ClosesAt, IsUnclosed, NoneCloses}
use Rattle.noding.specs.declared.crossings.Crossing.{Crossing}
use Rattle.noding.proofs.beside.none_closes.Goals as goal

pub loop-crossing-preserved : goal.loop-crossing-preserved
loop-crossing-preserved c =
    let edges = c.args.edges.now in
    let crossings = c.args.crossings.now in
    let k = c.loop-crossing.crossing-index in
    let none : Edge = record { x0 = pos 0; y0 = pos 0; x1 = pos 0; y1 = pos 0 } in
    let nowhere : Crossing = record { one = 0; other = 0; point = record { x = pos 0; y = pos 0 } } in
    let crossing = get_or crossings k nowhere in
    let (first, second) = c.requires k nowhere c.loop-crossing-test.true in
    let closes = ClosesAt (get_or edges crossing.one none) (get_or edges crossing.other none) crossing.point in
    let unclosed : ¬ closes = subst (λ (b : Bool). MatchBool b closes (¬ closes)) c.if-closes_at.false c.closes_at.ensures in
    subst (NoneCloses edges) (sym (take_more crossings k nowhere c.loop-crossing-test.true))
    (All-push (IsUnclosed edges) _ crossing c.loop-crossing.invariant
    (λ one other at at_other.
    subst₂ (λ (e f : Edge). ¬ (ClosesAt e f crossing.point)) (same_Some _ _ (sym (slice_get-get_or edges crossing.one none first) ∙ at)) (same_Some _ _ (sym (slice_get-get_or edges crossing.other none second) ∙ at_other)) unclosed))

pub returns : goal.returns
returns c = λ set. subst (NoneCloses c.args.edges.now) (take_all c.loop-crossing.crossing-index c.args.crossings.now c.loop-crossing-test.false) c.loop-crossing.invariant
