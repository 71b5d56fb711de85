use Rattle.std.proofs.Common.{FitsSigned, rules, w32, ◌≡◌, ◌≢◌, ◌<◌, ◌+◌, [], Bool, ℕ, ℤ, List, true, false, get_or, length, max, min, pos, refl, ap, sym, subst, subst₂, ◌∙◌, arith}
use Rattle.std.specs.Bool.{MatchBool}
use Rattle.std.proofs.lemmas.Int.{to_z-of_z}
use Rattle.std.proofs.lemmas.List.{length-map}
use Rattle.plane.specs.Ends.{edge_between}
use Rattle.plane.specs.declared.edge.Edge.{Edge}
use Rattle.plane.specs.declared.point.Point.{Point}
use Rattle.overlay.specs.Fill.Turned.{piece_of}
use Rattle.overlay.specs.Grouping.{AreBefore, ArePassed, IsSideOf, begins_of, firsts_of}
use Rattle.overlay.specs.declared.fill.pieces.Operand.TheVariants.{Subject}
use Rattle.overlay.specs.declared.fill.pieces.Piece.{Piece}
use Rattle.overlay.specs.declared.grouping.holes.Hole.{Hole}
use Rattle.overlay.specs.declared.grouping.sides.Side.{Side}
use Rattle.overlay.proofs.GroupingLemmas.Told.{HasWalked, edge-of, passed-way, past-vertical, past-way, side-is, walked-all, walked-past, walked-side}
use Rattle.overlay.proofs.grouping.below.walk.Goals.{else-next-count, else-next-count-via-else-next-count, else-next-count-via-then-next-count+else-is_sloped, then-next-count+then-is_sloped}
use Rattle.overlay.proofs.grouping.below.walk.Goals as goal

abbrev none : Point
none = record { x = pos 0; y = pos 0 }

not-none : (points : List Point) {k : ℕ} → k < length points → points ≢ []
not-none points {k} inside empty = let none_there = ap (λ (list : List Point). length list) empty in omega (arith, inside, none_there)

-- what the test of slope says
sloped-told : (made edge : Edge) (t : Bool) → made ≡ edge → MatchBool t (made.x0 ≢ made.x1) (made.x0 ≡ made.x1) → t ≡ true → edge.x0 ≢ edge.x1
sloped-told made edge true is told yes_it = subst (λ (e : Edge). e.x0 ≢ e.x1) is told
sloped-told made edge false is told yes_it = cc

vertical-told : (made edge : Edge) (t : Bool) → made ≡ edge → MatchBool t (made.x0 ≢ made.x1) (made.x0 ≡ made.x1) → t ≡ false → edge.x0 ≡ edge.x1
vertical-told made edge true is told no_it = cc
vertical-told made edge false is told no_it = subst (λ (e : Edge). e.x0 ≡ e.x1) is told

pub pass-requires : goal.pass-requires
pass-requires g c =
    let ring = c.args.points.now in
    let from = c.loop-to.from in
    let to = get_or ring c.loop-to.to-index none in
    let now = c.loop-to.holes in
    let walked = c.loop-to.invariant in
    let inside = c.loop-to-test.true in
    let piece = c.side_of-side.ensures.piece ∙ ap (λ (e : Edge). piece_of Subject e) c.edge_between-edge.ensures in
    let are = c.requires.0 ∙ ap (λ (sides : List Side). begins_of sides) (sym walked.same) in
    let fits : FitsSigned w32 to.x = search rules in
    let there : AreBefore c.args.xs.now to.x c.count_from-next.result = simp to_z-of_z at c.count_from-next.ensures in
    let passed = passed-way (firsts_of now) c.args.xs.now are from to c.loop-to.count c.count_from-next.result walked.before there in
    let (some, last) = c.in-Some.ensures.item.3 in
    let edge = edge_between from to in
    let side : IsSideOf g.rings c.side_of-side.result =
    side-is g.rings c.args.ring ring c.side_of-side.result edge c.requires.1.1.1.0 c.requires.1.1.1.1.0 c.side_of-side.ensures.ring piece (sloped-told c.edge_between-edge.result (edge_between from to) c.is_sloped.result c.edge_between-edge.ensures c.is_sloped.ensures c.if-is_sloped.true)
    (edge-of g.rings c.requires.1.1.0 c.in-Some.last.now ring c.args.xs.now c.args.holes.now c.loop-to.to-index from c.loop-to.count now inside none walked (not-none ring inside) (last none)) in
    let least = c.min.ensures in
    let most = c.max.ensures in
    let size = ap (λ (list : List ℤ). length list) are in
    let firsts = length-map now (λ (hole : Hole). hole.first) in
    let begins = length-map (firsts_of now) (λ (first : Side). first.piece.edge.x0) in
    let first = walked.before.within in
    let second = there.within in (
      c.requires.1.1.0,
      (
        side,
        (
          omega (arith, least, most),
          (
            omega (arith, most, size, firsts, begins, first, second),
            (
              subst₂ (λ (s e : ℕ). ArePassed c.side_of-side.result.piece.edge s e (firsts_of now)) (sym least) (sym most)
                  (subst (λ (e : Edge). ArePassed e (min c.loop-to.count c.count_from-next.result) (max c.loop-to.count c.count_from-next.result) (firsts_of now)) (sym (ap (λ (p : Piece). p.edge) piece)) passed),
              walked.of,
            ),
          ),
        ),
      ),
    )

pub loop-to-preserved : goal.loop-to-preserved
loop-to-preserved g c =
    let ring = c.args.points.now in
    let from = c.loop-to.from in
    let k = c.loop-to.to-index in
    let to = get_or ring k none in
    let now = c.loop-to.holes in
    let xs = c.args.xs.now in
    let next = c.count_from-next.result in
    let last = c.in-Some.last.now in
    let walked = c.loop-to.invariant in
    let inside = c.loop-to-test.true in
    let are = c.requires.0 ∙ ap (λ (sides : List Side). begins_of sides) (sym walked.same) in
    let fits : FitsSigned w32 to.x = search rules in
    let there : AreBefore xs to.x next = simp to_z-of_z at c.count_from-next.ensures in
    elim c.if-next-count.branch [
      | then-next-count+then-is_sloped w ↦ (
          let piece = w.side_of-side.ensures.piece ∙ ap (λ (e : Edge). piece_of Subject e) c.edge_between-edge.ensures in
          let (some, ends) = c.in-Some.ensures.item.3 in
          let side : IsSideOf g.rings w.side_of-side.result =
          side-is g.rings c.args.ring ring w.side_of-side.result (edge_between from to) c.requires.1.1.1.0 c.requires.1.1.1.1.0 w.side_of-side.ensures.ring piece (sloped-told c.edge_between-edge.result (edge_between from to) w.is_sloped.result c.edge_between-edge.ensures w.is_sloped.ensures w.if-is_sloped.true)
          (edge-of g.rings c.requires.1.1.0 last ring xs c.args.holes.now k from c.loop-to.count now inside none walked (not-none ring inside) (ends none)) in
          subst (λ (holes : List Hole). HasWalked g.rings last ring xs c.args.holes.now (k + 1) to next holes) (sym (w.holes-is ∙ w.pass.ensures))
          (walked-side g.rings c.requires.1.1.0 last ring xs c.args.holes.now k from c.loop-to.count now inside none walked next w.side_of-side.result side (ap (λ (p : Piece). p.edge) piece) there))
      | else-next-count w ↦ subst (λ (holes : List Hole). HasWalked g.rings last ring xs c.args.holes.now (k + 1) to next holes) (sym w.holes-is)
          (walked-past g.rings c.requires.1.1.0 last ring xs c.args.holes.now k from c.loop-to.count now inside none walked next (elim w.else-next-count.branch [
            | else-next-count-via-then-next-count+else-is_sloped w' ↦ past-vertical now from to (vertical-told c.edge_between-edge.result (edge_between from to) w'.is_sloped.result c.edge_between-edge.ensures w'.is_sloped.ensures w'.if-is_sloped.false)
            | else-next-count-via-else-next-count w' ↦ past-way (firsts_of now) xs are from to c.loop-to.count next walked.before there now refl (sym w'.if-next-count.false)
          ]) there)
    ]

pub returns-clause-told : goal.returns-clause-told
returns-clause-told g c =
    let ring = c.args.points.now in
    let (some, ends) = c.in-Some.ensures.item.3 in
    let past = c.loop-to-test.false in
    walked-all g.rings c.requires.1.1.0 c.in-Some.last.now ring c.args.xs.now c.args.holes.now c.loop-to.to-index c.loop-to.from c.loop-to.count c.loop-to.holes none past (not-none ring some) (ends none) c.loop-to.invariant
