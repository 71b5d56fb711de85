use Rattle.std.proofs.Common.{◌≡◌, ◌<◌, ◌∙◌, List, Some, pos, get_or, length, sym, subst}
use Rattle.std.specs.List.{slice_get}
use Rattle.std.proofs.lemmas.Option.{same_Some, slice_get-get_or}
use Rattle.plane.specs.declared.edge.Edge.{Edge}
use Rattle.plane.specs.Meet.Kinds.{HasPoint}
use Rattle.noding.specs.Chains.{Passes}
use Rattle.noding.specs.Crossings.{IsCrossed}
use Rattle.noding.specs.Local.{CrossBeside, Moves}
use Rattle.noding.specs.declared.crossings.Crossing.{Crossing}
use Rattle.noding.proofs.ChainLemmas.Crossings.{crossed-at}
use Rattle.plane.proofs.GainsLemmas.{held-at}
use Rattle.noding.proofs.ChainLemmas.Local.{CrossBeside-of, gains-beside, gains-on_both}
use Rattle.noding.proofs.moved.flag_crossing.Goals as goal

abbrev none : Edge
none = record { x0 = pos 0; y0 = pos 0; x1 = pos 0; y1 = pos 0 }

module _ (edges : List Edge) (crossing : Crossing) (first : crossing.one < length edges) (second : crossing.other < length edges) where
  abbrev one : Edge
  one = get_or edges crossing.one none

  abbrev other : Edge
  other = get_or edges crossing.other none

  module _ (is : IsCrossed edges crossing) (fails : ¬ (HasPoint one crossing.point.x crossing.point.y × HasPoint other crossing.point.x crossing.point.y)) where
    beside : CrossBeside one other crossing.point.x crossing.point.y
    beside =
        CrossBeside-of one other crossing.point.x crossing.point.y
        (crossed-at edges crossing one other (slice_get-get_or edges crossing.one none first) (slice_get-get_or edges crossing.other none second) is) fails

    -- so the point moves edges
    moves-crossed : Moves edges crossing.point.x crossing.point.y
    moves-crossed =
        (0, (one, other, held-at edges crossing.one one (slice_get-get_or edges crossing.one none first), held-at edges crossing.other other (slice_get-get_or edges crossing.other none second), beside))

    -- and both pass it
    passes-first : (edge : Edge) → slice_get edges crossing.one ≡ Some edge → Passes edge crossing.point.x crossing.point.y
    passes-first edge stands =
        let (slanted, (at, of_one, of_other, rounds, apart)) = beside in
        subst (λ (it : Edge). Passes it crossing.point.x crossing.point.y) (same_Some _ _ (sym (slice_get-get_or edges crossing.one none first) ∙ stands)) (at, of_one, rounds)

    passes-second : (edge : Edge) → slice_get edges crossing.other ≡ Some edge → Passes edge crossing.point.x crossing.point.y
    passes-second edge stands =
        let (slanted, (at, of_one, of_other, rounds, apart)) = beside in
        subst (λ (it : Edge). Passes it crossing.point.x crossing.point.y) (same_Some _ _ (sym (slice_get-get_or edges crossing.other none second) ∙ stands)) (at, of_other, rounds)

pub returns-then-lie_on-clause-gains : goal.returns-then-lie_on-clause-gains
returns-then-lie_on-clause-gains g c =
    let edges = c.args.edges.now in
    let crossing = c.args.crossing in
    let (first, second) = c.requires.within in
    gains-on_both edges crossing (get_or edges crossing.one none) (get_or edges crossing.other none) (slice_get-get_or edges crossing.one none first) (slice_get-get_or edges crossing.other none second) c.args.crossed.now.items c.if-lie_on.ensures

pub flag_beside-requires-clause-moves : goal.flag_beside-requires-clause-moves
flag_beside-requires-clause-moves g c = moves-crossed c.args.edges.now c.args.crossing c.requires.within.0 c.requires.within.1 c.requires.is c.if-lie_on.ensures

pub flag_beside-requires-clause-passes : goal.flag_beside-requires-clause-passes
flag_beside-requires-clause-passes g c = passes-first c.args.edges.now c.args.crossing c.requires.within.0 c.requires.within.1 c.requires.is c.if-lie_on.ensures

pub flag_beside-requires-2-clause-moves : goal.flag_beside-requires-2-clause-moves
flag_beside-requires-2-clause-moves g c = moves-crossed c.args.edges.now c.args.crossing c.requires.within.0 c.requires.within.1 c.requires.is c.if-lie_on.ensures

pub flag_beside-requires-2-clause-passes : goal.flag_beside-requires-2-clause-passes
flag_beside-requires-2-clause-passes g c = passes-second c.args.edges.now c.args.crossing c.requires.within.0 c.requires.within.1 c.requires.is c.if-lie_on.ensures

pub returns-clause-gains : goal.returns-clause-gains
returns-clause-gains g c =
    let edges = c.args.edges.now in
    let crossing = c.args.crossing in
    let (first, second) = c.requires.within in
    let one = get_or edges crossing.one none in
    let other = get_or edges crossing.other none in
    let before = c.args.crossed.now.items in
    let stands = slice_get-get_or edges crossing.one none first in
    let other_stands = slice_get-get_or edges crossing.other none second in
    gains-beside edges crossing one other stands other_stands before c.push.new.self.items
    (CrossBeside-of one other crossing.point.x crossing.point.y (crossed-at edges crossing one other stands other_stands c.requires.is) c.if-lie_on.ensures) c.in_ok-push.ensures.items
