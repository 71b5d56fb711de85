use Rattle.std.proofs.Common.{◌≡◌, ◌≢◌, ◌<◌, ◌+◌, ◌≤ℤ◌, Bool, List, ℕ, ℤ, Option, Some, None, true, false, ap, arith, get_or, length, refl, set, subst, subst₂, sym, ◌∙◌}
use Rattle.std.specs.Bool.{MatchBool}
use Rattle.std.specs.Prelude.{IfSome}
use Rattle.std.specs.declared.cmp.Ordering.TheVariants.{Greater}
use Rattle.std.proofs.lemmas.List.{get_or_default}
use Rattle.i_tree.specs.Root.Along.{IsLast}
use Rattle.plane.specs.declared.edge.Edge.{Edge}
use Rattle.plane.specs.SweepLine.Active.{Entry, cmp_active, live_entries}
use Rattle.plane.specs.SweepLine.Line.{IsSortedAt, JoinsAt, NoneCrossAmong}
use Rattle.overlay.specs.declared.fill.pieces.Piece.{Piece}
use Rattle.overlay.specs.Grouping.{no_side, pieces_of}
use Rattle.overlay.specs.declared.grouping.holes.Hole.{Hole}
use Rattle.overlay.specs.declared.grouping.sides.Side.{Side}
use Rattle.overlay.proofs.GroupingLemmas.Sweep.{HasCome-none, come-below, come-last, come-more, side-piece, side-within}
use Rattle.overlay.proofs.GroupingLemmas.Swept.{HasSwept, swept-all, swept-none, swept-past, swept-told}
use Rattle.overlay.proofs.GroupingLemmas.Told.{no_hole}
use Rattle.overlay.proofs.KeptLemmas.Below.{NotAbove}
use Rattle.overlay.proofs.grouping.sweep.sweep_sides.Goals.{else-next-holes, else-next-holes-via-else-next-holes, else-next-holes-via-then-next-holes+else-is_same, then-next-holes+then-is_same}
use Rattle.overlay.proofs.grouping.sweep.sweep_sides.Goals as goal

pub loop-place-init : goal.loop-place-init
loop-place-init g c = (HasCome-none (pieces_of c.args.sides.now) _ c.requires.empty, swept-none c.args.sides.now c.args.holes.now)

pub insert_beginning-requires-clause-last : goal.insert_beginning-requires-clause-last
insert_beginning-requires-clause-last g c =
    let sides = c.args.sides.now in
    let k = c.loop-place.place in
    let inside = c.loop-place-test.true in
    come-last (pieces_of sides) c.requires.pieces k (side-within sides k inside) (g.C.StatusCollection.stored c.loop-place.status) c.loop-place.invariant.0 _ (ap (λ (piece : Piece). piece.edge) (side-piece sides k inside))

pub side_below-requires : goal.side_below-requires
side_below-requires g c = by c.in_ok-below.below refl
  where
    by : (found : Option Entry) → c.in_ok-below.below ≡ found → IfSome found (λ entry. entry.0.place < length c.args.sides.now)
    by None is = tt
    by (Some entry) is =
        let sides = c.args.sides.now in
        let k = c.loop-place.place in
        let inside = c.loop-place-test.true in
        let below = come-below (pieces_of sides) c.requires.pieces k (side-within sides k inside) (g.C.StatusCollection.stored c.loop-place.status) c.loop-place.invariant.0 _ (ap (λ (piece : Piece). piece.edge) (side-piece sides k inside))
        (λ (one : Entry). cmp_active one.0 (record { edge = (get_or sides k no_side).piece.edge; place = k }) ≢ Greater) c.in_ok-below.below entry is c.in_ok-below.ensures.neighbours.0 in
        omega (arith, below, inside)

-- what the test of sameness says
same-told : (one other : Edge) (t : Bool) → MatchBool t (one ≡ other) (one ≢ other) → t ≡ true → one ≡ other
same-told one other true told is = told
same-told one other false told is = cc

differ-told : (one other : Edge) (t : Bool) → MatchBool t (one ≡ other) (one ≢ other) → t ≡ false → one ≢ other
differ-told one other true told is = cc
differ-told one other false told is = told

pub loop-place-preserved : goal.loop-place-preserved
loop-place-preserved g c =
    let sides = c.args.sides.now in
    let old = c.args.holes.now in
    let now = c.loop-place.holes in
    let next = c.loop-place.next in
    let k = c.loop-place.place in
    let inside = c.loop-place-test.true in
    let fill = c.requires.pieces in
    let stored = g.C.StatusCollection.stored c.loop-place.status in
    let after = g.C.StatusCollection.stored c.insert_beginning.new.status in
    let (come, swept) = c.loop-place.invariant in
    let same = ap (λ (piece : Piece). piece.edge) (side-piece sides k inside) in
    let found = c.in_ok-below.below in
    let joins = subst (λ (e : Edge). JoinsAt e.x0 (record { edge = e; place = k }, tt) stored after) same c.in_ok-below.ensures.ok in
    let sorted = subst (λ (e : Edge). (later : ℤ) → e.x0 ≤ℤ later → NoneCrossAmong (live_entries e.x0 after) → IsSortedAt later (live_entries later after)) same c.in_ok-below.ensures.sorted in
    let last = subst (λ (e : Edge). IsLast (NotAbove (record { edge = e; place = k })) (live_entries e.x0 stored) found) same c.in_ok-below.ensures.neighbours.0 in (
      come-more (pieces_of sides) fill k (side-within sides k inside) stored come _ same after c.in_ok-below.ensures.ok c.in_ok-below.ensures.sorted,
      elim c.if-next-holes.branch [
        | then-next-holes+then-is_same w ↦ (
            let is = same-told (get_or now next no_hole).first.piece.edge (get_or sides k no_side).piece.edge w.is_same.result w.is_same.ensures w.if-is_same.true in
            subst₂ (λ (n : ℕ) (holes : List Hole). HasSwept sides old (k + 1) n holes) (sym w.next-is) (sym (w.holes-is ∙ ap (λ (below : Option Side). set now next (record { first = (get_or now next no_hole).first; below = below })) w.side_below.ensures))
            (swept-told sides old fill k next inside now swept no_hole w.if-next-holes.true is stored after come joins sorted found last))
        | else-next-holes w ↦ subst₂ (λ (n : ℕ) (holes : List Hole). HasSwept sides old (k + 1) n holes) (sym w.next-is) (sym w.holes-is)
            (swept-past sides old fill k next inside now swept (elim w.else-next-holes.branch [
              | else-next-holes-via-then-next-holes+else-is_same w' ↦ (λ d within.
                  subst (λ (hole : Hole). hole.first.piece.edge ≢ (get_or sides k no_side).piece.edge) (get_or_default now next no_hole d within)
                  (differ-told (get_or now next no_hole).first.piece.edge (get_or sides k no_side).piece.edge w'.is_same.result w'.is_same.ensures w'.if-is_same.false))
              | else-next-holes-via-else-next-holes w' ↦ (λ d within. (let past = w'.if-next-holes.false in absurd (omega (arith, within, past))))
            ]))
      ],
    )

pub returns-clause-told : goal.returns-clause-told
returns-clause-told g c = λ rings are noded distinct firsts untold.
    swept-all rings c.args.sides.now c.args.holes.now c.loop-place.place c.loop-place.next c.loop-place.holes c.loop-place-test.false c.loop-place.invariant.1
    (record { are = are; noded = noded; distinct = distinct; firsts = firsts; untold = untold })
