use Rattle.std.proofs.Common.{◌≡◌, ◌≢◌, ◌++◌, ◌∷◌, ◌<◌, [], ℕ, pos, Option, Bool, true, inl, IsPermutation, List, get_or, length, set, refl, sym, ap, ◌∙◌, subst, subst₂, arith}
use Rattle.std.specs.List.{flat_map}
use Rattle.std.specs.Option.{MatchOption}
use Rattle.std.proofs.lemmas.List.{length-set}
use Rattle.std.proofs.lemmas.List.Elements.{All-contains, Contains-get_or}
use Rattle.std.proofs.lemmas.List.Sorted.{IsPermutation-refl}
use Rattle.std.proofs.lemmas.Option.{MatchOption-at_none, MatchOption-at_some}
use Rattle.plane.specs.Ends.{end_of, start_of}
use Rattle.plane.specs.declared.edge.Edge.{Edge}
use Rattle.plane.specs.declared.point.Point.{Point}
use Rattle.plane.proofs.PairsLemmas.Extends.{Extends-trans, OnErr-always}
use Rattle.noding.specs.Offsets.{offsets}
use Rattle.overlay.specs.Contours.Order.{IsCorner, IsFirstFrom, edge_at, point_at}
use Rattle.overlay.specs.Contours.Rings.{ring_edges}
use Rattle.overlay.specs.Contours.Turns.{Leaves, NoneLeaves, TakesFirst}
use Rattle.overlay.specs.Contours.Walks.{IsMarked, Keeps, path, unwalked}
use Rattle.overlay.proofs.ContourLemmas.Counts.{IsClosed-rest}
use Rattle.overlay.proofs.ContourLemmas.Order.{corner-from}
use Rattle.overlay.proofs.ContourLemmas.Rings.{AreAppended-more, AreAppended-none}
use Rattle.overlay.proofs.ContourLemmas.Walks.{IsMarked-more, Keeps-set, Keeps-trans, begun-more, corner-of_end, step-edges, step-rings, unwalked-fewer, walk-ends, walking-begins}
use Rattle.overlay.proofs.WindsLemmas.Walked.{IsAlong, along-begins, along-ends, along-step}
use Rattle.overlay.proofs.contours.walk.walk_from.Goals as goal

pub loop-next-init : goal.loop-next-init
loop-next-init g c =
    let sorted = c.args.sorted.now in
    let used = c.args.walk.now.used.items in
    let corner = c.args.walk.now.corner in
    let (same, is) = corner-from sorted c.requires.order (point_at sorted c.args.first) corner c.requires.from c.args.first c.requires.inside refl in
    let leaves : Leaves sorted used (point_at sorted corner) c.args.first = record {
      inside = c.requires.inside;
      unused = c.requires.unused;
      starts = sym same;
    } in (
      (
        [],
        AreAppended-none c.args.points.now.items c.args.ring_ends.now.items,
        subst (λ (stack : List ℕ). IsPermutation (path sorted stack corner ++ unwalked sorted used) (unwalked sorted used)) (sym c.requires.begins) (IsPermutation-refl (unwalked sorted used)),
        λ are pairs. along-begins sorted are c.requires.closed used c.args.walk.now.stack.items corner c.args.first c.start_of-back.result c.requires.begins same pairs,
      ),
      walking-begins sorted used c.args.walk.now.marks.items c.args.walk.now.stack.items corner c.args.first c.requires.begins c.requires.marks_size is leaves,
    )

pub cut_loop-requires-clause-walk : goal.cut_loop-requires-clause-walk
cut_loop-requires-clause-walk g c =
    let walking = c.loop-next.invariant.1 in
    let sorted = c.args.sorted.now in
    subst₂ (λ (marks stack : List ℕ). IsMarked sorted marks stack) (sym (c.deref.ensures.value ∙ c.in_ok-go_along.ensures.marks)) (sym c.in_ok-go_along.ensures.stack)
    (IsMarked-more sorted c.loop-next.walk.marks.items c.loop-next.walk.stack.items c.loop-next.walk.corner walking.marked walking.corner_is walking.off)

pub cut_loop-requires-clause-at : goal.cut_loop-requires-clause-at
cut_loop-requires-clause-at g c =
    let walking = c.loop-next.invariant.1 in
    let sorted = c.args.sorted.now in
    let leaves = MatchOption-at_some (NoneLeaves sorted c.loop-next.walk.used.items (point_at sorted c.loop-next.walk.corner)) (λ place. Leaves sorted c.loop-next.walk.used.items (point_at sorted c.loop-next.walk.corner) place) c.in-Some.place c.in-Some.is walking.leaves in
    subst (IsCorner sorted) (sym c.in_ok-go_along.ensures.corner) (corner-of_end sorted c.requires.closed c.requires.order c.in-Some.place leaves.inside _ refl _ (c.requires.corners.each c.in-Some.place leaves.inside)).1

pub next_edge-next-requires-clause-first : goal.next_edge-next-requires-clause-first
next_edge-next-requires-clause-first g c =
    let walking = c.loop-next.invariant.1 in
    let sorted = c.args.sorted.now in
    let leaves = MatchOption-at_some (NoneLeaves sorted c.loop-next.walk.used.items (point_at sorted c.loop-next.walk.corner)) (λ place. Leaves sorted c.loop-next.walk.used.items (point_at sorted c.loop-next.walk.corner) place) c.in-Some.place c.in-Some.is walking.leaves in
    subst₂ (λ (at : Point) (corner : ℕ). IsFirstFrom sorted at corner) (sym c.end_of-at.ensures) (sym c.in_ok-go_along.ensures.corner) (c.requires.corners.each c.in-Some.place leaves.inside)

pub returns-in_err-cut_loop-clause-err : goal.returns-in_err-cut_loop-clause-err
returns-in_err-cut_loop-clause-err g c =
    let ((rings, appended, moved, along), walking) = c.loop-next.invariant in
    let (points, ends) = c.in_err-cut_loop.ensures.err in
    OnErr-always c.from_residual-in_err-cut_loop.result _ (
      Extends-trans c.args.points.now.items c.loop-next.points.items c.cut_loop.new.points.items (flat_map (λ ring. ring) rings, appended.points_are) points,
      Extends-trans c.args.ring_ends.now.items c.loop-next.ring_ends.items c.cut_loop.new.ring_ends.items (offsets (length c.args.points.now.items) rings, appended.ends_are) ends,
    )

pub loop-next-smaller : goal.loop-next-smaller
loop-next-smaller g c =
    let walking = c.loop-next.invariant.1 in
    let sorted = c.args.sorted.now in
    let used = c.loop-next.walk.used.items in
    let leaves = MatchOption-at_some (NoneLeaves sorted used (point_at sorted c.loop-next.walk.corner)) (λ place. Leaves sorted used (point_at sorted c.loop-next.walk.corner) place) c.in-Some.place c.in-Some.is walking.leaves in
    let inside = leaves.inside in
    let size = walking.size in
    let before = c.requires.used_size in
    subst (λ (list : List Bool). length (unwalked sorted list) < length (unwalked sorted used)) (sym c.in_ok-go_along.ensures.used)
    (unwalked-fewer sorted used c.in-Some.place (edge_at sorted c.in-Some.place) inside (omega (arith, inside, size, before)) leaves.unused)

pub loop-next-preserved : goal.loop-next-preserved
loop-next-preserved g c =
    let ((rings, appended, moved, along), walking) = c.loop-next.invariant in
    let (others, cut_appended, cut, marked, off, begins) = c.in_ok-cut_loop.ensures.ok in
    let sorted = c.args.sorted.now in
    let used = c.loop-next.walk.used.items in
    let stack = c.loop-next.walk.stack.items in
    let corner = c.loop-next.walk.corner in
    let place = c.in-Some.place in
    let next = c.go_along.new.walk.corner in
    let used_now = c.go_along.new.walk.used.items in
    let noted = c.in_ok-go_along.ensures.used in
    let at = c.end_of-at.result in
    let leaves = MatchOption-at_some (NoneLeaves sorted used (point_at sorted corner)) (λ place. Leaves sorted used (point_at sorted corner) place) place c.in-Some.is walking.leaves in
    let inside = leaves.inside in
    let size = walking.size in
    let before = c.requires.used_size in
    let in_used : place < length used = omega (arith, inside, size, before) in
    let (same, is) = corner-of_end sorted c.requires.closed c.requires.order place inside at c.end_of-at.ensures next
    (subst₂ (λ (p : Point) (n : ℕ). IsFirstFrom sorted p n) (sym c.end_of-at.ensures) (sym c.in_ok-go_along.ensures.corner) (c.requires.corners.each place inside)) in
    let step = subst₂ (λ (list : List ℕ) (marked : List Bool). IsPermutation (path sorted list next ++ unwalked sorted marked) (path sorted stack corner ++ unwalked sorted used)) (sym c.in_ok-go_along.ensures.stack) (sym noted)
    (step-edges sorted used stack corner next place leaves in_used (same ∙ c.end_of-at.ensures)) in (
      (
        rings ++ others,
        AreAppended-more rings others c.args.points.now.items c.loop-next.points.items c.cut_loop.new.points.items c.args.ring_ends.now.items c.loop-next.ring_ends.items c.cut_loop.new.ring_ends.items appended cut_appended,
        step-rings rings others (path sorted stack corner) (path sorted c.go_along.new.walk.stack.items next) (path sorted c.cut_loop.new.stack.items next) (unwalked sorted used) (unwalked sorted used_now) (unwalked sorted c.args.walk.now.used.items) moved cut step,
        λ are pairs.
            let two_ends = All-contains (λ (e : Edge). start_of e ≢ end_of e) sorted (edge_at sorted place) are.two_ends (Contains-get_or sorted place (record { x0 = pos 0; y0 = pos 0; x1 = pos 0; y1 = pos 0 }) inside) in
            let takes = subst₂ (λ (p q : Point). TakesFirst sorted c.deref-in-Some.result.now p q c.next_edge-next.result) (c.behind-back.ensures two_ends) (sym same) (c.next_edge-next.ensures.takes are) in
            let taken : TakesFirst sorted (set used place true) (point_at sorted place) (point_at sorted next) c.next_edge-next.result =
            subst (λ (list : List Bool). TakesFirst sorted list (point_at sorted place) (point_at sorted next) c.next_edge-next.result) (c.deref-in-Some.ensures.value ∙ noted) takes in
            let went = along-step sorted are c.requires.closed used c.loop-next.walk.marks.items stack corner c.args.first rings c.loop-next.back place (size ∙ before) walking.marked walking.corner_is walking.off leaves
            (subst (λ (o : Option ℕ). IsAlong sorted used stack corner c.args.first rings c.loop-next.back o) c.in-Some.is (along are pairs)) next c.cut_loop.new.stack.items others c.next_edge-next.result (same ∙ c.end_of-at.ensures)
            (subst (λ (list : List ℕ). IsPermutation (flat_map ring_edges others ++ path sorted c.cut_loop.new.stack.items next) (path sorted list next)) c.in_ok-go_along.ensures.stack cut)
            (subst (λ (list : List ℕ). get_or (c.cut_loop.new.stack.items ++ next ∷ []) 0 0 ≡ get_or (list ++ next ∷ []) 0 0) c.in_ok-go_along.ensures.stack begins) taken in
            subst₂ (λ (list : List Bool) (p : Point). IsAlong sorted list c.cut_loop.new.stack.items next c.args.first (rings ++ others) p c.next_edge-next.result) (sym noted) (sym (c.behind-back.ensures two_ends)) went,
      ),
      record {
        marked = subst (λ (marks : List ℕ). IsMarked sorted marks c.cut_loop.new.stack.items) c.deref.ensures.value marked;
        corner_is = is;
        off = off;
        keeps = subst (λ (list : List Bool). Keeps c.args.walk.now.used.items list) (sym noted) (Keeps-trans c.args.walk.now.used.items used (set used place true) walking.keeps (Keeps-set used place));
        size = ap (λ (list : List Bool). length list) noted ∙ length-set used place true ∙ size;
        leaves = subst (λ (list : List Bool). MatchOption c.next_edge-next.result (NoneLeaves sorted list (point_at sorted next)) (λ it. Leaves sorted list (point_at sorted next) it)) c.deref-in-Some.ensures.value
            (subst (λ (point : Point). MatchOption c.next_edge-next.result (NoneLeaves sorted c.deref-in-Some.result.now point) (λ it. Leaves sorted c.deref-in-Some.result.now point it)) (sym same)
            c.next_edge-next.ensures.leaves);
        begun = inl (subst (λ (list : List Bool). get_or list c.args.first true ≡ true) (sym noted) (begun-more used c.args.first place c.loop-next.next in_used c.in-Some.is walking.begun));
      },
    )

pub returns-clause-ok : goal.returns-clause-ok
returns-clause-ok g c =
    let ((rings, appended, moved, along), walking) = c.loop-next.invariant in
    let sorted = c.args.sorted.now in
    let used = c.loop-next.walk.used.items in
    let stack = c.loop-next.walk.stack.items in
    let corner = c.loop-next.walk.corner in
    let all = unwalked sorted c.args.walk.now.used.items in
    let none = MatchOption-at_none (NoneLeaves sorted used (point_at sorted corner)) (λ place. Leaves sorted used (point_at sorted corner) place) c.in_default.is walking.leaves in
    let ends : stack ≡ [] = walk-ends sorted used c.loop-next.walk.marks.items stack corner rings all walking.marked walking.corner_is walking.off none moved c.requires.rest in
    let over = subst (λ (list : List ℕ). IsPermutation (flat_map ring_edges rings ++ (path sorted list corner ++ unwalked sorted used)) all) ends moved in (
      rings,
      appended,
      over,
      ends,
      λ are pairs.
          along-ends sorted are c.requires.closed used stack corner c.args.first rings c.loop-next.back (walking.size ∙ c.requires.used_size) ends none (IsClosed-rest rings (unwalked sorted used) all over c.requires.rest)
          (subst (λ (o : Option ℕ). IsAlong sorted used stack corner c.args.first rings c.loop-next.back o) c.in_default.is (along are pairs)),
    )
