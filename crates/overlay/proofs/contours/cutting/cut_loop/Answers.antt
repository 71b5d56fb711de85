use Rattle.std.proofs.Common.{◌≡◌, ◌++◌, ◌∷◌, [], ◌+◌, ◌-◌, ◌<◌, ℕ, zero, suc, List, IsPermutation, drop, get_or, length, map, take, refl, sym, ap, ◌∙◌, subst, arith}
use Rattle.std.specs.List.{flat_map}
use Rattle.std.proofs.lemmas.List.{get_or_read, length-map, take_rest}
use Rattle.std.proofs.lemmas.List.Sorted.{IsPermutation-refl}
use Rattle.plane.specs.declared.point.Point.{Point}
use Rattle.overlay.specs.Contours.Order.{point_at}
use Rattle.overlay.specs.Contours.Rings.{ring_edges}
use Rattle.overlay.specs.Contours.Walks.{IsMarked, IsOff, path}
use Rattle.overlay.proofs.ContourLemmas.Rings.{AreAppended-none, AreAppended-one, IsMarked-take, IsOff-mark, IsOff-take, loop-cut, ring-from}
use Rattle.overlay.proofs.contours.cutting.cut_loop.Goals.{else-mark-len-via-then-mark-len+else-index-corner, else-mark-len-via-else-mark-len}
use Rattle.overlay.proofs.contours.cutting.cut_loop.Goals as goal

-- the walk begins where it did
first-stays : (stack : List ℕ) (mark corner : ℕ) → mark < length stack → get_or stack mark 0 ≡ corner → get_or (take mark stack ++ corner ∷ []) 0 0 ≡ get_or (stack ++ corner ∷ []) 0 0
first-stays [] mark corner inside at = absurd (omega (arith, inside))
first-stays (first ∷ others) zero corner inside at = sym at
first-stays (first ∷ others) (suc mark) corner inside at = refl

pub returns-in_ok-append_ring-clause-ok : goal.returns-in_ok-append_ring-clause-ok
returns-in_ok-append_ring-clause-ok g c =
    let sorted = c.args.sorted.now in
    let marks = c.args.marks.now in
    let stack = c.args.stack.now.items in
    let corner = c.args.corner in
    let mark : ℕ = get_or marks corner 0 in
    let ring : List Point = map (point_at sorted) (drop mark stack) in
    let test = c.if-mark-len.true in
    let told = c.len.ensures in
    let inside : mark < length stack = omega (arith, test, told) in
    let here = c.if-index-corner.true in
    let read = c.index.ensures in
    let at : get_or stack mark 0 ≡ corner = sym (get_or_read stack mark c.index.result.now inside read 0) ∙ here in
    let list = c.deref.result.now in
    let slice : take (length list - mark) (drop mark list) ≡ drop mark stack = take_rest list mark ∙ ap (λ (places : List ℕ). drop mark places) c.deref.ensures.value in
    let (points_are, ends_are) = c.in_ok-append_ring.ensures.ok in
    let points : c.append_ring.new.points.items ≡ c.args.points.now.items ++ ring = points_are ∙ ap (λ (corners : List ℕ). c.args.points.now.items ++ map (point_at sorted) corners) slice in
    let size : length (take (length list - mark) (drop mark list)) ≡ length ring = ap (λ (places : List ℕ). length places) slice ∙ sym (length-map (drop mark stack) (point_at sorted)) in
    let ends : c.append_ring.new.ring_ends.items ≡ c.args.ring_ends.now.items ++ (length c.args.points.now.items + length ring) ∷ [] =
    ends_are ∙ ap (λ (n : ℕ). c.args.ring_ends.now.items ++ (length c.args.points.now.items + n) ∷ []) size in
    let walk = c.requires.walk in
    let (moved, marked, off, begins) = subst (λ (left : List ℕ). IsPermutation (flat_map ring_edges (ring ∷ []) ++ path sorted left corner) (path sorted stack corner) × IsMarked sorted marks left × IsOff left corner
    × (get_or (left ++ corner ∷ []) 0 0 ≡ get_or (stack ++ corner ∷ []) 0 0))
    (sym c.truncate.ensures.items) (
      loop-cut sorted marks stack walk corner mark inside at,
      IsMarked-take sorted marks stack walk mark (omega (arith, inside)),
      subst (λ (place : ℕ). IsOff (take mark stack) place) at (IsOff-take sorted marks stack walk mark inside),
      first-stays stack mark corner inside at,
    ) in (
      ring ∷ [],
      AreAppended-one ring c.args.points.now.items c.append_ring.new.points.items c.args.ring_ends.now.items c.append_ring.new.ring_ends.items (ring-from sorted marks stack walk mark inside) points ends,
      moved,
      marked,
      off,
      begins,
    )

pub returns-else-mark-len-clause-ok : goal.returns-else-mark-len-clause-ok
returns-else-mark-len-clause-ok g c =
    let sorted = c.args.sorted.now in
    let marks = c.args.marks.now in
    let stack = c.args.stack.now.items in
    let corner = c.args.corner in
    let walk = c.requires.walk in
    let told = c.len.ensures in (
      [],
      AreAppended-none c.args.points.now.items c.args.ring_ends.now.items,
      IsPermutation-refl (path sorted stack corner),
      walk,
      IsOff-mark sorted marks stack walk corner (λ below same. elim c.else-mark-len.branch [
        | else-mark-len-via-then-mark-len+else-index-corner w ↦
            let other = w.if-index-corner.false in
            let read = w.index.ensures in
            other (get_or_read stack (get_or marks corner 0) w.index.result.now below read 0 ∙ same)
        | else-mark-len-via-else-mark-len w ↦
            let past = w.if-mark-len.false in
            omega (arith, past, told, below)
      ]),
      refl,
    )
