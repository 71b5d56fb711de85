use Rattle.std.proofs.Common.{◌≡◌, ◌≤◌, ◌<◌, ◌++◌, ◌∙◌, ℕ, [], List, length, string_bytes, take, get_or, refl, sym, ap, arith}
use Rattle.std.proofs.lemmas.List.{flat_map_more, take_all, take_more}
use Rattle.std.specs.List.{flat_map}
use Rattle.itree.specs.Replies.{polygon_lines}
use Rattle.noding.specs.Offsets.{AreJoined}
use Rattle.noding.proofs.Callers.{length-offsets, IsNext, IsNext-at}
use Rattle.plane.specs.declared.point.Point.{Point}
use Rattle.overlay.specs.Polygons.{rings_of}
use Rattle.itree.proofs.lines.rings.polygon_text.Goals as goal

-- the next polygon's rings are among all
next : (all : List (List (List Point))) (ends polygon_ends : List ℕ) (i first : ℕ) → AreJoined all (rings_of all) polygon_ends → ends ≡ polygon_ends → i < length ends → first ≡ length (rings_of (take i all))
    → IsNext all (rings_of all) ends i first
next all ends polygon_ends i first are same within begins = IsNext-at all (rings_of all) ends i first (refl, same ∙ are.1) within begins

-- by other names
renamed : (rings : List (List Point)) (points points' : List Point) (ends ends' : List ℕ) → AreJoined rings points ends → points' ≡ points → ends' ≡ ends → AreJoined rings points' ends'
renamed rings points points' ends ends' are same too = (same ∙ are.0, too ∙ are.1)

pub push_polygon-requires : goal.push_polygon-requires
push_polygon-requires g c =
    let (all, joined_rings, joined_all) = c.requires in
    let polygons = c.args.polygons.now in
    let rings = renamed (rings_of all) polygons.points.items c.deref.result.now polygons.ring_ends.items c.deref-in-loop-end.result.now joined_rings c.deref.ensures.value c.deref-in-loop-end.ensures.value in
    let is_next = next all c.deref-end-items.result.now polygons.polygon_ends.items c.loop-end.end-index c.loop-end.first joined_all c.deref-end-items.ensures.value c.loop-end-test.true (c.loop-end.invariant all joined_rings joined_all).1 in
    (rings_of all, rings, is_next.rising, omega (arith, is_next.within, ap length rings.1, length-offsets 0 (rings_of all)))

pub loop-end-preserved : goal.loop-end-preserved
loop-end-preserved g c = λ all joined_rings joined_all.
    let polygons = c.args.polygons.now in
    let i = c.loop-end.end-index in
    let (so_far, begins) = c.loop-end.invariant all joined_rings joined_all in
    let rings = renamed (rings_of all) polygons.points.items c.deref.result.now polygons.ring_ends.items c.deref-in-loop-end.result.now joined_rings c.deref.ensures.value c.deref-in-loop-end.ensures.value in
    let is_next = next all c.deref-end-items.result.now polygons.polygon_ends.items i c.loop-end.first joined_all c.deref-end-items.ensures.value c.loop-end-test.true begins in (
      c.in_ok-push_polygon.ensures (rings_of all) rings
          ∙ ap (λ (polygon : List (List Point)). string_bytes c.loop-end.text ++ polygon_lines polygon) is_next.is
          ∙ ap (λ (text : List ℕ). text ++ polygon_lines (get_or all i [])) so_far
          ∙ flat_map_more polygon_lines [] (take i all) (get_or all i [])
          ∙ ap (λ (told : List (List (List Point))). flat_map polygon_lines told) (sym (take_more all i [] is_next.inside)),
      is_next.stops,
    )

pub returns : goal.returns
returns g c = λ all joined_rings joined_all.
    let i = c.loop-end.end-index in
    let (so_far, _) = c.loop-end.invariant all joined_rings joined_all in
    let past : length all ≤ i = omega (arith, c.loop-end-test.false, ap length c.deref-end-items.ensures.value, ap length joined_all.1, length-offsets 0 all) in
    so_far ∙ ap (λ (told : List (List (List Point))). flat_map polygon_lines told) (take_all i all past)
