use Rattle.std.proofs.Common.{◌≡◌, ◌<◌, ◌∙◌, ℕ, List, length, map, drop, ap₂, sym, subst, subst₂, arith}
use Rattle.std.specs.List.{All}
use Rattle.plane.specs.Pairs.Bounds.{BoundsMeet}
use Rattle.plane.specs.Pairs.Pairs.{ArePairsBetween}
use Rattle.plane.proofs.PairsLemmas.Between.{written_back}
use Rattle.layers.specs.Boxed.{AreBoxes, place_in}
use Rattle.layers.specs.Shapes.{shapes_of}
use Rattle.layers.specs.declared.shape_box.ShapeBox.{ShapeBox}
use Rattle.layers.proofs.BoxedLemmas.{ArePairsBetween-named}
use Rattle.layers.proofs.boxes.box_pairs.Goals as goal

abbrev Meeting : ShapeBox → ShapeBox → Type 0
Meeting it other = BoundsMeet it.bounds other.bounds

pub name_pairs-requires-clause-within : goal.name_pairs-requires-clause-within
name_pairs-requires-clause-within g c =
    let start = c.len-start.ensures in
    let size : c.len-start.result ≡ length c.args.out.now.items = omega (arith, start) in
    let behind = ap₂ (λ (n : ℕ) (list : List (ℕ × ℕ)). drop n list) size c.deref_mut.ensures.value in
    let first = c.deref.ensures.value ∙ sym c.deref-3.ensures.value in
    let second = c.deref-2.ensures.value ∙ sym c.deref-4.ensures.value in
    subst (All (λ pair. (pair.0 < length c.deref-3.result.now) × (pair.1 < length c.deref-4.result.now))) (sym behind)
    (subst₂ (λ (list other_list : List ShapeBox). All (λ pair. (pair.0 < length list) × (pair.1 < length other_list)) (drop (length c.args.out.now.items) c.pairs_between.new.out.items)) first second
    c.in_ok-pairs_between.ensures.within)

pub returns-clause-ok : goal.returns-clause-ok
returns-clause-ok g c =
    let named : List ShapeBox → List ShapeBox → ℕ × ℕ → ℕ × ℕ = λ list other_list pair. (place_in list pair.0, place_in other_list pair.1) in
    let (pairs, is, are) = c.in_ok-pairs_between.ensures.ok in
    let start = c.len-start.ensures in
    let size : c.len-start.result ≡ length c.args.out.now.items = omega (arith, start) in
    let whole : c.pairs_between.new.out.len ≡ length c.pairs_between.new.out.items = omega arith in
    let anew = rw c.deref_mut.ensures.value at c.name_pairs.ensures in (
      map (named c.deref-3.result.now c.deref-4.result.now) pairs,
      written_back (named c.deref-3.result.now c.deref-4.result.now) c.args.out.now.items pairs c.pairs_between.new.out.items c.name_pairs.new.pairs c.len-start.result c.pairs_between.new.out.len is size whole anew,
      ArePairsBetween-named (shapes_of c.args.shapes) (shapes_of c.args.others) c.deref-3.result.now c.deref-4.result.now
          (subst (AreBoxes (shapes_of c.args.shapes)) (sym c.deref-3.ensures.value) c.in_ok-boxes.ensures)
          (subst (AreBoxes (shapes_of c.args.others)) (sym c.deref-4.ensures.value) c.in_ok-other_boxes.ensures)
          pairs
          (subst₂ (λ (list other_list : List ShapeBox). ArePairsBetween Meeting list other_list pairs) (c.deref.ensures.value ∙ sym c.deref-3.ensures.value) (c.deref-2.ensures.value ∙ sym c.deref-4.ensures.value) are),
    )
