use Rattle.std.proofs.Common.{◌≡◌, [], ℕ, Bool, List, length, drop, take, ap, ap₂, refl, sym, subst, subst₂, ◌∙◌, arith}
use Rattle.std.specs.List.{All, AllZip, flat_map}
use Rattle.std.specs.Bool.{MatchBool}
use Rattle.std.proofs.Math.Seq.{drop-append_seam, take-append_seam}
use Rattle.plane.specs.declared.edge.Edge.{Edge}
use Rattle.plane.specs.declared.point.Point.{Point}
use Rattle.noding.proofs.ChainLemmas.Zips.{AllZip-length}
use Rattle.overlay.specs.Rings.{AreEnds}
use Rattle.layers.specs.LineParts.{AreBrokenEdges, AreTold, IsPath}
use Rattle.layers.specs.Lines.{AreRuns, IsKept}
use Rattle.layers.specs.Shapes.{lists_of}
use Rattle.layers.proofs.LineLemmas.Lists.{ends-right, lists-back}
use Rattle.layers.proofs.LineLemmas.Paths.{paths-broken}
use Rattle.layers.proofs.lines.append_clipped.Goals as goal

-- what stands before the rings' edges, and these
module _ (lines rings : List (List Point)) (edges : List Edge) (count : ℕ) (line_ends ring_ends : List ℕ) (are : AreBrokenEdges lines rings edges count line_ends ring_ends) where
  front-is : (all front : List Edge) → all ≡ edges → front ≡ take count all → front ≡ flat_map (λ list. list) are.of_lines
  front-is all front same is =
      is ∙ ap₂ (λ (n : ℕ) (list : List Edge). take n list) are.count_is (same ∙ are.is) ∙ take-append_seam (flat_map (λ list. list) are.of_lines) (flat_map (λ list. list) are.of_rings)

  back-is : (all back : List Edge) → all ≡ edges → back ≡ drop count all → back ≡ flat_map (λ list. list) are.of_rings
  back-is all back same is =
      is ∙ ap₂ (λ (n : ℕ) (list : List Edge). drop n list) are.count_is (same ∙ are.is) ∙ drop-append_seam (flat_map (λ list. list) are.of_lines) (flat_map (λ list. list) are.of_rings)

  lists-are : (front : List Edge) (ends : List ℕ) → front ≡ flat_map (λ list. list) are.of_lines → ends ≡ line_ends → lists_of front 0 ends ≡ are.of_lines
  lists-are front ends is same = ap₂ (λ (list : List Edge) (stops : List ℕ). lists_of list 0 stops) is (same ∙ are.lines_end) ∙ lists-back [] are.of_lines 0 refl

  ends-are : (front : List Edge) (ends : List ℕ) → front ≡ flat_map (λ list. list) are.of_lines → ends ≡ line_ends → AreEnds 0 ends (length front)
  ends-are front ends is same =
      subst (λ (stops : List ℕ). AreEnds 0 stops (length front)) (sym (same ∙ are.lines_end)) (ends-right 0 are.of_lines (length front) (let size = ap (λ (list : List Edge). length list) is in omega (arith, size)))

pub append_pieces-requires-clause-flags : goal.append_pieces-requires-clause-flags
append_pieces-requires-clause-flags g c =
    let rings = c.split_at.result.1.now in
    let Kept = IsKept c.args.rule c.args.keep rings in
    let same = AllZip-length (λ (edge : Edge) (flag : Bool). MatchBool flag (Kept edge) (¬ (Kept edge))) c.split_at.result.0.now c.in_ok-kept.kept.items c.in_ok-kept.ensures in
    ap (λ (flags : List Bool). length flags) c.deref-4.ensures.value ∙ same

pub append_pieces-requires-clause-ends : goal.append_pieces-requires-clause-ends
append_pieces-requires-clause-ends g c =
    let broken = c.in_ok-broken.broken in
    let are = c.in_ok-broken.ensures.ok in
    let front = front-is _ _ broken.edges.items broken.count broken.line_ends.items broken.ring_ends.items are c.deref.result.now c.split_at.result.0.now c.deref.ensures.value c.split_at.ensures.front in
    ends-are _ _ broken.edges.items broken.count broken.line_ends.items broken.ring_ends.items are c.split_at.result.0.now c.deref-3.result.now front c.deref-3.ensures.value

pub append_pieces-requires-clause-paths : goal.append_pieces-requires-clause-paths
append_pieces-requires-clause-paths g c =
    let broken = c.in_ok-broken.broken in
    let are = c.in_ok-broken.ensures.ok in
    let front = front-is _ _ broken.edges.items broken.count broken.line_ends.items broken.ring_ends.items are c.deref.result.now c.split_at.result.0.now c.deref.ensures.value c.split_at.ensures.front in
    subst (λ (lists : List (List Edge)). All IsPath lists) (sym (lists-are _ _ broken.edges.items broken.count broken.line_ends.items broken.ring_ends.items are c.split_at.result.0.now c.deref-3.result.now front c.deref-3.ensures.value))
    (paths-broken _ _ are.of_lines _ are.together)

pub returns-clause-ok : goal.returns-clause-ok
returns-clause-ok g c =
    let rule = c.args.rule in
    let keep = c.args.keep in
    let broken = c.in_ok-broken.broken in
    let are = c.in_ok-broken.ensures.ok in
    let front = front-is _ _ broken.edges.items broken.count broken.line_ends.items broken.ring_ends.items are c.deref.result.now c.split_at.result.0.now c.deref.ensures.value c.split_at.ensures.front in
    let back = back-is _ _ broken.edges.items broken.count broken.line_ends.items broken.ring_ends.items are c.deref.result.now c.split_at.result.1.now c.deref.ensures.value c.split_at.ensures.back in
    let lists = lists-are _ _ broken.edges.items broken.count broken.line_ends.items broken.ring_ends.items are c.split_at.result.0.now c.deref-3.result.now front c.deref-3.ensures.value in
    let (clipped, appends, each) = c.in_ok-append_pieces.ensures.ok in
    let runs = each rule keep c.split_at.result.1.now (subst (λ (flags : List Bool). AreTold rule keep c.split_at.result.1.now c.split_at.result.0.now flags) (sym c.deref-4.ensures.value) c.in_ok-kept.ensures) in (
      clipped,
      record {
        broken = are.of_lines;
        broken_rings = flat_map (λ list. list) are.of_rings;
        together = are.together;
        are = subst₂ (λ (edges : List Edge) (list : List (List Edge)). AllZip (AreRuns (IsKept rule keep edges)) list clipped) back lists runs;
      },
      appends,
    )
