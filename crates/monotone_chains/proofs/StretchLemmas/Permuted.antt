-- What is filled stays filled in whatever order its edges stand.
use Rattle.std.proofs.Common.{◌≢◌, ◌⊎◌, ◌++◌, ◌≡◌, ℤ, List, ◌∙◌}
use Rattle.std.specs.List.{Contains}
use Rattle.std.specs.List.Sorted.{IsPermutation}
use Rattle.std.proofs.lemmas.List.Elements.{All-weaker}
use Rattle.std.proofs.lemmas.List.Sorted.{All-permutation, Contains-permutation, IsPermutation-sym}
use Rattle.plane.specs.declared.edge.Edge.{Edge}
use Rattle.plane.proofs.PairsLemmas.Bags.{AllPairs-permutation}
use Rattle.overlay.specs.declared.fill.rules.FillRule.{FillRule}
use Rattle.overlay.specs.declared.fill.rules.Operation.{Operation}
use Rattle.overlay.specs.Fill.Filled.{HaveSameEnds, IsEndOfSloped, IsFilled, IsNextInColumn}
use Rattle.plane.specs.Ends.{reversed}
use Rattle.overlay.proofs.ContourLemmas.Counts.{IsClosed-permuted}
use Rattle.overlay.proofs.FillLemmas.Kept.{same-exchanged}
use Rattle.noding.proofs.SnapLemmas.Windings.{winding-permutation}

-- an end of edges is one of theirs wherever these stand
end_there : (edges others : List Edge) → ((edge : Edge) → Contains edges edge → Contains others edge) → (x y : ℤ) → IsEndOfSloped edges x y → IsEndOfSloped others x y
end_there edges others there x y (edge, held, sloped, end) = (edge, there edge held, sloped, end)

IsNextInColumn-same : (edges others : List Edge) → ((edge : Edge) → Contains edges edge → Contains others edge) → ((edge : Edge) → Contains others edge → Contains edges edge) → (edge : Edge) → IsNextInColumn edges edge → IsNextInColumn others edge
IsNextInColumn-same edges others there back edge next = record {
  vertical = next.vertical;
  apart = next.apart;
  from = end_there edges others there edge.x0 edge.y0 next.from;
  to = end_there edges others there edge.x0 edge.y1 next.to;
  next = λ y end. next.next y (end_there others edges back edge.x0 y end);
}

pub IsFilled-permutation : (rule : FillRule) (operation : Operation) (subject clip edges others : List Edge) → IsPermutation edges others → IsFilled rule operation subject clip edges → IsFilled rule operation subject clip others
IsFilled-permutation rule operation subject clip edges others moved filled = record {
  winds = λ point. winding-permutation edges others point moved ∙ filled.winds point;
  closed = IsClosed-permuted edges others moved filled.closed;
  noded = λ one other point first second of of_other. filled.noded one other point (back one first) (back other second) of of_other;
  distinct = AllPairs-permutation (λ one other. ¬ (HaveSameEnds one other)) (λ one other apart same. apart (same-exchanged other one same)) edges others moved filled.distinct;
  sloped = All-permutation (λ edge. edge.x1 ≢ edge.x0 → Contains (subject ++ clip) edge ⊎ Contains (subject ++ clip) (reversed edge)) edges others moved filled.sloped;
  vertical = All-weaker (λ edge. edge.x1 ≡ edge.x0 → IsNextInColumn edges edge) (λ edge. edge.x1 ≡ edge.x0 → IsNextInColumn others edge)
      (λ edge next level. IsNextInColumn-same edges others there back edge (next level)) others
      (All-permutation (λ edge. edge.x1 ≡ edge.x0 → IsNextInColumn edges edge) edges others moved filled.vertical);
}
  where
    there : (edge : Edge) → Contains edges edge → Contains others edge
    there edge held = Contains-permutation edges others edge moved held

    back : (edge : Edge) → Contains others edge → Contains edges edge
    back edge held = Contains-permutation others edges edge (IsPermutation-sym edges others moved) held
