-- Where the edges in order stand that start at a point.
use Rattle.std.proofs.Common.{◌≡◌, ◌≢◌, ◌⊎◌, ℕ, ◌<◌, ◌-◌, ◌+◌, ◌++◌, ◌∷◌, [], inl, inr, List, get_or, length, length-append, sym, ap, ◌∙◌, subst, arith}
use Rattle.std.proofs.lemmas.Bool.{cases_eq}
use Rattle.std.proofs.lemmas.List.{get_or_append_left}
use Rattle.std.proofs.Math.Seq.{get_or-append_seam}
use Rattle.plane.specs.declared.edge.Edge.{Edge}
use Rattle.plane.specs.declared.point.Point.{Point}
use Rattle.overlay.specs.Contours.Ends.{StartBefore}
use Rattle.overlay.specs.Contours.Order.{AreInOrder, IsBehind, IsFirstFrom, edge_at, point_at}
use Rattle.plane.specs.Ends.{end_of}
use Rattle.overlay.proofs.ContourLemmas.Order.{IsBehind-both, IsBehind-same, IsBehind-trans}

get_or-at_end : (list : List ℕ) (x k d : ℕ) → k ≡ length list → get_or (list ++ x ∷ []) k d ≡ x
get_or-at_end list x k d is = ap (λ (n : ℕ). get_or (list ++ x ∷ []) n d) is ∙ get_or-append_seam list x [] d

pub first-at : (sorted : List Edge) → AreInOrder sorted → (point : Point) (first : ℕ) → first < length sorted → StartBefore sorted point first → IsBehind point (point_at sorted first) → IsFirstFrom sorted point first
first-at sorted order point first inside before behind = record {
  inside = omega (arith, inside);
  before = before;
  behind = λ k from within. IsBehind-trans point (point_at sorted first) (point_at sorted k) behind (order first k from within);
}

-- an edge starts at the point, and the one before it doesn't
pub first-tested : (sorted : List Edge) → AreInOrder sorted → (at : Point) (place : ℕ) → place < length sorted → point_at sorted place ≡ at → ((place ≡ 0) ⊎ (point_at sorted (place - 1) ≢ at)) → IsFirstFrom sorted at place
first-tested sorted order at place inside is (inl none) = first-at sorted order at place inside (λ k below. absurd (omega (arith, below, none))) (IsBehind-same at (point_at sorted place) (sym is))
first-tested sorted order at place inside is (inr differs) =
    first-at sorted order at place inside
    (λ k below behind.
    (let before = subst (λ (p : Point). IsBehind (point_at sorted (place - 1)) p) is (order (place - 1) place (omega arith) inside) in
    differs (IsBehind-both (point_at sorted (place - 1)) at before
    (IsBehind-trans at (point_at sorted k) (point_at sorted (place - 1)) behind (order k (place - 1) (omega (arith, below)) (omega (arith, inside)))))))
    (IsBehind-same at (point_at sorted place) (sym is))

-- one corner more
pub corners-more : (sorted : List Edge) (corners more : List ℕ) (index corner : ℕ) → length corners ≡ index
    → ((place : ℕ) → place < index → IsFirstFrom sorted (end_of (edge_at sorted place)) (get_or corners place 0))
    → IsFirstFrom sorted (end_of (edge_at sorted index)) corner → more ≡ corners ++ corner ∷ []
    → (length more ≡ index + 1) × ((place : ℕ) → place < index + 1 → IsFirstFrom sorted (end_of (edge_at sorted place)) (get_or more place 0))
corners-more sorted corners more index corner size each from is = (
  (let long = length-append corners (corner ∷ []) in ap length is ∙ omega (arith, long, size)),
  λ place below.
      subst (λ (list : List ℕ). IsFirstFrom sorted (end_of (edge_at sorted place)) (get_or list place 0)) (sym is)
      (elim (cases_eq place index) [
        | inl here ↦
            subst (λ (n : ℕ). IsFirstFrom sorted (end_of (edge_at sorted n)) (get_or (corners ++ corner ∷ []) n 0)) (sym here)
            (subst (λ (n : ℕ). IsFirstFrom sorted (end_of (edge_at sorted index)) n) (sym (get_or-at_end corners corner index 0 (sym size))) from)
        | inr other ↦
            let before : place < index = omega (arith, below, other) in
            subst (λ (n : ℕ). IsFirstFrom sorted (end_of (edge_at sorted place)) n) (sym (get_or_append_left corners (corner ∷ []) 0 place (omega (arith, before, size)))) (each place before)
      ]),
)
