-- Edges that stand in a list more than once: the distinct ones, and where the like of each stands among them.
use Rattle.std.proofs.Common.{◌&&◌, true, int_eq, ◌≡◌, ◌↔◌, inl, inr, ℕ, ℤ, pos, ◌<◌, ◌≤◌, ◌+◌, List, [], ◌∷◌, ◌++◌, Some, get_or, length, set, sym, ap, ap₂, ◌∙◌, subst, ⊎_elim, arith}
use Rattle.std.specs.List.{All, Contains, slice_get}
use Rattle.std.specs.List.Sorted.{IsPermutation}
use Rattle.std.proofs.lemmas.Bool.{and_parts, cases_eq, cases_lt}
use Rattle.std.proofs.lemmas.Bool.Decides.{Decides-int_eq}
use Rattle.std.proofs.lemmas.List.{get_or-set_other, get_or-set_same, get_or_default, length-set}
use Rattle.std.proofs.lemmas.List.Elements.{Contains-append_left, Contains-get_or, Contains-push, Contains-push_cases}
use Rattle.std.proofs.lemmas.List.Sorted.{Contains-permutation, IsPermutation-sym}
use Rattle.std.proofs.lemmas.Option.{same_Some, slice_get-get_or, slice_get_within}
use Rattle.i_tree.proofs.RbLemmas.Slots.Growth.{slice_get-append_kept}
use Rattle.plane.specs.declared.edge.Edge.{Edge}
use Rattle.noding.specs.Distinct.{AppendsUnlessLast, AreDistinct, ArePlaced}
use Rattle.noding.specs.declared.distinct.Placed.{Placed}
use Rattle.plane.proofs.GainsLemmas.{held-at, place-of}

-- ---- edges with their places

-- The edge with its place.
abbrev placed_at : Edge → ℕ → Placed
placed_at edge place = record { edge = edge; place = place }

-- They are those of the first so many edges.
abbrev pub ArePlacedUpto : List Edge → ℕ → List Placed → Type 0
ArePlacedUpto edges k placed = (one : Placed) → Contains placed one ↔ ((one.place < k) × (slice_get edges one.place ≡ Some one.edge))

pub placed-none : (edges : List Edge) → ArePlacedUpto edges 0 []
placed-none edges one = (λ (k, within, is). absurd (omega (arith, within)), λ (below, is). absurd (omega (arith, below)))

module _ (edges : List Edge) (k : ℕ) (d : Edge) (placed : List Placed) (within : k < length edges) (so_far : ArePlacedUpto edges k placed) where
  abbrev next : Placed
  next = record { edge = get_or edges k d; place = k }

  next_stands : slice_get edges k ≡ Some (get_or edges k d)
  next_stands = slice_get-get_or edges k d within

  to_upto : (one : Placed) → Contains (placed ++ next ∷ []) one → (one.place < k + 1) × (slice_get edges one.place ≡ Some one.edge)
  to_upto one held =
      ⊎_elim
      (λ earlier. let (below, is) = (so_far one).0 earlier in (omega (arith, below), is))
      (λ same. subst (λ (p : Placed). (p.place < k + 1) × (slice_get edges p.place ≡ Some p.edge)) same (omega arith, next_stands))
      (Contains-push_cases placed next one held)

  from_upto : (one : Placed) → (one.place < k + 1) × (slice_get edges one.place ≡ Some one.edge) → Contains (placed ++ next ∷ []) one
  from_upto one (below, is) =
      elim (cases_lt one.place k) [
        | inl earlier ↦ Contains-append_left placed (next ∷ []) one ((so_far one).1 (earlier, is))
        | inr upto ↦
            let at : k ≡ one.place = omega (arith, below, upto) in
            let edge_is : get_or edges k d ≡ one.edge = same_Some _ _ (sym next_stands ∙ ap (slice_get edges) at ∙ is) in
            subst (Contains (placed ++ next ∷ [])) (ap₂ placed_at edge_is at) (Contains-push placed next)
      ]

  -- one more
  pub placed-more : ArePlacedUpto edges (k + 1) (placed ++ record { edge = get_or edges k d; place = k } ∷ [])
  placed-more one = (to_upto one, from_upto one)

-- all of them, in whatever order
pub placed-all : (edges : List Edge) (k : ℕ) (placed sorted : List Placed) → length edges ≤ k → ArePlacedUpto edges k placed → IsPermutation placed sorted → ArePlaced edges sorted
placed-all edges k placed sorted all so_far moved one = (
  λ held. ((so_far one).0 (Contains-permutation sorted placed one (IsPermutation-sym placed sorted moved) held)).1,
  λ is.
      let within = slice_get_within edges one.place one.edge is in
      Contains-permutation placed sorted one moved ((so_far one).1 (omega (arith, within, all), is)),
)

-- their places are those of edges
pub placed-within : (edges : List Edge) (placed : List Placed) (k : ℕ) (d : Placed) → ArePlaced edges placed → k < length placed → (get_or placed k d).place < length edges
placed-within edges placed k d are within =
    let one = get_or placed k d in
    slice_get_within edges one.place one.edge ((are one).0 (Contains-get_or placed k d within))

-- ---- the distinct edges

abbrev edge_of : ℤ → ℤ → ℤ → ℤ → Edge
edge_of x0 y0 x1 y1 = record { x0 = x0; y0 = y0; x1 = x1; y1 = y1 }

-- edges that a test finds equal are one
pub edge-same : (one other : Edge) → (int_eq one.x0 other.x0 && (int_eq one.y0 other.y0 && (int_eq one.x1 other.x1 && int_eq one.y1 other.y1))) ≡ true → one ≡ other
edge-same one other test =
    let (x0, rest) = and_parts _ _ test in
    let (y0, ends) = and_parts _ _ rest in
    let (x1, y1) = and_parts _ _ ends in
    go (number_same one.x0 other.x0 x0) (number_same one.y0 other.y0 y0) (number_same one.x1 other.x1 x1) (number_same one.y1 other.y1 y1)
  where
    number_same : (x y : ℤ) → int_eq x y ≡ true → x ≡ y
    number_same x y is = (Decides-int_eq x y).0 is

    go : one.x0 ≡ other.x0 → one.y0 ≡ other.y0 → one.x1 ≡ other.x1 → one.y1 ≡ other.y1 → one ≡ other
    go x0 y0 x1 y1 =
        ap (λ (a : ℤ). edge_of a one.y0 one.x1 one.y1) x0
        ∙ ap (λ (a : ℤ). edge_of other.x0 a one.x1 one.y1) y0
        ∙ ap (λ (a : ℤ). edge_of other.x0 other.y0 a one.y1) x1
        ∙ ap (λ (a : ℤ). edge_of other.x0 other.y0 other.x1 a) y1

-- They are edges of the list, and the likes of the first so many stand among them where it is told at their places.
pub record AreLikes (edges : List Edge) (placed : List Placed) (k : ℕ) (distinct : List Edge) (places : List ℕ) : Type 0 where
  pub size : length places ≡ length edges
  pub among : (edge : Edge) → Contains distinct edge → Contains edges edge
  pub like : (j : ℕ) (d : Placed) → j < k → slice_get distinct (get_or places (get_or placed j d).place 0) ≡ Some (get_or placed j d).edge

pub likes-none : (edges : List Edge) (placed : List Placed) (places : List ℕ) → length places ≡ length edges → AreLikes edges placed 0 [] places
likes-none edges placed places size = record {
  size = size;
  among = λ edge (k, within, is). absurd (omega (arith, within));
  like = λ j d below. absurd (omega (arith, below));
}

module _ (edges : List Edge) (placed : List Placed) (are : ArePlaced edges placed) where
  -- what stands at a place of the list
  stands-at : (k : ℕ) (d : Placed) → k < length placed → slice_get edges (get_or placed k d).place ≡ Some (get_or placed k d).edge
  stands-at k d within = (are (get_or placed k d)).0 (Contains-get_or placed k d within)

  module _ (k : ℕ) (d : Placed) (within : k < length placed) (distinct after : List Edge) (places : List ℕ) (so_far : AreLikes edges placed k distinct places) (place : ℕ) where
    abbrev last : Placed
    last = get_or placed k d

    abbrev told : List ℕ
    told = set places last.place place

    kept : (i : ℕ) (edge : Edge) → AppendsUnlessLast last.edge distinct after → slice_get distinct i ≡ Some edge → slice_get after i ≡ Some edge
    kept i edge (inl same) is = subst (λ (list : List Edge). slice_get list i ≡ Some edge) (sym same) is
    kept i edge (inr pushed) is = subst (λ (list : List Edge). slice_get list i ≡ Some edge) (sym pushed) (slice_get-append_kept distinct (last.edge ∷ []) i edge is)

    still_among : (edge : Edge) → AppendsUnlessLast last.edge distinct after → Contains after edge → Contains edges edge
    still_among edge (inl same) held = so_far.among edge (subst (λ (list : List Edge). Contains list edge) same held)
    still_among edge (inr pushed) held =
        ⊎_elim (so_far.among edge)
        (λ same. subst (Contains edges) same (held-at edges last.place last.edge (stands-at k d within)))
        (Contains-push_cases distinct last.edge edge (subst (λ (list : List Edge). Contains list edge) pushed held))

    -- one more
    pub likes-more : slice_get after place ≡ Some last.edge → AppendsUnlessLast last.edge distinct after → AreLikes edges placed (k + 1) after told
    likes-more at appends = record {
      size = length-set places last.place place ∙ so_far.size;
      among = λ edge. still_among edge appends;
      like = like;
    }
      where
        inside : last.place < length places
        inside = let below = placed-within edges placed k d are within in let size = so_far.size in omega (arith, below, size)

        like : (j : ℕ) (e : Placed) → j < k + 1 → slice_get after (get_or told (get_or placed j e).place 0) ≡ Some (get_or placed j e).edge
        like j e below =
            let one = get_or placed j e in
            elim (cases_eq one.place last.place) [
              | inl same ↦
                  let one_stands = stands-at j e (omega (arith, below, within)) in
                  let edge_is : last.edge ≡ one.edge = same_Some _ _ (sym (stands-at k d within) ∙ ap (slice_get edges) (sym same) ∙ one_stands) in
                  ap (λ (n : ℕ). slice_get after (get_or told n 0)) same ∙ ap (slice_get after) (get_or-set_same places last.place place 0 inside) ∙ at ∙ ap Some edge_is
              | inr differs ↦ elim (cases_lt j k) [
                | inl earlier ↦ ap (slice_get after) (get_or-set_other places last.place one.place place 0 differs) ∙ kept (get_or places one.place 0) one.edge appends (so_far.like j e earlier)
                | inr upto ↦
                    let is : j ≡ k = omega (arith, below, upto) in
                    let same : one ≡ last = ap (λ (n : ℕ). get_or placed n e) is ∙ get_or_default placed k e d within in
                    absurd (differs (ap (λ (p : Placed). p.place) same))
              ]
            ]

  -- all of them
  pub likes-all : (k : ℕ) (distinct : List Edge) (places : List ℕ) → length placed ≤ k → AreLikes edges placed k distinct places → AreDistinct edges distinct places
  likes-all k distinct places all likes = record {
    size = likes.size;
    same = λ edge. (
      λ held. let (place, stands) = place-of edges edge held in held-at distinct (get_or places place 0) edge (like place edge stands),
      likes.among edge,
    );
    like = like;
  }
    where
      like : (place : ℕ) (edge : Edge) → slice_get edges place ≡ Some edge → slice_get distinct (get_or places place 0) ≡ Some edge
      like place edge stands =
          let one : Placed = record { edge = edge; place = place } in
          let (j, within, is) = (are one).1 stands in
          subst (λ (p : Placed). slice_get distinct (get_or places p.place 0) ≡ Some p.edge) is (likes.like j one (omega (arith, within, all)))

-- the places are those of distinct edges
pub likes-within : (edges distinct : List Edge) (places : List ℕ) → AreDistinct edges distinct places → All (λ like. like < length distinct) places
likes-within edges distinct places are k d within =
    let none : Edge = record { x0 = pos 0; y0 = pos 0; x1 = pos 0; y1 = pos 0 } in
    let size = are.size in
    let edge = get_or edges k none in
    let inside = slice_get_within distinct (get_or places k 0) edge (are.like k edge (slice_get-get_or edges k none (omega (arith, within, size)))) in
    subst (λ (n : ℕ). n < length distinct) (get_or_default places k 0 d within) inside
