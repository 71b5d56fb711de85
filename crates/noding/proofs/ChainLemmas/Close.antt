-- Edges that come close: they do whichever is named first, and their boxes meet then.
use Rattle.std.proofs.Common.{◌≡◌, ◌⊎◌, inl, inr, ℕ, zero, suc, ◌<◌, ℤ, Bool, true, false, ◌||◌, List, [], ◌∷◌, ◌++◌, Some, get_or, length, map, refl, ap, sym, ◌∙◌, subst, ⊎_elim}
use Rattle.std.specs.Bool.{MatchBool, then_some}
use Rattle.std.specs.List.{All, slice_get}
use Rattle.std.specs.Option.{IfSome, option_map}
use Rattle.std.proofs.lemmas.List.Elements.{Contains-get_or}
use Rattle.std.proofs.lemmas.Option.{same_Some, slice_get-map, slice_get_within}
use Rattle.plane.specs.declared.edge.Edge.{Edge}
use Rattle.plane.specs.Meet.Boxes.{bounds_of}
use Rattle.plane.specs.Pairs.Bounds.{MeetInBoxes}
use Rattle.plane.specs.Pairs.Pairs.{ArePairs, ArePairsBetween, PairAt}
use Rattle.plane.proofs.MeetLemmas.Boxes.{meet-in_boxes}
use Rattle.noding.specs.Chains.{IsEnd}
use Rattle.noding.specs.Close.{ComeClose, HoldsEnd, PassesEnd, ShareEnd, item_of}
use Rattle.noding.specs.declared.close.CloseEdge.{CloseEdge}
use Rattle.noding.proofs.ChainLemmas.Beside.{LieNear-exchanged, close-near}
use Rattle.noding.proofs.SnapLemmas.Along.{Passes-in_box}

-- ---- whichever is named first

ShareEnd-exchanged : (one other : Edge) → ShareEnd one other → ShareEnd other one
ShareEnd-exchanged one other (x, y, of_one, of_other) = (x, y, of_other, of_one)

pub ComeClose-exchanged : (one other : Edge) → ComeClose one other → ComeClose other one
ComeClose-exchanged one other (inl (none, near)) = inl ((λ shared. none (ShareEnd-exchanged other one shared)), LieNear-exchanged one other near)
ComeClose-exchanged one other (inr (inl passes)) = inr (inr passes)
ComeClose-exchanged one other (inr (inr passes)) = inr (inl passes)

-- as the sweep asks it of items with boxes
pub close-in_boxes : MeetInBoxes (λ (it : CloseEdge). bounds_of it.edge) (λ (it other : CloseEdge). ComeClose it.edge other.edge)
close-in_boxes = record {
  proper = λ it. meet-in_boxes.proper it.edge;
  exchanged = λ it other. ComeClose-exchanged it.edge other.edge;
  near = λ it other close. (close-near it.edge other.edge close).0;
}

-- ---- items

edge_at : (edges : List Edge) (i : ℕ) (it : CloseEdge) → slice_get (map item_of edges) i ≡ Some it → slice_get edges i ≡ Some it.edge
edge_at [] i it is = cc
edge_at (edge ∷ edges) zero it is = ap Some (ap (λ (it : CloseEdge). it.edge) (same_Some _ _ is))
edge_at (edge ∷ edges) (suc i) it is = edge_at edges i it is

item_at : (edges : List Edge) (i : ℕ) (edge : Edge) → slice_get edges i ≡ Some edge → slice_get (map item_of edges) i ≡ Some (item_of edge)
item_at edges i edge is = slice_get-map item_of edges i ∙ ap (option_map item_of) is

-- pairs of items are pairs of edges
pub ArePairs-of_items : (edges : List Edge) (pairs : List (ℕ × ℕ)) → ArePairs (λ (it other : CloseEdge). ComeClose it.edge other.edge) (map item_of edges) pairs → ArePairs ComeClose edges pairs
ArePairs-of_items edges pairs are = record {
  once = are.once;
  exact = λ i j. (λ held. to i j ((are.exact i j).0 held), λ pair. (are.exact i j).1 (from i j pair));
}
  where
    to : (i j : ℕ) → PairAt (λ (it other : CloseEdge). ComeClose it.edge other.edge) (map item_of edges) i j → PairAt ComeClose edges i j
    to i j pair = record {
      one = pair.one.edge;
      other = pair.other.edge;
      rising = pair.rising;
      first = edge_at edges i pair.one pair.first;
      second = edge_at edges j pair.other pair.second;
      meet = pair.meet;
    }

    from : (i j : ℕ) → PairAt ComeClose edges i j → PairAt (λ (it other : CloseEdge). ComeClose it.edge other.edge) (map item_of edges) i j
    from i j pair = record {
      one = item_of pair.one;
      other = item_of pair.other;
      rising = pair.rising;
      first = item_at edges i pair.one pair.first;
      second = item_at edges j pair.other pair.second;
      meet = pair.meet;
    }

-- The pairs that a list without any gains are those of edges, or of items and others.
pub ArePairs-gained : (edges : List Edge) (items : List CloseEdge) (before after : List (ℕ × ℕ)) → items ≡ map item_of edges → before ≡ []
    → (pairs : List (ℕ × ℕ)) × (after ≡ before ++ pairs) × ArePairs (λ (it other : CloseEdge). ComeClose it.edge other.edge) items pairs → ArePairs ComeClose edges after
ArePairs-gained edges items before after of none (pairs, is, are) =
    subst (ArePairs ComeClose edges) (sym (is ∙ ap (λ (list : List (ℕ × ℕ)). list ++ pairs) none))
    (ArePairs-of_items edges pairs (subst (λ (items : List CloseEdge). ArePairs (λ (it other : CloseEdge). ComeClose it.edge other.edge) items pairs) of are))

pub ArePairsBetween-gained : {X Y : Type 0} (Meeting : X → Y → Type 0) (items : List X) (others : List Y) (before after : List (ℕ × ℕ)) → before ≡ []
    → (pairs : List (ℕ × ℕ)) × (after ≡ before ++ pairs) × ArePairsBetween Meeting items others pairs → ArePairsBetween Meeting items others after
ArePairsBetween-gained Meeting items others before after none (pairs, is, are) =
    subst (ArePairsBetween Meeting items others) (sym (is ∙ ap (λ (list : List (ℕ × ℕ)). list ++ pairs) none)) are

-- what a call answers where it tells so is what holds of it then
pub IfSome-told : {T : Type 0} (told : Bool) (value : T) (P : T → Type 0) (Told Else : Type 0) → (Told → P value) → MatchBool told Told Else → IfSome (then_some told value) P
IfSome-told true value P Told Else holds is = holds is
IfSome-told false value P Told Else holds is = tt

pub ArePairsBetween-within : {X Y : Type 0} (Meeting : X → Y → Type 0) (items : List X) (others : List Y) (pairs : List (ℕ × ℕ)) → ArePairsBetween Meeting items others pairs
    → All (λ pair. (pair.0 < length items) × (pair.1 < length others)) pairs
ArePairsBetween-within Meeting items others pairs are k d within =
    let pair = get_or pairs k d in
    let is = (are.exact pair.0 pair.1).0 (Contains-get_or pairs k d within) in
    (slice_get_within items pair.0 is.one is.first, slice_get_within others pair.1 is.other is.second)

-- and their places are places of edges
pub ArePairs-within : (edges : List Edge) (pairs : List (ℕ × ℕ)) → ArePairs ComeClose edges pairs → All (λ pair. (pair.0 < length edges) × (pair.1 < length edges)) pairs
ArePairs-within edges pairs are k d within =
    let pair = get_or pairs k d in
    let is = (are.exact pair.0 pair.1).0 (Contains-get_or pairs k d within) in
    (slice_get_within edges pair.0 is.one is.first, slice_get_within edges pair.1 is.other is.second)

-- ---- tests

-- one of two facts, by the tests of both: the first one holds
pub first_tested : (first : Bool) (P Q : Type 0) → MatchBool first P (¬ P) → first ≡ true → MatchBool first (P ⊎ Q) (¬ (P ⊎ Q))
first_tested true P Q is same = inl is
first_tested false P Q none same = absurd (cc)

-- or it doesn't, and the second one tells
pub either_tested : (first second : Bool) (P Q : Type 0) → MatchBool first P (¬ P) → MatchBool second Q (¬ Q) → first ≡ false → MatchBool second (P ⊎ Q) (¬ (P ⊎ Q))
either_tested false true P Q none is same = inr is
either_tested false false P Q none neither same = λ either. ⊎_elim none neither either
either_tested true second P Q is said same = absurd (cc)

-- both are told at once
pub both_tested : (first second : Bool) (P Q : Type 0) → MatchBool first P (¬ P) → MatchBool second Q (¬ Q) → MatchBool (first || second) (P ⊎ Q) (¬ (P ⊎ Q))
both_tested true second P Q is said = inl is
both_tested false true P Q none is = inr is
both_tested false false P Q none neither = λ either. ⊎_elim none neither either

-- an edge that passes an end of the other one has it in its box
pub held : (edge other : Edge) → ¬ (HoldsEnd edge other) → ¬ (PassesEnd edge other)
held edge other none (inl inside) = none (inl (Passes-in_box edge other.x0 other.y0 inside.0))
held edge other none (inr inside) = none (inr (Passes-in_box edge other.x1 other.y1 inside.0))

-- some point is an end of both edges where an end of the other one is an end of the one
pub shared : (one other : Edge) → IsEnd one other.x0 other.y0 ⊎ IsEnd one other.x1 other.y1 → ShareEnd one other
shared one other (inl is) = (other.x0, other.y0, is, inl (refl, refl))
shared one other (inr is) = (other.x1, other.y1, is, inr (refl, refl))

pub shared-from : (one other : Edge) → ShareEnd one other → IsEnd one other.x0 other.y0 ⊎ IsEnd one other.x1 other.y1
shared-from one other (x, y, of_one, inl (same_x, same_y)) = inl (subst (λ (a : ℤ). IsEnd one a other.y0) same_x (subst (λ (b : ℤ). IsEnd one x b) same_y of_one))
shared-from one other (x, y, of_one, inr (same_x, same_y)) = inr (subst (λ (a : ℤ). IsEnd one a other.y1) same_x (subst (λ (b : ℤ). IsEnd one x b) same_y of_one))

pub ShareEnd-tested : (one other : Edge) (first second : Bool) → MatchBool first (IsEnd one other.x0 other.y0) (¬ (IsEnd one other.x0 other.y0)) → MatchBool second (IsEnd one other.x1 other.y1) (¬ (IsEnd one other.x1 other.y1)) → first ≡ false
    → MatchBool second (ShareEnd one other) (¬ (ShareEnd one other))
ShareEnd-tested one other first second start end same =
    go second (either_tested first second (IsEnd one other.x0 other.y0) (IsEnd one other.x1 other.y1) start end same)
  where
    go : (b : Bool) → MatchBool b (IsEnd one other.x0 other.y0 ⊎ IsEnd one other.x1 other.y1) (¬ (IsEnd one other.x0 other.y0 ⊎ IsEnd one other.x1 other.y1)) → MatchBool b (ShareEnd one other) (¬ (ShareEnd one other))
    go true is = shared one other is
    go false none = λ is. none (shared-from one other is)
