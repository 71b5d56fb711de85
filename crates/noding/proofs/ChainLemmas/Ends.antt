-- A chain is its edge's start, the nodes that the edge passes between its ends, and its end.
use Rattle.std.proofs.Common.{◌≡◌, ◌≢◌, ◌⊎◌, inl, inr, ℤ, Bool, true, false, List, [], ◌∷◌, ◌++◌, get_or, sym, ap, ap₂, ◌∙◌, subst, ⊎_elim}
use Rattle.std.specs.Bool.{MatchBool}
use Rattle.std.specs.List.{AllPairs, Contains}
use Rattle.std.proofs.lemmas.List.Elements.{Contains-append_left, Contains-get_or, Contains-push, Contains-push_cases}
use Rattle.std.proofs.lemmas.List.Kept.{AllPairs-cons}
use Rattle.std.proofs.lemmas.List.Quantifiers.{all_pairs_push}
use Rattle.i_tree.proofs.RootLemmas.Lists.{Contains-here, Contains-there}
use Rattle.plane.proofs.MeetLemmas.Along.{same_or_apart}
use Rattle.plane.proofs.PairsLemmas.Bags.{here_or_there}
use Rattle.plane.specs.declared.edge.Edge.{Edge}
use Rattle.plane.specs.declared.point.Point.{Point}
use Rattle.noding.specs.Chains.{IsAlong, IsEnd, Passes, Upto}
use Rattle.noding.specs.Close.{PassesInside}
use Rattle.noding.specs.Stops.{GoesToEnd}
use Rattle.plane.specs.Ends.{end_of, start_of}
use Rattle.noding.proofs.SnapLemmas.Along.{Upto-from_start, Upto-to_end, point_at}

-- what an edge passes is inside it where it is none of its ends
pub inside_by : (edge : Edge) (x y : ℤ) (end passed : Bool) → MatchBool end (IsEnd edge x y) (¬ (IsEnd edge x y)) → end ≡ false → MatchBool passed (Passes edge x y) (¬ (Passes edge x y)) → MatchBool passed (PassesInside edge x y) (¬ (PassesInside edge x y))
inside_by edge x y false true none same is = (is, none)
inside_by edge x y false false none same is = λ both. is both.0
inside_by edge x y true passed none same is = absurd (cc)

-- a point is the edge's start, or its end, or neither
data EndOr (edge : Edge) (c : Point) : Type 0 where
  is_start : c ≡ start_of edge → EndOr edge c
  is_end : c ≡ end_of edge → EndOr edge c
  neither : ¬ (IsEnd edge c.x c.y) → EndOr edge c

ends_of : (edge : Edge) (c : Point) → EndOr edge c
ends_of edge c = go (same_or_apart c.x edge.x0) (same_or_apart c.y edge.y0) (same_or_apart c.x edge.x1) (same_or_apart c.y edge.y1)
  where
    last : (c.x ≡ edge.x1) ⊎ (c.x ≢ edge.x1) → (c.y ≡ edge.y1) ⊎ (c.y ≢ edge.y1) → ¬ ((c.x ≡ edge.x0) × (c.y ≡ edge.y0)) → EndOr edge c
    last (inl x) (inl y) none = is_end (ap₂ point_at x y)
    last (inr x) y none = neither (λ end. ⊎_elim none (λ is. x is.0) end)
    last (inl x) (inr y) none = neither (λ end. ⊎_elim none (λ is. y is.1) end)

    go : (c.x ≡ edge.x0) ⊎ (c.x ≢ edge.x0) → (c.y ≡ edge.y0) ⊎ (c.y ≢ edge.y0) → (c.x ≡ edge.x1) ⊎ (c.x ≢ edge.x1) → (c.y ≡ edge.y1) ⊎ (c.y ≢ edge.y1) → EndOr edge c
    go (inl x) (inl y) x1 y1 = is_start (ap₂ point_at x y)
    go (inr x) y x1 y1 = last x1 y1 (λ is. x is.0)
    go (inl x) (inr y) x1 y1 = last x1 y1 (λ is. y is.1)

-- a whole point is an end of the edge, or it isn't
pub end_or_not : (edge : Edge) (x y : ℤ) → IsEnd edge x y ⊎ (¬ (IsEnd edge x y))
end_or_not edge x y = go (ends_of edge (point_at x y))
  where
    go : EndOr edge (point_at x y) → IsEnd edge x y ⊎ (¬ (IsEnd edge x y))
    go (is_start same) = inl (inl (ap (λ (p : Point). p.x) same, ap (λ (p : Point). p.y) same))
    go (is_end same) = inl (inr (ap (λ (p : Point). p.x) same, ap (λ (p : Point). p.y) same))
    go (neither none) = inr none

-- nodes of an edge that it passes, among them its ends, and the nodes between its ends in order
module _ (IsNode : ℤ → ℤ → Type 0) (edge : Edge) (passed : (x y : ℤ) → IsNode x y → Passes edge x y) (start_is : IsNode edge.x0 edge.y0) (end_is : IsNode edge.x1 edge.y1) (inner : List Point)
    (inner_in_order : AllPairs (λ c d. Upto edge c.x c.y d.x d.y) inner) (inner_once : AllPairs (λ c d. c ≢ d) inner)
    (of_inner : (c : Point) → Contains inner c → IsNode c.x c.y × PassesInside edge c.x c.y)
    (in_inner : (c : Point) → IsNode c.x c.y × PassesInside edge c.x c.y → Contains inner c) where
  abbrev front : List Point
  front = start_of edge ∷ inner

  front_in_order : AllPairs (λ c d. Upto edge c.x c.y d.x d.y) front
  front_in_order =
      AllPairs-cons (λ c d. Upto edge c.x c.y d.x d.y) (start_of edge) inner
      (λ k d within. let c = get_or inner k d in Upto-from_start edge c.x c.y (of_inner c (Contains-get_or inner k d within)).1.0)
      inner_in_order

  front_once : AllPairs (λ c d. c ≢ d) front
  front_once =
      AllPairs-cons (λ c d. c ≢ d) (start_of edge) inner
      (λ k d within same.
      let c = get_or inner k d in
      (of_inner c (Contains-get_or inner k d within)).1.1 (inl (sym (ap (λ (p : Point). p.x) same), sym (ap (λ (p : Point). p.y) same))))
      inner_once

  of_front : (c : Point) → Contains front c → IsNode c.x c.y
  of_front c held =
      ⊎_elim
      (λ same. subst (λ (p : Point). IsNode p.x p.y) same start_is)
      (λ among. (of_inner c among).0)
      (here_or_there (start_of edge) inner c held)

  in_front : (c : Point) → IsNode c.x c.y → Contains front c ⊎ (c ≡ end_of edge)
  in_front c node = go (ends_of edge c)
    where
      go : EndOr edge c → Contains front c ⊎ (c ≡ end_of edge)
      go (is_start same) = inl (subst (λ (p : Point). Contains front p) (sym same) (Contains-here (start_of edge) inner))
      go (is_end same) = inr same
      go (neither none) = inl (Contains-there (start_of edge) inner c (in_inner c (node, (passed c.x c.y node, none))))

  -- an edge that is a point has one end
  whole_point : start_of edge ≡ end_of edge → IsAlong IsNode edge front
  whole_point same = record {
    in_order = front_in_order;
    once = front_once;
    exact = λ c. (of_front c, λ is. ⊎_elim (λ among. among) (λ end. subst (λ (p : Point). Contains front p) (same ∙ sym end) (Contains-here (start_of edge) inner)) (in_front c is));
  }

  abbrev all : List Point
  all = front ++ end_of edge ∷ []

  in_order : AllPairs (λ c d. Upto edge c.x c.y d.x d.y) all
  in_order =
      all_pairs_push (λ c d. Upto edge c.x c.y d.x d.y) front (end_of edge) front_in_order
      (λ k d within. let c = get_or front k d in Upto-to_end edge c.x c.y (passed c.x c.y (of_front c (Contains-get_or front k d within))))

  once : start_of edge ≢ end_of edge → AllPairs (λ c d. c ≢ d) all
  once apart =
      all_pairs_push (λ c d. c ≢ d) front (end_of edge) front_once
      (λ k d within same. go (get_or front k d) same (here_or_there (start_of edge) inner (get_or front k d) (Contains-get_or front k d within)))
    where
      go : (c : Point) → c ≡ end_of edge → ¬ ((start_of edge ≡ c) ⊎ Contains inner c)
      go c same (inl start) = apart (start ∙ same)
      go c same (inr among) = (of_inner c among).1.1 (inr (ap (λ (p : Point). p.x) same, ap (λ (p : Point). p.y) same))

  of_all : (c : Point) → Contains all c → IsNode c.x c.y
  of_all c held =
      ⊎_elim (of_front c) (λ same. subst (λ (p : Point). IsNode p.x p.y) same end_is) (Contains-push_cases front (end_of edge) c held)

  in_all : (c : Point) → IsNode c.x c.y → Contains all c
  in_all c is =
      ⊎_elim (Contains-append_left front (end_of edge ∷ []) c) (λ same. subst (λ (p : Point). Contains all p) (sym same) (Contains-push front (end_of edge))) (in_front c is)

  pub IsAlong-ends : (chain : List Point) → GoesToEnd edge (start_of edge ∷ inner) chain → IsAlong IsNode edge chain
  IsAlong-ends chain (inl (point, is)) = subst (IsAlong IsNode edge) (sym is) (whole_point point)
  IsAlong-ends chain (inr (apart, is)) =
      subst (IsAlong IsNode edge) (sym is) (record {
        in_order = in_order;
        once = once apart;
        exact = λ c. (of_all c, in_all c);
      })
