-- Edges in the order of their starts.
use Rattle.std.proofs.Common.{◌≡◌, ◌≢◌, inl, inr, ℕ, ◌<◌, ◌≤◌, ℤ, ◌≤ℤ◌, ◌<ℤ◌, false, List, get_or, length, Ordering, Less, Equal, Greater, refl, sym, ap, ap₂, ◌∙◌, subst, arith}
use denote.Param.Members.{Mut}
use denote.Ref.{Bor}
use Rattle.std.specs.Fn.{Called}
use Rattle.std.specs.List.Sorted.{IsSortedBy, IsSortedByClosure}
use Rattle.std.specs.Ordering.{MatchOrdering, int_cmp, ordering_then, is_lt}
use Rattle.std.proofs.lemmas.Bool.{cases_lt}
use Rattle.std.proofs.lemmas.Cmp.{int_ranked}
use Rattle.std.proofs.lemmas.Int.{ints}
use Rattle.std.proofs.lemmas.List.Sorted.{answers_always, ranks_by, sorted_far}
use Rattle.plane.specs.declared.edge.Edge.{Edge}
use Rattle.plane.specs.declared.point.Point.{Point}
use Rattle.overlay.specs.Contours.Order.{AreInOrder, IsBehind, IsCorner, IsFirstFrom, point_at}
use Rattle.plane.specs.contracts.point.PointOrd.TheImpl.{ghosts as point_order}
use Rattle.plane.specs.contracts.point.PointOrd.TheImpl.Laws.{total-law as point_total}

-- ---- points

abbrev pub point : ℤ → ℤ → Point
point x y = record { x = x; y = y }

pub IsBehind-same : (p q : Point) → p ≡ q → IsBehind p q
IsBehind-same p q same = let x = ap (λ (r : Point). r.x) same in let y = ap (λ (r : Point). r.y) same in inr (x, omega (arith, ints, y))

pub IsBehind-both : (p q : Point) → IsBehind p q → IsBehind q p → p ≡ q
IsBehind-both p q (inl one) (inl other) = absurd (omega (arith, ints, one, other))
IsBehind-both p q (inl one) (inr (other, y)) = absurd (omega (arith, ints, one, other))
IsBehind-both p q (inr (x, one)) (inl other) = absurd (omega (arith, ints, x, other))
IsBehind-both p q (inr (x, one)) (inr (other, y)) = let same : p.y ≡ q.y = omega (arith, ints, one, y) in ap₂ point x same

pub IsBehind-trans : (p q r : Point) → IsBehind p q → IsBehind q r → IsBehind p r
IsBehind-trans p q r (inl one) (inl other) = inl (omega (arith, ints, one, other))
IsBehind-trans p q r (inl one) (inr (other, y)) = inl (omega (arith, ints, one, other))
IsBehind-trans p q r (inr (x, one)) (inl other) = inl (omega (arith, ints, x, other))
IsBehind-trans p q r (inr (x, one)) (inr (other, y)) = inr (x ∙ other, omega (arith, ints, one, y))

-- ---- the sort by starts

not_less-y : (y y' : ℤ) (o : Ordering) → MatchOrdering o (y' <ℤ y) (y' ≡ y) (y <ℤ y') → is_lt o ≡ false → y ≤ℤ y'
not_less-y y y' Less said is = absurd cc
not_less-y y y' Equal said is = omega (arith, ints, said)
not_less-y y y' Greater said is = omega (arith, ints, said)

not_less : (x y x' y' : ℤ) (o : Ordering) → MatchOrdering o (x' <ℤ x) (x' ≡ x) (x <ℤ x') → is_lt (ordering_then o (int_cmp y' y)) ≡ false → IsBehind (point x y) (point x' y')
not_less x y x' y' Less said is = absurd cc
not_less x y x' y' Equal said is = inr (sym said, not_less-y y y' (int_cmp y' y) (int_ranked y' y (int_cmp y' y) refl) is)
not_less x y x' y' Greater said is = inl said

-- of things in the order of their points, none is at a point before that of one that stands before it
behind-sorted : {X : Type 0} (point_of : X → Point) (xs : List X) → IsSortedBy (λ one other. is_lt (point_order.cmp (point_of one) (point_of other))) xs
    → (i j : ℕ) (d : X) → i ≤ j → j < length xs → IsBehind (point_of (get_or xs i d)) (point_of (get_or xs j d))
behind-sorted {X = X} point_of xs rising i j d upto within =
    let one = point_of (get_or xs i d) in
    let other = point_of (get_or xs j d) in
    let far = sorted_far (λ a b. is_lt (point_order.cmp (point_of a) (point_of b))) (ranks_by point_total point_of) xs rising i j d upto within in
    not_less one.x one.y other.x other.y (int_cmp other.x one.x) (int_ranked other.x one.x (int_cmp other.x one.x) refl) far

-- what the sort ensures
pub behind-from_sort : {X : Type 0} (point_of : X → Point) {F : Type 0} {g : Mut F (Bor X × (Bor X × Unit {0})) Ordering} {f : F} (xs : List X)
    → IsSortedByClosure g f xs
    → ((f : F) (a : Bor X × (Bor X × Unit {0})) (r : Ordering) (f' : F) → Called g f a r f' → r ≡ point_order.cmp (point_of a.0.now) (point_of a.1.0.now))
    → (i j : ℕ) (d : X) → i ≤ j → j < length xs → IsBehind (point_of (get_or xs i d)) (point_of (get_or xs j d))
behind-from_sort {X = X} point_of {g = g} {f = f} xs rising answers =
    let less = λ (one other : X). is_lt (point_order.cmp (point_of one) (point_of other)) in
    behind-sorted point_of xs
    (rising less (ranks_by point_total point_of) (answers_always g (λ a r. is_lt r ≡ less a.0.now a.1.0.now) f (λ f a r f' called. ap is_lt (answers f a r f' called))))

-- ---- where the edges stand that start at a point

module _ (sorted : List Edge) (order : AreInOrder sorted) (at : Point) (first : ℕ) (from : IsFirstFrom sorted at first) where
  -- none before
  pub from-first : (k : ℕ) → point_at sorted k ≡ at → first ≤ k
  from-first k is = elim (cases_lt k first) [
    | inl before ↦ absurd (from.before k before (IsBehind-same at (point_at sorted k) (sym is)))
    | inr upto ↦ upto
  ]

  -- and none behind one that starts elsewhere
  pub upto-other : (end k : ℕ) → first ≤ end → end < length sorted → point_at sorted end ≢ at → k < length sorted → point_at sorted k ≡ at → k < end
  upto-other end k upto inside other within is = elim (cases_lt k end) [
    | inl before ↦ before
    | inr later ↦
        let behind = subst (λ (p : Point). IsBehind (point_at sorted end) p) is (order end k later within) in
        absurd (other (IsBehind-both (point_at sorted end) at behind (from.behind end upto inside)))
  ]

  -- if there is one, the first of them stands for the point
  pub corner-from : (k : ℕ) → k < length sorted → point_at sorted k ≡ at → (point_at sorted first ≡ at) × IsCorner sorted first
  corner-from k within is =
      let upto = from-first k is in
      let inside : first < length sorted = omega (arith, upto, within) in
      let behind = subst (λ (p : Point). IsBehind (point_at sorted first) p) is (order first k upto within) in
      let same : point_at sorted first ≡ at = IsBehind-both (point_at sorted first) at behind (from.behind first (omega arith) inside) in (
        same,
        record {
          inside = inside;
          first = λ i before equal. from.before i before (IsBehind-same at (point_at sorted i) (sym (equal ∙ same)));
        },
      )
