-- Parts whose spans don't meet are clear of each other, and so are points of the one and points of the other.
use Rattle.std.proofs.Common.{◌≡◌, ◌⊎◌, inl, inr, ⊎_elim, suc, pos, negsuc, ◌+ℤ◌, ◌<ℤ◌, List, [], ◌∷◌, sym, ap, subst, arith}
use Rattle.std.specs.List.{All, Contains}
use Rattle.std.proofs.lemmas.Int.{by_lt_z, ints}
use Rattle.std.proofs.lemmas.List.Elements.{All-nil, All-cons, All-contains, All-head, All-tail, All-weaker}
use Rattle.plane.specs.declared.point.Point.{Point}
use Rattle.monotone_chains.specs.Stretches.{AreClear, AreApart, GoesOn, IsLong}
use Rattle.monotone_chains.specs.Stretches.Cut.{AreClearParts, way}
use Rattle.monotone_chains.specs.Stretches.Spans.{AreSeveral, IsSpan, IsWithin, LeadsTo, SpansMeet, bounds_of_span}
use Rattle.monotone_chains.specs.declared.stretches.parts.Part.{Part}
use Rattle.monotone_chains.specs.declared.stretches.spans.Span.{Span}
use Rattle.monotone_chains.proofs.StretchLemmas.Apart.{AreApart-exchanged}
use Rattle.monotone_chains.proofs.StretchLemmas.CutTests.{apart-boxes, leads_or}

-- ---- apart, or going on

-- some point is this one, or all are others
this_more : (c : Point) (P : Point → Type 0) (p : Point) (points : List Point) → (p ≡ c) ⊎ P p → Contains points c ⊎ All P points → Contains (p ∷ points) c ⊎ All P (p ∷ points)
this_more c P p points (inl same) rest = inl (0, omega arith, same)
this_more c P p points (inr is) (inl (k, within, at)) = inl (suc k, omega (arith, within), at)
this_more c P p points (inr is) (inr others) = inr (All-cons P p points is others)

this_or : (c : Point) (P : Point → Type 0) (points : List Point) → All (λ p. (p ≡ c) ⊎ P p) points → Contains points c ⊎ All P points
this_or c P [] all = inr (All-nil P)
this_or c P (p ∷ points) all =
    this_more c P p points (All-head (λ q. (q ≡ c) ⊎ P q) p points all) (this_or c P points (All-tail (λ q. (q ≡ c) ⊎ P q) p points all))

apart_right : (some others : List Point) → ((p q : Point) → Contains some p → Contains others q → (p.x +ℤ pos 1) <ℤ q.x) → AreApart some others
apart_right some others order = record {
  u = pos 1;
  v = pos 0;
  beyond = λ p q held held'. let a = order p q held held' in omega (arith, ints, a);
}

module _ (one other : Part) (span next : Span) (is : IsSpan one span) (is_next : IsSpan other next)
    (some others : List Point) (of : All (Contains (way one)) some) (of_others : All (Contains (way other)) others) where
  within : (p : Point) → Contains some p → IsWithin span p
  within p held = All-contains (IsWithin span) (way one) p is.within (All-contains (Contains (way one)) some p of held)

  within_next : (q : Point) → Contains others q → IsWithin next q
  within_next q held = All-contains (IsWithin next) (way other) q is_next.within (All-contains (Contains (way other)) others q of_others held)

  left_of : (span.right.x +ℤ pos 1) <ℤ next.left.x → AreApart some others
  left_of order = record {
    u = pos 1;
    v = pos 0;
    beyond = λ p q held held'. let a = (within p held).right in let b = (within_next q held').left in omega (arith, ints, order, a, b);
  }

  right_of : (next.right.x +ℤ pos 1) <ℤ span.left.x → AreApart some others
  right_of order = record {
    u = negsuc 0;
    v = pos 0;
    beyond = λ p q held held'. let a = (within p held).left in let b = (within_next q held').right in omega (arith, ints, order, a, b);
  }

  below : (span.high +ℤ pos 1) <ℤ next.low → AreApart some others
  below order = record {
    u = pos 0;
    v = pos 1;
    beyond = λ p q held held'. let a = (within p held).high in let b = (within_next q held').low in omega (arith, ints, order, a, b);
  }

  above : (next.high +ℤ pos 1) <ℤ span.low → AreApart some others
  above order = record {
    u = pos 0;
    v = negsuc 0;
    beyond = λ p q held held'. let a = (within p held).low in let b = (within_next q held').high in omega (arith, ints, order, a, b);
  }

  -- the one ends where the other begins
  going : LeadsTo span next → (AreApart some others) ⊎ (GoesOn some others)
  going leads = on (this_or span.right (λ p. (p.x +ℤ pos 1) <ℤ span.right.x) some ends) (this_or span.right (λ q. (span.right.x +ℤ pos 1) <ℤ q.x) others begins)
    where
      ends : All (λ p. (p ≡ span.right) ⊎ ((p.x +ℤ pos 1) <ℤ span.right.x)) some
      ends = All-weaker (Contains (way one)) (λ p. (p ≡ span.right) ⊎ ((p.x +ℤ pos 1) <ℤ span.right.x)) (λ p held. All-contains (λ p. (p ≡ span.right) ⊎ ((p.x +ℤ pos 1) <ℤ span.right.x)) (way one) p (is.rightmost leads.closes) held) some of

      begins : All (λ q. (q ≡ span.right) ⊎ ((span.right.x +ℤ pos 1) <ℤ q.x)) others
      begins =
          subst (λ (e : Point). All (λ q. (q ≡ e) ⊎ ((e.x +ℤ pos 1) <ℤ q.x)) others) (sym leads.at)
          (All-weaker (Contains (way other)) (λ q. (q ≡ next.left) ⊎ ((next.left.x +ℤ pos 1) <ℤ q.x)) (λ q held. All-contains (λ q. (q ≡ next.left) ⊎ ((next.left.x +ℤ pos 1) <ℤ q.x)) (way other) q (is_next.leftmost leads.opens) held) others of_others)

      at_x : span.right.x ≡ next.left.x
      at_x = ap (λ (p : Point). p.x) leads.at

      left_near : (p : Point) → (p ≡ span.right) ⊎ ((p.x +ℤ pos 1) <ℤ span.right.x) → (p ≡ span.right) ⊎ (p.x <ℤ span.right.x)
      left_near p (inl same) = inl same
      left_near p (inr less) = inr (omega (arith, ints, less))

      right_near : (q : Point) → (q ≡ span.right) ⊎ ((span.right.x +ℤ pos 1) <ℤ q.x) → (q ≡ span.right) ⊎ (span.right.x <ℤ q.x)
      right_near q (inl same) = inl same
      right_near q (inr more) = inr (omega (arith, ints, more))

      on : Contains some span.right ⊎ All (λ p. (p.x +ℤ pos 1) <ℤ span.right.x) some → Contains others span.right ⊎ All (λ q. (span.right.x +ℤ pos 1) <ℤ q.x) others → (AreApart some others) ⊎ (GoesOn some others)
      on (inl held) (inl held_too) = inr (record {
        at = span.right;
        of = held;
        of_others = held_too;
        left = λ p inside. left_near p (All-contains (λ p. (p ≡ span.right) ⊎ ((p.x +ℤ pos 1) <ℤ span.right.x)) some p ends inside);
        right = λ q inside. right_near q (All-contains (λ q. (q ≡ span.right) ⊎ ((span.right.x +ℤ pos 1) <ℤ q.x)) others q begins inside);
      })
      on (inr before) second = inl (apart_right some others (λ p q held held'. let a = All-contains (λ p. (p.x +ℤ pos 1) <ℤ span.right.x) some p before held in let b = (within_next q held').left in omega (arith, ints, a, b, at_x)))
      on (inl held) (inr behind) = inl (apart_right some others (λ p q inside inside'. let a = (within p inside).right in let b = All-contains (λ q. (span.right.x +ℤ pos 1) <ℤ q.x) others q behind inside' in omega (arith, ints, a, b)))

pub clear-of_spans : (one other : Part) (span next : Span) → IsSpan one span → IsSpan other next → (SpansMeet span next → ⊥) → AreClearParts one other
clear-of_spans one other span next is is_next apart = λ several some others of of_others.
    by_lt_z (bounds_of_span next).right (bounds_of_span span).left
    (λ order. inl (right_of one other span next is is_next some others of of_others (apart-boxes next.left.x next.right.x span.left.x span.right.x is.fits.0 order)))
    (λ left. by_lt_z (bounds_of_span span).right (bounds_of_span next).left
    (λ order. inl (left_of one other span next is is_next some others of of_others (apart-boxes span.left.x span.right.x next.left.x next.right.x is_next.fits.0 order)))
    (λ right. by_lt_z (bounds_of_span next).high (bounds_of_span span).low
    (λ order. inl (above one other span next is is_next some others of of_others (apart-boxes next.low next.high span.low span.high is.fits.1 order)))
    (λ low. by_lt_z (bounds_of_span span).high (bounds_of_span next).low
    (λ order. inl (below one other span next is is_next some others of of_others (apart-boxes span.low span.high next.low next.high is_next.fits.1 order)))
    (λ high. elim (leads_or span next) [
      | inl leads ↦ forth some others (going one other span next is is_next some others of of_others leads)
      | inr before ↦ elim (leads_or next span) [
        | inl leads ↦ back some others (going other one next span is_next is others some of_others of leads)
        | inr after ↦ absurd (apart (record {
          near = record {
            several = many several;
            boxes = record { left = left; right = right; low = low; high = high };
          };
          apart = λ either. ⊎_elim before after either;
        }))
      ]
    ]))))
  where
    forth : (some others : List Point) → (AreApart some others) ⊎ (GoesOn some others) → AreClear some others
    forth some others (inl apart) = inl apart
    forth some others (inr goes) = inr (inl goes)

    back : (some others : List Point) → (AreApart others some) ⊎ (GoesOn others some) → AreClear some others
    back some others (inl apart) = inl (AreApart-exchanged others some apart)
    back some others (inr goes) = inr (inr goes)

    many : IsLong (way one) ⊎ IsLong (way other) → AreSeveral span next
    many (inl more) = inl (is.several more)
    many (inr more) = inr (is_next.several more)
