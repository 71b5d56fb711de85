-- Where parts lie.
use Rattle.std.proofs.Common.{◌≡◌, ◌⊎◌, inl, inr, ℕ, suc, ◌+◌, ◌-◌, ◌<◌, pos, ◌+ℤ◌, ◌<ℤ◌, ◌≤ℤ◌, Bool, IsTrue, List, [], ◌∷◌, ◌++◌, length, get_or, take, drop, refl, sym, ap, ap₂, ◌∙◌, append_assoc, subst, subst₂, arith}
use Rattle.std.specs.List.{All, AllZip, Contains}
use Rattle.std.proofs.Math.Seq.{drop-append_seam}
use Rattle.std.proofs.lemmas.Int.{by_lt_z, ints}
use Rattle.std.proofs.lemmas.List.{take_more}
use Rattle.std.proofs.lemmas.List.Elements.{All-nil, All-cons}
use Rattle.std.proofs.lemmas.List.Kept.{AllPairs-cons}
use Rattle.i_tree.proofs.RootLemmas.Joined.{AllPairs-nil}
use Rattle.plane.specs.declared.point.Point.{Point}
use Rattle.overlay.specs.Contours.Outlines.{ring_point}
use Rattle.monotone_chains.specs.Stretches.{Falls, IsLong, Rises}
use Rattle.monotone_chains.specs.Stretches.Cut.{IsPart, way}
use Rattle.monotone_chains.specs.Stretches.Spans.{AppendsSpans, AreFar, HasHeights, IsSpan}
use Rattle.monotone_chains.specs.declared.stretches.parts.Part.{Part}
use Rattle.monotone_chains.specs.declared.stretches.spans.Heights.{Heights}
use Rattle.monotone_chains.specs.declared.stretches.spans.Span.{Span}
use Rattle.overlay.proofs.BoundaryLemmas.Broken.{rest-is, zip-append}
use Rattle.noding.proofs.ChainLemmas.Zips.{AllZip-more}
use Rattle.monotone_chains.proofs.StretchLemmas.CutRows.{All-way, from_held, to_held, rise_within, rise_opens, rise_closes, fall_within, fall_opens, fall_closes}
use Rattle.monotone_chains.proofs.StretchLemmas.CutWays.{length-way, way-last}

-- ---- a single edge that stands upright

record IsUpright (part : Part) : Type 0 where
  none : part.inner.now ≡ []
  same : part.from.x ≡ part.to.x

two : (R : Point → Point → Type 0) (p q : Point) → R p q → (let points = p ∷ q ∷ [] in (i j : ℕ) (d : Point) → i < j → j < length points → R (get_or points i d) (get_or points j d))
two R p q is = AllPairs-cons R p (q ∷ []) (All-cons (R p) q [] is (All-nil (R p))) (AllPairs-cons R q [] (All-nil (R q)) (AllPairs-nil R))

part-along : (part : Part) → IsPart part → IsUpright part ⊎ (Rises (way part) ⊎ Falls (way part))
part-along part is = on is.along
  where
    single : (points : List Point) → points ≡ [] → Rises (part.from ∷ part.to ∷ []) ⊎ Falls (part.from ∷ part.to ∷ []) → Rises (part.from ∷ (points ++ part.to ∷ [])) ⊎ Falls (part.from ∷ (points ++ part.to ∷ []))
    single points none along = subst (λ (list : List Point). Rises (part.from ∷ (list ++ part.to ∷ [])) ⊎ Falls (part.from ∷ (list ++ part.to ∷ []))) (sym none) along

    empty : (points : List Point) → length points ≡ 0 → points ≡ []
    empty [] size = refl
    empty (p ∷ points) size = absurd (omega (arith, size))

    on : (length (way part) ≡ 2) ⊎ (Rises (way part) ⊎ Falls (way part)) → IsUpright part ⊎ (Rises (way part) ⊎ Falls (way part))
    on (inr along) = inr along
    on (inl small) =
        let none = empty part.inner.now (omega (arith, small, length-way part)) in
        by_lt_z part.from.x part.to.x
        (λ right. inr (single part.inner.now none (inl (two (λ p q. p.x <ℤ q.x) part.from part.to right))))
        (λ upto. by_lt_z part.to.x part.from.x
        (λ left. inr (single part.inner.now none (inr (two (λ p q. q.x <ℤ p.x) part.from part.to left))))
        (λ from. inl (record { none = none; same = omega (arith, ints, upto, from) })))

upright : (part : Part) → IsUpright part → All (λ p. p.x ≡ part.from.x) (way part)
upright part up =
    All-way (λ p. p.x ≡ part.from.x) part refl (sym up.same)
    (subst (All (λ p. p.x ≡ part.from.x)) (sym up.none) (All-nil (λ p. p.x ≡ part.from.x)))

level : (p q : Point) → p.x ≡ q.x → AreFar p q → ⊥
level p q same (inl right) = omega (arith, ints, same, right)
level p q same (inr left) = omega (arith, ints, same, left)

-- ---- the span of a part

module _ (part : Part) (is : IsPart part) (heights : Heights) (several opens closes : Bool)
    (high : All (HasHeights heights) (way part)) (many : IsLong (way part) → IsTrue several)
    (far : IsTrue opens → AreFar part.from (ring_point (way part) 1)) (far_too : IsTrue closes → AreFar (ring_point (way part) (length part.inner.now)) part.to)
    (fits : part.from.x ≤ℤ pos 2147483647) (fits_too : part.to.x ≤ℤ pos 2147483647) (fits_low : heights.low ≤ℤ pos 2147483647) where
  abbrev points : List Point
  points = way part

  abbrev last : ℕ
  last = suc (length part.inner.now)

  some : 0 < last
  some = omega arith

  size : length points ≡ last + 1
  size = omega (arith, length-way part)

  abbrev none : Point
  none = record { x = pos 0; y = pos 0 }

  stops : get_or points last none ≡ part.to
  stops = way-last part none

  before : get_or points (last - 1) none ≡ ring_point points (length part.inner.now)
  before = ap (λ (n : ℕ). get_or points n none) (let e : last - 1 ≡ length part.inner.now = omega arith in e)

  to_x : (get_or points last none).x ≡ part.to.x
  to_x = ap (λ (p : Point). p.x) stops

  before_x : (get_or points (last - 1) none).x ≡ (ring_point points (length part.inner.now)).x
  before_x = ap (λ (p : Point). p.x) before

  span-of : (left right : Point) (first second : Bool) → left.x ≤ℤ pos 2147483647 → Contains points left → Contains points right → All (λ p. (left.x ≤ℤ p.x) × (p.x ≤ℤ right.x)) points
      → (IsTrue first → All (λ p. (p ≡ left) ⊎ ((left.x +ℤ pos 1) <ℤ p.x)) points) → (IsTrue second → All (λ p. (p ≡ right) ⊎ ((p.x +ℤ pos 1) <ℤ right.x)) points)
      → IsSpan part (record { left = left; right = right; low = heights.low; high = heights.high; opens = first; closes = second; several = several })
  span-of left right first second small left_held right_held within on_left on_right = record {
    left = left_held;
    right = right_held;
    within = λ k e inside. record {
      left = (within k e inside).0;
      right = (within k e inside).1;
      low = (high k e inside).low;
      high = (high k e inside).high;
    };
    leftmost = on_left;
    rightmost = on_right;
    several = many;
    fits = (small, fits_low);
  }

  held_from : Contains points part.from
  held_from = from_held points last some size none

  held_to : Contains points part.to
  held_to = subst (Contains points) stops (to_held points last some size none)

  not_opens : IsUpright part → IsTrue opens → ⊥
  not_opens up set = level part.from part.to up.same (subst (AreFar part.from) (ap (λ (list : List Point). ring_point (part.from ∷ (list ++ part.to ∷ [])) 1) up.none) (far set))

  not_closes : IsUpright part → IsTrue closes → ⊥
  not_closes up set = level part.from part.to up.same (subst (λ (p : Point). AreFar p part.to) (ap (λ (list : List Point). ring_point (part.from ∷ (list ++ part.to ∷ [])) (length list)) up.none) (far_too set))

  pub span-forth : part.from.x ≤ℤ part.to.x → IsSpan part (record { left = part.from; right = part.to; low = heights.low; high = heights.high; opens = opens; closes = closes; several = several })
  span-forth order = on (part-along part is)
    where
      on : IsUpright part ⊎ (Rises points ⊎ Falls points) → IsSpan part (record { left = part.from; right = part.to; low = heights.low; high = heights.high; opens = opens; closes = closes; several = several })
      on (inl up) =
          let same = up.same in
          span-of part.from part.to opens closes fits held_from held_to
          (λ k e inside. let p = upright part up k e inside in (omega (arith, ints, p), omega (arith, ints, p, same)))
          (λ set. absurd (not_opens up set)) (λ set. absurd (not_closes up set))
      on (inr (inl rises)) = span-of part.from part.to opens closes fits held_from held_to
          (subst (λ (b : Point). All (λ p. (part.from.x ≤ℤ p.x) × (p.x ≤ℤ b.x)) points) stops (rise_within points last some size none rises))
          (λ set. rise_opens points last some size none rises (step (far set)))
          (λ set. subst (λ (b : Point). All (λ p. (p ≡ b) ⊎ ((p.x +ℤ pos 1) <ℤ b.x)) points) stops (rise_closes points last some size none rises (step_last (far_too set))))
        where
          step : AreFar part.from (ring_point points 1) → (part.from.x +ℤ pos 1) <ℤ (get_or points 1 none).x
          step (inl right) = right
          step (inr left) =
              let up = rises 0 1 none (omega arith) (let n = size in omega (arith, n)) in
              absurd (omega (arith, ints, left, up))

          step_last : AreFar (ring_point points (length part.inner.now)) part.to → ((get_or points (last - 1) none).x +ℤ pos 1) <ℤ (get_or points last none).x
          step_last (inl right) = let a = before_x in let b = to_x in omega (arith, ints, a, b, right)
          step_last (inr left) =
              let a = before_x in let b = to_x in
              let up = rises (last - 1) last none (omega arith) (let n = size in omega (arith, n)) in
              absurd (omega (arith, ints, a, b, left, up))
      on (inr (inr falls)) =
          let back = falls 0 last none (omega arith) (let n = size in omega (arith, n)) in
          let b = to_x in
          absurd (omega (arith, ints, order, back, b))

  pub span-back : part.to.x <ℤ part.from.x → IsSpan part (record { left = part.to; right = part.from; low = heights.low; high = heights.high; opens = closes; closes = opens; several = several })
  span-back order = on (part-along part is)
    where
      on : IsUpright part ⊎ (Rises points ⊎ Falls points) → IsSpan part (record { left = part.to; right = part.from; low = heights.low; high = heights.high; opens = closes; closes = opens; several = several })
      on (inl up) = absurd (let same = up.same in omega (arith, ints, order, same))
      on (inr (inl rises)) =
          let up = rises 0 last none (omega arith) (let n = size in omega (arith, n)) in
          let b = to_x in
          absurd (omega (arith, ints, order, up, b))
      on (inr (inr falls)) = span-of part.to part.from closes opens fits_too held_to held_from
          (subst (λ (a : Point). All (λ p. (a.x ≤ℤ p.x) × (p.x ≤ℤ part.from.x)) points) stops (fall_within points last some size none falls))
          (λ set. subst (λ (a : Point). All (λ p. (p ≡ a) ⊎ ((a.x +ℤ pos 1) <ℤ p.x)) points) stops (fall_opens points last some size none falls (step_last (far_too set))))
          (λ set. fall_closes points last some size none falls (step (far set)))
        where
          step : AreFar part.from (ring_point points 1) → ((get_or points 1 none).x +ℤ pos 1) <ℤ part.from.x
          step (inr left) = left
          step (inl right) =
              let down = falls 0 1 none (omega arith) (let n = size in omega (arith, n)) in
              absurd (omega (arith, ints, right, down))

          step_last : AreFar (ring_point points (length part.inner.now)) part.to → ((get_or points last none).x +ℤ pos 1) <ℤ (get_or points (last - 1) none).x
          step_last (inr left) = let a = before_x in let b = to_x in omega (arith, ints, a, b, left)
          step_last (inl right) =
              let a = before_x in let b = to_x in
              let down = falls (last - 1) last none (omega arith) (let n = size in omega (arith, n)) in
              absurd (omega (arith, ints, a, b, right, down))

-- ---- where several parts lie

-- the next part and its span
pub more-spans : (parts : List Part) (i : ℕ) (d : Part) (old so_far after : List Span) (span : Span) → i < length parts → after ≡ so_far ++ span ∷ [] → IsSpan (get_or parts i d) span
    → AppendsSpans (take i parts) old so_far → AppendsSpans (take (i + 1) parts) old after
more-spans parts i d old so_far after span inside pushed is (spans, zip, stands) = (
  spans ++ span ∷ [],
  subst (λ (done : List Part). AllZip IsSpan done (spans ++ span ∷ [])) (sym (take_more parts i d inside)) (AllZip-more IsSpan (take i parts) spans (get_or parts i d) span zip is),
  pushed ∙ ap (λ (list : List Span). list ++ span ∷ []) stands ∙ append_assoc old spans (span ∷ []),
)

-- behind none
pub only-spans : (parts : List Part) (old spans : List Span) → old ≡ [] → AppendsSpans parts old spans → AllZip IsSpan parts spans
only-spans parts old spans empty (more, zip, is) = subst (AllZip IsSpan parts) (sym (is ∙ ap (λ (list : List Span). list ++ more) empty)) zip

-- parts behind others
pub parts-behind : (parts parts' group : List Part) (start : ℕ) → start ≡ length parts → parts' ≡ parts ++ group → take (length parts' - start) (drop start parts') ≡ group
parts-behind parts parts' group start begins is = rest-is parts' parts' start refl ∙ ap₂ (λ (n : ℕ) (list : List Part). drop n list) begins is ∙ drop-append_seam parts group

-- and where they lie
pub spans-behind : (parts parts' group : List Part) (start : ℕ) (spans spans' : List Span) → start ≡ length parts → parts' ≡ parts ++ group → AllZip IsSpan parts spans
    → AppendsSpans (take (length parts' - start) (drop start parts')) spans spans' → AllZip IsSpan parts' spans'
spans-behind parts parts' group start spans spans' begins is so_far (more, zip, stands) =
    subst₂ (λ (all : List Part) (list : List Span). AllZip IsSpan all list) (sym is) (sym stands)
    (zip-append IsSpan parts group spans more so_far (subst (λ (list : List Part). AllZip IsSpan list more) (parts-behind parts parts' group start begins is) zip))

-- a part behind others, and where it lies
pub span-behind : (parts parts' : List Part) (part : Part) (spans spans' : List Span) (span : Span) → parts' ≡ parts ++ part ∷ [] → spans' ≡ spans ++ span ∷ [] → AllZip IsSpan parts spans → IsSpan part span
    → AllZip IsSpan parts' spans'
span-behind parts parts' part spans spans' span is stands so_far lies =
    subst₂ (λ (all : List Part) (list : List Span). AllZip IsSpan all list) (sym is) (sym stands) (AllZip-more IsSpan parts spans part span so_far lies)
