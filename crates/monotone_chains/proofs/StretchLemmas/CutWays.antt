-- The points along which parts go, and parts of points.
use Rattle.std.proofs.Common.{◌≡◌, ◌⊎◌, inl, inr, ℕ, suc, ◌+◌, ◌-◌, ◌<◌, ◌≤◌, pos, ◌<ℤ◌, true, List, [], ◌∷◌, ◌++◌, length, get_or, take, drop, refl, sym, ap, ap₂, ◌∙◌, subst, arith}
use Rattle.std.specs.List.{All, AllPairs, between}
use Rattle.std.proofs.lemmas.Bool.{cases_lt}
use Rattle.std.proofs.lemmas.Int.{ints}
use Rattle.std.proofs.lemmas.List.{drop-append-le, drop_more, get_or_at, get_or_default, length-drop, length_push, nil_from_length, take-append-drop, take-append-le, take_all}
use Rattle.std.proofs.lemmas.List.Edits.{get_or-between, length-between}
use Rattle.std.proofs.lemmas.List.Elements.{All-cons, All-nil}
use Rattle.std.proofs.lemmas.List.Quantifiers.{all_pairs_push}
use Rattle.std.proofs.lemmas.Slice.{between_from_start}
use Rattle.i_tree.proofs.RootLemmas.Joined.{AllPairs-behind, AllPairs-front}
use Rattle.i_tree.proofs.RootLemmas.Lists.{filter_all}
use Rattle.plane.specs.declared.edge.Edge.{Edge}
use Rattle.plane.specs.declared.point.Point.{Point}
use Rattle.overlay.specs.Contours.Outlines.{ring_point}
use Rattle.overlay.specs.Contours.Rings.{has_two_ends, real_edges}
use Rattle.plane.specs.Ends.{edge_between}
use Rattle.noding.specs.Windings.{pieces}
use Rattle.monotone_chains.specs.Stretches.{Falls, IsStretch, Rises}
use Rattle.monotone_chains.specs.Stretches.Cut.{IsPart, IsPoint, way}
use Rattle.monotone_chains.specs.declared.stretches.parts.Part.{Part}
use Rattle.noding.proofs.ChainLemmas.Runs.{between-more}
use Rattle.overlay.proofs.ContourLemmas.RealEdges.{two_ends-differ}
use Rattle.overlay.proofs.ContourLemmas.Rings.{pieces-append}
use Rattle.monotone_chains.proofs.StretchLemmas.CutLists.{between-joined}
use Rattle.monotone_chains.proofs.StretchLemmas.NodedWays.{at-pieces}

-- ---- the points of a part, by place

pub length-way : (part : Part) → length (way part) ≡ suc (suc (length part.inner.now))
length-way part = omega (arith, length_push part.inner.now part.to)

pub way-last : (part : Part) (d : Point) → get_or (way part) (suc (length part.inner.now)) d ≡ part.to
way-last part d = get_or_at part.inner.now part.to [] d (length part.inner.now) refl

-- ---- items in a row

module _ {X : Type 0} where
  -- all of them
  pub between-all : (items : List X) (n : ℕ) → length items ≤ n → between 0 n items ≡ items
  between-all items n upto = between_from_start items n ∙ take_all n items upto

  -- the first one apart
  between-first : (start end : ℕ) (items : List X) (d : X) → start < end → start < length items → between start end items ≡ get_or items start d ∷ between (start + 1) end items
  between-first start end items d some within =
      ap₂ (λ (n : ℕ) (rest : List X). take n rest) (let n : end - start ≡ suc (end - (start + 1)) = omega (arith, some) in n) (drop_more items start d within)

  -- and the last one
  pub between-ends : (from upto : ℕ) (items : List X) (d : X) → from < upto → upto < length items
      → between from (upto + 1) items ≡ get_or items from d ∷ (between (from + 1) upto items ++ get_or items upto d ∷ [])
  between-ends from upto items d some within =
      between-first from (upto + 1) items d (omega (arith, some)) (omega (arith, some, within))
      ∙ ap (λ (rest : List X). get_or items from d ∷ rest) (between-more (from + 1) upto items d (omega (arith, some)) within)

  -- what holds of each two of them
  AllPairs-between : (R : X → X → Type 0) (start end : ℕ) (items : List X) → AllPairs R items → AllPairs R (between start end items)
  AllPairs-between R start end items all =
      AllPairs-front R (between start end items) (drop (end - start) (drop start items))
      (subst (AllPairs R) (sym (take-append-drop (end - start) (drop start items)))
      (AllPairs-behind R (take start items) (drop start items) (subst (AllPairs R) (sym (take-append-drop start items)) all)))

-- ---- parts of points, and of a part

-- the points of a part of a part: those at both places, and the inner ones between them
pub way-within : (part : Part) (from upto : ℕ) → from < upto → upto ≤ suc (length part.inner.now)
    → ring_point (way part) from ∷ (between from (upto - 1) part.inner.now ++ ring_point (way part) upto ∷ []) ≡ between from (upto + 1) (way part)
way-within part from upto some within =
    ap (λ (points : List Point). ring_point (way part) from ∷ (points ++ ring_point (way part) upto ∷ [])) (sym inside)
    ∙ sym (between-ends from upto (way part) _ some (omega (arith, within, length-way part)))
  where
    inside : between (from + 1) upto (way part) ≡ between from (upto - 1) part.inner.now
    inside =
        ap₂ (λ (n k : ℕ). take n (drop k (way part))) (let n : upto - (from + 1) ≡ (upto - 1) - from = omega (arith, some) in n) (let k : from + 1 ≡ suc from = omega arith in k)
        ∙ ap (λ (points : List Point). take ((upto - 1) - from) points) (drop-append-le from part.inner.now (part.to ∷ []) (omega (arith, some, within)))
        ∙ take-append-le ((upto - 1) - from) (drop from part.inner.now) (part.to ∷ []) (omega (arith, some, within, length-drop from part.inner.now))

-- points of a stretch in a row are one
pub IsStretch-within : (points : List Point) (from upto : ℕ) → from < upto → upto < length points → IsStretch points → IsStretch (between from (upto + 1) points)
IsStretch-within points from upto some within is = record { some = omega (arith, size, some); along = on is.along }
  where
    size : length (between from (upto + 1) points) ≡ (upto + 1) - from
    size = length-between points from (upto + 1) (omega (arith, within))

    on : (length points ≡ 2) ⊎ (Rises points ⊎ Falls points) → (length (between from (upto + 1) points) ≡ 2) ⊎ (Rises (between from (upto + 1) points) ⊎ Falls (between from (upto + 1) points))
    on (inl two) = inl (omega (arith, size, two, some, within))
    on (inr (inl rises)) = inr (inl (AllPairs-between (λ one later. one.x <ℤ later.x) from (upto + 1) points rises))
    on (inr (inr falls)) = inr (inr (AllPairs-between (λ one later. later.x <ℤ one.x) from (upto + 1) points falls))

-- ---- one point more along x

module _ (R : Point → Point → Type 0) (through : (p q r : Point) → R p q → R q r → R p r) where
  along-more : (points : List Point) (from end : ℕ) → from ≤ end → end + 1 < length points → AllPairs R (between from (end + 1) points)
      → R (ring_point points end) (ring_point points (end + 1)) → AllPairs R (between from ((end + 1) + 1) points)
  along-more points from end rising inside all step =
      subst (AllPairs R) (sym (between-more from (end + 1) points none (omega (arith, rising)) inside))
      (all_pairs_push R some next all (λ k d within. subst (λ (p : Point). R p next) (get_or_default some k none d within) (at k within)))
    where
      none : Point
      none = record { x = pos 0; y = pos 0 }

      some : List Point
      some = between from (end + 1) points

      next : Point
      next = ring_point points (end + 1)

      size : length some ≡ (end + 1) - from
      size = length-between points from (end + 1) (omega (arith, inside))

      last : get_or some (end - from) none ≡ ring_point points end
      last = get_or-between points from (end + 1) (end - from) none (omega (arith, rising)) ∙ ap (λ (n : ℕ). ring_point points n) (let n : from + (end - from) ≡ end = omega (arith, rising) in n)

      goes : R (get_or some (end - from) none) next
      goes = subst (λ (p : Point). R p next) (sym last) step

      at : (k : ℕ) → k < length some → R (get_or some k none) next
      at k within = elim (cases_lt k (end - from)) [
        | inl earlier ↦ through (get_or some k none) (get_or some (end - from) none) next (all k (end - from) none earlier (omega (arith, size, rising))) goes
        | inr upto ↦
            let here : end - from ≡ k = omega (arith, within, size, upto) in
            subst (λ (n : ℕ). R (get_or some n none) next) here goes
      ]

pub rises-more : (points : List Point) (from end : ℕ) → from ≤ end → end + 1 < length points → Rises (between from (end + 1) points) → (ring_point points end).x <ℤ (ring_point points (end + 1)).x
    → Rises (between from ((end + 1) + 1) points)
rises-more = along-more (λ one later. one.x <ℤ later.x) (λ p q r one other. omega (arith, ints, one, other))

pub falls-more : (points : List Point) (from end : ℕ) → from ≤ end → end + 1 < length points → Falls (between from (end + 1) points) → (ring_point points (end + 1)).x <ℤ (ring_point points end).x
    → Falls (between from ((end + 1) + 1) points)
falls-more = along-more (λ one later. later.x <ℤ one.x) (λ p q r one other. omega (arith, ints, one, other))

-- ---- pieces of parts

-- those up to a point, and those from there on
pub pieces-joined : (from mid upto : ℕ) (points : List Point) → from ≤ mid → mid ≤ upto → upto < length points
    → pieces (between from (upto + 1) points) ≡ pieces (between from (mid + 1) points) ++ pieces (between mid (upto + 1) points)
pieces-joined from mid upto points first second within =
    let at = ring_point points mid in
    let begins = between-first mid (upto + 1) points _ (omega (arith, second)) (omega (arith, second, within)) in
    ap pieces (between-joined from mid (upto + 1) points first (omega (arith, second)) ∙ ap (λ (rest : List Point). between from mid points ++ rest) begins)
    ∙ pieces-append (between from mid points) at (between (mid + 1) (upto + 1) points)
    ∙ ap₂ (λ (one other : List Point). pieces one ++ pieces other) (sym (between-more from mid points _ first (omega (arith, second, within)))) (sym begins)

-- ---- edges of a part from a point to itself

pub real-way : (part : Part) → IsPart part → ¬ (IsPoint part) → real_edges (pieces (way part)) ≡ pieces (way part)
real-way part is isnt = filter_all has_two_ends (pieces (way part)) (on is.along)
  where
    apart : (point later : Point) → (point.x ≡ later.x → ⊥) → has_two_ends (edge_between point later) ≡ true
    apart point later differ = two_ends-differ (edge_between point later) (λ same. differ same.0)

    -- where x goes on from each point to the next
    along : (R : Point → Point → Type 0) → ((point later : Point) → R point later → point.x ≡ later.x → ⊥) → AllPairs R (way part) → All (λ edge. has_two_ends edge ≡ true) (pieces (way part))
    along R differ all k d within =
        let (inside, at) = at-pieces (way part) k part.from d within in
        let point = get_or (way part) k part.from in
        let later = get_or (way part) (suc k) part.from in
        subst (λ (edge : Edge). has_two_ends edge ≡ true) (sym at) (apart point later (differ point later (all k (suc k) part.from (omega arith) inside)))

    -- where one edge is all
    single : part.inner.now ≡ [] → All (λ edge. has_two_ends edge ≡ true) (pieces (way part))
    single none =
        subst (λ (inner : List Point). All (λ edge. has_two_ends edge ≡ true) (pieces (part.from ∷ (inner ++ part.to ∷ [])))) (sym none)
        (All-cons (λ edge. has_two_ends edge ≡ true) (edge_between part.from part.to) []
        (two_ends-differ (edge_between part.from part.to) (λ same. isnt (record { none = none; same = ap₂ (λ x y. let point : Point = record { x = x; y = y } in point) same.0 same.1 })))
        (All-nil (λ edge. has_two_ends edge ≡ true)))

    on : (length (way part) ≡ 2) ⊎ (Rises (way part) ⊎ Falls (way part)) → All (λ edge. has_two_ends edge ≡ true) (pieces (way part))
    on (inl two) = single (nil_from_length part.inner.now (omega (arith, two, length-way part)))
    on (inr (inl rises)) = along (λ one later. one.x <ℤ later.x) (λ point later less same. omega (arith, ints, less, same)) rises
    on (inr (inr falls)) = along (λ one later. later.x <ℤ one.x) (λ point later less same. omega (arith, ints, less, same)) falls
