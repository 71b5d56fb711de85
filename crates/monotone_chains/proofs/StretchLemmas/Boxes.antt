-- Points of stretches, and their chords' ends.
use Rattle.std.proofs.Common.{◌≡◌, ◌≢◌, ◌⊎◌, inl, inr, ⊎_elim, ℕ, ◌<◌, ◌-◌, ℤ, ◌≤ℤ◌, ◌<ℤ◌, List, [], length, get_or, refl, sym, ap, ap₂, ◌∙◌, subst, arith}
use Rattle.std.specs.Int.{int_max, int_min}
use Rattle.std.specs.List.{AllPairs, Contains}
use Rattle.std.proofs.lemmas.Bool.{cases_lt}
use Rattle.std.proofs.lemmas.Int.{by_lt_z, clamps, ints}
use Rattle.std.proofs.lemmas.List.{get_or_default}
use Rattle.std.proofs.lemmas.List.Elements.{Contains-get_or}
use Rattle.plane.specs.declared.edge.Edge.{Edge}
use Rattle.plane.specs.declared.point.Point.{Point}
use Rattle.plane.specs.Meet.Edges.{IsOf, RationalPoint}
use Rattle.overlay.specs.Contours.Outlines.{ring_point}
use Rattle.noding.specs.Chains.{IsEnd, Passes}
use Rattle.noding.specs.Close.{InBox}
use Rattle.plane.specs.Ends.{edge_between, end_of, start_of}
use Rattle.monotone_chains.specs.Stretches.{AreClear, Falls, IsLong, IsStretch, Rises, chord}
use Rattle.noding.proofs.SnapLemmas.Along.{Passes-in_box, from_at, point_at}
use Rattle.noding.proofs.SnapLemmas.Near.{IsNear-piece}
use Rattle.noding.proofs.SnapLemmas.Rounding.{whole}
use Rattle.monotone_chains.proofs.StretchLemmas.Apart.{AreApart-exchanged}
use Rattle.noding.proofs.SnapLemmas.Hulls.{IsNearHull, near-hull}
use Rattle.monotone_chains.proofs.StretchLemmas.Placed.{LiesIn}

-- ---- any two of a list

-- two of a list are one, or stand in a relation that holds either way round
pub AllPairs-any : {X : Type 0} (R : X → X → Type 0) → ((x y : X) → R x y → R y x) → (xs : List X) → AllPairs R xs → (x y : X) → Contains xs x → Contains xs y → (x ≡ y) ⊎ R x y
AllPairs-any {X} R turned xs all x y (i, first, is) (j, second, is_too) = elim (cases_lt i j) [
  | inl before ↦ inr (at i j x y first second is is_too before)
  | inr upto ↦ elim (cases_lt j i) [
    | inl behind ↦ inr (turned y x (at j i y x second first is_too is behind))
    | inr low ↦ inl (one (omega (arith, upto, low)))
  ]
]
  where
    at : (k l : ℕ) (a b : X) → k < length xs → l < length xs → get_or xs k a ≡ a → get_or xs l b ≡ b → k < l → R a b
    at k l a b inside other here there before =
        subst (λ (c : X). R c b) here (subst (λ (c : X). R (get_or xs k a) c) (get_or_default xs l a b other ∙ there) (all k l a before other))

    one : i ≡ j → x ≡ y
    one same = sym is ∙ get_or_default xs i x y first ∙ ap (λ (k : ℕ). get_or xs k y) same ∙ is_too

-- ---- clear of each other, whichever is named first

pub AreClear-exchanged : (s t : List Point) → AreClear s t → AreClear t s
AreClear-exchanged s t (inl apart) = inl (AreApart-exchanged s t apart)
AreClear-exchanged s t (inr (inl onwards)) = inr (inr onwards)
AreClear-exchanged s t (inr (inr back)) = inr (inl back)

abbrev pub ClearIfLong : List Point → List Point → Type 0
ClearIfLong one other = IsLong one ⊎ IsLong other → AreClear one other

-- any two of the stretches are one, or clear of each other where one is long
pub clear-any : (all : List (List Point)) → AllPairs ClearIfLong all → (s t : List Point) → Contains all s → Contains all t → (s ≡ t) ⊎ ClearIfLong s t
clear-any all clear s t first second =
    AllPairs-any ClearIfLong (λ one other if_long long. AreClear-exchanged one other (if_long (⊎_elim inr inl long))) all clear s t first second

-- ---- the points of a stretch

-- (x, y) lies in the box of the points
pub record BoxHas (points : List Point) (x y : ℤ) : Type 0 where
  pub left : (p : Point) × Contains points p × (p.x ≤ℤ x)
  pub right : (p : Point) × Contains points p × (x ≤ℤ p.x)
  pub low : (p : Point) × Contains points p × (p.y ≤ℤ y)
  pub high : (p : Point) × Contains points p × (y ≤ℤ p.y)

-- the point is one of its chord's ends
abbrev pub IsTip : List Point → Point → Type 0
IsTip s p = (p ≡ start_of (chord s)) ⊎ (p ≡ end_of (chord s))

-- x is strictly between those of its chord's ends
abbrev pub IsAmid : List Point → ℤ → Type 0
IsAmid s x = ((chord s).x0 <ℤ x) × (x <ℤ (chord s).x1) ⊎ ((chord s).x1 <ℤ x) × (x <ℤ (chord s).x0)

module _ (s : List Point) (is : IsStretch s) where
  -- its chord's ends are points of it
  pub chord-from : Contains s (start_of (chord s))
  chord-from = let some = is.some in Contains-get_or s 0 (ring_point [] 0) (omega (arith, some))

  pub chord-to : Contains s (end_of (chord s))
  chord-to = let some = is.some in Contains-get_or s (length s - 1) (ring_point [] 0) (omega (arith, some))

  -- the lesser end is at most what the lesser of both is, the greater at least
  least : (f : Point → ℤ) (z : ℤ) → int_min (f (start_of (chord s))) (f (end_of (chord s))) ≤ℤ z → (p : Point) × Contains s p × (f p ≤ℤ z)
  least f z upto = by_lt_z (f (start_of (chord s))) (f (end_of (chord s)))
      (λ less. (start_of (chord s), chord-from, omega (arith, ints, clamps, upto, less)))
      (λ more. (end_of (chord s), chord-to, omega (arith, ints, clamps, upto, more)))

  greatest : (f : Point → ℤ) (z : ℤ) → z ≤ℤ int_max (f (start_of (chord s))) (f (end_of (chord s))) → (p : Point) × Contains s p × (z ≤ℤ f p)
  greatest f z from = by_lt_z (f (start_of (chord s))) (f (end_of (chord s)))
      (λ less. (end_of (chord s), chord-to, omega (arith, ints, clamps, from, less)))
      (λ more. (start_of (chord s), chord-from, omega (arith, ints, clamps, from, more)))

  -- what lies in its chord's box lies in its own
  pub box-chord : (x y : ℤ) → InBox (chord s) x y → BoxHas s x y
  box-chord x y box = record {
    left = least (λ (p : Point). p.x) x box.left;
    right = greatest (λ (p : Point). p.x) x box.right;
    low = least (λ (p : Point). p.y) y box.low;
    high = greatest (λ (p : Point). p.y) y box.high;
  }

  -- each point of an edge that lies along it is near its hull
  pub lies-near : (edge : Edge) (point : RationalPoint) → LiesIn s edge → IsOf edge point → IsNearHull s point
  lies-near edge point (from, to) of = near-hull s (chord s) point chord-from chord-to (IsNear-piece (chord s) edge point from to of)

  -- what its chord passes lies in its box
  pub box-passed : (x y : ℤ) → Passes (chord s) x y → BoxHas s x y
  box-passed x y passes = box-chord x y (Passes-in_box (chord s) x y passes)

  -- and is near its hull
  pub passed-near : (x y : ℤ) → Passes (chord s) x y → IsNearHull s (whole x y)
  passed-near x y passes =
      let point : Edge = edge_between (point_at x y) (point_at x y) in
      lies-near point (whole x y) (passes, passes) (0, from_at point)

  -- it rises or falls where it is long
  pub long-ways : IsLong s → Rises s ⊎ Falls s
  long-ways long = ⊎_elim (λ two. absurd (omega (arith, two, long))) (λ ways. ways) is.along

  -- where it rises its chord goes rightwards, and leftwards where it falls
  pub rising-chord : Rises s → (chord s).x0 <ℤ (chord s).x1
  rising-chord rises = let some = is.some in rises 0 (length s - 1) (ring_point [] 0) (omega (arith, some)) (omega (arith, some))

  pub falling-chord : Falls s → (chord s).x1 <ℤ (chord s).x0
  falling-chord falls = let some = is.some in falls 0 (length s - 1) (ring_point [] 0) (omega (arith, some)) (omega (arith, some))

  -- so it isn't vertical where the stretch is long
  pub chord-sloped : IsLong s → (chord s).x1 ≢ (chord s).x0
  chord-sloped long same =
      ⊎_elim (λ rises. let less = rising-chord rises in omega (arith, ints, less, same)) (λ falls. let less = falling-chord falls in omega (arith, ints, less, same)) (long-ways long)

  -- ---- each point of it is one of its chord's ends, or strictly between them along x

  tip_at : (p : Point) (k n : ℕ) → k < length s → get_or s k p ≡ p → k ≡ n → p ≡ ring_point s n
  tip_at p k n inside is_at same = sym is_at ∙ get_or_default s k p (ring_point [] 0) inside ∙ ap (λ (i : ℕ). ring_point s i) same

  amid_at : (p : Point) (k : ℕ) → Rises s ⊎ Falls s → 0 < k → k < length s - 1 → get_or s k p ≡ p → IsAmid s p.x
  amid_at p k ways after before is_at =
      subst (λ (q : Point). IsAmid s q.x) (sym (tip_at p k k (omega (arith, before)) is_at refl))
      (⊎_elim
      (λ rises. inl (rises 0 k (ring_point [] 0) after (omega (arith, before)), rises k (length s - 1) (ring_point [] 0) before (omega (arith, before))))
      (λ falls. inr (falls k (length s - 1) (ring_point [] 0) before (omega (arith, before)), falls 0 k (ring_point [] 0) after (omega (arith, before))))
      ways)

  pub tip-or_amid : (p : Point) → Contains s p → IsTip s p ⊎ IsAmid s p.x
  tip-or_amid p (k, inside, is_at) = elim (cases_lt 0 k) [
    | inr none ↦ inl (inl (tip_at p k 0 inside is_at (omega (arith, none))))
    | inl after ↦ elim (cases_lt k (length s - 1)) [
      | inr last ↦ inl (inr (tip_at p k (length s - 1) inside is_at (omega (arith, last, inside))))
      | inl before ↦ inr (amid_at p k (⊎_elim (λ two. absurd (omega (arith, two, after, before))) (λ ways. ways) is.along) after before is_at)
    ]
  ]

  -- a point of it beyond which it has none, on one side, is one of its chord's ends
  pub outmost-tip : (c : Point) → Contains s c → ((p : Point) → Contains s p → (p ≡ c) ⊎ (p.x <ℤ c.x)) ⊎ ((p : Point) → Contains s p → (p ≡ c) ⊎ (c.x <ℤ p.x)) → IsTip s c
  outmost-tip c of (inl left) = ⊎_elim (λ tip. tip) (λ amid. absurd (none amid)) (tip-or_amid c of)
    where
      upto : (p : Point) → Contains s p → p.x ≤ℤ c.x
      upto p held = ⊎_elim (λ same. let x = ap (λ (q : Point). q.x) same in omega (arith, ints, x)) (λ less. omega (arith, ints, less)) (left p held)

      none : IsAmid s c.x → ⊥
      none (inl (from, to)) = let end = upto (end_of (chord s)) chord-to in omega (arith, ints, to, end)
      none (inr (from, to)) = let start = upto (start_of (chord s)) chord-from in omega (arith, ints, to, start)
  outmost-tip c of (inr right) = ⊎_elim (λ tip. tip) (λ amid. absurd (none amid)) (tip-or_amid c of)
    where
      from_on : (p : Point) → Contains s p → c.x ≤ℤ p.x
      from_on p held = ⊎_elim (λ same. let x = ap (λ (q : Point). q.x) same in omega (arith, ints, x)) (λ less. omega (arith, ints, less)) (right p held)

      none : IsAmid s c.x → ⊥
      none (inl (from, to)) = let start = from_on (start_of (chord s)) chord-from in omega (arith, ints, from, start)
      none (inr (from, to)) = let end = from_on (end_of (chord s)) chord-to in omega (arith, ints, from, end)

-- ---- its chord's ends

-- one of them, as ends of edges are said
pub IsEnd-tip : (s : List Point) (p : Point) → IsTip s p → IsEnd (chord s) p.x p.y
IsEnd-tip s p (inl is) = inl (ap (λ (q : Point). q.x) is, ap (λ (q : Point). q.y) is)
IsEnd-tip s p (inr is) = inr (ap (λ (q : Point). q.x) is, ap (λ (q : Point). q.y) is)

pub tip-IsEnd : (s : List Point) (p : Point) → IsEnd (chord s) p.x p.y → IsTip s p
tip-IsEnd s p (inl (is_x, is_y)) = inl (ap₂ point_at is_x is_y)
tip-IsEnd s p (inr (is_x, is_y)) = inr (ap₂ point_at is_x is_y)

pub tip-held : (s : List Point) → IsStretch s → (p : Point) → IsTip s p → Contains s p
tip-held s is p (inl same) = subst (Contains s) (sym same) (chord-from s is)
tip-held s is p (inr same) = subst (Contains s) (sym same) (chord-to s is)
