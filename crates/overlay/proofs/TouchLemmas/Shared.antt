-- Two edges of outlines of rings have at most one point in common, and that is a whole point of both rings.
use Rattle.std.proofs.Common.{◌≡◌, ◌≢◌, ◌⊎◌, inl, inr, zero, suc, ℕ, ◌+◌, ◌*◌, ◌<◌, ℤ, pos, negsuc, ◌+ℤ◌, ◌-ℤ◌, ◌*ℤ◌, ◌≤ℤ◌, List, [], ap, ap₂, get_or, length, refl, sym, subst, ◌∙◌, arith}
use Rattle.std.specs.List.{All, Contains, flat_map}
use Rattle.std.proofs.Math.Nat.{mul-pos}
use Rattle.std.proofs.lemmas.Bool.{cases_eq}
use Rattle.std.proofs.lemmas.Int.{by_lt_z, ints}
use Rattle.std.proofs.lemmas.List.Elements.{All-contains, Contains-get_or}
use Rattle.plane.specs.declared.edge.Edge.{Edge}
use Rattle.plane.specs.declared.meet.kinds.Meeting.TheVariants.{Touch}
use Rattle.plane.specs.declared.point.Point.{Point}
use Rattle.plane.specs.Ends.{edge_between, end_of, start_of}
use Rattle.plane.specs.Meet.Edges.{IsOf, Meet, RationalPoint}
use Rattle.plane.specs.Meet.Kinds.{AreSame, HasPoint, IsAt, IsEnd, MeetSo, ShareAtMostOne}
use Rattle.plane.proofs.MeetLemmas.Identities.{identity, minus, number, plus, scaled, times}
use Rattle.noding.specs.Meeting.{MeetAtEnds}
use Rattle.noding.proofs.SnapLemmas.Local.{IsFiner, IsOf-finer}
use Rattle.noding.proofs.SnapLemmas.Means.{IsOf-mean, between, mean_on}
use Rattle.noding.proofs.SnapLemmas.Numbers.{n_of}
use Rattle.overlay.specs.Contours.Outlines.{IsStraight, outline}
use Rattle.overlay.specs.Contours.Rings.{IsRing, ring_edges}
use Rattle.overlay.specs.Fill.Filled.{AreDistinct, AreNoded, HaveSameEnds}
use Rattle.overlay.proofs.AreaLemmas.Around.{one-ends}
use Rattle.overlay.proofs.AreaLemmas.Touching.{point-or}
use Rattle.overlay.proofs.CircleLemmas.Distinct.{rings-apart}
use Rattle.overlay.proofs.CircleLemmas.Ends.{ends-at}
use Rattle.overlay.proofs.ContourLemmas.Bends.{IsRing-outline, Leads, leads-straight}
use Rattle.overlay.proofs.GroupingLemmas.Bags.{Contains-in_flat_map}
use Rattle.overlay.proofs.GroupingLemmas.Edges.{ring-ends}
use Rattle.overlay.proofs.GroupingLemmas.Outlined.{same-one}
use Rattle.overlay.proofs.TouchLemmas.Outlined.{PassesStraight, outline-by, passes-straight}
use Rattle.overlay.proofs.UncrossedLemmas.Finer.{at-finer, finer-is, finer-some, finer-twice, finer_than, one-point, times-same, whole-finer}
use Rattle.overlay.proofs.UncrossedLemmas.Split.{split-straight}

-- ---- the edges of a ring that an edge of its outline is made of

-- From where the first of some edges starts, they go straight on to this one, so many before it.
abbrev pub Reached : List Edge → ℕ → Point → Edge → Type 0
Reached edges zero from edge = start_of edge ≡ from
Reached edges (suc k) from edge = (before : Edge) × Contains edges before × (end_of before ≡ start_of edge) × IsStraight (start_of before) (end_of before) (end_of edge) × Reached edges k from before

-- There some edges turn.
pub record Turns (edges : List Edge) (at : Point) : Type 0 where
  pub there : Edge
  pub on : Edge
  pub among : Contains edges there
  pub among_too : Contains edges on
  pub ends : end_of there ≡ at
  pub starts : start_of on ≡ at
  pub bent : ¬ (IsStraight (start_of there) at (end_of on))

-- The point, over some multiple of its denominator, is of one of the edges that go straight on from there.
record IsPart (edges : List Edge) (from : Point) (point : RationalPoint) : Type 0 where
  edge : Edge
  among : Contains edges edge
  place : ℕ
  reached : Reached edges place from edge
  k : ℕ
  finer : RationalPoint
  is : IsFiner k point finer
  of : IsOf edge finer

-- From the one point, where they turn, to the other the edges go straight on, by the last point before that.
record Goes (edges : List Edge) (from before to : Point) : Type 0 where
  turns : Turns edges from
  place : ℕ
  reached : Reached edges place from (edge_between before to)
  parts : (point : RationalPoint) → IsOf (edge_between from to) point → IsPart edges from point

module _ (edges : List Edge) where
  -- an edge is a part of itself
  part-itself : (from : Point) (edge : Edge) (place : ℕ) → Contains edges edge → Reached edges place from edge → (point : RationalPoint) → IsOf edge point → IsPart edges from point
  part-itself from edge place among reached point of = record {
    edge = edge;
    among = among;
    place = place;
    reached = reached;
    k = 1;
    finer = point;
    is = record { n = omega arith; x = omega (arith, ints); y = omega (arith, ints) };
    of = of;
  }

  -- what a finer point is of
  part-finer : (from : Point) (k : ℕ) (point finer : RationalPoint) → IsFiner k point finer → IsPart edges from finer → IsPart edges from point
  part-finer from k point finer is part = record {
    edge = part.edge;
    among = part.among;
    place = part.place;
    reached = part.reached;
    k = part.k * k;
    finer = part.finer;
    is = finer-twice part.k k point finer part.finer is part.is;
    of = part.of;
  }

  goes-begins : (before at after : Point) → Contains edges (edge_between before at) → Contains edges (edge_between at after) → ¬ (IsStraight before at after) → Goes edges at at after
  goes-begins before at after first second bent = record {
    turns = record { there = edge_between before at; on = edge_between at after; among = first; among_too = second; ends = refl; starts = refl; bent = bent };
    place = 0;
    reached = refl;
    parts = part-itself at (edge_between at after) 0 second refl;
  }

  goes-on : (kept before at after : Point) → Leads kept before at → IsStraight before at after → Contains edges (edge_between before at) → Contains edges (edge_between at after) → Goes edges kept before at → Goes edges kept at after
  goes-on kept before at after leads straight first second so_far =
      let reached : Reached edges (suc so_far.place) kept (edge_between at after) = (edge_between before at, first, refl, straight, so_far.reached) in record {
        turns = so_far.turns;
        place = suc so_far.place;
        reached = reached;
        parts = λ point of. elim (split-straight kept at after (leads-straight kept before at after leads straight) point of) [
          | inl has ↦ part-finer kept has.k point has.finer has.is (so_far.parts has.finer has.of)
          | inr has ↦ part-finer kept has.k point has.finer has.is (part-itself kept (edge_between at after) (suc so_far.place) second reached has.finer has.of)
        ];
      }

-- So is each edge of an outline made.
outline-goes : (ring : List Point) (over : Edge) → Contains (ring_edges (outline ring)) over → (last : Point) × Goes (ring_edges ring) (start_of over) last (end_of over)
outline-goes ring over held = outline-by ring (Goes (ring_edges ring)) (goes-begins (ring_edges ring)) (goes-on (ring_edges ring)) over held

-- ---- no edge of a ring is part of two

-- One edge of a ring starts at a point.
pub one-starts : (ring : List Point) → IsRing ring → (one other : Edge) → Contains (ring_edges ring) one → Contains (ring_edges ring) other → start_of one ≡ start_of other → one ≡ other
one-starts ring is one other held held_too same =
    let all = ends-at ring is (start_of one) (ring-ends ring one held).0 in
    all.alone_too one held refl ∙ sym (all.alone_too other held_too (sym same))

module _ (ring : List Point) (is : IsRing ring) where
  abbrev edges : List Edge
  edges = ring_edges ring

  -- where they turn they don't go straight on
  pub turns-apart : (at : Point) → Turns edges at → (before edge : Edge) → Contains edges before → Contains edges edge → end_of before ≡ start_of edge → start_of edge ≡ at → ¬ (IsStraight (start_of before) (end_of before) (end_of edge))
  turns-apart at turns before edge held held_too joined starts straight =
      let there = one-ends ring is before turns.there held turns.among (joined ∙ starts ∙ sym turns.ends) in
      let on = one-starts ring is edge turns.on held_too turns.among_too (starts ∙ sym turns.starts) in
      turns.bent
      (subst (λ (e : Edge). IsStraight (start_of e) at (end_of turns.on)) there
      (subst (λ (e : Edge). IsStraight (start_of before) at (end_of e)) on
      (subst (λ (p : Point). IsStraight (start_of before) p (end_of edge)) (joined ∙ starts) straight)))

  -- so one edge is reached from one such point
  pub reached-once : (k j : ℕ) (p q : Point) (edge : Edge) → Contains edges edge → Turns edges p → Turns edges q → Reached edges k p edge → Reached edges j q edge → p ≡ q
  reached-once zero zero p q edge held turns turns_too first second = sym first ∙ second
  reached-once zero (suc j) p q edge held turns turns_too first (before, among, joined, straight, rest) = absurd (turns-apart p turns before edge among held joined first straight)
  reached-once (suc k) zero p q edge held turns turns_too (before, among, joined, straight, rest) second = absurd (turns-apart q turns_too before edge among held joined second straight)
  reached-once (suc k) (suc j) p q edge held turns turns_too (before, among, joined, straight, rest) (before_too, among_too, joined_too, straight_too, rest_too) =
      let same = one-ends ring is before_too before among_too among (joined_too ∙ sym joined) in
      reached-once k j p q before among turns turns_too rest (subst (λ (e : Edge). Reached edges j q e) same rest_too)

-- ---- one point over two denominators

-- what is finer by a product is finer than what is finer by its first factor
finer-part : (j k m : ℕ) (point between finer : RationalPoint) → m ≡ j * k → IsFiner k point between → IsFiner m point finer → IsFiner j between finer
finer-part j k m point between finer product first all = record {
  n = all.n ∙ nested j k m point.n between.n product first.n;
  x = along point.x between.x finer.x first.x all.x;
  y = along point.y between.y finer.y first.y all.y;
}
  where
    nested : (a b c n l : ℕ) → c ≡ a * b → l ≡ b * n → c * n ≡ a * l
    nested a b c n l same same_too = ap (λ (z : ℕ). z * n) same ∙ shifted a b n ∙ ap (λ (z : ℕ). a * z) (sym same_too)
      where
        shifted : (a b n : ℕ) → (a * b) * n ≡ a * (b * n)
        shifted a b n = omega arith

    along : (p q r : ℤ) → q ≡ (pos k *ℤ p) → r ≡ (pos m *ℤ p) → r ≡ (pos j *ℤ q)
    along p q r one both =
        both ∙ ap (λ (z : ℕ). pos z *ℤ p) product ∙ identity (times (n_of (j * k)) (number p)) (times (n_of j) (times (n_of k) (number p))) (omega arith) ∙ ap (λ (z : ℤ). pos j *ℤ z) (sym one)

-- ---- points that are whole, and all whose means are, are one

-- a number between that and its negative, of which it is a greater multiple, is 0
few : (n : ℕ) (d k : ℤ) → d ≡ (pos (n + 1) *ℤ k) → d ≤ℤ pos n → (pos 0 -ℤ pos n) ≤ℤ d → d ≡ pos 0
few n d k is upto from =
    by_lt_z (pos 0) k
    (λ more.
    let least = scaled (n + 1) (pos 1) k (omega (arith, ints, more)) in
    let one = identity (times (n_of (n + 1)) (n_of 1)) (n_of (n + 1)) (omega arith) in
    absurd (omega (arith, ints, is, upto, least, one)))
    (λ most. by_lt_z k (pos 0)
    (λ less.
    let least = scaled (n + 1) k (pos 0 -ℤ pos 1) (omega (arith, ints, less)) in
    let one = identity (times (n_of (n + 1)) (minus (n_of 0) (n_of 1))) (minus (n_of 0) (n_of (n + 1))) (omega arith) in
    absurd (omega (arith, ints, is, from, least, one)))
    (λ none.
    let zero_is : k ≡ pos 0 = omega (arith, ints, most, none) in
    is ∙ ap (λ (z : ℤ). pos (n + 1) *ℤ z) zero_is ∙ identity (times (n_of (n + 1)) (n_of 0)) (n_of 0) (omega arith)))

bound : (d : ℤ) → (n : ℕ) × (d ≤ℤ pos n) × ((pos 0 -ℤ pos n) ≤ℤ d)
bound (pos n) = (n, omega (arith, ints), omega (arith, ints))
bound (negsuc n) = (suc n, omega (arith, ints), omega (arith, ints))

-- numbers all whose means are whole are one
means-one : (p q : ℤ) → ((b : ℕ) → (r : ℤ) × (((pos b *ℤ p) +ℤ q) ≡ (pos (b + 1) *ℤ r))) → p ≡ q
means-one p q mean =
    let (n, upto, from) = bound (q -ℤ p) in
    let (r, is) = mean n in
    let none = few n (q -ℤ p) (r -ℤ p)
    (identity (minus (number q) (number p)) (minus (plus (times (n_of n) (number p)) (number q)) (times (n_of (n + 1)) (number p))) (omega arith)
    ∙ ap (λ (z : ℤ). z -ℤ (pos (n + 1) *ℤ p)) is
    ∙ identity (minus (times (n_of (n + 1)) (number r)) (times (n_of (n + 1)) (number p))) (times (n_of (n + 1)) (minus (number r) (number p))) (omega arith)) upto from in
    omega (arith, ints, none)

-- the same of a mean over denominators
mean-of : (b n1 n2 : ℕ) (p1 p2 p q r : ℤ) → 0 < n1 → 0 < n2 → p1 ≡ (pos n1 *ℤ p) → p2 ≡ (pos n2 *ℤ q) → mean_on b 1 n1 n2 p1 p2 ≡ (pos ((b + 1) * (n1 * n2)) *ℤ r) → ((pos b *ℤ p) +ℤ q) ≡ (pos (b + 1) *ℤ r)
mean-of b n1 n2 p1 p2 p q r some some_too first second is =
    times-same (n1 * n2) ((pos b *ℤ p) +ℤ q) (pos (b + 1) *ℤ r) (mul-pos some some_too)
    (identity (times (n_of (n1 * n2)) (plus (times (n_of b) (number p)) (number q)))
    (plus (times (n_of b) (times (n_of n2) (times (n_of n1) (number p)))) (times (n_of 1) (times (n_of n1) (times (n_of n2) (number q))))) (omega arith)
    ∙ ap₂ (λ (y z : ℤ). mean_on b 1 n1 n2 y z) (sym first) (sym second)
    ∙ is
    ∙ identity (times (n_of ((b + 1) * (n1 * n2))) (number r)) (times (n_of (n1 * n2)) (times (n_of (b + 1)) (number r))) (omega arith))

-- Points all of whose means are whole are one.
means-same : (first second : RationalPoint) (p q : Point) → IsAt first p.x p.y → IsAt second q.x q.y
    → ((b : ℕ) (some : 0 < b + 1) → (point : Point) × IsAt (between b 1 some first second) point.x point.y) → AreSame first second
means-same first second p q at at_too mean = record {
  x = same first.n second.n first.x second.x p.x q.x at.x_is at_too.x_is
      (means-one p.x q.x (λ b. (let (r, is) = mean b (omega arith) in (r.x, mean-of b first.n second.n first.x second.x p.x q.x r.x first.positive second.positive at.x_is at_too.x_is is.x_is))));
  y = same first.n second.n first.y second.y p.y q.y at.y_is at_too.y_is
      (means-one p.y q.y (λ b. (let (r, is) = mean b (omega arith) in (r.y, mean-of b first.n second.n first.y second.y p.y q.y r.y first.positive second.positive at.y_is at_too.y_is is.y_is))));
}
  where
    same : (m n : ℕ) (a b c d : ℤ) → a ≡ (pos m *ℤ c) → b ≡ (pos n *ℤ d) → c ≡ d → (pos n *ℤ a) ≡ (pos m *ℤ b)
    same m n a b c d one other level =
        ap (λ (z : ℤ). pos n *ℤ z) one ∙ ap (λ (z : ℤ). pos n *ℤ (pos m *ℤ z)) level
        ∙ identity (times (n_of n) (times (n_of m) (number d))) (times (n_of m) (times (n_of n) (number d))) (omega arith) ∙ ap (λ (z : ℤ). pos m *ℤ z) (sym other)

-- ---- edges of outlines

-- The common point is a whole point of both rings.
abbrev pub IsOfRings : List Point → List Point → RationalPoint → Type 0
IsOfRings ring other_ring spot = (point : Point) × IsAt spot point.x point.y × Contains ring point × Contains other_ring point

-- where edges of two rings meet at a finer point, at ends of both
common-end : (ring other_ring : List Point) (one other : Edge) (k : ℕ) (spot finer : RationalPoint) → Contains (ring_edges ring) one → Contains (ring_edges other_ring) other → IsFiner k spot finer → IsEnd one finer → IsEnd other finer
    → IsOfRings ring other_ring spot
common-end ring other_ring one other k spot finer held held_too is end end_too =
    by (some-end ring one held end) (some-end other_ring other held_too end_too)
  where
    some-end : (ring : List Point) (edge : Edge) → Contains (ring_edges ring) edge → IsEnd edge finer → (p : Point) × IsAt finer p.x p.y × Contains ring p
    some-end ring edge held (inl start) = (start_of edge, start, (ring-ends ring edge held).0)
    some-end ring edge held (inr end) = (end_of edge, end, (ring-ends ring edge held).1)

    by : ((p : Point) × IsAt finer p.x p.y × Contains ring p) → ((q : Point) × IsAt finer q.x q.y × Contains other_ring q) → IsOfRings ring other_ring spot
    by (p, at, among) (q, at_too, among_too) =
        let (x, y, there) = whole-finer k spot finer is (p.x, p.y, at) in
        let point : Point = record { x = x; y = y } in
        let fine = at-finer k spot finer x y is there in
        (point, there, subst (λ (r : Point). Contains ring r) (one-point finer p point at fine) among, subst (λ (r : Point). Contains other_ring r) (one-point finer q point at_too fine) among_too)

module _ (whole : List (List Point)) (each : All IsRing whole) (noded : AreNoded (flat_map ring_edges whole)) (distinct : AreDistinct (flat_map ring_edges whole)) where
  abbrev ring_at : ℕ → List Point
  ring_at k = get_or whole k []

  among-all : (k : ℕ) → k < length whole → (edge : Edge) → Contains (ring_edges (ring_at k)) edge → Contains (flat_map ring_edges whole) edge
  among-all k within edge held = Contains-in_flat_map ring_edges whole (ring_at k) edge (Contains-get_or whole k [] within) held

  is-ring : (k : ℕ) → k < length whole → IsRing (ring_at k)
  is-ring k within = All-contains IsRing whole (ring_at k) each (Contains-get_or whole k [] within)

  noded-one : (k : ℕ) → k < length whole → AreNoded (ring_edges (ring_at k))
  noded-one k within one other point held held_too = noded one other point (among-all k within one held) (among-all k within other held_too)

  -- parts of two edges of outlines have other ends
  parts-differ : (i j : ℕ) → i < length whole → j < length whole → (one other : Edge) → Contains (ring_edges (outline (ring_at i))) one → Contains (ring_edges (outline (ring_at j))) other → (i ≡ j → one ≢ other)
      → (edge other_edge : Edge) → Contains (ring_edges (ring_at i)) edge → Contains (ring_edges (ring_at j)) other_edge → Turns (ring_edges (ring_at i)) (start_of one) → Turns (ring_edges (ring_at j)) (start_of other)
      → (k l : ℕ) → Reached (ring_edges (ring_at i)) k (start_of one) edge → Reached (ring_edges (ring_at j)) l (start_of other) other_edge → ¬ (HaveSameEnds edge other_edge)
  parts-differ i j within within_too one other held held_too apart edge other_edge among among_too turns turns_too k l reached reached_too ends =
      let same = same-one (flat_map ring_edges whole) edge other_edge distinct (among-all i within edge among) (among-all j within_too other_edge among_too) ends in
      elim (cases_eq i j) [
        | inl one_ring ↦ apart one_ring (one-starts (outline (ring_at j)) (IsRing-outline (ring_at j) (is-ring j within_too)) one other (subst (λ (n : ℕ). Contains (ring_edges (outline (ring_at n))) one) one_ring held) held_too
            (reached-once (ring_at j) (is-ring j within_too) k l (start_of one) (start_of other) other_edge among_too
            (subst (λ (n : ℕ). Turns (ring_edges (ring_at n)) (start_of one)) one_ring turns) turns_too
            (subst (λ (n : ℕ). Reached (ring_edges (ring_at n)) k (start_of one) other_edge) one_ring (subst (λ (e : Edge). Reached (ring_edges (ring_at i)) k (start_of one) e) same reached)) reached_too))
        | inr rings_differ ↦ rings-apart whole distinct i j within within_too rings_differ other_edge (subst (λ (e : Edge). Contains (ring_edges (ring_at i)) e) same among) among_too
      ]

  module _ (i j : ℕ) (within : i < length whole) (within_too : j < length whole) (one other : Edge) (held : Contains (ring_edges (outline (ring_at i))) one) (held_too : Contains (ring_edges (outline (ring_at j))) other) (apart : i ≡ j → one ≢ other) where
    -- Where two edges of outlines meet there is a whole point of both rings.
    pub share-one : (spot : RationalPoint) → IsOf one spot → IsOf other spot → IsOfRings (ring_at i) (ring_at j) spot
    share-one spot of of_too =
        let goes = (outline-goes (ring_at i) one held).1 in
        let goes_too = (outline-goes (ring_at j) other held_too).1 in
        let part = goes.parts spot of in
        let part_too = goes_too.parts spot of_too in
        let some = mul-pos (finer-some part_too.k spot part_too.finer part_too.is) (finer-some part.k spot part.finer part.is) in
        let finer = finer_than (part_too.k * part.k) some spot in
        let is = finer-is (part_too.k * part.k) some spot in
        by part.edge part_too.edge (part_too.k * part.k) finer part.among part_too.among is
        (parts-differ i j within within_too one other held held_too apart part.edge part_too.edge part.among part_too.among goes.turns goes_too.turns part.place part_too.place part.reached part_too.reached)
        (noded part.edge part_too.edge finer (among-all i within part.edge part.among) (among-all j within_too part_too.edge part_too.among)
        (IsOf-finer part.edge part_too.k part.finer finer (finer-part part_too.k part.k (part_too.k * part.k) spot part.finer finer refl part.is is) part.of)
        (IsOf-finer part_too.edge part.k part_too.finer finer (finer-part part.k part_too.k (part_too.k * part.k) spot part_too.finer finer (omega arith) part_too.is is) part_too.of))
      where
        by : (edge other_edge : Edge) (k : ℕ) (finer : RationalPoint) → Contains (ring_edges (ring_at i)) edge → Contains (ring_edges (ring_at j)) other_edge → IsFiner k spot finer → ¬ (HaveSameEnds edge other_edge) → MeetAtEnds edge other_edge finer
            → IsOfRings (ring_at i) (ring_at j) spot
        by edge other_edge k finer among among_too is differ (inl (end, end_too)) = common-end (ring_at i) (ring_at j) edge other_edge k spot finer among among_too is end end_too
        by edge other_edge k finer among among_too is differ (inr same) = absurd (differ same)

    -- And that is the only one.
    pub share-most : ShareAtMostOne one other
    share-most first second (of, of_too) (of_second, of_second_too) =
        let (p, at, among, among_too) = share-one first of of_too in
        let (q, at_second, among_second, among_second_too) = share-one second of_second of_second_too in
        means-same first second p q at at_second (λ b some.
        (let (r, at_mean, among_mean, among_mean_too) = share-one (between b 1 some first second) (IsOf-mean one b 1 some first second of of_second) (IsOf-mean other b 1 some first second of_too of_second_too) in
        (r, at_mean)))

    -- Between the ends of both edges both rings go straight on.
    abbrev pub CrossStraight : Type 0
    CrossStraight =
        (at : Point) × HasPoint one at.x at.y × HasPoint other at.x at.y × (at ≢ start_of one) × (at ≢ end_of one) × (at ≢ start_of other) × (at ≢ end_of other)
        × PassesStraight (ring_edges (ring_at i)) at × PassesStraight (ring_edges (ring_at j)) at

    -- Where they meet they touch, or both rings go straight on there.
    pub touch-or-straight : Meet one other → MeetSo one other Touch ⊎ CrossStraight
    touch-or-straight (spot, of, of_too) = by (share-one spot of of_too)
      where
        touch : IsEnd one spot ⊎ IsEnd other spot → MeetSo one other Touch
        touch end = (spot, (of, of_too), share-most, end)

        by : IsOfRings (ring_at i) (ring_at j) spot → MeetSo one other Touch ⊎ CrossStraight
        by (at, there, among, among_too) =
            elim (point-or at (start_of one)) [
              | inl same ↦ inl (touch (inl (inl (subst (λ (p : Point). IsAt spot p.x p.y) same there))))
              | inr off_start ↦ elim (point-or at (end_of one)) [
                | inl same ↦ inl (touch (inl (inr (subst (λ (p : Point). IsAt spot p.x p.y) same there))))
                | inr off_end ↦ elim (point-or at (start_of other)) [
                  | inl same ↦ inl (touch (inr (inl (subst (λ (p : Point). IsAt spot p.x p.y) same there))))
                  | inr off_start_too ↦ elim (point-or at (end_of other)) [
                    | inl same ↦ inl (touch (inr (inr (subst (λ (p : Point). IsAt spot p.x p.y) same there))))
                    | inr off_end_too ↦ inr (
                      at,
                      (spot, of, there),
                      (spot, of_too, there),
                      off_start,
                      off_end,
                      off_start_too,
                      off_end_too,
                      passes-straight (ring_at i) (is-ring i within) (noded-one i within) one held at among (spot, of, there) off_start off_end,
                      passes-straight (ring_at j) (is-ring j within_too) (noded-one j within_too) other held_too at among_too (spot, of_too, there) off_start_too off_end_too,
                    )
                  ]
                ]
              ]
            ]
