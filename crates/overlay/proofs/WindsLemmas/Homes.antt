-- Polygons wind once around a point or not at all, each by itself, where the edges of a ring have the same number on their left,
-- and each hole is at home where the ring just below its first edge is.
use Rattle.std.proofs.Common.{◌≡◌, ◌≢◌, ◌⊎◌, inl, inr, ℕ, zero, suc, ◌<◌, ℤ, pos, negsuc, ◌+ℤ◌, ◌<ℤ◌, Bool, true, false, cond, ◌&&◌, List, refl, ap, ap₂, sym, ◌∙◌, arith}
use Rattle.std.specs.List.{All, Contains, filter}
use Rattle.std.proofs.lemmas.Int.{by_lt_z, ints}
use Rattle.std.proofs.lemmas.List.Elements.{All-contains}
use Rattle.i_tree.proofs.RootLemmas.Members.{Contains-from_filter}
use Rattle.noding.specs.Windings.{count, winding}
use Rattle.plane.specs.declared.edge.Edge.{Edge}
use Rattle.plane.specs.Meet.Edges.{RationalPoint}
use Rattle.plane.specs.SweepLine.Heights.{rightwards}
use Rattle.overlay.specs.Fill.Counts.{below_on, is_lower_on, is_over}
use Rattle.overlay.specs.Fill.Filled.{AreDistinct, AreNoded, HaveSameEnds}
use Rattle.overlay.specs.Fill.Pieces.{total, weight}
use Rattle.overlay.specs.Nesting.{IsNextBelow}
use Rattle.overlay.proofs.AreaLemmas.Fans.{between, here, told-same}
use Rattle.overlay.specs.Sides.{along, is_edge, just_above, just_below, left_of, right_of}
use Rattle.overlay.proofs.AreaLemmas.Touching.{and-never}
use Rattle.overlay.proofs.FillLemmas.Balance.{AreBalanced}
use Rattle.overlay.proofs.FillLemmas.Least.{first-of}
use Rattle.overlay.proofs.FillLemmas.Order.{lower-irrefl, lower-trans}
use Rattle.overlay.proofs.FillLemmas.Premises.{All-among}
use Rattle.overlay.proofs.FillLemmas.Tests.{lt_false, lt_true, over_true}
use Rattle.overlay.proofs.FillLemmas.Totals.{total-filter, total-none}
use Rattle.overlay.proofs.FillLemmas.Weights.{weight-left, weight-right}
use Rattle.overlay.proofs.KeptLemmas.First.{total-one, turned-same}
use Rattle.overlay.proofs.PieceLemmas.Made.{rightwards-onwards}
use Rattle.overlay.proofs.WindsLemmas.Corners.{left-once, right-none}
use Rattle.overlay.proofs.WindsLemmas.Each.{AreTogether, winds-own}
use Rattle.overlay.proofs.WindsLemmas.Paired.{IsOneOrNone}

-- The first edge of each edge's ring, and a number of the ring: it has the same number on its left, and is of the same polygon;
-- what is just below it is of a ring with a lower number, and of the same polygon where the ring is a hole.
pub record AreAtHome (edges : List Edge) (own : Edge → Bool) (first : Edge → Edge) (rank : Edge → ℕ) : Type 0 where
  pub leads : (edge : Edge) → Contains edges edge → Contains edges (first edge)
  pub alike : (edge : Edge) → Contains edges edge → left_of (filter own edges) edge ≡ left_of (filter own edges) (first edge)
  pub same : (edge : Edge) → Contains edges edge → own edge ≡ own (first edge)
  pub lower : (edge below : Edge) → Contains edges edge → IsNextBelow edges (rightwards (first edge)).x0 below (first edge) → rank below < rank edge
  pub home : (edge below : Edge) → Contains edges edge → IsNextBelow edges (rightwards (first edge)).x0 below (first edge) → (first edge).x1 <ℤ (first edge).x0 → own below ≡ own (first edge)

-- a test that is known
told : (s t : Bool) → (count s ≡ count t) → s ≡ t
told true true same = refl
told false false same = refl
told true false same = absurd (omega (arith, ints, same))
told false true same = absurd (omega (arith, ints, same))

bool-or : (t : Bool) → (t ≡ true) ⊎ (t ≡ false)
bool-or true = inl refl
bool-or false = inr refl

never : true ≡ false → ⊥
never h = cc

module _ (edges : List Edge) (noded : AreNoded edges) (distinct : AreDistinct edges) (sloped : All (λ edge. edge.x0 ≢ edge.x1) edges) (once : (point : RationalPoint) → IsOneOrNone (winding edges point)) (closed : AreBalanced edges) where
  has-slope : (edge : Edge) → Contains edges edge → edge.x0 ≢ edge.x1
  has-slope edge among = All-contains (λ (e : Edge). e.x0 ≢ e.x1) edges edge sloped among

  onwards : (edge : Edge) → Contains edges edge → (rightwards edge).x0 <ℤ (rightwards edge).x1
  onwards edge among = rightwards-onwards edge (has-slope edge among)

  goes : (edge : Edge) → Contains edges edge → (edge.x0 <ℤ edge.x1) ⊎ (edge.x1 <ℤ edge.x0)
  goes edge among = by_lt_z edge.x0 edge.x1 (λ right. inl right) (λ upto. by_lt_z edge.x1 edge.x0 (λ left. inr left) (λ from. absurd (has-slope edge among (omega (arith, ints, upto, from)))))

  -- above and below an edge are its left and its right
  right-sides : (some : List Edge) (edge : Edge) → edge.x0 <ℤ edge.x1 → (left_of some edge ≡ just_above some edge) × (right_of some edge ≡ just_below some edge)
  right-sides some edge onwards_it = (
    ap (λ t. cond t (just_above some edge) (just_below some edge)) (lt_true edge.x0 edge.x1 onwards_it),
    ap (λ t. cond t (just_below some edge) (just_above some edge)) (lt_true edge.x0 edge.x1 onwards_it),
  )

  left-sides : (some : List Edge) (edge : Edge) → edge.x1 <ℤ edge.x0 → (left_of some edge ≡ just_below some edge) × (right_of some edge ≡ just_above some edge)
  left-sides some edge back =
      let isnt = lt_false edge.x0 edge.x1 (omega (arith, ints, back)) in (
        ap (λ t. cond t (just_above some edge) (just_below some edge)) isnt,
        ap (λ t. cond t (just_below some edge) (just_above some edge)) isnt,
      )

  differ : (a b : ℤ) → a ≡ b → a ≡ pos 1 → b ≡ pos 0 → ⊥
  differ a b same first second = omega (arith, ints, same, first, second)

  -- ---- the edge just below

  module _ (some : List Edge) (balanced : AreBalanced some) (into : (edge : Edge) → Contains some edge → Contains edges edge) where
    -- above it they wind as below the other
    next-same : (x : ℤ) (one other : Edge) → IsNextBelow edges x one other → just_above some one ≡ just_below some other
    next-same x one other is = between edges noded sloped some balanced into one other is.among is.among_too x is.over is.over_too is.less is.none

  -- it goes the other way
  below-left : (x : ℤ) (one other : Edge) → IsNextBelow edges x one other → other.x0 <ℤ other.x1 → one.x1 <ℤ one.x0
  below-left x one other is right =
      elim (goes one is.among) [
        | inl right_too ↦ absurd (differ (left_of edges one) (right_of edges other)
            ((right-sides edges one right_too).0 ∙ next-same edges closed (λ edge held. held) x one other is ∙ sym (right-sides edges other right).1)
            (left-once edges noded distinct sloped once one is.among) (right-none edges noded distinct sloped once other is.among_too))
        | inr left ↦ left
      ]

  below-right : (x : ℤ) (one other : Edge) → IsNextBelow edges x one other → other.x1 <ℤ other.x0 → one.x0 <ℤ one.x1
  below-right x one other is left =
      elim (goes one is.among) [
        | inl right ↦ right
        | inr left_too ↦ absurd (differ (left_of edges other) (right_of edges one)
            ((left-sides edges other left).0 ∙ sym (next-same edges closed (λ edge held. held) x one other is) ∙ sym (left-sides edges one left_too).1)
            (left-once edges noded distinct sloped once other is.among_too) (right-none edges noded distinct sloped once one is.among))
      ]

  -- there is one, or nothing is below
  module _ (edge : Edge) (among : Contains edges edge) where
    abbrev x : ℤ
    x = (rightwards edge).x0

    over : is_over x (rightwards edge) ≡ true
    over = let some = onwards edge among in over_true x (rightwards edge) (omega (arith, ints)) some

    record IsBelow (other : Edge) : Type 0 where
      inside : Contains edges other
      over_it : is_over x (rightwards other) ≡ true
      less : is_lower_on x (rightwards other) (rightwards edge) ≡ true

    below-or : (other : Edge) → Contains edges other → IsBelow other ⊎ (¬ (IsBelow other))
    below-or other inside = by (bool-or (is_over x (rightwards other))) (bool-or (is_lower_on x (rightwards other) (rightwards edge)))
      where
        by : (is_over x (rightwards other) ≡ true) ⊎ (is_over x (rightwards other) ≡ false) → (is_lower_on x (rightwards other) (rightwards edge) ≡ true) ⊎ (is_lower_on x (rightwards other) (rightwards edge) ≡ false)
            → IsBelow other ⊎ (¬ (IsBelow other))
        by (inl is) (inl less) = inl (record { inside = inside; over_it = is; less = less })
        by (inl is) (inr isnt) = inr (λ below. never (sym below.less ∙ isnt))
        by (inr isnt) which = inr (λ below. never (sym below.over_it ∙ isnt))

    -- the higher one comes first
    abbrev Before : Edge → Edge → Type 0
    Before one other = is_lower_on x (rightwards other) (rightwards one) ≡ true

    before-or : (one other : Edge) → Before one other ⊎ (¬ (Before one other))
    before-or one other = elim (bool-or (is_lower_on x (rightwards other) (rightwards one))) [ inl is ↦ inl is | inr isnt ↦ inr (λ is. never (sym is ∙ isnt)) ]

    next-or : ((below : Edge) × IsNextBelow edges x below edge) ⊎ ((some : List Edge) → AreBalanced some → ((other : Edge) → Contains some other → Contains edges other) → just_below some edge ≡ pos 0)
    next-or =
        elim (first-of IsBelow Before (λ one other is is_too. before-or one other) (λ one is before. never (sym before ∙ lower-irrefl x (rightwards one)))
        (λ one other third is is_too is_third first second.
        lower-trans x (rightwards third) (rightwards other) (rightwards one) (onwards third is_third.inside) (onwards other is_too.inside) (onwards one is.inside) second first) edges below-or) [
          | inl (below, first) ↦ inl (
            below,
            record {
              among = first.is.inside;
              among_too = among;
              over = first.is.over_it;
              over_too = over;
              less = first.is.less;
              none = λ other held over_other from upto. first.none other held (record { inside = held; over_it = over_other; less = upto }) from;
            },
          )
          | inr none ↦ inr (λ some balanced into.
              here edges noded edge among x over some balanced into
              ∙ total-none (below_on x (rightwards edge)) some (All-among (λ other. below_on x (rightwards edge) other ≡ pos 0) some
              (λ other held. ap (λ t. cond t (weight other) (pos 0)) (nothing other (into other held) none))))
        ]
      where
        nothing : (other : Edge) → Contains edges other → ((e : Edge) → Contains edges e → ¬ (IsBelow e)) → (is_over x (rightwards other) && is_lower_on x (rightwards other) (rightwards edge)) ≡ false
        nothing other inside none =
            and-never (is_over x (rightwards other)) (is_lower_on x (rightwards other) (rightwards edge))
            (λ over_it. elim (bool-or (is_lower_on x (rightwards other) (rightwards edge))) [
              | inl less ↦ absurd (none other inside (record { inside = inside; over_it = over_it; less = less }))
              | inr isnt ↦ isnt
            ])

  -- ---- those of a polygon

  module _ (own : Edge → Bool) (own_closed : AreBalanced (filter own edges)) where
    abbrev mine : List Edge
    mine = filter own edges

    into : (edge : Edge) → Contains mine edge → Contains edges edge
    into edge held = (Contains-from_filter own edges edge held).0

    -- what they weigh along an edge
    along-mine : (edge : Edge) → Contains edges edge → total (along (rightwards edge)) mine ≡ cond (own edge) (weight edge) (pos 0)
    along-mine edge among =
        sym (total-filter own (along (rightwards edge)) edges)
        ∙ total-one (λ other. cond (own other) (along (rightwards edge) other) (pos 0)) edge edges among distinct (λ other held apart. others (own other) other (none other apart (is_edge (rightwards other) (rightwards edge)) refl))
        ∙ ap (λ (z : ℤ). cond (own edge) z (pos 0)) (itself (is_edge (rightwards edge) (rightwards edge)) refl)
      where
        none : (other : Edge) → ¬ (HaveSameEnds other edge) → (t : Bool) → is_edge (rightwards other) (rightwards edge) ≡ t → along (rightwards edge) other ≡ pos 0
        none other apart true is = absurd (apart (turned-same other edge (told-same (rightwards other) (rightwards edge) true is)))
        none other apart false is = ap (λ t. cond t (weight other) (pos 0)) is

        others : (t : Bool) (other : Edge) → along (rightwards edge) other ≡ pos 0 → cond t (along (rightwards edge) other) (pos 0) ≡ pos 0
        others true other is = is
        others false other is = refl

        itself : (t : Bool) → is_edge (rightwards edge) (rightwards edge) ≡ t → along (rightwards edge) edge ≡ weight edge
        itself true is = ap (λ t. cond t (weight edge) (pos 0)) is
        itself false is = absurd (told-same (rightwards edge) (rightwards edge) false is refl)

    opens : (t : Bool) (w : ℤ) → w ≡ pos 1 → cond t w (pos 0) ≡ count t
    opens true w is = is
    opens false w is = refl

    closes : (t : Bool) (w : ℤ) → w ≡ negsuc 0 → (count t +ℤ cond t w (pos 0)) ≡ pos 0
    closes true w is = omega (arith, ints, is)
    closes false w is = refl

    module _ (first : Edge → Edge) (rank : Edge → ℕ) (at_home : AreAtHome edges own first rank) where
      -- from rings with lower numbers to one
      module _ (n : ℕ) (before : (edge : Edge) → Contains edges edge → rank edge < n → left_of mine edge ≡ count (own edge)) (edge : Edge) (among : Contains edges edge) (less : rank edge < suc n) where
        abbrev f : Edge
        f = first edge

        leads : Contains edges f
        leads = at_home.leads edge among

        below : (t : Edge) → IsNextBelow edges (rightwards f).x0 t f → left_of mine t ≡ count (own t)
        below t is = let lower = at_home.lower edge t among is in before t is.among (omega (arith, lower, less))

        -- below an outer ring's first edge they don't wind
        none-below : f.x0 <ℤ f.x1 → just_below mine f ≡ pos 0
        none-below right =
            elim (next-or f leads) [
              | inl (t, is) ↦ sym (next-same mine own_closed into (rightwards f).x0 t f is) ∙ emptied t is (below-left (rightwards f).x0 t f is right)
              | inr none ↦ none mine own_closed into
            ]
          where
            emptied : (t : Edge) → IsNextBelow edges (rightwards f).x0 t f → t.x1 <ℤ t.x0 → just_above mine t ≡ pos 0
            emptied t is left = sum (just_below mine t) (total (along (rightwards t)) mine) (sym (left-sides mine t left).0 ∙ below t is) (along-mine t is.among) ∙ closes (own t) (weight t) (weight-left t left)
              where
                sum : (b w : ℤ) → b ≡ count (own t) → w ≡ cond (own t) (weight t) (pos 0) → (b +ℤ w) ≡ (count (own t) +ℤ cond (own t) (weight t) (pos 0))
                sum b w one other = ap₂ (λ (u v : ℤ). u +ℤ v) one other

        rightward : f.x0 <ℤ f.x1 → left_of mine f ≡ count (own f)
        rightward right =
            (right-sides mine f right).0
            ∙ sum (just_below mine f) (total (along (rightwards f)) mine) (count (own f)) (none-below right) (along-mine f leads ∙ opens (own f) (weight f) (weight-right f right))
          where
            sum : (b w c : ℤ) → b ≡ pos 0 → w ≡ c → (b +ℤ w) ≡ c
            sum b w c none is = omega (arith, ints, none, is)

        leftward : f.x1 <ℤ f.x0 → left_of mine f ≡ count (own f)
        leftward left =
            elim (next-or f leads) [
              | inl (t, is) ↦ (left-sides mine f left).0
                  ∙ sym (next-same mine own_closed into (rightwards f).x0 t f is)
                  ∙ sym (right-sides mine t (below-right (rightwards f).x0 t f is left)).0
                  ∙ below t is
                  ∙ ap count (at_home.home edge t among is left)
              | inr none ↦ absurd (differ (left_of edges f) (just_below edges f) (left-sides edges f left).0 (left-once edges noded distinct sloped once f leads) (none edges closed (λ other held. held)))
            ]

        next-ring : left_of mine edge ≡ count (own edge)
        next-ring =
            at_home.alike edge among
            ∙ elim (goes f leads) [ inl right ↦ rightward right | inr left ↦ leftward left ]
            ∙ ap count (sym (at_home.same edge among))

      left-below : (n : ℕ) (edge : Edge) → Contains edges edge → rank edge < n → left_of mine edge ≡ count (own edge)
      left-below zero edge among less = absurd (omega (arith, less))
      left-below (suc n) edge among less = next-ring n (left-below n) edge among less

      -- The edges that have them on their left are theirs.
      pub left-own : (edge : Edge) → Contains edges edge → left_of mine edge ≡ count (own edge)
      left-own edge among = left-below (suc (rank edge)) edge among (omega arith)

      -- so the edge just below a leftwards one is theirs where that is
      together : AreTogether own edges
      together x one other is back =
          told (own one) (own other)
          (sym (left-own one is.among)
          ∙ (right-sides mine one (below-right x one other is back)).0
          ∙ next-same mine own_closed into x one other is
          ∙ sym (left-sides mine other back).0
          ∙ left-own other is.among_too)

      -- They wind once around each point, or not at all.
      pub home-once : (point : RationalPoint) → (winding (filter own edges) point ≡ pos 0) ⊎ (winding (filter own edges) point ≡ pos 1)
      home-once point = winds-own edges noded distinct once point own together
