-- What is just below an edge where it begins, once all are sheared widely, was just below it before.
use Rattle.std.proofs.Common.{◌≡◌, ◌≢◌, ◌⊎◌, inl, inr, ℕ, ◌+◌, ◌<◌, ℤ, pos, ◌+ℤ◌, ◌*ℤ◌, ◌≤ℤ◌, ◌<ℤ◌, Bool, true, false, List, map, refl, ap, sym, subst, ◌∙◌, arith}
use Rattle.std.specs.List.{All, Contains}
use Rattle.std.specs.Ordering.{int_eq}
use Rattle.std.proofs.lemmas.Int.{by_lt_z, ints}
use Rattle.std.proofs.lemmas.List.Elements.{All-contains}
use Rattle.plane.specs.declared.edge.Edge.{Edge}
use Rattle.plane.specs.Ends.{reversed}
use Rattle.plane.specs.Meet.Crosses.{IsWithin}
use Rattle.plane.specs.SweepLine.Heights.{rightwards, run}
use Rattle.plane.proofs.MeetLemmas.Identities.{identity, minus, number, plus, times}
use Rattle.plane.proofs.PairsLemmas.Bags.{Contains-map}
use Rattle.plane.proofs.SweepLineLemmas.Order.{in_order}
use Rattle.noding.proofs.SnapLemmas.Numbers.{n_of, natural, product_positive}
use Rattle.overlay.specs.Fill.Counts.{is_lower_on, is_over}
use Rattle.overlay.specs.Fill.Filled.{AreNoded}
use Rattle.overlay.specs.Nesting.{IsNextBelow}
use Rattle.overlay.specs.Sides.{IsLow, sheared_edge}
use Rattle.overlay.proofs.AreaLemmas.Sheared.{AreNoded-sheared, edge-same}
use Rattle.overlay.proofs.AreaLemmas.Wide.{by-turned, further-right, low-rightwards, rightwards-sheared}
use Rattle.overlay.proofs.FillLemmas.Level.{MeetOnly}
use Rattle.overlay.proofs.FillLemmas.Order.{lower-apart, lower-asym, lower-irrefl, lower_out, middle, start-lower}
use Rattle.overlay.proofs.FillLemmas.Tests.{over_is, over_true}
use Rattle.overlay.proofs.KeptLemmas.First.{turned-meet}
use Rattle.overlay.proofs.PieceLemmas.Edges.{equal, unequal}
use Rattle.overlay.proofs.PieceLemmas.Made.{rightwards-onwards}
use Rattle.overlay.proofs.WindsLemmas.LowerBefore.{lower-before, over-before, top}

never : true ≡ false → ⊥
never h = cc

-- ---- below an edge where it begins

module _ (edges : List Edge) (noded : AreNoded edges) (n b : ℕ) (wide : b + b < n) (low : All (IsLow b) edges) (f : Edge) (among : Contains edges f) (sloped : f.x0 ≢ f.x1) where
  abbrev r : Edge
  r = rightwards f

  abbrev slant : Edge → Edge
  slant edge = sheared_edge n edge

  is-low : (edge : Edge) → Contains edges edge → IsLow b edge
  is-low edge inside = All-contains (IsLow b) edges edge low inside

  low-turned : (edge : Edge) → Contains edges edge → IsLow b (rightwards edge)
  low-turned edge inside = low-rightwards b edge (is-low edge inside)

  near : IsWithin b r.y0
  near = (low-turned f among).start

  -- where it begins, once sheared
  abbrev begin : ℤ
  begin = (pos n *ℤ r.x0) +ℤ r.y0

  -- twice the height at which it begins, and one
  abbrev high : ℤ
  high = top n b wide r.x0 r.y0 near

  -- an edge that isn't vertical is turned and sheared in either order
  turned : (edge : Edge) → Contains edges edge → edge.x0 ≢ edge.x1 → rightwards (slant edge) ≡ slant (rightwards edge)
  turned edge inside slopes = rightwards-sheared n b wide edge (is-low edge inside) slopes

  onwards : r.x0 <ℤ r.x1
  onwards = rightwards-onwards f sloped

  over-itself : is_over r.x0 r ≡ true
  over-itself = let some = onwards in over_true r.x0 r (omega (arith, ints)) some

  -- it goes rightwards once it is sheared
  slant-onwards : (slant r).x0 <ℤ (slant r).x1
  slant-onwards = let at = low-turned f among in further-right n b wide r.x0 r.y0 r.x1 r.y1 at.start at.end onwards

  -- its middle is less than half a unit above where it begins
  level : middle begin (slant r) <ℤ (run (slant r) *ℤ high)
  level =
      let left = plus (times (n_of n) (number r.x0)) (number r.y0) in
      let right = plus (times (n_of n) (number r.x1)) (number r.y1) in
      let next = plus left (n_of 1) in
      let is = identity
      (plus (plus (plus (times (number r.y0) (minus right left)) (times (number r.y1) (minus left left))) (plus (times (number r.y0) (minus right next)) (times (number r.y1) (minus next left)))) (times (n_of n) (minus (number r.x1) (number r.x0))))
      (times (minus right left) (plus (plus (number r.y0) (number r.y0)) (n_of 1))) (omega arith) in
      let some = onwards in
      let more = product_positive (pos n) (run r) (omega (arith, ints, wide)) (omega (arith, ints, some)) in
      omega (arith, ints, is, more)

  -- and so is that of any edge that is lower there
  under : (edge : Edge) → is_over begin edge ≡ true → is_lower_on begin edge (slant r) ≡ true → middle begin edge <ℤ (run edge *ℤ high)
  under edge over less =
      let (start, end) = over_is begin edge over in
      let strict = lower_out begin edge (slant r) less in
      let some = slant-onwards in
      let here = level in
      by_lt_z (middle begin edge) (run edge *ℤ high) (λ is. is)
      (λ upto.
      let one = identity (times (number (run edge)) (number high)) (times (number high) (number (run edge))) (omega arith) in
      let other = identity (times (number (run (slant r))) (number high)) (times (number high) (number (run (slant r)))) (omega arith) in
      let whole = identity (times (number (middle begin edge)) (n_of 1)) (number (middle begin edge)) (omega arith) in
      let whole_too = identity (times (number (middle begin (slant r))) (n_of 1)) (number (middle begin (slant r))) (omega arith) in
      let back = in_order high (middle begin edge) (middle begin (slant r)) (pos 1) (run edge) (run (slant r)) (omega (arith, ints)) (omega (arith, ints, start, end)) (omega (arith, ints, some)) (omega (arith, ints, upto, one, whole)) (omega (arith, ints, strict)) in
      absurd (omega (arith, ints, back, here, other, whole_too)))

  -- ---- an edge that is lower there, once sheared

  -- a vertical one isn't
  upright-never : (edge : Edge) → Contains edges edge → edge.x0 ≡ edge.x1 → is_over begin (rightwards (slant edge)) ≡ true → is_lower_on begin (rightwards (slant edge)) (slant r) ≡ true → ⊥
  upright-never edge inside vertical =
      by-turned (λ (e : Edge). is_over begin e ≡ true → is_lower_on begin e (slant r) ≡ true → ⊥) (slant edge)
      (not_so edge (is-low edge inside) vertical) (not_so (reversed edge) (let at = is-low edge inside in record { start = at.end; end = at.start }) (sym vertical))
    where
      not_so : (e : Edge) → IsLow b e → e.x0 ≡ e.x1 → is_over begin (slant e) ≡ true → is_lower_on begin (slant e) (slant r) ≡ true → ⊥
      not_so e at same over less =
          let (start, end) = over_is r.x0 e (over-before n b wide r.x0 r.y0 near e at over (under (slant e) over less)) in
          omega (arith, ints, same, start, end)

  -- what isn't vertical, is over the stretch once it is sheared, and lower there
  record IsLower (edge : Edge) : Type 0 where
    slopes : edge.x0 ≢ edge.x1
    over_there : is_over begin (slant (rightwards edge)) ≡ true
    less : is_lower_on begin (slant (rightwards edge)) (slant r) ≡ true

  is-lower : (edge : Edge) → Contains edges edge → is_over begin (rightwards (slant edge)) ≡ true → is_lower_on begin (rightwards (slant edge)) (slant r) ≡ true → IsLower edge
  is-lower edge inside over less = by (int_eq edge.x0 edge.x1) refl
    where
      by : (t : Bool) → int_eq edge.x0 edge.x1 ≡ t → IsLower edge
      by true e = absurd (upright-never edge inside (equal edge.x0 edge.x1 e) over less)
      by false e =
          let slopes = unequal edge.x0 edge.x1 e in
          let same = turned edge inside slopes in record {
            slopes = slopes;
            over_there = subst (λ (s : Edge). is_over begin s ≡ true) same over;
            less = subst (λ (s : Edge). is_lower_on begin s (slant r) ≡ true) same less;
          }

  meets : (one other : Edge) → Contains edges one → Contains edges other → MeetOnly (rightwards one) (rightwards other)
  meets = turned-meet edges noded

  -- so it was over the stretch
  was-over : (edge : Edge) → Contains edges edge → IsLower edge → is_over r.x0 (rightwards edge) ≡ true
  was-over edge inside is = over-before n b wide r.x0 r.y0 near (rightwards edge) (low-turned edge inside) is.over_there (under (slant (rightwards edge)) is.over_there is.less)

  -- and lower than all that are higher, once sheared
  was-lower : (edge other : Edge) → Contains edges edge → Contains edges other → is_over begin (slant (rightwards edge)) ≡ true → middle begin (slant (rightwards edge)) <ℤ (run (slant (rightwards edge)) *ℤ high)
      → is_over r.x0 (rightwards edge) ≡ true → is_over r.x0 (rightwards other) ≡ true
      → is_lower_on begin (slant (rightwards edge)) (slant (rightwards other)) ≡ true → is_lower_on r.x0 (rightwards edge) (rightwards other) ≡ true
  was-lower edge other inside inside_too over short over_it over_other less =
      let (start, end) = over_is begin (slant (rightwards edge)) over in
      let width = natural (run (slant (rightwards edge))) (omega (arith, ints, start, end)) in
      let is = width.is in
      lower-before n b wide r.x0 r.y0 near (rightwards edge) (low-turned edge inside) over width.k is (omega (arith, ints, start, end, is)) short (rightwards other) (meets edge other inside inside_too) over_it over_other less

  -- ---- an edge that was lower there

  module _ (edge : Edge) (inside : Contains edges edge) (over : is_over r.x0 (rightwards edge) ≡ true) (lower : is_lower_on r.x0 (rightwards edge) r ≡ true) where
    span : ((rightwards edge).x0 ≤ℤ r.x0) × (r.x0 <ℤ (rightwards edge).x1)
    span = over_is r.x0 (rightwards edge) over

    slopes-too : edge.x0 ≢ edge.x1
    slopes-too =
        let (start, end) = span in
        by-turned (λ (e : Edge). e.x0 <ℤ e.x1 → edge.x0 ≢ edge.x1) edge (λ less same. omega (arith, ints, less, same)) (λ less same. omega (arith, ints, less, same)) (omega (arith, ints, start, end))

    differ : rightwards edge ≢ r
    differ same = never (sym lower ∙ ap (λ (e : Edge). is_lower_on r.x0 e r) same ∙ lower-irrefl r.x0 r)

    -- it begins no higher where it begins at the same x
    not-higher : (rightwards edge).x0 ≡ r.x0 → (rightwards edge).y0 ≤ℤ r.y0
    not-higher same =
        by_lt_z r.y0 (rightwards edge).y0
        (λ above. absurd (never (sym (start-lower r (rightwards edge) (meets f edge among inside) (λ is. differ (sym is)) onwards (rightwards-onwards edge slopes-too) (sym same) (inl above)) ∙ lower-asym r.x0 (rightwards edge) r lower)))
        (λ upto. upto)

    -- so it is over the stretch, once sheared
    is-over : is_over begin (slant (rightwards edge)) ≡ true
    is-over =
        let (start, end) = span in
        let at = low-turned edge inside in
        over_true begin (slant (rightwards edge))
        (by_lt_z (rightwards edge).x0 r.x0
        (λ less. let strict = further-right n b wide (rightwards edge).x0 (rightwards edge).y0 r.x0 r.y0 at.start near less in omega (arith, ints, strict))
        (λ from. level_from (rightwards edge).x0 r.x0 (rightwards edge).y0 r.y0 (omega (arith, ints, start, from)) (not-higher (omega (arith, ints, start, from)))))
        (further-right n b wide r.x0 r.y0 (rightwards edge).x1 (rightwards edge).y1 near at.end end)
      where
        level_from : (a c p q : ℤ) → a ≡ c → p ≤ℤ q → ((pos n *ℤ a) +ℤ p) ≤ℤ ((pos n *ℤ c) +ℤ q)
        level_from a c p q same upto = let is = ap (λ (z : ℤ). pos n *ℤ z) same in omega (arith, ints, is, upto)

  -- of two edges that are over the stretch then, one is lower
  slant-meets : (one other : Edge) → Contains edges one → Contains edges other → one.x0 ≢ one.x1 → other.x0 ≢ other.x1 → MeetOnly (slant (rightwards one)) (slant (rightwards other))
  slant-meets one other first second slopes slopes_too =
      subst (λ (e : Edge). MeetOnly e (slant (rightwards other))) (turned one first slopes)
      (subst (λ (e : Edge). MeetOnly (rightwards (slant one)) e) (turned other second slopes_too)
      (turned-meet (map slant edges) (AreNoded-sheared n (omega (arith, wide)) edges noded) (slant one) (slant other) (Contains-map slant edges one first) (Contains-map slant edges other second)))

  either-lower : (one other : Edge) → Contains edges one → Contains edges other → one.x0 ≢ one.x1 → other.x0 ≢ other.x1 → rightwards one ≢ rightwards other
      → is_over begin (slant (rightwards one)) ≡ true → is_over begin (slant (rightwards other)) ≡ true
      → (is_lower_on begin (slant (rightwards one)) (slant (rightwards other)) ≡ true) ⊎ (is_lower_on begin (slant (rightwards other)) (slant (rightwards one)) ≡ true)
  either-lower one other first second slopes slopes_too apart over over_too =
      lower-apart (slant (rightwards one)) (slant (rightwards other)) begin (slant-meets one other first second slopes slopes_too)
      (λ same. apart (edge-same n (omega (arith, wide)) (rightwards one) (rightwards other) same)) over over_too

  -- the stretch is the one where it begins
  begin-same : (rightwards (slant f)).x0 ≡ begin
  begin-same = ap (λ (e : Edge). e.x0) (turned f among sloped)

  over-begin : is_over begin (slant r) ≡ true
  over-begin = let some = slant-onwards in over_true begin (slant r) (omega (arith, ints)) some

  -- no edge is between another one and this one, if none is once they are sheared
  none-between : (below : Edge) → Contains edges below → (is : IsLower below)
      → ((between : Edge) → Contains (map slant edges) between → is_over begin (rightwards between) ≡ true → is_lower_on begin (slant (rightwards below)) (rightwards between) ≡ true → ¬ (is_lower_on begin (rightwards between) (slant r) ≡ true))
      → (between : Edge) → Contains edges between → is_over r.x0 (rightwards between) ≡ true → is_lower_on r.x0 (rightwards below) (rightwards between) ≡ true → ¬ (is_lower_on r.x0 (rightwards between) r ≡ true)
  none-between below inside is none between held over from upto =
      none (slant between) (Contains-map slant edges between held) (ap (λ (e : Edge). is_over begin e) at ∙ there) (ap (λ (e : Edge). is_lower_on begin (slant (rightwards below)) e) at ∙ higher)
      (ap (λ (e : Edge). is_lower_on begin e (slant r)) at ∙ lower)
    where
      slopes : between.x0 ≢ between.x1
      slopes = slopes-too between held over upto

      at : rightwards (slant between) ≡ slant (rightwards between)
      at = turned between held slopes

      there : is_over begin (slant (rightwards between)) ≡ true
      there = is-over between held over upto

      -- it is lower than this one still
      lower : is_lower_on begin (slant (rightwards between)) (slant r) ≡ true
      lower =
          elim (either-lower between f held among slopes sloped (differ between held over upto) there over-begin) [
            | inl less ↦ less
            | inr more ↦ absurd (never (sym (was-lower f between among held over-begin level over-itself over more) ∙ lower-asym r.x0 (rightwards between) r upto))
          ]

      -- and higher than the other
      higher : is_lower_on begin (slant (rightwards below)) (slant (rightwards between)) ≡ true
      higher =
          elim (either-lower below between inside held is.slopes slopes (λ same. never (sym from ∙ ap (λ (e : Edge). is_lower_on r.x0 (rightwards below) e) (sym same) ∙ lower-irrefl r.x0 (rightwards below))) is.over_there there) [
            | inl less ↦ less
            | inr more ↦ absurd (never (sym (was-lower between below held inside there (under (slant (rightwards between)) there lower) over (was-over below inside is) more) ∙ lower-asym r.x0 (rightwards below) (rightwards between) from))
          ]

  -- What is just below it once all are sheared was just below it before.
  pub next-before : (below : Edge) → Contains edges below → IsNextBelow (map (sheared_edge n) edges) (rightwards (sheared_edge n f)).x0 (sheared_edge n below) (sheared_edge n f) → IsNextBelow edges (rightwards f).x0 below f
  next-before below inside is =
      let at = is-lower below inside (subst (λ (z : ℤ). is_over z (rightwards (slant below)) ≡ true) begin-same is.over)
      (subst (λ (e : Edge). is_lower_on begin (rightwards (slant below)) e ≡ true) (turned f among sloped) (subst (λ (z : ℤ). is_lower_on z (rightwards (slant below)) (rightwards (slant f)) ≡ true) begin-same is.less)) in
      let over = was-over below inside at in record {
        among = inside;
        among_too = among;
        over = over;
        over_too = over-itself;
        less = was-lower below f inside among at.over_there (under (slant (rightwards below)) at.over_there at.less) over over-itself at.less;
        none = none-between below inside at (nothing at);
      }
    where
      nothing : IsLower below → (between : Edge) → Contains (map slant edges) between → is_over begin (rightwards between) ≡ true → is_lower_on begin (slant (rightwards below)) (rightwards between) ≡ true
          → ¬ (is_lower_on begin (rightwards between) (slant r) ≡ true)
      nothing at between held over from upto =
          is.none between held (subst (λ (z : ℤ). is_over z (rightwards between) ≡ true) (sym begin-same) over)
          (subst (λ (z : ℤ). is_lower_on z (rightwards (slant below)) (rightwards between) ≡ true) (sym begin-same) (subst (λ (e : Edge). is_lower_on begin e (rightwards between) ≡ true) (sym (turned below inside at.slopes)) from))
          (subst (λ (z : ℤ). is_lower_on z (rightwards between) (rightwards (slant f)) ≡ true) (sym begin-same) (subst (λ (e : Edge). is_lower_on begin (rightwards between) e ≡ true) (sym (turned f among sloped)) upto))
