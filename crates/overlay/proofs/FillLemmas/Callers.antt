-- What a caller of the fill wants of its pieces, in a caller's words.
use Rattle.std.proofs.Common.{◌≡◌, ◌≢◌, ◌⊎◌, ◌++◌, Bool, true, false, List, ℤ, pos, ◌*ℤ◌, ◌≤ℤ◌, ◌<ℤ◌, ap, ap₂, arith, sym, subst, ◌∙◌, ℕ}
use Rattle.std.specs.Int.{int_max}
use Rattle.std.specs.List.{Contains}
use Rattle.std.proofs.lemmas.Int.{ints, clamps}
use Rattle.std.specs.declared.cmp.Ordering.TheVariants.{Less}
use Rattle.plane.specs.declared.edge.Edge.{Edge}
use Rattle.plane.specs.declared.sweep_line.active.ActiveEdge.{ActiveEdge}
use Rattle.plane.specs.Meet.Edges.{RationalPoint}
use Rattle.plane.specs.SweepLine.Active.{cmp_active}
use Rattle.plane.specs.SweepLine.Crossings.{Cross}
use Rattle.plane.specs.SweepLine.Heights.{rise_by_run}
use Rattle.overlay.specs.declared.fill.pieces.Piece.{Piece}
use Rattle.overlay.specs.declared.fill.rules.FillRule.{FillRule}
use Rattle.overlay.specs.declared.fill.rules.Operation.{Operation}
use Rattle.overlay.specs.Fill.Counts.{Counts, is_over, is_lower_on, counts_below, counts_above, kept_edges}
use Rattle.overlay.specs.Fill.Filled.{AreNoded, AreDistinct}
use Rattle.overlay.specs.Fill.Pieces.{ArePieces}
use Rattle.overlay.specs.Fill.Sweep.{WeighUpto}
use Rattle.overlay.specs.Fill.Rules.{is_result}
use Rattle.plane.specs.Ends.{reversed}
use Rattle.noding.specs.Windings.{winding, IsClosed, count}
use Rattle.overlay.proofs.FillLemmas.Filled.{filled, is_result-none}
use Rattle.overlay.proofs.FillLemmas.High.{top, upto-higher, upto-top, high-none}
use Rattle.overlay.proofs.FillLemmas.Kept as kept
use Rattle.overlay.proofs.FillLemmas.Level.{MeetOnly}
use Rattle.overlay.proofs.FillLemmas.Next as next
use Rattle.overlay.proofs.FillLemmas.Order as order
use Rattle.overlay.proofs.FillLemmas.Premises.{onwards, meet-pieces}
use Rattle.overlay.proofs.FillLemmas.Small as small
use Rattle.overlay.proofs.FillLemmas.Uncrossed.{uncrossed}
use Rattle.plane.specs.Meet.Crosses.{IsWithin}

-- the greater of two numbers is at least each of them
max_upto : (a b : ℤ) → (a ≤ℤ int_max a b) × (b ≤ℤ int_max a b)
max_upto a b = (omega (arith, ints, clamps), omega (arith, ints, clamps))

-- Points with these winding numbers are of the result.
abbrev pub inside_by : FillRule → Operation → Counts → Bool
inside_by rule operation counts = is_result rule operation counts.subject counts.clip

-- ---- the order on a stretch

-- No piece is lower than itself.
pub lower-irrefl : (x : ℤ) (p : Piece) → is_lower_on x p.edge p.edge ≡ false
lower-irrefl x p = order.lower-irrefl x p.edge

-- Of two pieces one alone is lower.
pub lower-asym : (x : ℤ) (p q : Piece) → is_lower_on x p.edge q.edge ≡ true → is_lower_on x q.edge p.edge ≡ false
lower-asym x p q lower = order.lower-asym x p.edge q.edge lower

module _ (subject clip : List Edge) (closed : IsClosed subject) (clip_closed : IsClosed clip) (noded : AreNoded (subject ++ clip)) (pieces : List Piece) (are : ArePieces subject clip pieces) where
  -- A piece that is lower than a second one, which is lower than a third, is lower than the third.
  pub lower-trans : (x : ℤ) (p q r : Piece) → Contains pieces p → Contains pieces q → Contains pieces r → is_lower_on x p.edge q.edge ≡ true → is_lower_on x q.edge r.edge ≡ true → is_lower_on x p.edge r.edge ≡ true
  lower-trans x p q r first second third one other =
      let some : (s : Piece) → Contains pieces s → s.edge.x0 <ℤ s.edge.x1 = onwards subject clip noded pieces are in
      order.lower-trans x p.edge q.edge r.edge (some p first) (some q second) (some r third) one other

  -- Of two pieces over one stretch whose edges differ one is lower.
  pub apart : (p q : Piece) (x : ℤ) → Contains pieces p → Contains pieces q → p.edge ≢ q.edge → is_over x p.edge ≡ true → is_over x q.edge ≡ true
      → (is_lower_on x p.edge q.edge ≡ true) ⊎ (is_lower_on x q.edge p.edge ≡ true)
  apart p q x first second differ over over_too = order.lower-apart p.edge q.edge x (meet-pieces subject clip noded pieces are p q first second) differ over over_too

  -- No two pieces cross.
  pub pieces-uncrossed : (p q : Piece) → Contains pieces p → Contains pieces q → ¬ (Cross p.edge q.edge)
  pieces-uncrossed p q first second = uncrossed p.edge q.edge (meet-pieces subject clip noded pieces are p q first second)

  -- Of two that are over a stretch, the one that stands before the other along the status is lower there.
  pub active-lower : (one other : ActiveEdge) (p q : Piece) (x : ℤ) → Contains pieces p → Contains pieces q → one.edge ≡ p.edge → other.edge ≡ q.edge → p.edge ≢ q.edge
      → is_over x p.edge ≡ true → is_over x q.edge ≡ true → cmp_active one other ≡ Less → is_lower_on x p.edge q.edge ≡ true
  active-lower one other p q x first second is is_too differ over over_too before =
      subst (λ (e : Edge). is_lower_on x e q.edge ≡ true) is (subst (λ (e : Edge). is_lower_on x one.edge e ≡ true) is_too
      (order.stands-lower one other x
      (subst (λ (e : Edge). MeetOnly e other.edge) (sym is) (subst (λ (e : Edge). MeetOnly p.edge e) (sym is_too) (meet-pieces subject clip noded pieces are p q first second)))
      (subst (λ (e : Edge). e ≢ other.edge) (sym is) (subst (λ (e : Edge). p.edge ≢ e) (sym is_too) differ))
      (subst (λ (e : Edge). is_over x e ≡ true) (sym is) over) (subst (λ (e : Edge). is_over x e ≡ true) (sym is_too) over_too) before))

  -- Of two that start at one x, the one that starts lower, or as high and goes on no steeper, is lower there.
  pub start-lower : (p q : Piece) → Contains pieces p → Contains pieces q → p.edge ≢ q.edge → p.edge.x0 ≡ q.edge.x0
      → (p.edge.y0 <ℤ q.edge.y0) ⊎ ((p.edge.y0 ≡ q.edge.y0) × (rise_by_run p.edge q.edge ≤ℤ rise_by_run q.edge p.edge)) → is_lower_on p.edge.x0 p.edge q.edge ≡ true
  start-lower p q first second differ level before =
      order.start-lower p.edge q.edge (meet-pieces subject clip noded pieces are p q first second) differ (onwards subject clip noded pieces are p first) (onwards subject clip noded pieces are q second) level before

  -- ---- counts

  -- Where g starts, and p is the highest of the pieces there that are lower, what is below g is what is above p.
  pub counts-next : (p g : Piece) → Contains pieces p → Contains pieces g → p.edge.x0 ≤ℤ g.edge.x0 → g.edge.x0 <ℤ p.edge.x1 → is_lower_on g.edge.x0 p.edge g.edge ≡ true
      → ((q : Piece) → Contains pieces q → is_over g.edge.x0 q.edge ≡ true → is_lower_on g.edge.x0 q.edge g.edge ≡ true → (q ≡ p) ⊎ (is_lower_on g.edge.x0 q.edge p.edge ≡ true))
      → counts_below subject clip g ≡ counts_above subject clip p
  counts-next p g first second from before lower highest = next.counts-next subject clip closed clip_closed noded pieces are p g first second from before lower highest

  -- Where no piece is lower than g, nothing is below it.
  pub counts-first : (g : Piece) → ((q : Piece) → Contains pieces q → is_over g.edge.x0 q.edge ≡ true → is_lower_on g.edge.x0 q.edge g.edge ≡ false)
      → counts_below subject clip g ≡ record { subject = pos 0; clip = pos 0 }
  counts-first g lowest = next.counts-first subject clip closed clip_closed noded pieces are g lowest

  -- Counts below and above a piece are no further from 0 than what pieces weigh, whichever of them are asked for.
  pub counts-small : (most : ℕ) → WeighUpto most pieces → (g : Piece) → Contains pieces g
      → IsWithin most (counts_below subject clip g).subject × IsWithin most (counts_above subject clip g).subject
      × IsWithin most (counts_below subject clip g).clip × IsWithin most (counts_above subject clip g).clip
  counts-small most weigh g among = small.counts-small subject clip pieces are g most weigh among

  -- ---- the edges kept

  module _ (inside : Counts → Bool) where
    -- Two kept edges meet only at common ends, and no two have the same ends.
    pub kept-noded : AreNoded (kept_edges inside subject clip pieces)
    kept-noded = kept.kept-noded subject clip noded pieces are inside

    pub kept-distinct : AreDistinct (kept_edges inside subject clip pieces)
    kept-distinct = kept.kept-distinct subject clip noded pieces are inside

    -- None is vertical or a point.
    pub kept-onwards : (edge : Edge) → Contains (kept_edges inside subject clip pieces) edge → edge.x1 ≢ edge.x0
    kept-onwards edge among = kept.kept-onwards subject clip noded pieces are inside edge among

    -- Each is one of the edges, or one of them the other way.
    pub kept-of : (edge : Edge) → Contains (kept_edges inside subject clip pieces) edge → Contains (subject ++ clip) edge ⊎ Contains (subject ++ clip) (reversed edge)
    kept-of edge among = kept.kept-of subject clip noded pieces are inside edge among

  module _ (rule : FillRule) (operation : Operation) where
    -- They wind once around each rational point of the result, and around no other.
    pub kept-winds : (point : RationalPoint) → winding (kept_edges (inside_by rule operation) subject clip pieces) point ≡ count (is_result rule operation (winding subject point) (winding clip point))
    kept-winds point = filled subject clip closed clip_closed noded pieces are point (inside_by rule operation) (is_result-none rule operation)

    -- From some height on they wind around nothing.
    pub kept-high : (bound : ℤ) × ((point : RationalPoint) → (pos point.n *ℤ bound) ≤ℤ point.y → winding (kept_edges (inside_by rule operation) subject clip pieces) point ≡ pos 0)
    kept-high = (
      int_max (top subject) (top clip),
      λ point high.
          let upto = max_upto (top subject) (top clip) in
          kept-winds point
          ∙ ap₂ (λ a b. count (is_result rule operation a b))
          (high-none (int_max (top subject) (top clip)) point high subject closed (upto-higher (top subject) (int_max (top subject) (top clip)) subject upto.0 (upto-top subject)))
          (high-none (int_max (top subject) (top clip)) point high clip clip_closed (upto-higher (top clip) (int_max (top subject) (top clip)) clip upto.1 (upto-top clip)))
          ∙ ap count (is_result-none rule operation),
    )
