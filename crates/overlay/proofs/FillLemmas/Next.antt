-- What is below a piece that starts is what is above the one before it in the status.
use Rattle.std.proofs.Common.{◌≡◌, ◌≢◌, ◌⊎◌, ◌++◌, inl, inr, ℤ, pos, ◌+ℤ◌, ◌<ℤ◌, ◌≤ℤ◌, Bool, true, false, cond, ◌&&◌, List, [], ◌∷◌, refl, ap, ap₂, arith, sym, subst, zero, suc, ◌∙◌}
use Rattle.std.specs.List.{All, AllPairs, Contains}
use Rattle.std.proofs.lemmas.Int.{ints}
use Rattle.std.proofs.lemmas.List.Elements.{All-contains, All-head, All-tail}
use Rattle.i_tree.proofs.RootLemmas.Lists.{AllPairs-head, AllPairs-tail}
use Rattle.plane.specs.declared.edge.Edge.{Edge}
use Rattle.overlay.specs.declared.fill.pieces.Piece.{Piece}
use Rattle.overlay.specs.declared.fill.counts.Counts.{Counts}
use Rattle.overlay.specs.Fill.Counts.{is_over, is_lower_on, below_on, counts_below, counts_above}
use Rattle.overlay.specs.Fill.Filled.{AreNoded}
use Rattle.overlay.specs.Fill.Pieces.{total, AreJoined, ArePieces}
use Rattle.noding.specs.Windings.{IsClosed}
use Rattle.overlay.proofs.FillLemmas.Along.{count-along}
use Rattle.overlay.proofs.FillLemmas.Aside.{IsAside}
use Rattle.overlay.proofs.FillLemmas.Balance.{AreBalanced, balanced}
use Rattle.overlay.proofs.FillLemmas.Order.{lower-irrefl, lower-trans}
use Rattle.overlay.proofs.FillLemmas.Premises.{All-among, onwards, subject-aside, clip-aside}
use Rattle.overlay.proofs.FillLemmas.Tests.{over_true}
use Rattle.overlay.proofs.FillLemmas.Totals.{total-same, total-none}

-- ---- sums that differ in one place

-- the terms are the same but for those with the edge of p, of which the one gives more by w
differ_here : (a b c d w : ℤ) → a ≡ (b +ℤ w) → c ≡ d → (a +ℤ c) ≡ ((b +ℤ d) +ℤ w)
differ_here a b c d w first second = omega (arith, ints, first, second)

differ_there : (a b c d w : ℤ) → a ≡ b → c ≡ (d +ℤ w) → (a +ℤ c) ≡ ((b +ℤ d) +ℤ w)
differ_there a b c d w first second = omega (arith, ints, first, second)

-- two sums are one where they have the same term at each element that isn't p, and differ by w where they have p once
module _ (f g : Piece → ℤ) (p : Piece) (w : ℤ) (at : f p ≡ (g p +ℤ w)) where
  -- the sums differ by w
  pub total-but : (pieces : List Piece) → AllPairs (λ one other. one.edge ≢ other.edge) pieces → Contains pieces p → All (λ q. q.edge ≢ p.edge → f q ≡ g q) pieces → total f pieces ≡ (total g pieces +ℤ w)
  total-but [] distinct (k, inside, is) all = absurd (omega (arith, inside))
  total-but (q ∷ pieces) distinct (zero, inside, is) all =
      let here : f q ≡ (g q +ℤ w) = subst (λ (r : Piece). f r ≡ (g r +ℤ w)) (sym is) at in
      let others = AllPairs-head (λ (one other : Piece). one.edge ≢ other.edge) q pieces distinct in
      let rest = All-tail (λ (r : Piece). r.edge ≢ p.edge → f r ≡ g r) q pieces all in
      differ_here (f q) (g q) (total f pieces) (total g pieces) w here
      (total-same f g pieces (λ i d within. rest i d within (λ same. others i d within (ap (λ (r : Piece). r.edge) is ∙ sym same))))
  total-but (q ∷ pieces) distinct (suc k, inside, is) all =
      let among : Contains pieces p = (k, omega (arith, inside), is) in
      let others = AllPairs-head (λ (one other : Piece). one.edge ≢ other.edge) q pieces distinct in
      let apart : q.edge ≢ p.edge = All-contains (λ (r : Piece). q.edge ≢ r.edge) pieces p others among in
      differ_there (f q) (g q) (total f pieces) (total g pieces) w (All-head (λ (r : Piece). r.edge ≢ p.edge → f r ≡ g r) q pieces all apart)
      (total-but pieces (AllPairs-tail (λ (one other : Piece). one.edge ≢ other.edge) q pieces distinct) among (All-tail (λ (r : Piece). r.edge ≢ p.edge → f r ≡ g r) q pieces all))

-- ---- what of the pieces is below one

-- the counts of the subject and of the clip
abbrev counts : ℤ → ℤ → Counts
counts a b = record {
  subject = a;
  clip = b;
}

-- what q weighs if it is over the stretch and lower than g there
abbrev counted : ℤ → (Piece → ℤ) → Piece → Piece → ℤ
counted x weigh g q = cond (is_over x q.edge && is_lower_on x q.edge g.edge) (weigh q) (pos 0)

-- two pieces of which the same are lower count the same
same_counted : (over one other : Bool) (w : ℤ) → (over ≡ true → one ≡ true → other ≡ true) → (other ≡ true → one ≡ true) → cond (over && one) w (pos 0) ≡ cond (over && other) w (pos 0)
same_counted false one other w there back = refl
same_counted true true true w there back = refl
same_counted true true false w there back = let h = there refl refl in cc
same_counted true false true w there back = let h = back refl in cc
same_counted true false false w there back = refl

-- and one that is lower than the one alone is what the one counts more
here_counted : (over one other : Bool) (w : ℤ) → over ≡ true → one ≡ true → other ≡ false → cond (over && one) w (pos 0) ≡ (cond (over && other) w (pos 0) +ℤ w)
here_counted true true false w first second third = alone w
  where
    alone : (w : ℤ) → w ≡ (pos 0 +ℤ w)
    alone w = omega (arith, ints)
here_counted true true true w first second third = cc
here_counted true false other w first second third = cc
here_counted false one other w first second third = cc

-- what isn't lower counts nothing
nothing_counted : (over lower : Bool) (w : ℤ) → (over ≡ true → lower ≡ false) → cond (over && lower) w (pos 0) ≡ pos 0
nothing_counted false lower w none = refl
nothing_counted true false w none = refl
nothing_counted true true w none = let h = none refl in cc

module _ (subject clip : List Edge) (closed : IsClosed subject) (clip_closed : IsClosed clip) (noded : AreNoded (subject ++ clip)) (pieces : List Piece) (are : ArePieces subject clip pieces) where
  -- where p is the highest of the pieces that are lower than g
  module _ (x : ℤ) (p g : Piece) (first : Contains pieces p) (second : Contains pieces g) (from : p.edge.x0 ≤ℤ x) (before : x <ℤ p.edge.x1) (lower : is_lower_on x p.edge g.edge ≡ true)
      (highest : (q : Piece) → Contains pieces q → is_over x q.edge ≡ true → is_lower_on x q.edge g.edge ≡ true → (q ≡ p) ⊎ (is_lower_on x q.edge p.edge ≡ true)) where
    -- each other piece that is lower than g is lower than p, and back
    same_at : (weigh : Piece → ℤ) (q : Piece) → Contains pieces q → q.edge ≢ p.edge → counted x weigh g q ≡ counted x weigh p q
    same_at weigh q among differ =
        same_counted (is_over x q.edge) (is_lower_on x q.edge g.edge) (is_lower_on x q.edge p.edge) (weigh q)
        (λ over below. elim (highest q among over below) [ inl same ↦ absurd (differ (ap (λ (r : Piece). r.edge) same)) | inr less ↦ less ])
        (λ less. lower-trans x q.edge p.edge g.edge (onwards subject clip noded pieces are q among) (onwards subject clip noded pieces are p first) (onwards subject clip noded pieces are g second) less lower)

    -- so what is counted below g is what is counted below p, and p
    counted-next : (weigh : Piece → ℤ) → total (counted x weigh g) pieces ≡ (total (counted x weigh p) pieces +ℤ weigh p)
    counted-next weigh =
        total-but (counted x weigh g) (counted x weigh p) p (weigh p)
        (here_counted (is_over x p.edge) (is_lower_on x p.edge g.edge) (is_lower_on x p.edge p.edge) (weigh p) (over_true x p.edge from before) lower (lower-irrefl x p.edge))
        pieces are.distinct first (All-among (λ q. q.edge ≢ p.edge → counted x weigh g q ≡ counted x weigh p q) pieces (same_at weigh))

    -- and the edges below g weigh what those below p weigh, and p
    below-next : (edges : List Edge) (weigh : Piece → ℤ) → AreBalanced edges → AreJoined edges weigh pieces → All (IsAside p.edge) edges
        → total (below_on x g.edge) edges ≡ (total (below_on p.edge.x0 p.edge) edges +ℤ weigh p)
    below-next edges weigh balanced joined beside =
        joined (λ edge. is_over x edge && is_lower_on x edge g.edge)
        ∙ counted-next weigh
        ∙ ap (λ z. z +ℤ weigh p) (sym (joined (λ edge. is_over x edge && is_lower_on x edge p.edge)) ∙ count-along p.edge x edges balanced beside from before)

  -- Where g starts, and p is the highest of the pieces there that are lower, what is below g is what is above p.
  pub counts-next : (p g : Piece) → Contains pieces p → Contains pieces g → p.edge.x0 ≤ℤ g.edge.x0 → g.edge.x0 <ℤ p.edge.x1 → is_lower_on g.edge.x0 p.edge g.edge ≡ true
      → ((q : Piece) → Contains pieces q → is_over g.edge.x0 q.edge ≡ true → is_lower_on g.edge.x0 q.edge g.edge ≡ true → (q ≡ p) ⊎ (is_lower_on g.edge.x0 q.edge p.edge ≡ true))
      → counts_below subject clip g ≡ counts_above subject clip p
  counts-next p g first second from before lower highest =
      ap₂ counts
      (below-next g.edge.x0 p g first second from before lower highest subject (λ piece. piece.subject) (balanced subject closed) are.joined (subject-aside subject clip noded pieces are p first))
      (below-next g.edge.x0 p g first second from before lower highest clip (λ piece. piece.clip) (balanced clip clip_closed) are.clip_joined (clip-aside subject clip noded pieces are p first))

  -- Where none is lower than g, nothing is below it.
  pub counts-first : (g : Piece) → ((q : Piece) → Contains pieces q → is_over g.edge.x0 q.edge ≡ true → is_lower_on g.edge.x0 q.edge g.edge ≡ false)
      → counts_below subject clip g ≡ record { subject = pos 0; clip = pos 0 }
  counts-first g lowest = ap₂ counts (zero_of subject (λ piece. piece.subject) are.joined) (zero_of clip (λ piece. piece.clip) are.clip_joined)
    where
      zero_of : (edges : List Edge) (weigh : Piece → ℤ) → AreJoined edges weigh pieces → total (below_on g.edge.x0 g.edge) edges ≡ pos 0
      zero_of edges weigh joined =
          joined (λ edge. is_over g.edge.x0 edge && is_lower_on g.edge.x0 edge g.edge)
          ∙ total-none (counted g.edge.x0 weigh g) pieces
          (All-among (λ q. counted g.edge.x0 weigh g q ≡ pos 0) pieces (λ q among. nothing_counted (is_over g.edge.x0 q.edge) (is_lower_on g.edge.x0 q.edge g.edge) (weigh q) (lowest q among)))
