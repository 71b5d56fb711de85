-- The pieces over a stretch from below up to some height: those of them that are kept weigh whether it is inside.
use Rattle.std.proofs.Common.{◌≡◌, ◌≢◌, ◌++◌, ℤ, pos, ◌-ℤ◌, Bool, true, false, cond, ◌&&◌, List, get_or, refl, ap, ap₂, arith, sym, ◌∙◌}
use Rattle.std.specs.List.{All, AllPairs, Contains, filter}
use Rattle.std.proofs.lemmas.Int.{ints}
use Rattle.std.proofs.lemmas.List.Elements.{All-weaker}
use Rattle.std.proofs.lemmas.List.Kept.{AllPairs-filter}
use Rattle.plane.specs.declared.edge.Edge.{Edge}
use Rattle.i_tree.proofs.RootLemmas.Members.{Contains-from_filter}
use Rattle.overlay.specs.declared.fill.pieces.Piece.{Piece}
use Rattle.overlay.specs.Fill.Counts.{Counts, is_over, is_lower_on, below_on}
use Rattle.overlay.specs.Fill.Filled.{AreNoded}
use Rattle.overlay.specs.Fill.Pieces.{total, AreJoined, ArePieces}
use Rattle.noding.specs.Windings.{IsClosed, count}
use Rattle.overlay.proofs.FillLemmas.Along.{count-along}
use Rattle.overlay.proofs.FillLemmas.Aside.{IsAside}
use Rattle.overlay.proofs.FillLemmas.Balance.{AreBalanced, balanced}
use Rattle.overlay.proofs.FillLemmas.Order.{lower-irrefl, lower-asym, lower-trans, lower-apart}
use Rattle.overlay.proofs.FillLemmas.Premises.{All-among, onwards, meet-pieces, subject-aside, clip-aside}
use Rattle.overlay.proofs.FillLemmas.Ranked.{Differ, sum_below, ranked}
use Rattle.overlay.proofs.FillLemmas.Tests.{over_is}
use Rattle.overlay.proofs.FillLemmas.Totals.{total-same, total-filter}
use Rattle.overlay.proofs.FillLemmas.Wound.{kept}

-- what is lower than a low piece on the stretch is what is low and lower
same_tests : (over low lower : Bool) (w : ℤ) → (low ≡ true → over ≡ true) → (over ≡ true → lower ≡ true → low ≡ true)
    → cond (over && lower) w (pos 0) ≡ cond low (cond lower w (pos 0)) (pos 0)
same_tests true true lower w first second = refl
same_tests true false true w first second = let h = second refl refl in cc
same_tests true false false w first second = refl
same_tests false true lower w first second = let h = first refl in cc
same_tests false false lower w first second = refl

module _ (subject clip : List Edge) (closed : IsClosed subject) (clip_closed : IsClosed clip) (noded : AreNoded (subject ++ clip)) (pieces : List Piece) (are : ArePieces subject clip pieces) where
  -- Some pieces over the stretch from x on are called low, and with each of them all that are lower.
  module _ (x : ℤ) (low : Piece → Bool) (over : (p : Piece) → Contains pieces p → low p ≡ true → is_over x p.edge ≡ true)
      (down : (p q : Piece) → Contains pieces p → Contains pieces q → is_over x p.edge ≡ true → low q ≡ true → is_lower_on x p.edge q.edge ≡ true → low p ≡ true) where
    abbrev lower : Piece → Piece → Bool
    lower one other = is_lower_on x one.edge other.edge

    -- the low pieces
    abbrev here : List Piece
    here = filter low pieces

    abbrev Here : Piece → Type 0
    Here piece = Contains pieces piece × (low piece ≡ true)

    all_here : All Here here
    all_here = All-among Here here (λ piece among. Contains-from_filter low pieces piece among)

    -- what is below a low piece, where it starts, is what of the low ones is lower on the stretch
    below-here : (edges : List Edge) (weigh : Piece → ℤ) → AreBalanced edges → AreJoined edges weigh pieces → (piece : Piece) → Here piece → All (IsAside piece.edge) edges
        → total (below_on piece.edge.x0 piece.edge) edges ≡ sum_below lower weigh here piece
    below-here edges weigh is_balanced joined piece (among, is_low) beside =
        let span = over_is x piece.edge (over piece among is_low) in
        sym (count-along piece.edge x edges is_balanced beside span.0 span.1)
        ∙ joined (λ edge. is_over x edge && is_lower_on x edge piece.edge)
        ∙ total-same (λ other. cond (is_over x other.edge && lower other piece) (weigh other) (pos 0)) (λ other. cond (low other) (cond (lower other piece) (weigh other) (pos 0)) (pos 0)) pieces
        (All-among (λ other. cond (is_over x other.edge && lower other piece) (weigh other) (pos 0) ≡ cond (low other) (cond (lower other piece) (weigh other) (pos 0)) (pos 0)) pieces
        (λ other inside. same_tests (is_over x other.edge) (low other) (lower other piece) (weigh other)
        (over other inside) (λ is_over_too less. down other piece inside among is_over_too is_low less)))
        ∙ total-filter low (λ other. cond (lower other piece) (weigh other) (pos 0)) pieces

    -- of two of them one is lower
    distinct : AllPairs (Differ lower) here
    distinct i j d before within =
        differ (get_or here i d) (get_or here j d) (all_here i d (omega (arith, before, within))) (all_here j d within) (AllPairs-filter (λ (one other : Piece). one.edge ≢ other.edge) low pieces are.distinct i j d before within)
      where
        differ : (one other : Piece) → Here one → Here other → one.edge ≢ other.edge → Differ lower one other
        differ one other (first, low_one) (second, low_other) apart =
            lower-apart one.edge other.edge x (meet-pieces subject clip noded pieces are one other first second) apart (over one first low_one) (over other second low_other)

    module _ (inside : Counts → Bool) (outside : inside (record { subject = pos 0; clip = pos 0 }) ≡ false) where
      -- whether counts are inside, as a number
      abbrev F : ℤ → ℤ → ℤ
      F a b = count (inside (record { subject = a; clip = b }))

      less_none : (a b c : ℤ) → a ≡ (b -ℤ c) → c ≡ pos 0 → a ≡ b
      less_none a b c is nothing = omega (arith, ints, is, nothing)

      -- The low ones that are kept weigh 1 if the sums of all low ones are inside, else 0.
      pub stacked : total (λ piece. cond (low piece) (kept inside subject clip piece) (pos 0)) pieces
          ≡ count (inside (record { subject = total (λ piece. cond (low piece) piece.subject (pos 0)) pieces; clip = total (λ piece. cond (low piece) piece.clip (pos 0)) pieces }))
      stacked =
          let v : Piece → ℤ = λ piece. piece.subject in
          let w : Piece → ℤ = λ piece. piece.clip in
          let v_below : Piece → ℤ = λ piece. total (below_on piece.edge.x0 piece.edge) subject in
          let w_below : Piece → ℤ = λ piece. total (below_on piece.edge.x0 piece.edge) clip in
          total-filter low (kept inside subject clip) pieces
          ∙ less_none (total (kept inside subject clip) here) (F (total v here) (total w here)) (F (pos 0) (pos 0))
          (ranked lower (λ one other. lower-asym x one.edge other.edge) (λ one. lower-irrefl x one.edge) F v w v_below w_below Here
          (λ one second third first_here second_here third_here. lower-trans x one.edge second.edge third.edge (onwards subject clip noded pieces are one first_here.0) (onwards subject clip noded pieces are second second_here.0) (onwards subject clip noded pieces are third third_here.0))
          here all_here distinct
          (All-weaker Here (λ piece. v_below piece ≡ sum_below lower v here piece) (λ piece is_here. below-here subject v (balanced subject closed) are.joined piece is_here (subject-aside subject clip noded pieces are piece is_here.0)) here all_here)
          (All-weaker Here (λ piece. w_below piece ≡ sum_below lower w here piece) (λ piece is_here. below-here clip w (balanced clip clip_closed) are.clip_joined piece is_here (clip-aside subject clip noded pieces are piece is_here.0)) here all_here))
          (ap count outside)
          ∙ sym (ap₂ F (total-filter low v pieces) (total-filter low w pieces))
