-- Along closed edges what each point gives is gained as often as it is lost.
use Rattle.std.proofs.Common.{◌≡◌, ℕ, suc, ◌+◌, ℤ, pos, ◌+ℤ◌, ◌-ℤ◌, ◌≤ℤ◌, ◌<ℤ◌, Bool, List, ap₂, arith, sym, ◌∙◌}
use Rattle.std.specs.List.{Contains}
use Rattle.std.proofs.lemmas.Int.{ints}
use Rattle.plane.specs.declared.edge.Edge.{Edge}
use Rattle.plane.specs.declared.point.Point.{Point}
use Rattle.overlay.specs.Fill.Counts.{is_over}
use Rattle.overlay.specs.Fill.Pieces.{total}
use Rattle.plane.specs.Ends.{start_of, end_of}
use Rattle.noding.specs.Windings.{count}
use Rattle.overlay.proofs.AreaLemmas.Ranges.{along, along-total, along-same, along-none, along-difference, along-over, reach, in-reach}
use Rattle.overlay.proofs.FillLemmas.Balance.{carried, AreBalanced}
use Rattle.overlay.proofs.FillLemmas.Premises.{All-among}
use Rattle.overlay.proofs.FillLemmas.Totals.{total-same}

-- the number is between two others, the first one among them
abbrev is_between : ℤ → ℤ → ℤ → Bool
is_between first last z = is_over z (record { x0 = first; y0 = pos 0; x1 = last; y1 = pos 0 })

-- as many numbers are between two others as they are apart
between_counts : (first last : ℤ) (n : ℕ) → first <ℤ last → last ≤ℤ (first +ℤ pos n) → along first n (λ z. count (is_between first last z)) ≡ (last -ℤ first)
between_counts first last n some upto =
    along-over (record { x0 = first; y0 = pos 0; x1 = last; y1 = pos 0 }) some (λ z. z) (λ z. pos 1) one first n (omega (arith, ints)) upto
  where
    one : (z : ℤ) → ((z +ℤ pos 1) -ℤ z) ≡ pos 1
    one z = omega (arith, ints)

-- differences from one number
moved : (a b c : ℤ) → ((a -ℤ c) -ℤ (b -ℤ c)) ≡ (a -ℤ b)
moved a b c = omega (arith, ints)

module _ (h : Point → ℤ) (edges : List Edge) (closed : AreBalanced edges) where
  -- no end gives a number that is further from 0
  abbrev most : ℕ
  most = reach (λ (edge : Edge). h (start_of edge)) edges + reach (λ (edge : Edge). h (end_of edge)) edges

  -- the numbers from below all of them up to the highest
  abbrev lowest : ℤ
  lowest = pos 0 -ℤ pos (suc most)

  abbrev many : ℕ
  many = suc most + most

  -- the points that give more than the number
  abbrev gives_more : ℤ → Point → Bool
  gives_more z point = is_between lowest (h point) z

  -- a number by how many of them are below it
  number_counts : (z : ℤ) → (pos 0 -ℤ pos most) ≤ℤ z → z ≤ℤ pos most → along lowest many (λ t. count (is_between lowest z t)) ≡ (z -ℤ lowest)
  number_counts z from upto = between_counts lowest z many (omega (arith, ints, from)) (omega (arith, ints, upto))

  -- what an edge gains by how often it is carried past one of them
  edge_gains : (edge : Edge) → Contains edges edge → along lowest many (λ z. carried (gives_more z) edge) ≡ (h (end_of edge) -ℤ h (start_of edge))
  edge_gains edge among =
      let start = in-reach (λ (e : Edge). h (start_of e)) edges edge among in
      let end = in-reach (λ (e : Edge). h (end_of e)) edges edge among in
      let start_from = start.from in
      let start_upto = start.upto in
      let end_from = end.from in
      let end_upto = end.upto in
      along-difference lowest many (λ z. count (gives_more z (end_of edge))) (λ z. count (gives_more z (start_of edge)))
      ∙ ap₂ (λ a b. a -ℤ b)
      (number_counts (h (end_of edge)) (omega (arith, ints, end_from)) (omega (arith, ints, end_upto)))
      (number_counts (h (start_of edge)) (omega (arith, ints, start_from)) (omega (arith, ints, start_upto)))
      ∙ moved (h (end_of edge)) (h (start_of edge)) lowest

  -- So what the edges gain adds up to nothing.
  pub gains-nothing : total (λ edge. h (end_of edge) -ℤ h (start_of edge)) edges ≡ pos 0
  gains-nothing =
      total-same (λ edge. h (end_of edge) -ℤ h (start_of edge)) (λ edge. along lowest many (λ z. carried (gives_more z) edge)) edges
      (All-among (λ edge. (h (end_of edge) -ℤ h (start_of edge)) ≡ along lowest many (λ z. carried (gives_more z) edge)) edges (λ edge among. sym (edge_gains edge among)))
      ∙ sym (along-total lowest many (λ edge z. carried (gives_more z) edge) edges)
      ∙ along-same lowest many (λ z. total (carried (gives_more z)) edges) (λ z. pos 0) (λ z. closed (gives_more z))
      ∙ along-none lowest many
