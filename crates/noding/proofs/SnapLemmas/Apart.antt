-- Edges that lie apart: the one so far to one side of the other's line that no whole point is passed by both.
use Rattle.std.proofs.Common.{◌≡◌, ◌↔◌, inl, inr, ℕ, zero, suc, ◌+◌, ◌*◌, ℤ, pos, ◌+ℤ◌, ◌-ℤ◌, ◌*ℤ◌, ◌≤ℤ◌, ◌<ℤ◌, Bool, true, false, List, [], ◌∷◌, subst, subst₂, sym, ⊎_elim, arith, refl}
use Rattle.std.specs.Int.RustNames.{unsigned_abs}
use Rattle.std.specs.Int.Signed.{lt_z}
use Rattle.std.specs.List.{Contains}
use Rattle.std.proofs.lemmas.Int.{ints}
use Rattle.plane.specs.declared.edge.Edge.{Edge}
use Rattle.plane.specs.declared.point.Point.{Point}
use Rattle.plane.specs.Ends.{edge_between, end_of, start_of}
use Rattle.plane.specs.Lines.{height_over, margin_of}
use Rattle.plane.proofs.MeetLemmas.Identities.{identity, minus, number, times}
use Rattle.plane.proofs.MeetLemmas.Shares.{whole as all, part_of_one, part_of_other}
use Rattle.noding.specs.Chains.{Passes}
use Rattle.noding.specs.Close.{LieBeyond, LieNear, LiesBeside}
use Rattle.noding.specs.Near.{IsNear}
use Rattle.noding.specs.Windings.{further}
use Rattle.noding.proofs.SnapLemmas.Along.{Passes-in_box, from_at}
use Rattle.noding.proofs.SnapLemmas.Beside.{passed-from, passed-upto, turned}
use Rattle.noding.proofs.SnapLemmas.Hulls.{IsNearHull, near-hull, over}
use Rattle.noding.proofs.SnapLemmas.Near.{IsNear-piece}
use Rattle.noding.proofs.SnapLemmas.Numbers.{abs-negative, n_of}
use Rattle.noding.proofs.SnapLemmas.Rounding.{whole}

-- ---- numbers

le_refl : (a : ℤ) → a ≤ℤ a
le_refl a = omega (arith, ints)

rising : (a b : ℤ) → lt_z a b ≡ true → a ≤ℤ b
rising a b is = omega (arith, ints, is)

falling : (a b : ℤ) → lt_z a b ≡ false → b ≤ℤ a
falling a b is = omega (arith, ints, is)

-- a height n is how much further it lies than the line does, at a
further_upto : (h a f n : ℤ) → n ≡ f -ℤ a → n ≤ℤ h → f ≤ℤ (h +ℤ a)
further_upto h a f n is upto = omega (arith, ints, is, upto)

further_from : (h a f g n : ℤ) → g ≡ pos 0 -ℤ f → n ≡ f -ℤ a → h ≤ℤ n → g ≤ℤ (pos 0 -ℤ (h +ℤ a))
further_from h a f g n back is from = omega (arith, ints, back, is, from)

height_upto : (h a f n m : ℤ) (w : ℕ) → (pos 2 *ℤ f) ≤ℤ (pos 1 *ℤ ((pos 2 *ℤ (h +ℤ a)) +ℤ pos (1 * w))) → n ≡ f -ℤ a → pos w ≡ m → (pos 2 *ℤ n) ≤ℤ ((h +ℤ h) +ℤ m)
height_upto h a f n m w most is size = omega (arith, ints, most, is, size)

height_from : (h a f g n m : ℤ) (w : ℕ) → (pos 2 *ℤ g) ≤ℤ (pos 1 *ℤ ((pos 2 *ℤ (pos 0 -ℤ (h +ℤ a))) +ℤ pos (1 * w))) → g ≡ pos 0 -ℤ f → n ≡ f -ℤ a → pos w ≡ m → ((h +ℤ h) -ℤ m) ≤ℤ (pos 2 *ℤ n)
height_from h a f g n m w most back is size = omega (arith, ints, most, back, is, size)

-- how far a way goes, turned to the side, on both axes
size : (p q : ℤ) → pos (unsigned_abs (pos 0 -ℤ q) + unsigned_abs p) ≡ pos (unsigned_abs p + unsigned_abs q)
size p q = let same = abs-negative q in omega (arith, ints, same)

size_back : (p q : ℤ) → pos (unsigned_abs (pos 0 -ℤ (pos 0 -ℤ q)) + unsigned_abs (pos 0 -ℤ p)) ≡ pos (unsigned_abs p + unsigned_abs q)
size_back p q = let same = abs-negative q in let twice = abs-negative (pos 0 -ℤ q) in let other = abs-negative p in omega (arith, ints, same, twice, other)

-- what lies beyond a margin doesn't come within half of it, by half of it
over_clash : (h m z : ℤ) → ((h +ℤ h) -ℤ m) ≤ℤ (pos 2 *ℤ z) → (pos 2 *ℤ z) ≤ℤ m → m <ℤ h → ⊥
over_clash h m z least upto over = omega (arith, ints, least, upto, over)

under_clash : (h m z : ℤ) → (pos 2 *ℤ z) ≤ℤ ((h +ℤ h) +ℤ m) → (pos 0 -ℤ m) ≤ℤ (pos 2 *ℤ z) → h <ℤ (pos 0 -ℤ m) → ⊥
under_clash h m z most from under = omega (arith, ints, most, from, under)

-- ---- heights

-- what an edge passes lies about as far over a line as the edge does
module _ (edge line : Edge) (x y : ℤ) (passes : Passes edge x y) where
  abbrev point : Point
  point = record { x = x; y = y }

  abbrev ends : List Point
  ends = start_of edge ∷ end_of edge ∷ []

  near : IsNear edge (whole x y)
  near = IsNear-piece edge (edge_between point point) (whole x y) passes passes (0, from_at (edge_between point point))

  hull : IsNearHull ends (whole x y)
  hull = near-hull ends edge (whole x y) (0, omega arith, refl) (1, omega arith, refl) near

  abbrev u : ℤ
  u = pos 0 -ℤ (line.y1 -ℤ line.y0)

  abbrev v : ℤ
  v = line.x1 -ℤ line.x0

  abbrev at : ℤ
  at = (u *ℤ line.x0) +ℤ (v *ℤ line.y0)

  both : (P : Point → Type 0) → P (start_of edge) → P (end_of edge) → (p : Point) → Contains ends p → P p
  both P first last p (zero, within, is) = subst P is first
  both P first last p (suc zero, within, is) = subst P is last
  both P first last p (suc (suc k), within, is) = absurd (omega (arith, within))

  over_line : (p : Point) → height_over line p ≡ further u v p -ℤ at
  over_line p = over line.x0 line.y0 line.x1 line.y1 p.x p.y

  -- not much higher
  below : (h : ℤ) → height_over line (start_of edge) ≤ℤ h → height_over line (end_of edge) ≤ℤ h → (pos 2 *ℤ height_over line point) ≤ℤ ((h +ℤ h) +ℤ margin_of line)
  below h first last =
      height_upto h at (further u v point) (height_over line point) (margin_of line) (unsigned_abs u + unsigned_abs v)
      (hull u v (h +ℤ at)
      (both (λ p. further u v p ≤ℤ (h +ℤ at))
      (further_upto h at (further u v (start_of edge)) (height_over line (start_of edge)) (over_line (start_of edge)) first)
      (further_upto h at (further u v (end_of edge)) (height_over line (end_of edge)) (over_line (end_of edge)) last)))
      (over_line point) (size v (line.y1 -ℤ line.y0))

  -- nor much lower
  above : (h : ℤ) → h ≤ℤ height_over line (start_of edge) → h ≤ℤ height_over line (end_of edge) → ((h +ℤ h) -ℤ margin_of line) ≤ℤ (pos 2 *ℤ height_over line point)
  above h first last =
      height_from h at (further u v point) (further (pos 0 -ℤ u) (pos 0 -ℤ v) point) (height_over line point) (margin_of line) (unsigned_abs (pos 0 -ℤ u) + unsigned_abs (pos 0 -ℤ v))
      (hull (pos 0 -ℤ u) (pos 0 -ℤ v) (pos 0 -ℤ (h +ℤ at))
      (both (λ p. further (pos 0 -ℤ u) (pos 0 -ℤ v) p ≤ℤ (pos 0 -ℤ (h +ℤ at)))
      (further_from h at (further u v (start_of edge)) (further (pos 0 -ℤ u) (pos 0 -ℤ v) (start_of edge)) (height_over line (start_of edge)) (turned u v edge.x0 edge.y0) (over_line (start_of edge)) first)
      (further_from h at (further u v (end_of edge)) (further (pos 0 -ℤ u) (pos 0 -ℤ v) (end_of edge)) (height_over line (end_of edge)) (turned u v edge.x1 edge.y1) (over_line (end_of edge)) last)))
      (turned u v x y) (over_line point) (size_back v (line.y1 -ℤ line.y0))

-- Edges that both pass a whole point don't lie beside each other.
module _ (edge line : Edge) (x y : ℤ) (passes : Passes edge x y) (line_passes : Passes line x y) where
  abbrev first : ℤ
  first = height_over line (start_of edge)

  abbrev last : ℤ
  last = height_over line (end_of edge)

  abbrev height : ℤ
  height = height_over line (record { x = x; y = y })

  upto : (pos 2 *ℤ height) ≤ℤ margin_of line
  upto = passed-upto line x y line_passes

  from : (pos 0 -ℤ margin_of line) ≤ℤ (pos 2 *ℤ height)
  from = passed-from line x y line_passes

  not_beside : ¬ (LiesBeside edge line)
  not_beside = go (lt_z first last) refl
    where
      go : (rises : Bool) → lt_z first last ≡ rises → LiesBeside edge line → ⊥
      go true is (inl over) = over_clash first (margin_of line) height (above edge line x y passes first (le_refl first) (rising first last is)) upto over.0
      go false is (inl over) = over_clash last (margin_of line) height (above edge line x y passes last (falling first last is) (le_refl last)) upto over.1
      go true is (inr under) = under_clash last (margin_of line) height (below edge line x y passes last (rising first last is) (le_refl last)) from under.1
      go false is (inr under) = under_clash first (margin_of line) height (below edge line x y passes first (le_refl first) (falling first last is)) from under.0

-- so they lie near each other
pub near-passed : (one other : Edge) (x y : ℤ) → Passes one x y → Passes other x y → LieNear one other
near-passed one other x y first second =
    let box = Passes-in_box one x y first in
    let other_box = Passes-in_box other x y second in (
      record {
        left = (let a = box.left in let b = other_box.right in omega (arith, ints, a, b));
        right = (let a = other_box.left in let b = box.right in omega (arith, ints, a, b));
        low = (let a = box.low in let b = other_box.high in omega (arith, ints, a, b));
        high = (let a = other_box.low in let b = box.high in omega (arith, ints, a, b));
      },
      ⊎_elim (not_beside one other x y first second) (not_beside other one x y second first),
    )

-- ---- heights by the cross products of two edges

-- of the one edge over the other
pub start-over : (one other : Edge) → height_over other (start_of one) ≡ part_of_one one other
start-over one other =
    let u = minus (number other.x1) (number other.x0) in let v = minus (number other.y1) (number other.y0) in
    identity (minus (times u (minus (number one.y0) (number other.y0))) (times v (minus (number one.x0) (number other.x0))))
    (minus (times (minus (number other.x0) (number one.x0)) v) (times (minus (number other.y0) (number one.y0)) u)) (omega arith)

pub end-over : (one other : Edge) → height_over other (end_of one) ≡ part_of_one one other -ℤ all one other
end-over one other =
    let u = minus (number other.x1) (number other.x0) in let v = minus (number other.y1) (number other.y0) in
    let p = minus (number one.x1) (number one.x0) in let q = minus (number one.y1) (number one.y0) in
    identity (minus (times u (minus (number one.y1) (number other.y0))) (times v (minus (number one.x1) (number other.x0))))
    (minus (minus (times (minus (number other.x0) (number one.x0)) v) (times (minus (number other.y0) (number one.y0)) u)) (minus (times p v) (times q u))) (omega arith)

-- and of the other over the one, the other way round
pub start-under : (one other : Edge) → height_over one (start_of other) ≡ pos 0 -ℤ part_of_other one other
start-under one other =
    let u = minus (number one.x1) (number one.x0) in let v = minus (number one.y1) (number one.y0) in
    identity (minus (times u (minus (number other.y0) (number one.y0))) (times v (minus (number other.x0) (number one.x0))))
    (minus (n_of 0) (minus (times (minus (number other.x0) (number one.x0)) v) (times (minus (number other.y0) (number one.y0)) u))) (omega arith)

pub end-under : (one other : Edge) → height_over one (end_of other) ≡ pos 0 -ℤ (part_of_other one other -ℤ all one other)
end-under one other =
    let u = minus (number one.x1) (number one.x0) in let v = minus (number one.y1) (number one.y0) in
    let p = minus (number other.x1) (number other.x0) in let q = minus (number other.y1) (number other.y0) in
    identity (minus (times u (minus (number other.y1) (number one.y0))) (times v (minus (number other.x1) (number one.x0))))
    (minus (n_of 0) (minus (minus (times (minus (number other.x0) (number one.x0)) v) (times (minus (number other.y0) (number one.y0)) u)) (minus (times u q) (times v p)))) (omega arith)

-- the same side, seen from the other one
LieBeyond-turned : (a b m : ℤ) → LieBeyond a b m → LieBeyond (pos 0 -ℤ a) (pos 0 -ℤ b) m
LieBeyond-turned a b m (inl (start, end)) = inr (omega (arith, ints, start), omega (arith, ints, end))
LieBeyond-turned a b m (inr (start, end)) = inl (omega (arith, ints, start), omega (arith, ints, end))

LieBeyond-back : (a b m : ℤ) → LieBeyond (pos 0 -ℤ a) (pos 0 -ℤ b) m → LieBeyond a b m
LieBeyond-back a b m (inl (start, end)) = inr (omega (arith, ints, start), omega (arith, ints, end))
LieBeyond-back a b m (inr (start, end)) = inl (omega (arith, ints, start), omega (arith, ints, end))

-- So the cross products tell whether one lies beside the other.
pub one-beside : (one other : Edge) → LieBeyond (part_of_one one other) (part_of_one one other -ℤ all one other) (margin_of other) ↔ LiesBeside one other
one-beside one other = (
  subst₂ (λ (a b : ℤ). LieBeyond a b (margin_of other)) (sym (start-over one other)) (sym (end-over one other)),
  subst₂ (λ (a b : ℤ). LieBeyond a b (margin_of other)) (start-over one other) (end-over one other),
)

pub other-beside : (one other : Edge) → LieBeyond (part_of_other one other) (part_of_other one other -ℤ all one other) (margin_of one) ↔ LiesBeside other one
other-beside one other = (
  λ beyond. subst₂ (λ (a b : ℤ). LieBeyond a b (margin_of one)) (sym (start-under one other)) (sym (end-under one other)) (LieBeyond-turned (part_of_other one other) (part_of_other one other -ℤ all one other) (margin_of one) beyond),
  λ beside. LieBeyond-back (part_of_other one other) (part_of_other one other -ℤ all one other) (margin_of one) (subst₂ (λ (a b : ℤ). LieBeyond a b (margin_of one)) (start-under one other) (end-under one other) beside),
)
