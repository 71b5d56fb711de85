-- The edges of a fan: all that start at its point, in whatever order; and fans that stand one after another.
use Rattle.std.proofs.Common.{◌≡◌, inl, inr, ℕ, ◌+◌, ◌-◌, ◌<◌, ◌≤◌, ◌++◌, ◌∷◌, List, [], IsPermutation, drop, get_or, length, map, take, refl, ap, sym, subst, ◌∙◌, arith}
use Rattle.std.specs.List.{All, Contains}
use Rattle.std.proofs.Math.Seq.{drop-append_seam, take-length}
use Rattle.std.proofs.lemmas.Bool.{cases_eq}
use Rattle.std.proofs.lemmas.List.{drop-append-le, length-append, length-drop, length-map, map-append, take-append-le}
use Rattle.std.proofs.lemmas.List.Elements.{All-append, All-contains, All-cons, All-nil, All-weaker, Contains-append_left, Contains-get_or, Contains-push}
use Rattle.std.proofs.lemmas.List.Sorted.{All-permutation, Contains-permutation, IsPermutation-map}
use Rattle.plane.specs.declared.edge.Edge.{Edge}
use Rattle.plane.specs.declared.point.Point.{Point}
use Rattle.overlay.specs.Contours.Fans.{AreAllFrom, AreClockwise, AreFans, IsFan, places}
use Rattle.overlay.specs.Contours.Order.{AreInOrder, IsFirstFrom, point_at}
use Rattle.overlay.specs.declared.contours.fans.Fan.{Fan}
use Rattle.overlay.specs.declared.contours.fans.Spoke.{Spoke}
use Rattle.overlay.proofs.ContourLemmas.Order.{from-first}

-- in another order they are the same
pub AreAllFrom-permuted : (sorted : List Edge) (at : Point) (before after : List Spoke) → IsPermutation before after → AreAllFrom sorted at (places before) → AreAllFrom sorted at (places after)
AreAllFrom-permuted sorted at before after moved all =
    let same = IsPermutation-map (λ (spoke : Spoke). spoke.place) before after moved in record {
      inside = All-permutation (λ (place : ℕ). place < length sorted) (places before) (places after) same all.inside;
      start = All-permutation (λ (place : ℕ). point_at sorted place ≡ at) (places before) (places after) same all.start;
      all = λ place within starts. Contains-permutation (places before) (places after) place same (all.all place within starts);
    }

-- ---- those so far

-- From the first that starts at a point, and before this place, all start there, and the spokes are these.
pub record AreSoFar (sorted : List Edge) (at : Point) (corner place : ℕ) (spokes : List Spoke) : Type 0 where
  pub from : corner ≤ place
  pub upto : place ≤ length sorted
  pub inside : All (λ k. k < length sorted) (places spokes)
  pub start : All (λ k. point_at sorted k ≡ at) (places spokes)
  pub all : (k : ℕ) → corner ≤ k → k < place → Contains (places spokes) k

pub so-far-none : (sorted : List Edge) (at : Point) (corner : ℕ) (spokes : List Spoke) → corner < length sorted → spokes ≡ [] → AreSoFar sorted at corner corner spokes
so-far-none sorted at corner spokes within none = record {
  from = omega arith;
  upto = omega (arith, within);
  inside = subst (λ (list : List Spoke). All (λ k. k < length sorted) (places list)) (sym none) (All-nil (λ (k : ℕ). k < length sorted));
  start = subst (λ (list : List Spoke). All (λ k. point_at sorted k ≡ at) (places list)) (sym none) (All-nil (λ (k : ℕ). point_at sorted k ≡ at));
  all = λ k first before. absurd (omega (arith, first, before));
}

-- one more
pub so-far-more : (sorted : List Edge) (at : Point) (corner place : ℕ) (spokes : List Spoke) (spoke : Spoke) → AreSoFar sorted at corner place spokes → place < length sorted → point_at sorted place ≡ at → spoke.place ≡ place
    → AreSoFar sorted at corner (place + 1) (spokes ++ spoke ∷ [])
so-far-more sorted at corner place spokes spoke are within starts is =
    let from = are.from in
    let list : places (spokes ++ spoke ∷ []) ≡ places spokes ++ place ∷ [] = map-append (λ (s : Spoke). s.place) spokes (spoke ∷ []) ∙ ap (λ (k : ℕ). places spokes ++ k ∷ []) is in record {
      from = omega (arith, from);
      upto = omega (arith, within);
      inside = subst (λ (ks : List ℕ). All (λ k. k < length sorted) ks) (sym list)
          (All-append (λ (k : ℕ). k < length sorted) (places spokes) (place ∷ []) are.inside (All-cons (λ (k : ℕ). k < length sorted) place [] within (All-nil (λ (k : ℕ). k < length sorted))));
      start = subst (λ (ks : List ℕ). All (λ k. point_at sorted k ≡ at) ks) (sym list)
          (All-append (λ (k : ℕ). point_at sorted k ≡ at) (places spokes) (place ∷ []) are.start (All-cons (λ (k : ℕ). point_at sorted k ≡ at) place [] starts (All-nil (λ (k : ℕ). point_at sorted k ≡ at))));
      all = λ k first before. subst (λ (ks : List ℕ). Contains ks k) (sym list) (elim (cases_eq k place) [
        | inl same ↦ subst (λ (m : ℕ). Contains (places spokes ++ place ∷ []) m) (sym same) (Contains-push (places spokes) place)
        | inr differs ↦ Contains-append_left (places spokes) (place ∷ []) k (are.all k first (omega (arith, before, differs)))
      ]);
    }

-- where no other one starts at the point they are all
pub so-far-all : (sorted : List Edge) (order : AreInOrder sorted) (at : Point) (corner place : ℕ) (spokes : List Spoke) → IsFirstFrom sorted at corner → AreSoFar sorted at corner place spokes
    → ((k : ℕ) → k < length sorted → point_at sorted k ≡ at → k < place) → AreAllFrom sorted at (places spokes)
so-far-all sorted order at corner place spokes first are past = record {
  inside = are.inside;
  start = are.start;
  all = λ k within starts. are.all k (from-first sorted order at corner first k starts) (past k within starts);
}

-- ---- fans one after another

abbrev part : Fan → List Spoke → List Spoke
part fan spokes = take (fan.end - fan.start) (drop fan.start spokes)

-- a fan stays where others come behind it
part-stays : (fan : Fan) (spokes more : List Spoke) → fan.start ≤ fan.end → fan.end ≤ length spokes → part fan (spokes ++ more) ≡ part fan spokes
part-stays fan spokes more upto inside =
    let long = length-drop fan.start spokes in
    ap (λ (list : List Spoke). take (fan.end - fan.start) list) (drop-append-le fan.start spokes more (omega (arith, upto, inside)))
    ∙ take-append-le (fan.end - fan.start) (drop fan.start spokes) more (omega (arith, upto, inside, long))

fan-stays : (sorted : List Edge) (spokes more : List Spoke) (fan : Fan) → IsFan sorted spokes fan → IsFan sorted (spokes ++ more) fan
fan-stays sorted spokes more fan is =
    let same = part-stays fan spokes more is.upto is.inside in
    let inside = is.inside in
    let long = length-append spokes more in record {
      upto = is.upto;
      inside = omega (arith, inside, long);
      all = subst (λ (list : List Spoke). AreAllFrom sorted (point_at sorted fan.corner) (places list)) (sym same) is.all;
      clockwise = subst (λ (list : List Spoke). AreClockwise sorted (point_at sorted fan.corner) (places list)) (sym same) is.clockwise;
    }

-- the part of a fan that is new
part-new : (spokes more : List Spoke) (count : ℕ) → count ≡ length more → take count (drop (length spokes) (spokes ++ more)) ≡ more
part-new spokes more count is =
    ap (λ (list : List Spoke). take count list) (drop-append_seam spokes more) ∙ ap (λ (n : ℕ). take n more) is ∙ take-length more

-- one more fan
pub fans-more : (sorted : List Edge) (spokes more : List Spoke) (fans : List Fan) (fan : Fan) → AreFans sorted spokes fans → fan.start ≡ length spokes → fan.end ≡ length (spokes ++ more) → AreAllFrom sorted (point_at sorted fan.corner) (places more)
    → AreClockwise sorted (point_at sorted fan.corner) (places more) → AreFans sorted (spokes ++ more) (fans ++ fan ∷ [])
fans-more sorted spokes more fans fan are start end all clockwise =
    let long = length-append spokes more in
    let same : part fan (spokes ++ more) ≡ more = ap (λ (n : ℕ). take (fan.end - fan.start) (drop n (spokes ++ more))) start ∙ part-new spokes more (fan.end - fan.start) (omega (arith, start, end, long)) in
    let is : IsFan sorted (spokes ++ more) fan = record {
      upto = omega (arith, start, end, long);
      inside = omega (arith, end);
      all = subst (λ (list : List Spoke). AreAllFrom sorted (point_at sorted fan.corner) (places list)) (sym same) all;
      clockwise = subst (λ (list : List Spoke). AreClockwise sorted (point_at sorted fan.corner) (places list)) (sym same) clockwise;
    } in
    All-append (IsFan sorted (spokes ++ more)) fans (fan ∷ []) (All-weaker (IsFan sorted spokes) (IsFan sorted (spokes ++ more)) (fan-stays sorted spokes more) fans are)
    (All-cons (IsFan sorted (spokes ++ more)) fan [] is (All-nil (IsFan sorted (spokes ++ more))))
