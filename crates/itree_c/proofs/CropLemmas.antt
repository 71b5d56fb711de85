-- Lemmas of rings that are cropped one after the other.
use Rattle.std.proofs.Common.{◌≡◌, ◌≤◌, ◌<◌, ◌+◌, ◌++◌, ◌∷◌, [], ℕ, List, ap, arith, get_or, length, refl, subst, suc, sym, take, ◌∙◌}
use Rattle.std.specs.List.{AllZip}
use Rattle.std.proofs.lemmas.List.{length-append}
use Rattle.std.proofs.lemmas.List.Elements.{AllZip-push}
use Rattle.noding.specs.Offsets.{offsets}
use Rattle.overlay.specs.Rings.{rings_of}
use Rattle.overlay.proofs.EachRing.{rings_all, rings_more}
use Rattle.plane.specs.declared.point.Point.{Point}
use Rattle.tiles.specs.Crop.{IsCropped}
use Rattle.tiles.specs.Window.{LiesBeyond, widened}
use Rattle.tiles.specs.declared.window.Window.{Window}
use Rattle.tiles.proofs.InPlace.{AreJoined-more}
use Rattle.itree_c.specs.Tiles.{AreCropped, Becomes}

-- a ring without points becomes nothing
pub nothing-cropped : (window : Window) (cropped : List Point) → IsCropped window [] cropped → cropped ≡ []
nothing-cropped window [] is = refl
nothing-cropped window (point ∷ points) is = absurd (let few = is.size in omega (arith, few))

-- what is appended and changes nothing is nothing
none-appended : (before next : List Point) → before ++ next ≡ before → next ≡ []
none-appended before [] same = refl
none-appended before (point ∷ points) same =
    let sizes : length before ≡ length before + suc (length points) = ap (λ (all : List Point). length all) (sym same) ∙ length-append before (point ∷ points) in
    absurd (omega (arith, sizes))

-- before the first ring there is nothing
pub none-cropped : (window : Window) (points : List Point) (stops : List ℕ) → points ≡ [] → stops ≡ 0 ∷ [] → AreCropped window [] points stops
none-cropped window points stops points_are stops_are = ([], tt, points_are, stops_are)

-- one ring more is cropped
pub one-more-cropped : (window : Window) (points : List Point) (ends : List ℕ) (ring : ℕ) (next before after : List Point) (stops stops' : List ℕ) (end : ℕ) → ring < length ends
    → IsCropped window (get_or (rings_of points 0 ends) ring []) next → (LiesBeyond (widened window) (get_or (rings_of points 0 ends) ring []) → after ≡ before) → after ≡ before ++ next → stops' ≡ stops ++ end ∷ [] → end ≡ length after
    → AreCropped window (take ring (rings_of points 0 ends)) before stops → AreCropped window (take (ring + 1) (rings_of points 0 ends)) after stops'
one-more-cropped window points ends ring next before after stops stops' end inside is gone after_is stops_are end_is (cropped, are, before_is, told) =
    let (after_all, stops_all) = AreJoined-more cropped next before after (offsets 0 cropped) (offsets 0 cropped ++ end ∷ []) end after_is refl end_is (before_is, refl) in (
      cropped ++ next ∷ [],
      subst (λ (rings : List (List Point)). AllZip (Becomes window) rings (cropped ++ next ∷ [])) (sym (rings_more points ends ring inside))
          (AllZip-push (Becomes window) (take ring (rings_of points 0 ends)) cropped (get_or (rings_of points 0 ends) ring []) next are
          (is, λ beyond. none-appended before next (sym after_is ∙ gone beyond))),
      after_all,
      stops_are ∙ ap (λ (all : List ℕ). all ++ end ∷ []) told ∙ ap (λ (all : List ℕ). 0 ∷ all) stops_all,
    )

-- and then all are
pub all-cropped : (window : Window) (points : List Point) (ends : List ℕ) (ring : ℕ) (after : List Point) (stops : List ℕ) → length ends ≤ ring
    → AreCropped window (take ring (rings_of points 0 ends)) after stops → AreCropped window (rings_of points 0 ends) after stops
all-cropped window points ends ring after stops past are =
    subst (λ (rings : List (List Point)). AreCropped window rings after stops) (rings_all points ends ring past) are
