-- Where closed edges of a polygon go whole around its rings, these share points along no circle.
--
-- Cut free in one of its points, a ring is on a side with those that still hold it: that hold together without it, and share
-- another point with it. Were one of those that share the point itself among them, edges of theirs would lead from the one point of
-- the ring to the other one.
use Rattle.std.proofs.Common.{◌≡◌, ◌≢◌, ◌==◌, inl, inr, ◌&&◌, ◌||◌, ℕ, Bool, true, not, List, [], ap, length, refl, sym, subst, ◌∙◌}
use Rattle.std.specs.List.{All, Contains, flat_map, list_any, range_with_len}
use Rattle.std.proofs.lemmas.Bool.{and_from, and_parts, both_ways, cases_eq, ne_eqb, not-true, not_from_false, or_left}
use Rattle.std.proofs.lemmas.Bool.Decides.{Decides-eqb}
use Rattle.std.proofs.lemmas.List.Elements.{Contains-get_or}
use Rattle.plane.specs.declared.point.Point.{Point}
use Rattle.overlay.specs.Contours.Rings.{IsRing, ring_edges}
use Rattle.overlay.specs.Fill.Filled.{AreDistinct}
use Rattle.overlay.specs.OnePiece.{ComesFreeBy, GoWhole, IsThere, ShareAlongNoCircle, SharesIn}
use Rattle.overlay.proofs.CircleLemmas.Classes.{class_of}
use Rattle.overlay.proofs.CircleLemmas.Links.{class-leads, differ-held, differ-told, links, ring_at, sharing-alike, within-by}
use Rattle.overlay.proofs.CircleLemmas.Round.{no-round}
use Rattle.overlay.proofs.CircleLemmas.Searches.{has_point, has_point-held, has_point-told, numbers-held, some-held, some-told}
use Rattle.overlay.proofs.ContourLemmas.Counts.{is_at, is_at-itself, is_at-other}

module _ (polygon : List (List Point)) (place : ℕ) (point : Point) where
  -- ---- which rings still hold it

  abbrev ring : ℕ → List Point
  ring one = ring_at polygon place one

  abbrev class : ℕ → ℕ
  class one = class_of (links polygon place) one

  -- another point of it
  abbrev is_elsewhere : Point → Bool
  is_elsewhere at = not (is_at point at) && has_point (ring place) at

  abbrev holds_on : ℕ → ℕ → Bool
  holds_on of one = (class one == of) && (not (one == place) && list_any is_elsewhere (ring one))

  -- Another ring, of this class, has another point of it.
  abbrev is_held : ℕ → Bool
  is_held of = list_any (holds_on of) (range_with_len 0 (length polygon))

  record IsHeld (of : ℕ) : Type 0 where
    one : ℕ
    at : Point
    of_class : class one ≡ of
    other : one ≢ place
    elsewhere : at ≢ point
    held : Contains (ring one) at
    held_too : Contains (ring place) at

  held-told : (of : ℕ) → is_held of ≡ true → IsHeld of
  held-told of told =
      let (one, among, holding) = some-told (holds_on of) (range_with_len 0 (length polygon)) told in
      let (of_class, rest) = and_parts (class one == of) (not (one == place) && list_any is_elsewhere (ring one)) holding in
      let (other, some) = and_parts (not (one == place)) (list_any is_elsewhere (ring one)) rest in
      let (at, held, away) = some-told is_elsewhere (ring one) some in
      let (isnt, held_too) = and_parts (not (is_at point at)) (has_point (ring place) at) away in
      record {
        one = one;
        at = at;
        of_class = (Decides-eqb (class one) of).0 of_class;
        other = differ-told one place other;
        elsewhere = λ same. both_ways (is_at point at) (not-true (is_at point at) isnt) (ap (λ (p : Point). is_at point p) same ∙ is_at-itself point);
        held = held;
        held_too = has_point-told (ring place) at held_too;
      }

  held-so : (of : ℕ) → IsHeld of → is_held of ≡ true
  held-so of is =
      some-held (holds_on of) (range_with_len 0 (length polygon)) is.one (numbers-held (length polygon) is.one (within-by polygon is.one is.at is.held))
      (and_from (class is.one == of) (not (is.one == place) && list_any is_elsewhere (ring is.one)) ((Decides-eqb (class is.one) of).1 is.of_class)
      (and_from (not (is.one == place)) (list_any is_elsewhere (ring is.one)) (differ-held is.one place is.other)
      (some-held is_elsewhere (ring is.one) is.at is.held
      (and_from (not (is_at point is.at)) (has_point (ring place) is.at) (not_from_false (is_at point is.at) (is_at-other point is.at is.elsewhere))
      (has_point-held (ring place) is.at is.held_too)))))

  -- ---- the sides

  abbrev side : ℕ → Bool
  side one = (one == place) || is_held (class one)

  side-own : side place ≡ true
  side-own = or_left (place == place) (is_held (class place)) ((Decides-eqb place place).1 refl)

  side-other : (one : ℕ) → one ≢ place → side one ≡ is_held (class one)
  side-other one apart = ap (λ (t : Bool). t || is_held (class one)) (ne_eqb one place apart)

  -- a ring that shares another point with it is on its side
  side-sharing : (one : ℕ) (at : Point) → one ≢ place → at ≢ point → Contains (ring one) at → Contains (ring place) at → side one ≡ true
  side-sharing one at apart elsewhere held held_too =
      side-other one apart ∙ held-so (class one) (record { one = one; at = at; of_class = refl; other = apart; elsewhere = elsewhere; held = held; held_too = held_too })

  -- it and one that shares a point with others
  own-alike : (own one : ℕ) (at : Point) → own ≡ place → one ≢ place → SharesIn polygon own at → SharesIn polygon one at → ¬ (IsThere place point own at)
      → side own ≡ side one
  own-alike own one at is apart first second elsewhere =
      ap side is ∙ side-own
      ∙ sym (side-sharing one at apart (λ same. elsewhere (is, same)) second.held (subst (λ (number : ℕ). Contains (ring number) at) is first.held))

  sides-alike : (one other : ℕ) (at : Point) → SharesIn polygon one at → SharesIn polygon other at → ¬ (IsThere place point one at) → ¬ (IsThere place point other at)
      → side one ≡ side other
  sides-alike one other at first second elsewhere elsewhere_too = elim (cases_eq one place) [
    | inl is ↦ elim (cases_eq other place) [
      | inl is_too ↦ ap side (is ∙ sym is_too)
      | inr apart ↦ own-alike one other at is apart first second elsewhere
    ]
    | inr apart ↦ elim (cases_eq other place) [
      | inl is ↦ sym (own-alike other one at is apart second first elsewhere_too)
      | inr apart_too ↦
          side-other one apart ∙ ap is_held (sharing-alike polygon place one other at apart apart_too first.held second.held) ∙ sym (side-other other apart_too)
    ]
  ]

  module _ (each : All IsRing polygon) (distinct : AreDistinct (flat_map ring_edges polygon)) (whole : GoWhole polygon) (shares : SharesIn polygon place point) where
    -- none that shares the point is among those that still hold it
    not-held : (other : ℕ) → SharesIn polygon other point → IsHeld (class other) → ⊥
    not-held other is by =
        no-round polygon whole (ring place) (Contains-get_or polygon place [] shares.within) (each place [] shares.within) point by.at shares.held by.held_too by.elsewhere
        (class-leads polygon place each distinct shares.within by.one other (within-by polygon by.one by.at by.held, by.other) by.of_class by.at point by.held is.held)

    sides-across : (other : ℕ) → SharesIn polygon other point → other ≢ place → side other ≢ side place
    sides-across other is apart same = not-held other is (held-told (class other) (sym (side-other other apart) ∙ same ∙ side-own))

    pub comes-free : ComesFreeBy (SharesIn polygon) place point
    comes-free = record { side = side; alike = sides-alike; across = sides-across }

-- The rings of a polygon share points along no circle.
pub share-along-no-circle : (polygon : List (List Point)) → All IsRing polygon → AreDistinct (flat_map ring_edges polygon) → GoWhole polygon → ShareAlongNoCircle polygon
share-along-no-circle polygon each distinct whole place point shares = comes-free polygon place point each distinct whole shares
