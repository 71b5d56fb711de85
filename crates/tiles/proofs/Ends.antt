-- The last points of a chain, behind other points.
use Rattle.std.proofs.Common.{◌≡◌, inl, inr, ℕ, ◌+◌, ◌-◌, ◌<◌, ◌≤◌, List, [], ◌∷◌, ◌++◌, length, get_or, take, refl, ap, sym, ◌∙◌, subst, append_assoc, arith}
use Rattle.std.proofs.lemmas.List.{get_or-append-add, get_or_at, get_or_default, length-append, length_push, take_at}
use Rattle.plane.specs.declared.point.Point.{Point}
use Rattle.tiles.specs.Pushing.{IsBetween, IsClosedUp, IsShortened}
use Rattle.tiles.specs.declared.window.Window.{Window}

-- A list with a last item.
pub record HasLast {X : Type 0} (xs : List X) : Type 0 where
  pub front : List X
  pub last : X
  pub is : xs ≡ front ++ last ∷ []

pub has_last : {X : Type 0} (xs : List X) → 0 < length xs → HasLast xs
has_last [] some = absurd (omega (arith, some))
has_last (x ∷ []) some = record { front = []; last = x; is = refl }
has_last (x ∷ y ∷ xs) some =
    let rest = has_last (y ∷ xs) (omega arith) in
    record { front = x ∷ rest.front; last = rest.last; is = ap (λ (list : List _). x ∷ list) rest.is }

module _ (before chain front items : List Point) (last : Point) (count : ℕ) (is : items ≡ before ++ chain) (chain_is : chain ≡ front ++ last ∷ []) (size : count ≡ length items) where
  items-are : items ≡ (before ++ front) ++ last ∷ []
  items-are = is ∙ ap (λ (list : List Point). before ++ list) chain_is ∙ sym (append_assoc before front (last ∷ []))

  place : length (before ++ front) ≡ count - 1
  place = let long = ap (λ (list : List Point). length list) items-are in let more = length_push (before ++ front) last in omega (arith, size, long, more)

  -- what stands last
  pub last-read : (point : Point) → point ≡ get_or items (count - 1) point → point ≡ last
  last-read point at = at ∙ ap (λ (list : List Point). get_or list (count - 1) point) items-are ∙ get_or_at (before ++ front) last [] point (count - 1) place

  -- and the list without it
  pub last-cut : (after : List Point) → after ≡ take (count - 1) items → after ≡ before ++ front
  last-cut after cut = cut ∙ ap (λ (list : List Point). take (count - 1) list) items-are ∙ take_at (before ++ front) (last ∷ []) (count - 1) place

module _ (before chain items after : List Point) (start count : ℕ) (is : items ≡ before ++ chain) (begins : length before ≡ start) (size : count ≡ length items) (cut : after ≡ take (count - 1) items) where
  long : count ≡ length before + length chain
  long = let all = ap (λ (list : List Point). length list) is in let sum = length-append before chain in omega (arith, size, all, sum)

  -- the last point is the first one, and goes
  pub last-closes : (first last : Point) → start < count → first ≡ get_or items start first → last ≡ get_or items (count - 1) last → first ≡ last → (ring : List Point) × IsClosedUp chain ring × (after ≡ before ++ ring)
  last-closes first last some first_at last_at same =
      let total = long in
      let within : 0 < length chain = omega (arith, total, begins, some) in
      let ends = has_last chain within in
      let last_is = last-read before chain ends.front items ends.last count is ends.is size last last_at in
      let begin : get_or chain 0 first ≡ first =
      sym (get_or-append-add before chain 0 first)
      ∙ ap (λ (n : ℕ). get_or (before ++ chain) n first) (let there : length before + 0 ≡ start = omega (arith, begins) in there)
      ∙ ap (λ (list : List Point). get_or list start first) (sym is)
      ∙ sym first_at in (
        ends.front,
        inl (ends.last, ends.is, λ default. get_or_default chain 0 default first within ∙ begin ∙ same ∙ last_is),
        last-cut before chain ends.front items ends.last count is ends.is size after cut,
      )

  -- it stands along a side, and goes
  pub last-shortens : (wide : Window) (one other next : Point) → 2 ≤ count - start → one ≡ get_or items (count - 2) one → other ≡ get_or items (count - 1) other → IsBetween wide one other next
      → (kept : List Point) × IsShortened wide next chain kept × (after ≡ before ++ kept)
  last-shortens wide one other next two one_at other_at along =
      let total = long in
      let ends = has_last chain (omega (arith, total, begins, two)) in
      let other_is = last-read before chain ends.front items ends.last count is ends.is size other other_at in
      let shorter = ap (λ (list : List Point). length list) ends.is ∙ length_push ends.front ends.last in
      let more = has_last ends.front (omega (arith, total, begins, two, shorter)) in
      let cut_is = last-cut before chain ends.front items ends.last count is ends.is size after cut in
      let chain_is : chain ≡ more.front ++ more.last ∷ ends.last ∷ [] =
      ends.is ∙ ap (λ (list : List Point). list ++ ends.last ∷ []) more.is ∙ append_assoc more.front (more.last ∷ []) (ends.last ∷ []) in
      let items_are : items ≡ (before ++ more.front) ++ more.last ∷ ends.last ∷ [] =
      is ∙ ap (λ (list : List Point). before ++ list) chain_is ∙ sym (append_assoc before more.front (more.last ∷ ends.last ∷ [])) in
      let place_one : length (before ++ more.front) ≡ count - 2 =
      (let all = ap (λ (list : List Point). length list) items_are in let sum = length-append (before ++ more.front) (more.last ∷ ends.last ∷ []) in omega (arith, size, all, sum)) in
      let one_is : one ≡ more.last =
      one_at ∙ ap (λ (list : List Point). get_or list (count - 2) one) items_are ∙ get_or_at (before ++ more.front) more.last (ends.last ∷ []) one (count - 2) place_one in (
        ends.front,
        inr (more.front, more.last, ends.last, chain_is, subst (λ (p : Point). IsBetween wide p ends.last next) one_is (subst (λ (p : Point). IsBetween wide one p next) other_is along), more.is),
        cut_is,
      )
