-- Points of stretches from the last to the first.
use Rattle.std.proofs.Common.{◌≡◌, ◌⊎◌, inl, inr, ℕ, ◌<◌, ◌-◌, ◌<ℤ◌, List, [], length, get_or, reverse, sym, ap, ap₂, ◌∙◌, subst, arith}
use Rattle.std.specs.List.{AllPairs, Contains}
use Rattle.std.proofs.lemmas.List.{get_or-reverse, length-reverse, reverse-reverse}
use Rattle.plane.specs.declared.point.Point.{Point}
use Rattle.overlay.specs.Contours.Outlines.{ring_point}
use Rattle.plane.specs.Ends.{edge_between, reversed}
use Rattle.monotone_chains.specs.Stretches.{Falls, Rises, chord}

pub Contains-reverse : {X : Type 0} (xs : List X) (x : X) → Contains xs x → Contains (reverse xs) x
Contains-reverse {X} xs x (k, within, is) =
    let size = length-reverse xs in
    let back : length xs - 1 - (length xs - 1 - k) ≡ k = omega (arith, within) in
    (length xs - 1 - k, omega (arith, size, within), get_or-reverse xs (length xs - 1 - k) x (omega (arith, within)) ∙ ap (λ (n : ℕ). get_or xs n x) back ∙ is)

pub Contains-reversed : {X : Type 0} (xs : List X) (x : X) → Contains (reverse xs) x → Contains xs x
Contains-reversed {X} xs x among = subst (λ (ys : List X). Contains ys x) (reverse-reverse xs) (Contains-reverse (reverse xs) x among)

AllPairs-reverse : {X : Type 0} (R : X → X → Type 0) (xs : List X) → AllPairs R xs → AllPairs (λ a b. R b a) (reverse xs)
AllPairs-reverse {X} R xs pairs i j d before within =
    let size = length-reverse xs in
    subst (λ (a : X). R (get_or (reverse xs) j d) a) (sym (get_or-reverse xs i d (omega (arith, size, before, within))))
    (subst (λ (b : X). R b (get_or xs (length xs - 1 - i) d)) (sym (get_or-reverse xs j d (omega (arith, size, within))))
    (pairs (length xs - 1 - j) (length xs - 1 - i) d (omega (arith, size, before, within)) (omega (arith, size, before, within))))

-- where x rises it falls then, and where it falls it rises
pub Rises-reverse : (s : List Point) → Falls s → Rises (reverse s)
Rises-reverse s falls = AllPairs-reverse (λ (one later : Point). later.x <ℤ one.x) s falls

pub ways-reverse : (s : List Point) → Rises s ⊎ Falls s → Rises (reverse s) ⊎ Falls (reverse s)
ways-reverse s (inl rises) = inr (AllPairs-reverse (λ (one later : Point). one.x <ℤ later.x) s rises)
ways-reverse s (inr falls) = inl (Rises-reverse s falls)

pub chord-reverse : (s : List Point) → 0 < length s → chord (reverse s) ≡ reversed (chord s)
chord-reverse s some =
    let size = length-reverse s in
    let none : Point = ring_point [] 0 in
    let first : ring_point (reverse s) 0 ≡ ring_point s (length s - 1) = get_or-reverse s 0 none some ∙ ap (λ (n : ℕ). ring_point s n) (omega arith) in
    let last : ring_point (reverse s) (length (reverse s) - 1) ≡ ring_point s 0 =
    ap (λ (n : ℕ). ring_point (reverse s) (n - 1)) size ∙ get_or-reverse s (length s - 1) none (omega (arith, some)) ∙ ap (λ (n : ℕ). ring_point s n) (omega (arith, some)) in
    ap₂ edge_between first last
