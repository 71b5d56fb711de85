use Rattle.std.proofs.Common.{Bool, true, false, ◌||◌, SFits, w32, w64, ◌≡◌, ◌∙◌, ◌*ℤ◌, pos, int_le, int_lt, refl, sym, ap, rules}
use Rattle.std.specs.Int.{int_max, int_min}
use Rattle.std.specs.Ordering.{int_eq}
use Rattle.std.proofs.lemmas.Int.{to_z-of_z}
use Rattle.overlay.proofs.FillLemmas.Tests.{int_eq-false}
use Rattle.layers.proofs.around.extents.Extent.is_beside.Goals as goal

middle : (a b c : Bool) → b ≡ true → true ≡ ((a || b) || c)
middle false true c is = refl
middle true true c is = refl
middle a false c is = cc

last : (a b c d : Bool) → a ≡ false → b ≡ false → c ≡ d → c ≡ ((a || b) || d)
last false false c d first second is = is
last true b c d first second is = cc
last false true c d first second is = cc

pub returns-then-twice-self : goal.returns-then-twice-self
returns-then-twice-self c =
    let greater : SFits w32 c.max.result = search rules in
    let doubled : SFits w64 c.twice.result = search rules in
    let own : SFits w64 c.args.self.left = search rules in
    let x : SFits w32 c.args.one.x = search rules in
    let other : SFits w32 c.args.other.x = search rules in
    let one : c.twice.result ≡ pos 2 *ℤ c.max.result = simp to_z-of_z at c.twice.ensures in
    let is : c.max.result ≡ int_max c.args.one.x c.args.other.x = simp to_z-of_z at c.max.ensures.value in
    let upto : int_le c.twice.result c.args.self.left ≡ true = simp to_z-of_z at c.if-twice-self.true in
    middle (int_eq c.args.one.x c.args.other.x) (int_le (pos 2 *ℤ int_max c.args.one.x c.args.other.x) c.args.self.left) (int_lt c.args.self.right (pos 2 *ℤ int_min c.args.one.x c.args.other.x))
    (sym (ap (λ z. int_le z c.args.self.left) (one ∙ ap (λ z. pos 2 *ℤ z) is)) ∙ upto)

pub returns : goal.returns
returns c =
    let greater : SFits w32 c.max.result = search rules in
    let lesser : SFits w32 c.min.result = search rules in
    let doubled : SFits w64 c.twice.result = search rules in
    let doubled2 : SFits w64 c.twice-2.result = search rules in
    let own : SFits w64 c.args.self.left = search rules in
    let own2 : SFits w64 c.args.self.right = search rules in
    let x : SFits w32 c.args.one.x = search rules in
    let other : SFits w32 c.args.other.x = search rules in
    let one : c.twice.result ≡ pos 2 *ℤ c.max.result = simp to_z-of_z at c.twice.ensures in
    let two : c.twice-2.result ≡ pos 2 *ℤ c.min.result = simp to_z-of_z at c.twice-2.ensures in
    let is : c.max.result ≡ int_max c.args.one.x c.args.other.x = simp to_z-of_z at c.max.ensures.value in
    let least : c.min.result ≡ int_min c.args.one.x c.args.other.x = simp to_z-of_z at c.min.ensures.value in
    let past : int_le c.twice.result c.args.self.left ≡ false = simp to_z-of_z at c.if-twice-self.false in
    let apart : int_eq c.args.one.x c.args.other.x ≡ false = int_eq-false c.args.one.x c.args.other.x (λ same. c.if-one-other.false (rw same)) in
    let first = sym (ap (λ z. int_le z c.args.self.left) (one ∙ ap (λ z. pos 2 *ℤ z) is)) ∙ past in
    let second = ap (λ z. int_lt c.args.self.right z) (two ∙ ap (λ z. pos 2 *ℤ z) least) in
    simp to_z-of_z (last (int_eq c.args.one.x c.args.other.x) (int_le (pos 2 *ℤ int_max c.args.one.x c.args.other.x) c.args.self.left) (int_lt c.args.self.right c.twice-2.result) (int_lt c.args.self.right (pos 2 *ℤ int_min c.args.one.x c.args.other.x)) apart first second)
