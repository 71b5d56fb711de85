use Rattle.std.proofs.Common.{◌≡◌, ◌∷◌, ◌++◌, ◌∙◌, [], ap, ap₂, append_assoc, List, refl, rules}
use Rattle.plane.specs.declared.edge.Edge.{Edge}
use Rattle.plane.specs.declared.point.Point.{Point}
use Rattle.plane.specs.Ends.{edge_between}
use Rattle.offset.specs.declared.fault.MinkowskiFault.TheVariants.{Range}
use Rattle.offset.specs.Faults.{IsRawFault}
use Rattle.offset.specs.Joins.{mitre_by, point_at}
use Rattle.offset.specs.Raw.{IsPointIn32Bits, moved}
use Rattle.offset.proofs.RawLemmas.{earlier-fails, ends-outside, handed-on, later-fails, starts-outside}
use Rattle.offset.proofs.mitres.append_mitre_by.Goals as goal

abbrev tip : Point → Point → Point → Point
tip at from way = moved at (moved from way)

pub returns-in_err-first-clause-fault : goal.returns-in_err-first-clause-fault
returns-in_err-first-clause-fault g c =
    let at = c.args.at in
    let a = moved at c.args.from in
    let b = moved at c.args.to in
    let t = tip at c.args.from (point_at c.args.x c.args.y) in
    handed-on c.from_residual.result _ (IsRawFault (mitre_by at c.args.from c.args.to (point_at c.args.x c.args.y))) c.from_residual.ensures.1
    (earlier-fails (edge_between a t ∷ []) (edge_between t b ∷ edge_between b a ∷ []) _ (starts-outside (edge_between a t) _ c.in_err-first.ensures.fault))

pub returns-in_err-last-clause-fault : goal.returns-in_err-last-clause-fault
returns-in_err-last-clause-fault g c =
    let at = c.args.at in
    let a = moved at c.args.from in
    let b = moved at c.args.to in
    let t = tip at c.args.from (point_at c.args.x c.args.y) in
    handed-on c.from_residual-in_err-last.result _ (IsRawFault (mitre_by at c.args.from c.args.to (point_at c.args.x c.args.y))) c.from_residual-in_err-last.ensures.1
    (later-fails (edge_between a t ∷ []) (edge_between t b ∷ edge_between b a ∷ []) _ (earlier-fails (edge_between t b ∷ []) (edge_between b a ∷ []) _ (ends-outside (edge_between t b) _ c.in_err-last.ensures.fault)))

pub returns-in_default-clause-fault : goal.returns-in_default-clause-fault
returns-in_default-clause-fault g c =
    let at = c.args.at in
    let a = moved at c.args.from in
    let b = moved at c.args.to in
    let t = tip at c.args.from (point_at c.args.x c.args.y) in
    let outside : ¬ (IsPointIn32Bits (moved c.args.at (moved c.args.from (point_at c.args.x c.args.y)))) = search rules in
    earlier-fails (edge_between a t ∷ []) (edge_between t b ∷ edge_between b a ∷ []) Range (ends-outside (edge_between a t) Range (refl, outside))

-- three edges, pushed one after another
three-more : (before first second third : List Edge) (a b c : Edge) → first ≡ (before ++ a ∷ []) → second ≡ (first ++ b ∷ []) → third ≡ (second ++ c ∷ []) → third ≡ (before ++ (a ∷ b ∷ c ∷ []))
three-more before first second third a b c one two three =
    three
    ∙ ap (λ (edges : List Edge). edges ++ c ∷ []) (two ∙ ap (λ (edges : List Edge). edges ++ b ∷ []) one)
    ∙ append_assoc (before ++ a ∷ []) (b ∷ []) (c ∷ [])
    ∙ append_assoc before (a ∷ []) (b ∷ c ∷ [])

pub returns-clause-ok : goal.returns-clause-ok
returns-clause-ok g c =
    let at = c.args.at in
    let a = moved at c.args.from in
    let b = moved at c.args.to in
    let t = tip at c.args.from (point_at c.args.x c.args.y) in
    let is_a : c.in_ok-first.first ≡ a = c.in_ok-first.ensures.ok in
    let is_b : c.in_ok-last.last ≡ b = c.in_ok-last.ensures.ok in
    let is_t : c.in-Some.tip ≡ moved c.args.at (moved c.args.from (point_at c.args.x c.args.y)) = search rules in
    let one = c.edge_between.ensures ∙ ap₂ (λ (p q : Point). edge_between p q) is_a is_t in
    let two = c.edge_between-2.ensures ∙ ap₂ (λ (p q : Point). edge_between p q) is_t is_b in
    let three = c.edge_between-3.ensures ∙ ap₂ (λ (p q : Point). edge_between p q) is_b is_a in
    three-more c.args.edges.now.items _ _ _ (edge_between a t) (edge_between t b) (edge_between b a)
    (c.in_ok-push.ensures.items ∙ ap (λ (e : Edge). c.args.edges.now.items ++ e ∷ []) one)
    (c.in_ok-push-2.ensures.items ∙ ap (λ (e : Edge). c.push.new.self.items ++ e ∷ []) two)
    (c.in_ok-push-3.ensures.items ∙ ap (λ (e : Edge). c.push-2.new.self.items ++ e ∷ []) three)
