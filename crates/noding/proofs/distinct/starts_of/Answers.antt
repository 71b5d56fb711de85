use Rattle.std.proofs.Common.{◌≡◌, ◌+◌, ◌++◌, ◌∷◌, [], List, ℕ, length, get_or, refl, subst, sym, ap, ◌∙◌}
use Rattle.std.proofs.Math.Seq.{get_or-append_seam}
use Rattle.noding.specs.Distinct.{AreStarts}
use Rattle.noding.specs.Stops.{AreAt}
use Rattle.noding.proofs.ChainLemmas.Copies.{starts-first, starts-more}
use Rattle.noding.proofs.distinct.starts_of.Goals as goal

pub loop-place-init : goal.loop-place-init
loop-place-init g c =
    let stops = c.args.stops.now in
    let is : c.push.new.self.items ≡ 0 ∷ [] = c.in_ok-push.ensures.items ∙ ap (λ (list : List ℕ). list ++ 0 ∷ []) c.new-starts.ensures.items in
    subst (λ (starts : List ℕ). AreStarts 0 stops starts × (0 ≡ get_or starts 0 0)) (sym is) (starts-first stops, refl)

pub loop-place-preserved : goal.loop-place-preserved
loop-place-preserved g c =
    let stops = c.args.stops.now in
    let k = c.loop-place.place in
    let starts = c.loop-place.starts.items in
    let end = c.end_of_run-next.result in
    let (are, next) = c.loop-place.invariant in
    let size : length starts ≡ k + 1 = are.size in
    let run = subst (λ (n : ℕ). AreAt k n end stops) next c.end_of_run-next.ensures in
    let at : get_or (starts ++ end ∷ []) (k + 1) 0 ≡ end = ap (λ (n : ℕ). get_or (starts ++ end ∷ []) n 0) (sym size) ∙ get_or-append_seam starts end [] 0 in
    subst (λ (list : List ℕ). AreStarts (k + 1) stops list × (end ≡ get_or list (k + 1) 0)) (sym c.in_ok-push-2.ensures.items)
    (starts-more stops k end starts c.requires are run, sym at)
