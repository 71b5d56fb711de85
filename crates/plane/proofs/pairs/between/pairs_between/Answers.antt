use Rattle.std.proofs.Common.{◌≡◌, ◌≤◌, ◌-◌, ◌∙◌, ℕ, List, length, map, drop, take, ◌++◌, ap, ap₂, sym, subst, arith}
use Rattle.std.specs.List.{All}
use Rattle.std.proofs.Math.Seq.{drop-append_seam}
use Rattle.plane.specs.Pairs.OfTwo.{MeetingOfTwo}
use Rattle.plane.specs.Pairs.Pairs.{ArePairs}
use Rattle.plane.specs.declared.pairs.two.OfTwo.{OfTwo}
use Rattle.plane.proofs.PairsLemmas.Between.{of_two-in_boxes, above, ArePairsBetween-numbered, written_back}
use Rattle.plane.proofs.PairsLemmas.Within.{gained_between-within}
use Rattle.plane.proofs.pairs.between.pairs_between.Goals as goal

pub pairs_among-requires : goal.pairs_among-requires
pairs_among-requires g c = of_two-in_boxes g.X.Boxed.bounds g.Y.Boxed.bounds g.X.Meets.Meeting c.requires

pub number_others-requires-clause-others : goal.number_others-requires-clause-others
number_others-requires-clause-others g c =
    let (pairs, is, are) = (c.in_ok-pairs_among.ensures).ok in
    let listed = c.deref.ensures.value ∙ c.in_ok-both.ensures in
    let start = c.len-start.ensures in
    let size : c.len-start.result ≡ length c.args.out.now.items = omega (arith, start) in
    let behind : drop c.len-start.result c.deref_mut.result.now ≡ pairs =
    ap₂ (λ (n : ℕ) (list : List (ℕ × ℕ)). drop n list) size (c.deref_mut.ensures.value ∙ is) ∙ drop-append_seam c.args.out.now.items pairs in
    subst (All (λ pair. length c.args.items.now ≤ pair.1)) (sym behind)
    (above g.X.Meets.Meeting c.args.items.now c.args.others.now pairs (subst (λ (both : List (OfTwo g.row.X.Denot g.row.Y.Denot)). ArePairs (MeetingOfTwo g.X.Meets.Meeting) both pairs) listed are))

pub returns-clause-ok : goal.returns-clause-ok
returns-clause-ok g c =
    let (pairs, is, are) = (c.in_ok-pairs_among.ensures).ok in
    let listed = c.deref.ensures.value ∙ c.in_ok-both.ensures in
    let numbered : ℕ × ℕ → ℕ × ℕ = λ pair. (pair.0, pair.1 - length c.args.items.now) in
    let start = c.len-start.ensures in
    let size : c.len-start.result ≡ length c.args.out.now.items = omega (arith, start) in
    let whole : c.pairs_among.new.out.len ≡ length c.pairs_among.new.out.items = omega arith in
    let anew = c.number_others.ensures ∙ ap (λ (list : List (ℕ × ℕ)). take c.len-start.result list ++ map numbered (drop c.len-start.result list)) c.deref_mut.ensures.value in (
      map numbered pairs,
      written_back numbered c.args.out.now.items pairs c.pairs_among.new.out.items c.number_others.new.pairs c.len-start.result c.pairs_among.new.out.len is size whole anew,
      ArePairsBetween-numbered g.X.Meets.Meeting c.args.items.now c.args.others.now pairs (subst (λ (both : List (OfTwo g.row.X.Denot g.row.Y.Denot)). ArePairs (MeetingOfTwo g.X.Meets.Meeting) both pairs) listed are),
    )

pub returns-clause-within : goal.returns-clause-within
returns-clause-within g c = gained_between-within g.X.Meets.Meeting c.args.items.now c.args.others.now c.args.out.now.items _ (returns-clause-ok g c)
