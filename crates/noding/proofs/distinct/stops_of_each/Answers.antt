use Rattle.std.proofs.Common.{◌≡◌, ◌+◌, ◌<◌, ◌≤◌, ◌++◌, List, ℕ, length, get_or, map, subst, subst₂, sym, ap, ap₂, ◌∙◌, arith}
use Rattle.std.specs.List.{All}
use Rattle.std.proofs.lemmas.Grind.{get_or_default_zero}
use Rattle.noding.specs.Distinct.{AreCopied, AreStarts, at_place}
use Rattle.noding.specs.Offsets.{between}
use Rattle.noding.specs.declared.stops.Stop.{Stop}
use Rattle.noding.proofs.ChainLemmas.Copies.{copied-next, copied-none, like-below, like-rising}
use Rattle.noding.proofs.distinct.stops_of_each.Goals as goal

pub loop-place-init : goal.loop-place-init
loop-place-init g c = subst (AreCopied c.args.distinct.now.places.items 0 c.args.stops.now) (sym c.in_ok-copies.ensures.items) (copied-none c.args.distinct.now.places.items c.args.stops.now)

pub stops_at-own-requires : goal.stops_at-own-requires
stops_at-own-requires g c =
    let stops = c.args.stops.now in
    let count = length c.args.distinct.now.edges.items in
    let places = c.deref-like-items.result.now in
    let k = c.loop-place.place in
    let starts = c.in_ok-starts.starts.items in
    let like = get_or places k 0 in
    let told = c.len.ensures in
    let long : c.len.result ≡ count = omega (arith, told) in
    let are = subst (λ (n : ℕ). AreStarts n stops starts) long c.in_ok-starts.ensures in
    let likes = subst (All (λ like. like < count)) (sym c.deref-like-items.ensures.value) c.requires.within in
    let below = like-below places count stops starts are likes k c.loop-place-test.true in
    let size : length starts ≡ count + 1 = are.size in
    let (rising, inside) = like-rising places count stops starts are likes k c.loop-place-test.true in
    let start_is = c.index.ensures ∙ get_or_default_zero starts like c.index.result.now (omega (arith, below, size)) in
    let end_is = c.index-in-loop-place.ensures ∙ get_or_default_zero starts (like + 1) c.index-in-loop-place.result.now (omega (arith, below, size)) in (
      subst₂ (λ (m n : ℕ). m ≤ n) (sym start_is) (sym end_is) rising,
      subst (λ (n : ℕ). n ≤ length stops) (sym end_is) inside,
    )

pub loop-place-preserved : goal.loop-place-preserved
loop-place-preserved g c =
    let stops = c.args.stops.now in
    let count = length c.args.distinct.now.edges.items in
    let places = c.deref-like-items.result.now in
    let same = c.deref-like-items.ensures.value in
    let k = c.loop-place.place in
    let starts = c.in_ok-starts.starts.items in
    let copies = c.loop-place.copies.items in
    let like = get_or places k 0 in
    let told = c.len.ensures in
    let long : c.len.result ≡ count = omega (arith, told) in
    let are = subst (λ (n : ℕ). AreStarts n stops starts) long c.in_ok-starts.ensures in
    let likes = subst (All (λ like. like < count)) (sym same) c.requires.within in
    let below = like-below places count stops starts are likes k c.loop-place-test.true in
    let size : length starts ≡ count + 1 = are.size in
    let start_is = c.index.ensures ∙ get_or_default_zero starts like c.index.result.now (omega (arith, below, size)) in
    let end_is = c.index-in-loop-place.ensures ∙ get_or_default_zero starts (like + 1) c.index-in-loop-place.result.now (omega (arith, below, size)) in
    let run : c.stops_at-own.result.now ≡ between (get_or starts like 0) (get_or starts (like + 1) 0) stops =
    c.stops_at-own.ensures ∙ ap₂ (λ (m n : ℕ). between m n stops) start_is end_is in
    let gained = c.in_ok-append_at.ensures ∙ ap (λ (own : List Stop). copies ++ map (at_place k) own) run in
    let so_far = subst (λ (list : List ℕ). AreCopied list k stops copies) (sym same) c.loop-place.invariant in
    subst₂ (λ (list : List ℕ) (all : List Stop). AreCopied list (k + 1) stops all) same (sym gained)
    (copied-next places count stops starts are likes k c.loop-place-test.true c.requires.in_order copies so_far)

pub returns : goal.returns
returns g c =
    let places = c.args.distinct.now.places.items in
    let k = c.loop-place.place in
    let all = c.loop-place-test.false in
    let upto = c.loop-place.auto.place-end in
    let size : length c.deref-like-items.result.now ≡ length places = ap (λ (list : List ℕ). length list) c.deref-like-items.ensures.value in
    let same : k ≡ length places = omega (arith, all, upto, size) in
    subst (λ (n : ℕ). AreCopied places n c.args.stops.now c.loop-place.copies.items) same c.loop-place.invariant
