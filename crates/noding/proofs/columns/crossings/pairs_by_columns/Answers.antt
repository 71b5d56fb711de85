use Rattle.std.proofs.Common.{◌≡◌, ◌∙◌, ◌<◌, ap, ℕ, List, length, sym, subst, subst₂, arith}
use Rattle.std.specs.List.{All}
use Rattle.plane.specs.declared.columns.Asked.{Asked}
use Rattle.plane.specs.Columns.Asked.{Reaches}
use Rattle.plane.specs.Pairs.Pairs.{ArePairsBetween}
use Rattle.noding.specs.Columns.Ends.{AreDealt}
use Rattle.noding.specs.Columns.Uprights.{IsPairAbout}
use Rattle.plane.specs.Gains.{GainsThese, IsOfSome}
use Rattle.noding.proofs.ColumnLemmas.Ends.{about-within, all-about, all-on, on-within}
use Rattle.noding.proofs.ColumnLemmas.Pairs.{HaveAllCrossed-columns, pairs-within}
use Rattle.noding.proofs.columns.crossings.pairs_by_columns.Goals as goal

pub append_met-requires : goal.append_met-requires
append_met-requires g c = λ k d below.
    let edges = c.args.edges.now in
    let points = c.args.points.now in
    let places = c.in_ok-places.field-0.places.items in
    let first = c.in_ok-places.field-0.asked.items in
    let crossed = c.in_ok-crossed.field-0.crossed.items in
    let met = c.in_ok-crossed.field-0.met.items in
    let about = c.in_ok-about.field-0.about.items in
    let on = c.in_ok-about.field-0.on.items in
    let size = c.in_ok-places.ensures.size in
    let called = c.len.ensures in
    let its = c.deref-4.ensures.len in
    let listed = ap length c.deref-4.ensures.value in
    let count : c.len.result ≡ length places = omega (arith, called, its, listed) in
    let dealt = subst₂ (λ (count : ℕ) (among : List (ℕ × ℕ)). AreDealt count among about on) count c.deref-2.ensures.value c.in_ok-about.ensures in
    let within = subst (λ (asked : List Asked). All (λ pair. (pair.0 < length edges) × (pair.1 < length asked)) met) (c.deref.ensures.value ∙ c.in_ok-ask_at.ensures) c.in_ok-crossed.ensures.met_within in
    let inside = subst (All (λ pair. (pair.0 < length edges) × (pair.1 < length first))) (sym c.deref-3.ensures.value) (about-within edges places first points met about on size dealt within) k d below in
    let lower = inside.1 in
    omega (arith, lower, size, listed)

pub returns-clause-ok : goal.returns-clause-ok
returns-clause-ok g c =
    let edges = c.args.edges.now in
    let points = c.args.points.now in
    let places = c.in_ok-places.field-0.places.items in
    let first = c.in_ok-places.field-0.asked.items in
    let crossed = c.in_ok-crossed.field-0.crossed.items in
    let met = c.in_ok-crossed.field-0.met.items in
    let about = c.in_ok-about.field-0.about.items in
    let on = c.in_ok-about.field-0.on.items in
    let size = c.in_ok-places.ensures.size in
    let called = c.len.ensures in
    let its = c.deref-4.ensures.len in
    let listed = ap length c.deref-4.ensures.value in
    let count : c.len.result ≡ length places = omega (arith, called, its, listed) in
    let dealt = subst₂ (λ (count : ℕ) (among : List (ℕ × ℕ)). AreDealt count among about on) count c.deref-2.ensures.value c.in_ok-about.ensures in
    let told = subst (λ (asked : List Asked). ArePairsBetween Reaches edges asked met) (c.deref.ensures.value ∙ c.in_ok-ask_at.ensures) c.in_ok-crossed.ensures.met in
    let pairs = c.append_met.new.pairs.items in
    let gains = subst₂ (λ (its : List ℕ) (among : List (ℕ × ℕ)). GainsThese (IsOfSome (IsPairAbout its) among) crossed pairs) c.deref-4.ensures.value c.deref-3.ensures.value c.in_ok-append_met.ensures in
    HaveAllCrossed-columns edges places first crossed about pairs c.in_ok-places.ensures gains c.in_ok-crossed.ensures.crossed (all-about edges places first points met about on size dealt told)

pub returns-clause-within : goal.returns-clause-within
returns-clause-within g c =
    let edges = c.args.edges.now in
    let points = c.args.points.now in
    let places = c.in_ok-places.field-0.places.items in
    let first = c.in_ok-places.field-0.asked.items in
    let crossed = c.in_ok-crossed.field-0.crossed.items in
    let met = c.in_ok-crossed.field-0.met.items in
    let about = c.in_ok-about.field-0.about.items in
    let on = c.in_ok-about.field-0.on.items in
    let size = c.in_ok-places.ensures.size in
    let called = c.len.ensures in
    let its = c.deref-4.ensures.len in
    let listed = ap length c.deref-4.ensures.value in
    let count : c.len.result ≡ length places = omega (arith, called, its, listed) in
    let dealt = subst₂ (λ (count : ℕ) (among : List (ℕ × ℕ)). AreDealt count among about on) count c.deref-2.ensures.value c.in_ok-about.ensures in
    let within = subst (λ (asked : List Asked). All (λ pair. (pair.0 < length edges) × (pair.1 < length asked)) met) (c.deref.ensures.value ∙ c.in_ok-ask_at.ensures) c.in_ok-crossed.ensures.met_within in
    let pairs = c.append_met.new.pairs.items in
    let gains = subst₂ (λ (its : List ℕ) (among : List (ℕ × ℕ)). GainsThese (IsOfSome (IsPairAbout its) among) crossed pairs) c.deref-4.ensures.value c.deref-3.ensures.value c.in_ok-append_met.ensures in
    pairs-within edges places first crossed about pairs c.in_ok-places.ensures gains c.in_ok-crossed.ensures.crossed_within (about-within edges places first points met about on size dealt within)

pub returns-clause-on : goal.returns-clause-on
returns-clause-on g c =
    let edges = c.args.edges.now in
    let points = c.args.points.now in
    let places = c.in_ok-places.field-0.places.items in
    let first = c.in_ok-places.field-0.asked.items in
    let met = c.in_ok-crossed.field-0.met.items in
    let about = c.in_ok-about.field-0.about.items in
    let on = c.in_ok-about.field-0.on.items in
    let size = c.in_ok-places.ensures.size in
    let called = c.len.ensures in
    let its = c.deref-4.ensures.len in
    let listed = ap length c.deref-4.ensures.value in
    let count : c.len.result ≡ length places = omega (arith, called, its, listed) in
    let dealt = subst₂ (λ (count : ℕ) (among : List (ℕ × ℕ)). AreDealt count among about on) count c.deref-2.ensures.value c.in_ok-about.ensures in
    let told = subst (λ (asked : List Asked). ArePairsBetween Reaches edges asked met) (c.deref.ensures.value ∙ c.in_ok-ask_at.ensures) c.in_ok-crossed.ensures.met in
    all-on edges places first points met about on size dealt told

pub returns-clause-on_within : goal.returns-clause-on_within
returns-clause-on_within g c =
    let edges = c.args.edges.now in
    let points = c.args.points.now in
    let places = c.in_ok-places.field-0.places.items in
    let first = c.in_ok-places.field-0.asked.items in
    let met = c.in_ok-crossed.field-0.met.items in
    let about = c.in_ok-about.field-0.about.items in
    let on = c.in_ok-about.field-0.on.items in
    let size = c.in_ok-places.ensures.size in
    let called = c.len.ensures in
    let its = c.deref-4.ensures.len in
    let listed = ap length c.deref-4.ensures.value in
    let count : c.len.result ≡ length places = omega (arith, called, its, listed) in
    let dealt = subst₂ (λ (count : ℕ) (among : List (ℕ × ℕ)). AreDealt count among about on) count c.deref-2.ensures.value c.in_ok-about.ensures in
    let within = subst (λ (asked : List Asked). All (λ pair. (pair.0 < length edges) × (pair.1 < length asked)) met) (c.deref.ensures.value ∙ c.in_ok-ask_at.ensures) c.in_ok-crossed.ensures.met_within in
    on-within edges places first points met about on size dealt within
