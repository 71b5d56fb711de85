-- Comparisons that a sweep by columns counts, one stretch of them after another.
use Rattle.std.proofs.Common.{◌≡◌, ◌∙◌, ℕ, ◌+◌, ◌*◌, ◌≤◌, List, [], ◌∷◌, ◌++◌, length, length-append, ap, arith}
use Rattle.std.proofs.Math.Nat.{mul-le-mul_left}
use Rattle.i_tree.specs.Root.Descent.{Searches}
use Rattle.i_tree.specs.Root.Steps.{Accumulates, Counts, nothing, one_comparison, together}
use Rattle.plane.specs.Columns.Steps.{AppendsComparing, Compares, ExchangesComparing}

module _ {S : Type 0} {Made : S → S → Counts → Type 0} (law : Accumulates Made) where
  -- none are made where nothing is done
  pub Compares-none : (state : S) (active descents others : ℕ) → Compares Made state state active descents others
  Compares-none state active descents others = record { made = nothing; counted = law.none state; comparisons = λ levels few. omega arith }

module _ {S : Type 0} {Made : S → S → Counts → Type 0} where
  -- one by itself
  pub Compares-one : (old new : S) (active descents others : ℕ) → Made old new one_comparison → Compares Made old new active descents (others + 1)
  Compares-one old new active descents others one = record { made = one_comparison; counted = one; comparisons = λ levels few. omega arith }

  -- as many as a descent takes
  pub Compares-descent : (old new : S) (active : ℕ) → Searches Made old new active 0 0 → Compares Made old new active 1 0
  Compares-descent old new active searched = record {
    made = searched.made;
    counted = searched.counted;
    comparisons = λ levels few. let most = searched.compares levels few in omega (arith, most);
  }

  -- more may be active, and more be made
  pub Compares-weaker : (old new : S) (active descents others active' descents' others' : ℕ) → active ≤ active' → descents ≤ descents' → others ≤ others'
      → Compares Made old new active descents others → Compares Made old new active' descents' others'
  Compares-weaker old new active descents others active' descents' others' upto more more_others compares = record {
    made = compares.made;
    counted = compares.counted;
    comparisons = λ levels few.
        let most = compares.comparisons levels (omega (arith, upto, few)) in
        let product : 2 * levels * descents ≤ 2 * levels * descents' = mul-le-mul_left (2 * levels) more in
        omega (arith, most, product, more_others);
  }

module _ {S : Type 0} {Made : S → S → Counts → Type 0} (law : Accumulates Made) where
  -- what is made first and what is made then
  pub Compares-both : (old mid new : S) (active descents others descents' others' : ℕ) → Compares Made old mid active descents others → Compares Made mid new active descents' others'
      → Compares Made old new active (descents + descents') (others + others')
  Compares-both old mid new active descents others descents' others' first second = record {
    made = together first.made second.made;
    counted = law.both old mid new first.made second.made first.counted second.counted;
    comparisons = λ levels few.
        let most = first.comparisons levels few in
        let most_then = second.comparisons levels few in
        omega (arith, most, most_then);
  }

-- ---- pairs that are gained, each by a comparison

module _ {S : Type 0} (Made : S → S → Counts → Type 0) where
  -- so far
  pub record AreCompared (old new : S) (before after : List (ℕ × ℕ)) : Type 0 where
    pub gained : ℕ
    pub gains : length after ≡ length before + gained
    pub compares : Compares Made old new 0 0 gained

module _ {S : Type 0} {Made : S → S → Counts → Type 0} where
  -- all are
  pub AreCompared-all : (old new : S) (before after : List (ℕ × ℕ)) → AreCompared Made old new before after → AppendsComparing Made old new 0 0 before after
  AreCompared-all old new before after so_far = record {
    gained = so_far.gained;
    gains = so_far.gains;
    compares = Compares-weaker old new 0 0 so_far.gained 0 0 (so_far.gained + 1) (omega arith) (omega arith) (omega arith) so_far.compares;
  }

module _ {S : Type 0} {Made : S → S → Counts → Type 0} (law : Accumulates Made) where
  -- none is, before the first
  pub AreCompared-none : (state : S) (before : List (ℕ × ℕ)) → AreCompared Made state state before before
  AreCompared-none state before = record { gained = 0; gains = omega arith; compares = Compares-none law state 0 0 0 }

  more : (old mid new : S) (gained : ℕ) → Compares Made old mid 0 0 gained → Made mid new one_comparison → Compares Made old new 0 0 (gained + 1)
  more old mid new gained so_far one = Compares-both law old mid new 0 0 gained 0 1 so_far (Compares-one mid new 0 0 0 one)

  -- one more was gained
  pub AreCompared-next : (old mid new : S) (before after then : List (ℕ × ℕ)) → length then ≡ length after + 1 → AreCompared Made old mid before after → Made mid new one_comparison → AreCompared Made old new before then
  AreCompared-next old mid new before after then longer so_far one = record {
    gained = so_far.gained + 1;
    gains = omega (arith, longer, so_far.gains);
    compares = more old mid new so_far.gained so_far.compares one;
  }

  -- the last comparison gained none
  pub AreCompared-last : (old mid new : S) (before after : List (ℕ × ℕ)) → AreCompared Made old mid before after → Made mid new one_comparison → AppendsComparing Made old new 0 0 before after
  AreCompared-last old mid new before after so_far one = record {
    gained = so_far.gained;
    gains = so_far.gains;
    compares = more old mid new so_far.gained so_far.compares one;
  }

-- ---- calls of the status

module _ {S : Type 0} {Made : S → S → Counts → Type 0} (law : Accumulates Made) where
  -- a few more
  pub Compares-more : (old mid new : S) (active descents others others' : ℕ) → Compares Made old mid active descents others → Compares Made mid new 0 0 others' → Compares Made old new active descents (others + others')
  Compares-more old mid new active descents others others' first second = record {
    made = together first.made second.made;
    counted = law.both old mid new first.made second.made first.counted second.counted;
    comparisons = λ levels few.
        let most = first.comparisons levels few in
        let most_then = second.comparisons levels (omega (arith, few)) in
        omega (arith, most, most_then);
  }

  -- a descent, and then what is gained
  pub AppendsComparing-descent : (old mid new : S) (active : ℕ) (before after : List (ℕ × ℕ)) → Compares Made old mid active 1 0 → AppendsComparing Made mid new 0 0 before after → AppendsComparing Made old new active 1 before after
  AppendsComparing-descent old mid new active before after descent appends = record {
    gained = appends.gained;
    gains = appends.gains;
    compares = Compares-weaker old new active 1 (0 + (appends.gained + 1)) active 1 (appends.gained + 1) (omega arith) (omega arith) (omega arith)
        (Compares-more old mid new active 1 0 (appends.gained + 1) descent appends.compares);
  }

  -- ---- exchanges

  -- where none is made
  pub ExchangesComparing-none : (state : S) (told : List (ℕ × ℕ)) → ExchangesComparing Made state state told told
  ExchangesComparing-none state told = record { gained = 0; gains = omega arith; compares = Compares-none law state 0 0 0 }

  -- one is made, and the two new pairs of neighbours are compared
  pub ExchangesComparing-one : (old mid new : S) (before after : List (ℕ × ℕ)) (pair : ℕ × ℕ) → after ≡ before ++ pair ∷ [] → Compares Made old mid 0 0 1 → Compares Made mid new 0 0 1 → ExchangesComparing Made old new before after
  ExchangesComparing-one old mid new before after pair is first second = record {
    gained = 1;
    gains = ap length is ∙ length-append before (pair ∷ []);
    compares = Compares-more old mid new 0 0 1 1 first second;
  }

  -- some are made, and then others
  pub ExchangesComparing-both : (old mid new : S) (before told after : List (ℕ × ℕ)) → ExchangesComparing Made old mid before told → ExchangesComparing Made mid new told after → ExchangesComparing Made old new before after
  ExchangesComparing-both old mid new before told after first second =
      let both = Compares-more old mid new 0 0 (2 * first.gained) (2 * second.gained) first.compares second.compares in
      record {
        gained = first.gained + second.gained;
        gains = omega (arith, first.gains, second.gains);
        compares = Compares-weaker old new 0 0 (2 * first.gained + 2 * second.gained) 0 0 (2 * (first.gained + second.gained)) (omega arith) (omega arith) (omega arith) both;
      }

-- ---- events, one after another

module _ {S : Type 0} (Made : S → S → Counts → Type 0) where
  -- so many events have been served, each with a descent at most and two comparisons, besides those of pairs that are told and met
  abbrev pub ServesComparing : S → S → ℕ → ℕ → List (ℕ × ℕ) → List (ℕ × ℕ) → Type 0
  ServesComparing old new active served crossed met = Compares Made old new active served (2 * served + 2 * length crossed + length met)

module _ {S : Type 0} {Made : S → S → Counts → Type 0} (law : Accumulates Made) where
  -- the next event is served: what is due is exchanged, and then a descent is made, if any, and some other comparisons
  pub ServesComparing-next : (old mid exchanged new : S) (active served : ℕ) (crossed crossed' met met' : List (ℕ × ℕ)) (active' descents others : ℕ)
      → ServesComparing Made old mid active served crossed met → ExchangesComparing Made mid exchanged crossed crossed' → Compares Made exchanged new active' descents others
      → active' ≤ active → descents ≤ 1 → others + length met ≤ 2 + length met' → ServesComparing Made old new active (served + 1) crossed' met'
  ServesComparing-next old mid exchanged new active served crossed crossed' met met' active' descents others so_far exchanges event few once upto =
      let before = 2 * served + 2 * length crossed + length met in
      let told = Compares-more law old mid exchanged active served before (2 * exchanges.gained) so_far exchanges.compares in
      let event_by = Compares-weaker exchanged new active' descents others active 1 others few once (omega arith) event in
      let all = Compares-both law old exchanged new active served (before + 2 * exchanges.gained) 1 others told event_by in
      Compares-weaker old new active (served + 1) (before + 2 * exchanges.gained + others) active (served + 1) (2 * (served + 1) + 2 * length crossed' + length met') (omega arith) (omega arith)
      (omega (arith, exchanges.gains, upto)) all
