-- Whose the events of a sweep are, which segments have begun at one of them, and what holds once all have.
use Rattle.std.proofs.Common.{◌≡◌, inl, inr, ℕ, ◌<◌, ℤ, ◌<ℤ◌, ◌≤ℤ◌, true, false, List, Some, None, length, get_or, take, refl, sym, ◌∙◌, subst, arith}
use Rattle.std.specs.Int.Signed.{lt_z}
use Rattle.std.specs.List.{Contains}
use Rattle.std.specs.Ordering.{MatchOrdering, int_cmp}
use Rattle.std.specs.declared.cmp.Ordering.{Ordering}
use Rattle.std.specs.declared.cmp.Ordering.TheVariants.{Less, Equal, Greater}
use Rattle.std.proofs.lemmas.Cmp.{int_ranked}
use Rattle.std.proofs.lemmas.Int.{ints, by_lt_z}
use Rattle.event_queue.specs.Queue.{StandsAt, IsDoneAt, Precedes}
use Rattle.event_queue.specs.declared.Event.{Event}
use Rattle.event_queue.specs.declared.Task.{Task}
use Rattle.event_queue.specs.declared.Task.TheVariants.{End, Begin, Answer}
use Rattle.event_queue.proofs.QueueLemmas.Done.{begin-precedes, done_before, event_is, event_is_at, precedes}
use Rattle.event_queue.proofs.QueueLemmas.Places.{StandsAt-read}
use Rattle.horizontal.specs.Events.{begin_x, end_x, answer_x, beginning_of, answering_of, IsEventOf, IsQueue}
use Rattle.horizontal.specs.Heights.{Covers, NoneCollide, Placed, StandsIn, ComesBefore, Overlaps, IsFirstOverlap}
use Rattle.horizontal.specs.declared.Point.{Point}
use Rattle.horizontal.specs.declared.Segment.{Segment}

less : (a b : ℤ) → a <ℤ b → lt_z a b ≡ true
less a b below = grind (arith, ints)

not_less : (a b : ℤ) → b ≤ℤ a → lt_z a b ≡ false
not_less a b upto = grind (arith, ints)

-- a segment begins where it covers something, and else nowhere
begins_at : (segment : Segment) → segment.x0 ≤ℤ segment.x1 → begin_x segment ≡ Some segment.x0
begins_at segment some = rw (not_less segment.x1 segment.x0 some) refl

covers : (segment : Segment) (x : ℤ) → begin_x segment ≡ Some x → segment.x0 ≤ℤ segment.x1
covers segment x is =
    by_lt_z segment.x1 segment.x0
    (λ turned. let none : None ≡ Some x = sym (rw (less segment.x1 segment.x0 turned) refl) ∙ is in cc)
    (λ some. some)

same_x : (segment : Segment) (x : ℤ) → begin_x segment ≡ Some x → segment.x0 ≡ x
same_x segment x is = let both : Some segment.x0 ≡ Some x = sym (begins_at segment (covers segment x is)) ∙ is in cc

module _ (segments : List Segment) (points : List Point) where
  -- a segment that covers something has its event, and a point its own
  is_beginning : (placed : Placed) → StandsIn segments placed → placed.1.x0 ≤ℤ placed.1.x1 → IsEventOf segments points (beginning_of placed.0 placed.1)
  is_beginning placed stands some = (placed.1, stands, begins_at placed.1 some)

  pub is_answering : (place : ℕ) (point : Point) → StandsAt points place point → IsEventOf segments points (answering_of place point)
  is_answering place point stands = (point, stands, refl)

module _ (segments : List Segment) (points : List Point) (events : List Event) (queue : IsQueue segments points events) where
  module _ (k : ℕ) (event : Event) (inside : k < length events) (is : event ≡ get_or events k event) where
    -- what is done at the event, where this is its task
    with_task : (task : Task) → event.task ≡ task → IsDoneAt end_x begin_x answer_x segments points event.x task event.place
    with_task task same = subst (λ (t : Task). IsDoneAt end_x begin_x answer_x segments points event.x t event.place) same (event_is queue k event inside is)

    -- whose event it is
    pub never_ends : event.task ≡ End → ⊥
    never_ends ends = let (segment, stands, has) = with_task End ends in cc

    pub begins_of : event.task ≡ Begin → (segment : Segment) × StandsIn segments (event.place, segment) × (segment.x0 ≤ℤ segment.x1) × (event ≡ beginning_of event.place segment)
    begins_of begins =
        let (segment, stands, has) = with_task Begin begins in
        (segment, stands, covers segment event.x has, event_is_at event segment.x0 Begin (sym (same_x segment event.x has)) begins)

    pub answers_of : event.task ≡ Answer → (point : Point) × StandsAt points event.place point × (event ≡ answering_of event.place point)
    answers_of answers =
        let (point, stands, has) = with_task Answer answers in
        let x : event.x ≡ point.x = cc in
        (point, stands, event_is_at event point.x Answer x answers)

    module _ (place : ℕ) (segment : Segment) (begins : event ≡ beginning_of place segment) where
      -- a segment has begun exactly where it covers something and comes before the one that begins now
      pub comes_before : (placed : Placed) → Contains (take k events) (beginning_of placed.0 placed.1) → ComesBefore placed (place, segment)
      comes_before placed begun = subst (Precedes (beginning_of placed.0 placed.1)) begins (precedes queue k event inside is (beginning_of placed.0 placed.1) begun)

      pub begun_before : (placed : Placed) → StandsIn segments placed → placed.1.x0 ≤ℤ placed.1.x1 → ComesBefore placed (place, segment) → Contains (take k events) (beginning_of placed.0 placed.1)
      begun_before placed stands some comes =
          done_before queue k event inside is (beginning_of placed.0 placed.1) (is_beginning segments points placed stands some) (subst (Precedes (beginning_of placed.0 placed.1)) (sym begins) comes)

      -- where none of the segments that have begun overlaps, one that does now is the first
      pub is_first : StandsIn segments (place, segment) → ((placed : Placed) → StandsIn segments placed → Contains (take k events) (beginning_of placed.0 placed.1) → ¬ (Overlaps segments placed))
          → Overlaps segments (place, segment) → IsFirstOverlap segments place
      is_first stands free overlaps = record {
        segment = segment;
        stands = stands;
        overlaps = overlaps;
        first = λ earlier stands' comes found.
            let (other, stands'', comes', (height, (x, covers, covers'))) = found in
            let some : earlier.1.x0 ≤ℤ earlier.1.x1 = omega (arith, ints, covers'.0, covers'.1) in
            free earlier stands' (begun_before earlier stands' some comes) found;
      }

    -- a segment that covers the x of a point has begun before the point is answered
    pub begun_upto : (place : ℕ) (point : Point) → event ≡ answering_of place point → (placed : Placed) → StandsIn segments placed → Covers placed.1 point.x → Contains (take k events) (beginning_of placed.0 placed.1)
    begun_upto place point answers placed stands (from, upto) =
        done_before queue k event inside is (beginning_of placed.0 placed.1) (is_beginning segments points placed stands (omega (arith, ints, from, upto)))
        (subst (Precedes (beginning_of placed.0 placed.1)) (sym answers) (begin-precedes placed.1.x0 point.x placed.0 place from))

  -- the place of an event is that of a segment or of a point, as its task says
  pub segment_inside : (k : ℕ) (d : Event) → k < length events → (get_or events k d).task ≡ Begin → (get_or events k d).place < length segments
  segment_inside k d inside begins = (begins_of k (get_or events k d) inside (sym ((StandsAt-read events k d inside).1)) begins).1.0

  pub point_inside : (k : ℕ) (d : Event) → k < length events → (get_or events k d).task ≡ Answer → (get_or events k d).place < length points
  point_inside k d inside answers = (answers_of k (get_or events k d) inside (sym ((StandsAt-read events k d inside).1)) answers).1.0

  -- Once all events are done and no segment overlaps, no two collide.
  pub none_collide : ((placed : Placed) → StandsIn segments placed → Contains events (beginning_of placed.0 placed.1) → ¬ (Overlaps segments placed)) → NoneCollide segments
  none_collide free i j d below within (height, (x, covers, covers')) =
      told (int_cmp first.x0 second.x0) (int_ranked first.x0 second.x0 (int_cmp first.x0 second.x0) refl)
    where
      first : Segment
      first = get_or segments i d

      second : Segment
      second = get_or segments j d

      at_first : StandsIn segments (i, first)
      at_first = StandsAt-read segments i d (omega (arith, below, within))

      at_second : StandsIn segments (j, second)
      at_second = StandsAt-read segments j d within

      later_one : (placed : Placed) → StandsIn segments placed → Covers placed.1 x → ¬ (Overlaps segments placed)
      later_one placed stands (from, upto) =
          free placed stands (queue.each (beginning_of placed.0 placed.1) (is_beginning segments points placed stands (omega (arith, ints, from, upto))))

      told : (r : Ordering) → MatchOrdering r (first.x0 <ℤ second.x0) (first.x0 ≡ second.x0) (second.x0 <ℤ first.x0) → ⊥
      told Less less = later_one (j, second) at_second covers' ((i, first), at_first, inl less, (height, (x, covers, covers')))
      told Equal same = later_one (j, second) at_second covers' ((i, first), at_first, inr (same, below), (height, (x, covers, covers')))
      told Greater more = later_one (i, first) at_first covers ((j, second), at_second, inl more, (sym height, (x, covers', covers)))
