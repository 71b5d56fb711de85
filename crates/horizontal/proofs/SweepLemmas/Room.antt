-- The store holds no more levels than segments have begun, so that it is never asked for more handles than there are segments.
use Rattle.std.proofs.Common.{◌≡◌, ℕ, ◌≤◌, ◌<◌, ◌+◌, List, [], cond, length, get_or, pos, take, ap, ◌∙◌, arith}
use Rattle.std.proofs.lemmas.List.{get_or_default}
use Rattle.std.proofs.lemmas.List.Edits.{length-insert}
use Rattle.i_tree.specs.Root.Change.{Gains, Without}
use Rattle.i_tree.specs.Root.Change.Without.{none, keeps, loses}
use Rattle.event_queue.specs.declared.Event.{Event}
use Rattle.event_queue.specs.declared.Task.{Task}
use Rattle.event_queue.specs.declared.Task.TheVariants.{Begin}
use Rattle.event_queue.proofs.QueueLemmas.Begins.{begun, begun-before, begun-more, is_begin}
use Rattle.horizontal.specs.Events.{IsQueue, answer_x, begin_x, end_x}
use Rattle.horizontal.specs.Levels.{Entry}
use Rattle.horizontal.specs.declared.Point.{Point}
use Rattle.horizontal.specs.declared.Segment.{Segment}

length-without : {X : Type 0} {MayGo : X → Type 0} {before after : List X} → Without MayGo before after → length after ≤ length before
length-without none = omega arith
length-without (keeps x rest) = let rest_le = length-without rest in omega (arith, rest_le)
length-without (loses x goes rest) = let rest_le = length-without rest in omega (arith, rest_le)

-- what the store holds is no more than have begun
abbrev pub HoldsBegun : List Event → List Entry → Type 0
HoldsBegun done entries = length entries ≤ begun done

-- before the first event
pub HoldsBegun-nothing : (entries : List Entry) → entries ≡ [] → HoldsBegun [] entries
HoldsBegun-nothing entries empty = let none = ap length empty in omega (arith, none)

-- where some may have gone
pub HoldsBegun-without : (events : List Event) (k : ℕ) (entries : List Entry) → k < length events → HoldsBegun (take k events) entries
    → (MayGo : Entry → Type 0) (after : List Entry) → Without MayGo entries after → HoldsBegun (take (k + 1) events) after
HoldsBegun-without events k entries inside holds MayGo after kept =
    let nothing : Event = record { x = pos 0; task = Begin; place = 0 } in
    let event = get_or events k nothing in
    omega (arith, holds, length-without kept, begun-more events k event inside (get_or_default events k nothing event inside))

-- where a segment begins
module _ (segments : List Segment) (points : List Point) (events : List Event) (queue : IsQueue segments points events)
    (k : ℕ) (event : Event) (inside : k < length events) (is : event ≡ get_or events k event)
    (entries : List Entry) (holds : HoldsBegun (take k events) entries) (begins : event.task ≡ Begin) where
  -- with one more there are no more than segments
  pub most_at_begin : length entries + 1 ≤ length segments
  most_at_begin = omega (arith, holds, begun-before end_x begin_x answer_x segments points events queue k event inside is begins)

  pub HoldsBegun-gains : (MayGo : Entry → Type 0) (entry : Entry) (after : List Entry) → Gains MayGo entry entries after → HoldsBegun (take (k + 1) events) after
  HoldsBegun-gains MayGo entry after (kept, goes, (place, within, joined)) =
      let more : begun (take (k + 1) events) ≡ begun (take k events) + 1 =
      begun-more events k event inside is ∙ ap (λ (task : Task). begun (take k events) + cond (is_begin task) 1 0) begins in
      omega (arith, more, holds, length-without goes, ap length joined, length-insert kept place entry within)
