-- What the insertion of an edge tells, it tells by the order along the status.
use Rattle.std.proofs.Common.{◌≡◌, ◌≢◌, ℤ, List, Option, Some, None, IfSome, MatchBool, is_some, subst}
use Rattle.std.specs.Ordering.{int_cmp}
use Rattle.std.specs.declared.cmp.Ordering.{Ordering}
use Rattle.std.specs.declared.cmp.Ordering.TheVariants.{Equal}
use Rattle.std.proofs.lemmas.List.Elements.{All-contains}
use Rattle.i_tree.specs.Root.Along.{HasEqual, IsMonotoneAlong, NoneEqual}
use Rattle.i_tree.specs.Root.Answer.{AnswersBy}
use Rattle.i_tree.specs.Root.Live.{is_live}
use Rattle.i_tree.specs.Status.Insertion.{JoinsAlong}
use Rattle.plane.specs.declared.sweep_line.active.ActiveEdge.{ActiveEdge}
use Rattle.plane.specs.SweepLine.Line.{JoinsAt}
use Rattle.plane.specs.SweepLine.Active.{Entry, cmp_active, expiration, live_entries}

module _ (x : ℤ) (beginning : ActiveEdge) (may_answer : ActiveEdge → Ordering → Type 0) (before after : List Entry)
    (says : AnswersBy may_answer (λ other. cmp_active other beginning) (live_entries x before))
    (monotone : IsMonotoneAlong (λ other. cmp_active other beginning) (live_entries x before)) where
  -- an entry that has joined by the order along the status
  pub JoinsAt-along : JoinsAlong (λ key. is_live expiration int_cmp x key) may_answer (beginning, tt) before after → JoinsAt x (beginning, tt) before after
  JoinsAt-along joins =
      let between = joins.between (λ other. cmp_active other beginning) says monotone in
      record {
        front = joins.front;
        back = joins.back;
        kept = joins.kept;
        place = joins.place;
        below = between.0;
        above = between.1;
      }

-- what is told of what was found holds of it
pub told_at : {T : Type 0} (P : T → Type 0) (told : Option T) (found : T) → told ≡ Some found → IfSome told P → P found
told_at {T} P told found is holds = subst (λ (it : Option T). IfSome it P) is holds

-- where something was found the entry has joined
pub joined_at : {T : Type 0} (P Q : Type 0) (told : Option T) (found : T) → told ≡ Some found → MatchBool (is_some told) P Q → P
joined_at {T} P Q told found is holds = subst (λ (it : Option T). MatchBool (is_some it) P Q) is holds

-- something was found where the order calls none Equal
pub never_none : {T : Type 0} (order : ActiveEdge → Ordering) (entries : List Entry) (told : Option T) → told ≡ None
    → MatchBool (is_some told) (NoneEqual order entries) (HasEqual order entries) → NoneEqual order entries → ⊥
never_none {T} order entries told is holds none =
    let (k, entry, inside, at, equal) = subst (λ (it : Option T). MatchBool (is_some it) (NoneEqual order entries) (HasEqual order entries)) is holds in
    All-contains (λ other. order other.0 ≢ Equal) entries entry none (k, inside, at) equal
