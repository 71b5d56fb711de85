use Rattle.std.proofs.Common.{rules, ◌≡◌, ◌≢◌, Option, None, Some, sym, ap, ◌∙◌}
use Rattle.std.specs.List.{Contains}
use Rattle.std.specs.Option.{MatchOption}
use Rattle.plane.specs.Ends.{edge_between}
use Rattle.plane.specs.SweepLine.Heights.{rightwards}
use Rattle.plane.specs.declared.edge.Edge.{Edge}
use Rattle.monotone_chains.specs.declared.stretches.widening.LongStretch.{LongStretch}
use Rattle.monotone_chains.proofs.stretches.widening.stretch_between.Goals as goal

pub returns : goal.returns
returns c =
    let sloped : c.args.from.x ≢ c.args.to.x = search rules in
    by sloped c.with_chord.result c.with_chord.ensures
  where
    chord : Edge
    chord = rightwards (edge_between c.args.from c.args.to)

    same : c.turn_rightwards.result ≡ chord
    same = c.turn_rightwards.ensures ∙ ap rightwards c.edge_between.ensures

    by : c.args.from.x ≢ c.args.to.x → (r : Option LongStretch) → MatchOption r ((entry : LongStretch) → Contains c.args.table.now entry → entry.chord ≢ c.turn_rightwards.result) (λ entry. Contains c.args.table.now entry × (entry.chord ≡ c.turn_rightwards.result))
        → MatchOption r (c.args.from.x ≢ c.args.to.x → (entry : LongStretch) → Contains c.args.table.now entry → entry.chord ≢ chord) (λ entry. (c.args.from.x ≢ c.args.to.x) × Contains c.args.table.now entry × (entry.chord ≡ chord))
    by sloped None none = λ sloped entry among is. none entry among (is ∙ sym same)
    by sloped (Some entry) found = (sloped, found.0, found.1 ∙ same)
