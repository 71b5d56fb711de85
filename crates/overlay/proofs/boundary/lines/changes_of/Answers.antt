use Rattle.std.proofs.Common.{◌≡◌, ◌-◌, ◌++◌, [], ℕ, List, drop, length, take, subst, arith, length-drop}
use Rattle.std.specs.List.{All}
use Rattle.std.proofs.lemmas.List.{take_all}
use Rattle.plane.specs.declared.edge.Edge.{Edge}
use Rattle.overlay.specs.declared.boundary.lines.Change.{Change}
use Rattle.overlay.specs.declared.fill.pieces.Operand.TheVariants.{Subject, Clip}
use Rattle.overlay.specs.Lines.{AppendsTold, IsSmallChange, TellAs, changes_of}
use Rattle.overlay.proofs.LineLemmas.Runs.{told-both}
use Rattle.overlay.proofs.boundary.lines.changes_of.Goals as goal

-- the edges behind the subject's are the clip's
all_told : (edges : List Edge) (count : ℕ) (none between after : List Change) → none ≡ [] → AppendsTold Subject (take count edges) none between
    → AppendsTold Clip (take (length edges - count) (drop count edges)) between after
    → TellAs after (changes_of Subject (take count edges) ++ changes_of Clip (drop count edges)) × All IsSmallChange after
all_told edges count none between after empty first second =
    let size = length-drop count edges in
    let rest : take (length edges - count) (drop count edges) ≡ drop count edges = take_all (length edges - count) (drop count edges) (omega (arith, size)) in
    told-both (take count edges) (drop count edges) none between after empty first (subst (λ (clip : List Edge). AppendsTold Clip clip between after) rest second)

pub returns-clause-tell : goal.returns-clause-tell
returns-clause-tell g c =
    (all_told c.args.edges.now c.args.count c.in_ok-changes.changes.items c.append_changes.new.changes.items c.append_changes-2.new.changes.items c.in_ok-changes.ensures.items
    c.in_ok-append_changes.ensures c.in_ok-append_changes-2.ensures).0

pub returns-clause-small : goal.returns-clause-small
returns-clause-small g c =
    (all_told c.args.edges.now c.args.count c.in_ok-changes.changes.items c.append_changes.new.changes.items c.append_changes-2.new.changes.items c.in_ok-changes.ensures.items
    c.in_ok-append_changes.ensures c.in_ok-append_changes-2.ensures).1
