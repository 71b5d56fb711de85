use Rattle.std.proofs.Common.{◌≡◌, ◌∷◌, false, rules}
use Rattle.std.proofs.lemmas.Result.{IfOk-weaker}
use Rattle.itree.specs.RingLines.{Subject, Other, coordinates, subject_name, other_name}
use Rattle.itree.proofs.Ringed.{says_named, unsaid-subject, unsaid-other, unsaid-neither, HoldsSaid-subject, HoldsSaid-other}
use Rattle.itree.proofs.lines.rings.SaidRings.take_words.Goals as goal

pub returns-then-eq-clause-taken : goal.returns-then-eq-clause-taken
returns-then-eq-clause-taken g c =
    let whole : c.args.words.now ≡ c.in-Some.name.now ∷ c.in-Some.rest.now = search rules in
    let named : c.in-Some.name.now.now ≡ subject_name c.args.kind = search rules in
    IfOk-weaker c.take_ring.result _ _
    (λ is_ring taken yes.
    let (ring, read, holds) = taken yes in (
      Subject ring,
      says_named c.args.words.now c.in-Some.name.now c.in-Some.rest.now (subject_name c.args.kind) (coordinates ring) whole named read,
      λ said held. HoldsSaid-subject c.args.self.now c.take_ring.new.self ring holds said held,
    ))
    c.take_ring.ensures.taken

pub returns-then-eq-clause-untaken : goal.returns-then-eq-clause-untaken
returns-then-eq-clause-untaken g c =
    let whole : c.args.words.now ≡ c.in-Some.name.now ∷ c.in-Some.rest.now = search rules in
    let named : c.in-Some.name.now.now ≡ subject_name c.args.kind = search rules in
    IfOk-weaker c.take_ring.result _ _
    (λ is_ring untaken no ring. unsaid-subject c.args.kind c.args.words.now c.in-Some.name.now c.in-Some.rest.now whole named (untaken no) ring)
    c.take_ring.ensures.untaken

pub returns-then-eq-2-clause-taken : goal.returns-then-eq-2-clause-taken
returns-then-eq-2-clause-taken g c =
    let whole : c.args.words.now ≡ c.in-Some.name.now ∷ c.in-Some.rest.now = search rules in
    let named : c.in-Some.name.now.now ≡ other_name c.args.kind = search rules in
    IfOk-weaker c.take_ring-then-eq-2.result _ _
    (λ is_ring taken yes.
    let (ring, read, holds) = taken yes in (
      Other ring,
      says_named c.args.words.now c.in-Some.name.now c.in-Some.rest.now (other_name c.args.kind) (coordinates ring) whole named read,
      λ said held. HoldsSaid-other c.args.self.now c.take_ring-then-eq-2.new.self ring holds said held,
    ))
    c.take_ring-then-eq-2.ensures.taken

pub returns-then-eq-2-clause-untaken : goal.returns-then-eq-2-clause-untaken
returns-then-eq-2-clause-untaken g c =
    let whole : c.args.words.now ≡ c.in-Some.name.now ∷ c.in-Some.rest.now = search rules in
    let named : c.in-Some.name.now.now ≡ other_name c.args.kind = search rules in
    IfOk-weaker c.take_ring-then-eq-2.result _ _
    (λ is_ring untaken no ring. unsaid-other c.args.kind c.args.words.now c.in-Some.name.now c.in-Some.rest.now whole named (untaken no) ring)
    c.take_ring-then-eq-2.ensures.untaken

pub returns-clause-untaken : goal.returns-clause-untaken
returns-clause-untaken g c = λ no ring.
    let whole : c.args.words.now ≡ c.in-Some.name.now ∷ c.in-Some.rest.now = search rules in
    let not_subject : c.in-Some.name.now.now ≡ subject_name c.args.kind → ⊥ = search rules in
    let not_other : c.in-Some.name.now.now ≡ other_name c.args.kind → ⊥ = search rules in
    unsaid-neither c.args.kind c.args.words.now c.in-Some.name.now c.in-Some.rest.now whole not_subject not_other ring
