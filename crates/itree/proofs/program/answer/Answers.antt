use Rattle.std.proofs.Common.{◌≡◌, ℕ, List, [], ◌∷◌, IfSome, Bor, ap, codes, get_or, length, refl, subst, sym, ◌∙◌, arith, rules}
use Rattle.std.proofs.lemmas.Option.{IfSome_then}
use Rattle.itree.specs.Modes.{Names, row_of, rule_word}
use Rattle.itree.specs.Texts.{HasFirstFaulty, HasOverlapLine, HasCrossingLines, HasUnfit}
use Rattle.itree.specs.declared.fault.Unfit.{Unfit}
use Rattle.itree.specs.declared.mode.Mode.{Mode}
use Rattle.itree.specs.declared.mode.Mode.TheVariants.{Sweep, Locate, Grow, Shrink, Paths}
use Rattle.overlay.specs.declared.fill.rules.FillRule.{FillRule}
use Rattle.overlay.specs.declared.fill.rules.FillRule.TheVariants.{EvenOdd, NonZero, Positive, Negative}
use Rattle.itree.proofs.Words.{Names-faulty, other_length}
use Rattle.itree.proofs.program.answer.Goals as goal

pub returns-clause-faulty_line : goal.returns-clause-faulty_line
returns-clause-faulty_line g c = λ number is mode names.
    let named : Names c.args.words.now c.in_ok-mode.mode = search rules in
    let faulty : IfSome (g.I.Read.remaining c.args.input.now) (λ text. HasFirstFaulty c.in_ok-mode.mode text number) = search (rules, c.answer_text.ensures.faulty number is) in
    IfSome_then (g.I.Read.remaining c.args.input.now) faulty (λ text first. Names-faulty c.args.words.now c.in_ok-mode.mode mode text number named names first)

-- words that name a sweep name no other mode, and no other has an overlap
Names-overlap : (words : List (Bor (List ℕ))) (one other : Mode) (text : List ℕ) (number : ℕ) → Names words one → Names words other → HasOverlapLine one text number → HasOverlapLine other text number
Names-overlap [] one other text number names too overlap = absurd names.0
Names-overlap (word ∷ words) Sweep Sweep text number names too overlap = overlap
Names-overlap (word ∷ words) Sweep other text number names too overlap =
    let same : codes "sweep" ≡ (row_of other).word = sym names.0.0 ∙ too.0.0 in
    absurd (omega (arith, ap length same, ap (λ (letters : List ℕ). get_or letters 0 0) same))
Names-overlap (word ∷ words) one other text number names too overlap = absurd overlap

-- nor do words that name points among edges, and no other mode has edges that are not to cross
Names-crossing : (words : List (Bor (List ℕ))) (one other : Mode) (text : List ℕ) (first second : ℕ) → Names words one → Names words other → HasCrossingLines one text first second → HasCrossingLines other text first second
Names-crossing [] one other text first second names too crossing = absurd names.0
Names-crossing (word ∷ words) Locate Locate text first second names too crossing = crossing
Names-crossing (word ∷ words) Locate other text first second names too crossing =
    let same : codes "locate" ≡ (row_of other).word = sym names.0.0 ∙ too.0.0 in
    absurd (omega (arith, ap length same, ap (λ (letters : List ℕ). get_or letters 0 0) same))
Names-crossing (word ∷ words) one other text first second names too crossing = absurd crossing

-- each rule has a word of its own
same_rule : (one other : FillRule) → rule_word one ≡ rule_word other → one ≡ other
same_rule EvenOdd EvenOdd same = refl
same_rule NonZero NonZero same = refl
same_rule Positive Positive same = refl
same_rule Negative Negative same = refl
same_rule one other same = absurd (omega (arith, ap length same, ap (λ (letters : List ℕ). get_or letters 0 0) same))

-- what grows and what shrinks is named by words of different lengths
other_word : (word : List ℕ) → word ≡ codes "grow" → word ≡ codes "shrink" → ⊥
other_word word grow shrink = omega (arith, ap length (sym grow ∙ shrink))

-- words that name what grows or shrinks by a rule name no other mode, and no other has lines without an answer
Names-unfit : (words : List (Bor (List ℕ))) (one other : Mode) (text : List ℕ) (why : Unfit) → Names words one → Names words other → HasUnfit one text why → HasUnfit other text why
Names-unfit [] one other text why names too unfit = absurd names.0
Names-unfit (word ∷ []) (Grow rule) other text why names too unfit = absurd names.0.1
Names-unfit (word ∷ second ∷ []) (Grow rule) other text why names too unfit = absurd names.0.1.1
Names-unfit (word ∷ second ∷ third ∷ words) (Grow rule) (Grow rule') text why names too unfit =
    subst (λ (named : FillRule). HasUnfit (Grow named) text why) (same_rule rule rule' (sym names.0.1.1.0 ∙ too.0.1.1.0)) unfit
Names-unfit (word ∷ second ∷ third ∷ words) (Grow rule) (Shrink rule') text why names too unfit = absurd (other_word second.now names.0.1.0 too.0.1.0)
Names-unfit (word ∷ second ∷ third ∷ words) (Grow rule) Paths text why names too unfit =
    absurd (other_length (word ∷ second ∷ third ∷ words) (Grow rule) Paths names too (λ same. omega (arith, same)))
Names-unfit (word ∷ []) (Shrink rule) other text why names too unfit = absurd names.0.1
Names-unfit (word ∷ second ∷ []) (Shrink rule) other text why names too unfit = absurd names.0.1.1
Names-unfit (word ∷ second ∷ third ∷ words) (Shrink rule) (Shrink rule') text why names too unfit =
    subst (λ (named : FillRule). HasUnfit (Shrink named) text why) (same_rule rule rule' (sym names.0.1.1.0 ∙ too.0.1.1.0)) unfit
Names-unfit (word ∷ second ∷ third ∷ words) (Shrink rule) (Grow rule') text why names too unfit = absurd (other_word second.now too.0.1.0 names.0.1.0)
Names-unfit (word ∷ second ∷ third ∷ words) (Shrink rule) Paths text why names too unfit =
    absurd (other_length (word ∷ second ∷ third ∷ words) (Shrink rule) Paths names too (λ same. omega (arith, same)))
Names-unfit (word ∷ words) Paths Paths text why names too unfit = unfit
Names-unfit (word ∷ words) Paths (Grow rule) text why names too unfit =
    absurd (other_length (word ∷ words) Paths (Grow rule) names too (λ same. omega (arith, same)))
Names-unfit (word ∷ words) Paths (Shrink rule) text why names too unfit =
    absurd (other_length (word ∷ words) Paths (Shrink rule) names too (λ same. omega (arith, same)))
Names-unfit (word ∷ words) (Grow rule) other text why names too unfit =
    let same : codes "offset" ≡ (row_of other).word = sym names.0.0 ∙ too.0.0 in
    absurd (omega (arith, ap length same, ap (λ (letters : List ℕ). get_or letters 0 0) same, ap (λ (letters : List ℕ). get_or letters 1 0) same))
Names-unfit (word ∷ words) (Shrink rule) other text why names too unfit =
    let same : codes "offset" ≡ (row_of other).word = sym names.0.0 ∙ too.0.0 in
    absurd (omega (arith, ap length same, ap (λ (letters : List ℕ). get_or letters 0 0) same, ap (λ (letters : List ℕ). get_or letters 1 0) same))
Names-unfit (word ∷ words) Paths other text why names too unfit =
    let same : codes "offset" ≡ (row_of other).word = sym names.0.0 ∙ too.0.0 in
    absurd (omega (arith, ap length same, ap (λ (letters : List ℕ). get_or letters 0 0) same, ap (λ (letters : List ℕ). get_or letters 1 0) same))
Names-unfit (word ∷ words) one other text why names too unfit = absurd unfit.2

pub returns-clause-overlap : goal.returns-clause-overlap
returns-clause-overlap g c = λ number is mode names.
    let named : Names c.args.words.now c.in_ok-mode.mode = search rules in
    let overlap : IfSome (g.I.Read.remaining c.args.input.now) (λ text. HasOverlapLine c.in_ok-mode.mode text number) = search (rules, c.answer_text.ensures.overlap number is) in
    IfSome_then (g.I.Read.remaining c.args.input.now) overlap (λ text told. Names-overlap c.args.words.now c.in_ok-mode.mode mode text number named names told)

pub returns-clause-crossing : goal.returns-clause-crossing
returns-clause-crossing g c = λ first second is mode names.
    let named : Names c.args.words.now c.in_ok-mode.mode = search rules in
    let crossing : IfSome (g.I.Read.remaining c.args.input.now) (λ text. HasCrossingLines c.in_ok-mode.mode text first second) = search (rules, c.answer_text.ensures.crossing first second is) in
    IfSome_then (g.I.Read.remaining c.args.input.now) crossing (λ text told. Names-crossing c.args.words.now c.in_ok-mode.mode mode text first second named names told)

pub returns-clause-unfit : goal.returns-clause-unfit
returns-clause-unfit g c = λ why is mode names.
    let named : Names c.args.words.now c.in_ok-mode.mode = search rules in
    let unfit : IfSome (g.I.Read.remaining c.args.input.now) (λ text. HasUnfit c.in_ok-mode.mode text why) = search (rules, c.answer_text.ensures.unfit why is) in
    IfSome_then (g.I.Read.remaining c.args.input.now) unfit (λ text told. Names-unfit c.args.words.now c.in_ok-mode.mode mode text why named names told)
