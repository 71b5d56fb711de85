use Rattle.std.proofs.Common.{◌≡◌, ℕ, List, [], IfSome, ⊎_elim, length, subst, sym, arith}
use Rattle.itree.specs.Modes.{NamedBy}
use Rattle.itree.proofs.Words.{Names-length, Names-two, Names-three, Names-eight, three_words, eight_words}
use Rattle.itree.proofs.mode.Mode.from_words.Goals as goal

pub returns-in-seg-clause-unnamed : goal.returns-in-seg-clause-unnamed
returns-in-seg-clause-unnamed c = λ none (mode, names).
    let three : length c.args.words.now ≡ 3 = omega (arith, c.in-seg.len_at_least, c.in-seg.len_below) in
    ⊎_elim (λ (_, range). c.segments.ensures.unnamed none mode range) (λ first. grind (arith, first))
    (Names-three c.args.words.now mode _ three names)

pub returns-in-offset-2-clause-named : goal.returns-in-offset-2-clause-named
returns-in-offset-2-clause-named c =
    let three : length c.args.words.now ≡ 3 = omega (arith, c.in-offset-2.len_at_least, c.in-offset-2.len_below) in
    subst (λ (words : List (List ℕ)). IfSome c.offset_by.result (λ mode. NamedBy mode words)) (sym (three_words c.args.words.now _ _ three c.in-offset-2.is-offset)) c.offset_by.ensures.named

pub returns-in-offset-2-clause-unnamed : goal.returns-in-offset-2-clause-unnamed
returns-in-offset-2-clause-unnamed c = λ none (mode, names).
    let three : length c.args.words.now ≡ 3 = omega (arith, c.in-offset-2.len_at_least, c.in-offset-2.len_below) in
    c.offset_by.ensures.unnamed none mode (subst (NamedBy mode) (three_words c.args.words.now _ _ three c.in-offset-2.is-offset) names)

pub returns-in-overlay-clause-named : goal.returns-in-overlay-clause-named
returns-in-overlay-clause-named c =
    let three : length c.args.words.now ≡ 3 = omega (arith, c.in-overlay.len_at_least, c.in-overlay.len_below) in
    subst (λ (words : List (List ℕ)). IfSome c.overlay_by.result (λ mode. NamedBy mode words)) (sym (three_words c.args.words.now _ _ three c.in-overlay.is-overlay)) c.overlay_by.ensures.named

pub returns-in-overlay-clause-unnamed : goal.returns-in-overlay-clause-unnamed
returns-in-overlay-clause-unnamed c = λ none (mode, names).
    let three : length c.args.words.now ≡ 3 = omega (arith, c.in-overlay.len_at_least, c.in-overlay.len_below) in
    c.overlay_by.ensures.unnamed none mode (subst (NamedBy mode) (three_words c.args.words.now _ _ three c.in-overlay.is-overlay) names)

pub returns-in_default-3-clause-unnamed : goal.returns-in_default-3-clause-unnamed
returns-in_default-3-clause-unnamed c = λ none (mode, names).
    let two : length c.args.words.now ≡ 2 = omega (arith, c.in_default.len_at_least, c.in_default.len_below) in
    let (first, second) = Names-two c.args.words.now mode (record { ref_ptr = (0, 0); now = [] }) two names in
    grind (arith, first, second)

pub returns-in_default-4-clause-unnamed : goal.returns-in_default-4-clause-unnamed
returns-in_default-4-clause-unnamed c = λ none (mode, names).
    let two : length c.args.words.now ≡ 2 = omega (arith, c.in_default.len_at_least, c.in_default.len_below) in
    let (first, second) = Names-two c.args.words.now mode (record { ref_ptr = (0, 0); now = [] }) two names in
    grind (arith, first, second)

pub returns-in_default-5-clause-unnamed : goal.returns-in_default-5-clause-unnamed
returns-in_default-5-clause-unnamed c = λ none (mode, names).
    let three : length c.args.words.now ≡ 3 = omega (arith, c.in_default.len_at_least, c.in_default.len_below) in
    ⊎_elim (λ (first, _). grind (arith, first)) (λ named. ⊎_elim (λ first. grind (arith, first)) (λ first. grind (arith, first)) named)
    (Names-three c.args.words.now mode (record { ref_ptr = (0, 0); now = [] }) three names)

pub returns-in_default-6-clause-unnamed : goal.returns-in_default-6-clause-unnamed
returns-in_default-6-clause-unnamed c = λ none (mode, names).
    grind (arith, Names-length c.args.words.now mode names, c.in_default.len_at_least, c.in_default.len_below)

pub returns-in_default-7-clause-unnamed : goal.returns-in_default-7-clause-unnamed
returns-in_default-7-clause-unnamed c = λ none (mode, names).
    let eight : length c.args.words.now ≡ 8 = omega (arith, c.in_default.len_at_least, c.in_default.len_below) in
    let (first, fourth) = Names-eight c.args.words.now mode (record { ref_ptr = (0, 0); now = [] }) eight names in
    grind (arith, first, fourth)

pub returns-in_default-8-clause-unnamed : goal.returns-in_default-8-clause-unnamed
returns-in_default-8-clause-unnamed c = λ none (mode, names).
    let eight : length c.args.words.now ≡ 8 = omega (arith, c.in_default.len_at_least, c.in_default.len_below) in
    let (first, fourth) = Names-eight c.args.words.now mode (record { ref_ptr = (0, 0); now = [] }) eight names in
    grind (arith, first, fourth)

pub returns-in_default-9-clause-unnamed : goal.returns-in_default-9-clause-unnamed
returns-in_default-9-clause-unnamed c = λ none (mode, names). grind (arith, Names-length c.args.words.now mode names, c.in_default.len_at_least)

pub returns-in-overlay-2-clause-named : goal.returns-in-overlay-2-clause-named
returns-in-overlay-2-clause-named c =
    let eight : length c.args.words.now ≡ 8 = omega (arith, c.in-overlay-2.len_at_least, c.in-overlay-2.len_below) in
    subst (λ (words : List (List ℕ)). IfSome c.tile_by.result (λ mode. NamedBy mode words)) (sym (eight_words c.args.words.now _ eight c.in-overlay-2.is-overlay c.in-overlay-2.is-text)) c.tile_by.ensures.named
