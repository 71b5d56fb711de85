-- Words that ask for one text don't ask for another.
use Rattle.std.proofs.Common.{◌≡◌, inl, inr, ℕ, List, [], ◌∷◌, codes, get_or, sym, ap, subst, ◌∙◌, T, eqb, Bor}
use Rattle.itree.specs.Modes.{MeansHelp, MeansVersion, AsksForHelp, AsksForVersion}

help_or_version : (word : List ℕ) → MeansHelp word → MeansVersion word → ⊥
help_or_version word (inl help) (inl version) = let same : codes "help" ≡ codes "--version" = sym help ∙ version in cc
help_or_version word (inl help) (inr version) = let same : codes "help" ≡ codes "-V" = sym help ∙ version in cc
help_or_version word (inr (inl help)) (inl version) =
    let same : codes "--help" ≡ codes "--version" = sym help ∙ version in cc
help_or_version word (inr (inl help)) (inr version) = let same : codes "--help" ≡ codes "-V" = sym help ∙ version in cc
help_or_version word (inr (inr help)) (inl version) =
    let same : codes "-h" ≡ codes "--version" = sym help ∙ version in cc
help_or_version word (inr (inr help)) (inr version) =
    let same : codes "-h" ≡ codes "-V" = sym help ∙ version in
    let letter = ap (λ (letters : List ℕ). get_or letters 1 0) same in
    absurd (subst (λ (n : ℕ). T (eqb n 104)) letter tt)

-- who asks for help doesn't ask for the version
pub help_alone : (words : List (Bor (List ℕ))) → AsksForHelp words → AsksForVersion words → ⊥
help_alone [] help version = help
help_alone (word ∷ []) help version = help_or_version word.now help version
help_alone (word ∷ other ∷ words) help version = help
