-- Chains, of which one stands after the other in one list, and their lines.
use Rattle.std.proofs.Common.{◌≡◌, ◌<◌, ◌≤◌, ◌+◌, ℕ, List, [], ◌∷◌, ◌++◌, length, take, get_or, sym, ap, ◌∙◌, append_assoc, arith}
use Rattle.std.proofs.lemmas.List.{flat_map_more, take_all, take_more}
use Rattle.itree.specs.Replies.{chain_words, reply_lines}
use Rattle.noding.specs.Offsets.{AreJoined, offsets}
use Rattle.noding.proofs.Callers.{joined, length-offsets}
use Rattle.plane.specs.declared.point.Point.{Point}

-- chains that were appended to nothing
pub AreJoined-first : (chains : List (List Point)) (before after points : List Point) (ends_before ends_after ends : List ℕ) → before ≡ [] → ends_before ≡ [] → after ≡ before ++ joined chains
    → ends_after ≡ ends_before ++ offsets (length before) chains → points ≡ after → ends ≡ ends_after → AreJoined chains points ends
AreJoined-first chains before after points ends_before ends_after ends none no_end appended ended points_are ends_are = (
  points_are ∙ appended ∙ ap (λ (all : List Point). all ++ joined chains) none,
  ends_are ∙ ended ∙ ap (λ (all : List ℕ). all ++ offsets (length before) chains) no_end ∙ ap (λ (all : List Point). offsets (length all) chains) none,
)

-- one line more
pub chain_lines-more : (chains : List (List Point)) (i : ℕ) (chain : List Point) (before told after : List ℕ) → i < length chains → chain ≡ get_or chains i [] → before ≡ reply_lines chain_words (take i chains)
    → told ≡ before ++ chain_words chain → after ≡ told ++ 10 ∷ [] → after ≡ reply_lines chain_words (take (i + 1) chains)
chain_lines-more chains i chain before told after inside is so_far tells ends =
    ends ∙ ap (λ (text : List ℕ). text ++ 10 ∷ []) tells ∙ append_assoc before (chain_words chain) (10 ∷ [])
    ∙ ap (λ (text : List ℕ). text ++ (chain_words chain ++ 10 ∷ [])) so_far
    ∙ ap (λ (points : List Point). reply_lines chain_words (take i chains) ++ (chain_words points ++ 10 ∷ [])) is
    ∙ flat_map_more (λ (points : List Point). chain_words points ++ 10 ∷ []) [] (take i chains) (get_or chains i [])
    ∙ ap (λ (all : List (List Point)). reply_lines chain_words all) (sym (take_more chains i [] inside))

-- and all of them
pub chain_lines-all : (chains : List (List Point)) (points : List Point) (ends : List ℕ) (i : ℕ) (text : List ℕ) → AreJoined chains points ends → length ends ≤ i → text ≡ reply_lines chain_words (take i chains) → text ≡ reply_lines chain_words chains
chain_lines-all chains points ends i text (points_are, ends_are) past so_far =
    let all : length chains ≤ i = omega (arith, past, ap length ends_are, length-offsets 0 chains) in
    so_far ∙ ap (λ (lines : List (List Point)). reply_lines chain_words lines) (take_all i chains all)
