-- The words that `split_ascii_whitespace` gives are those that stand between white space.
use Rattle.std.proofs.Common.{◌≡◌, ◌<◌, ◌≤◌, ℕ, Bool, true, false, cond, nat_lt, List, [], ◌∷◌, ◌++◌, Option, Some, None, length, get_or, filter, refl, sym, ap, ◌∙◌, append-nil, Bor, arith}
use Rattle.std.proofs.lemmas.Bool.Decides.{nat_tests}
use Rattle.std.proofs.lemmas.Iterator.{YieldsList}
use Rattle.std.proofs.lemmas.Iterator.Consumers.{YieldsList-from_shown}
use Rattle.std.proofs.lemmas.List.{nil_from_length}
use Rattle.std.proofs.lemmas.List.Elements.{All-head, All-tail, All-from_get_or}
use Rattle.std.proofs.lemmas.List.Splits.{slice_split-cons_yes, slice_split_none, slice_split_at}
use Rattle.std.proofs.lemmas.Str.{NoCharPasses-byte}
use Rattle.std.specs.Char.{is_ascii_whitespace}
use Rattle.std.specs.List.{All, AllPass, slice_split}
use Rattle.std.specs.Str.{NoCharPasses}
use Rattle.std.specs.Str.Iter.{split_ascii_whitespace_steps, split_ascii_whitespace_text, IsAsciiSeparator}
use Rattle.itree.specs.Grammar.{words_of}

-- white space before the words is passed over
pub words_of-gap : (gap rest : List ℕ) → AllPass is_ascii_whitespace gap → words_of (gap ++ rest) ≡ words_of rest
words_of-gap [] rest blank = refl
words_of-gap (x ∷ gap) rest blank =
    ap (filter (λ word. nat_lt 0 (length word))) (slice_split-cons_yes is_ascii_whitespace x (gap ++ rest) (All-head (λ byte. is_ascii_whitespace byte ≡ true) x gap blank))
    ∙ words_of-gap gap rest (All-tail (λ byte. is_ascii_whitespace byte ≡ true) x gap blank)

-- white space alone has no words
words_of-blank : (bs : List ℕ) → AllPass is_ascii_whitespace bs → length (words_of bs) ≡ 0
words_of-blank bs blank = ap length (ap words_of (sym (append-nil bs)) ∙ words_of-gap bs [] blank)

-- no byte of a word is white space
solid_bytes : (bs : List ℕ) → NoCharPasses is_ascii_whitespace bs → All (λ byte. is_ascii_whitespace byte ≡ false) bs
solid_bytes bs solid =
    All-from_get_or (λ byte. is_ascii_whitespace byte ≡ false) bs 0 (λ i within. low_alone (get_or bs i 0) (NoCharPasses-byte is_ascii_whitespace bs i solid within))
  where
    low_alone : (byte : ℕ) → (byte < 128 → is_ascii_whitespace byte ≡ false) → is_ascii_whitespace byte ≡ false
    low_alone byte low = grind (arith, nat_tests)

-- a part that is not empty is a word
kept : (word : List ℕ) (parts : List (List ℕ)) → 0 < length word → filter (λ part. nat_lt 0 (length part)) (word ∷ parts) ≡ word ∷ filter (λ part. nat_lt 0 (length part)) parts
kept word parts some =
    let test : nat_lt 0 (length word) ≡ true = grind (arith, nat_tests) in
    let others = filter (λ (part : List ℕ). nat_lt 0 (length part)) parts in
    ap (λ (b : Bool). cond b (word ∷ others) others) test

-- a word comes first, and the words after the white space that ends it follow
pub words_of-word : (word sep rest : List ℕ) → 0 < length word → All (λ byte. is_ascii_whitespace byte ≡ false) word → IsAsciiSeparator sep rest → words_of (word ++ (sep ++ rest)) ≡ word ∷ words_of rest
words_of-word word [] [] some solid ends =
    ap words_of (append-nil word) ∙ ap (filter (λ part. nat_lt 0 (length part))) (slice_split_none is_ascii_whitespace word solid) ∙ kept word [] some
words_of-word word [] (y ∷ rest) some solid ends = let last : length (y ∷ rest) ≡ 0 = ends.2 refl in absurd (omega (arith, last))
words_of-word word (y ∷ []) rest some solid ends =
    ap (filter (λ part. nat_lt 0 (length part))) (slice_split_at is_ascii_whitespace word y rest solid (All-head (λ byte. is_ascii_whitespace byte ≡ true) y [] ends.0))
    ∙ kept word (slice_split is_ascii_whitespace rest) some
words_of-word word (y ∷ z ∷ sep) rest some solid ends = let short : length (y ∷ z ∷ sep) ≤ 1 = ends.1 in absurd (omega (arith, short))

-- a step of `split_ascii_whitespace` gives a word, and leaves the text of the others
words_of-step : (s u : _) (word : Bor (List ℕ)) → split_ascii_whitespace_steps s (Some word) u → words_of (split_ascii_whitespace_text s) ≡ word.now ∷ words_of (split_ascii_whitespace_text u)
words_of-step s u word cut =
    let (gap, sep, laid, blank, ends) = cut.3 in
    ap words_of laid ∙ words_of-gap gap (word.now ++ (sep ++ split_ascii_whitespace_text u)) blank ∙ words_of-word word.now sep (split_ascii_whitespace_text u) cut.0 (solid_bytes word.now cut.1) ends

-- the first word of a text, if it has one
abbrev pub IsFirstWord : List ℕ → Option (Bor (List ℕ)) → Type 0
IsFirstWord text None = words_of text ≡ []
IsFirstWord text (Some word) = (others : List (List ℕ)) × (words_of text ≡ word.now ∷ others)

-- so its first step gives the first word
pub IsFirstWord-step : (s u : _) (first : Option (Bor (List ℕ))) → split_ascii_whitespace_steps s first u → IsFirstWord (split_ascii_whitespace_text s) first
IsFirstWord-step s u None ends = nil_from_length (words_of (split_ascii_whitespace_text s)) (words_of-blank (split_ascii_whitespace_text s) ends.0)
IsFirstWord-step s u (Some word) cut = (words_of (split_ascii_whitespace_text u), words_of-step s u word cut)

-- what `split_ascii_whitespace` gives
pub YieldsList-from_words : (s : _) → YieldsList split_ascii_whitespace_steps (λ word. word.now) s (words_of (split_ascii_whitespace_text s))
YieldsList-from_words s =
    YieldsList-from_shown split_ascii_whitespace_steps (λ (word : Bor (List ℕ)). word.now) (λ t. words_of (split_ascii_whitespace_text t))
    (λ t u ends. words_of-blank (split_ascii_whitespace_text t) ends.0)
    (λ t word u cut. words_of-step t u word cut)
    s
