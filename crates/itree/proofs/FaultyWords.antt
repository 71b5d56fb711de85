-- Where a word stands in a line, and which words stand behind it.
use Rattle.std.proofs.Common.{◌≡◌, ◌<◌, ◌≤◌, ◌+◌, ◌-◌, ◌⊎◌, inl, inr, ⊎_elim, ℕ, suc, true, false, List, [], ◌∷◌, ◌++◌, length, get_or, take, drop, refl, sym, ap, ◌∙◌, subst, append_assoc, length-drop, arith}
use Rattle.std.proofs.Math.Seq.{drop-cons}
use Rattle.std.proofs.lemmas.List.{length-take-le, get_or-take, get_or-drop, drop-drop, take-append-drop, drop_all}
use Rattle.std.proofs.lemmas.List.Elements.{All-nil, All-cons, All-from_get_or}
use Rattle.std.proofs.lemmas.Bool.{cases_lt}
use Rattle.std.specs.Char.{is_ascii_whitespace}
use Rattle.std.specs.List.{All, AllPass, between}
use Rattle.itree.specs.Faults.{IsWordAt}
use Rattle.itree.specs.Grammar.{words_of}
use Rattle.itree.proofs.Splitting.{words_of-gap, words_of-word}

-- one byte of white space
one_white : (byte : ℕ) → is_ascii_whitespace byte ≡ true → AllPass is_ascii_whitespace (byte ∷ [])
one_white byte white = All-cons (λ b. is_ascii_whitespace b ≡ true) byte [] white (All-nil (λ b. is_ascii_whitespace b ≡ true))

-- white space is passed over
pub words_of-skip : (line : List ℕ) (at : ℕ) → at < length line → is_ascii_whitespace (get_or line at 0) ≡ true → words_of (drop at line) ≡ words_of (drop (at + 1) line)
words_of-skip line at inside white =
    ap words_of (drop-cons line at 0 inside)
    ∙ words_of-gap (get_or line at 0 ∷ []) (drop (suc at) line) (one_white (get_or line at 0) white)
    ∙ ap (λ n. words_of (drop n line)) {x = suc at} {y = at + 1} (omega arith)

-- what is left is the word and what stands behind it
cut : (line : List ℕ) (start end : ℕ) → start < end → drop start line ≡ between start end line ++ drop end line
cut line start end less =
    sym (take-append-drop (end - start) (drop start line))
    ∙ ap (λ rest. take (end - start) (drop start line) ++ rest) (drop-drop (end - start) start line ∙ ap (λ n. drop n line) {x = start + (end - start)} {y = end} (omega (arith, less)))

-- how long it is
long : (line : List ℕ) (start end : ℕ) → start < end → end ≤ length line → length (between start end line) ≡ end - start
long line start end less within = length-take-le (end - start) (drop start line) (omega (arith, length-drop start line, within, less))

-- a byte of it
byte_of : (line : List ℕ) (start end k : ℕ) → k < end - start → get_or (between start end line) k 0 ≡ get_or line (start + k) 0
byte_of line start end k inside = get_or-take (end - start) (drop start line) k 0 inside ∙ get_or-drop start line k 0

-- the word that stands there, and the words behind it
pub words_of-solid : (line : List ℕ) (start end : ℕ) → start < end → end ≤ length line
    → ((k : ℕ) → start ≤ k → k < end → is_ascii_whitespace (get_or line k 0) ≡ false)
    → (end ≡ length line) ⊎ ((end < length line) × (is_ascii_whitespace (get_or line end 0) ≡ true))
    → words_of (drop start line) ≡ between start end line ∷ words_of (drop end line)
words_of-solid line start end less within solid ends = ap words_of (cut line start end less) ∙ by_end ends
  where
    some : 0 < length (between start end line)
    some = omega (arith, long line start end less within, less)

    all : All (λ byte. is_ascii_whitespace byte ≡ false) (between start end line)
    all = All-from_get_or (λ byte. is_ascii_whitespace byte ≡ false) (between start end line) 0
        (λ k inside.
        let near : k < end - start = omega (arith, inside, long line start end less within) in
        ap is_ascii_whitespace (byte_of line start end k near) ∙ solid (start + k) (omega arith) (omega (arith, near)))

    by_end : (end ≡ length line) ⊎ ((end < length line) × (is_ascii_whitespace (get_or line end 0) ≡ true)) → words_of (between start end line ++ drop end line) ≡ between start end line ∷ words_of (drop end line)
    by_end (inl last) =
        subst (λ (rest : List ℕ). words_of (between start end line ++ rest) ≡ between start end line ∷ words_of rest) (sym (drop_all end line (omega (arith, last))))
        (words_of-word (between start end line) [] [] some all (All-nil (λ b. is_ascii_whitespace b ≡ true), omega arith, λ _. refl))
    by_end (inr (inside, white)) =
        let blank = one_white (get_or line end 0) white in
        let rest = drop-cons line end 0 inside in
        ap (λ bytes. words_of (between start end line ++ bytes)) rest
        ∙ words_of-word (between start end line) (get_or line end 0 ∷ []) (drop (suc end) line) some all (blank, omega arith, λ none. absurd (omega (arith, none)))
        ∙ ap (λ words. between start end line ∷ words) (sym (words_of-gap (get_or line end 0 ∷ []) (drop (suc end) line) blank) ∙ ap words_of (sym rest))

-- one more byte that is no white space
pub solid-next : (line : List ℕ) (start at : ℕ) → ((k : ℕ) → start ≤ k → k < at → is_ascii_whitespace (get_or line k 0) ≡ false) → is_ascii_whitespace (get_or line at 0) ≡ false
    → (k : ℕ) → start ≤ k → k < at + 1 → is_ascii_whitespace (get_or line k 0) ≡ false
solid-next line start at so_far here k from within =
    ⊎_elim (λ before. so_far k from before) (λ last. ap (λ place. is_ascii_whitespace (get_or line place 0)) {x = k} {y = at} (omega (arith, last, within)) ∙ here) (cases_lt k at)

-- the next word behind a word of a line is a word of it, too
pub IsWordAt-next : (line : List ℕ) (start end first last : ℕ) → IsWordAt line start end → first < last → last ≤ length line
    → words_of (drop end line) ≡ between first last line ∷ words_of (drop last line) → IsWordAt line first last
IsWordAt-next line start end first last (less, within, before, together) some inside next =
    (some, inside, before ++ between start end line ∷ [], together ∙ ap (λ words. before ++ between start end line ∷ words) next ∙ sym (append_assoc before (between start end line ∷ []) (between first last line ∷ words_of (drop last line))))

-- and so is the first
pub IsWordAt-first : (line : List ℕ) (first last : ℕ) → first < last → last ≤ length line → words_of line ≡ between first last line ∷ words_of (drop last line) → IsWordAt line first last
IsWordAt-first line first last some inside next = (some, inside, [], next)
