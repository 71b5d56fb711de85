-- What contracts see of the comparisons that a sweep by columns counts. `Made` says of two states of a counter which counts were
-- made from the one to the other.
use Rattle.std.specs.Prelude.{◌≡◌, ℕ, ◌+◌, ◌*◌, ◌^◌, ◌<◌, ◌≤◌, List, length}
use Rattle.i_tree.specs.Root.Steps.{Counts}
use Rattle.plane.specs.declared.columns.Asked.{Asked}
use Rattle.plane.specs.declared.edge.Edge.{Edge}

module _ {S : Type 0} (Made : S → S → Counts → Type 0) where
  -- At most as many comparisons were made as so many descents take among so many active edges (n edges have k levels where
  -- 2^k <= n + 1 < 2^(k + 1), and a descent takes two for each), and so many others.
  pub record Compares (old new : S) (active descents others : ℕ) : Type 0 where
    pub made : Counts
    pub counted : Made old new made
    pub comparisons : (levels : ℕ) → active + 1 < 2 ^ (levels + 1) → made.comparisons ≤ 2 * levels * descents + others

  -- So many pairs are gained, each by a comparison, and one more ends that.
  pub record AppendsComparing (old new : S) (active descents : ℕ) (before after : List (ℕ × ℕ)) : Type 0 where
    pub gained : ℕ
    pub gains : length after ≡ length before + gained
    pub compares : Compares old new active descents (gained + 1)

  -- So many pairs are told, each with two comparisons.
  pub record ExchangesComparing (old new : S) (before after : List (ℕ × ℕ)) : Type 0 where
    pub gained : ℕ
    pub gains : length after ≡ length before + gained
    pub compares : Compares old new 0 0 (2 * gained)

  -- Each edge begins and ends, and each that is asked has its turn: each such event takes one descent at most, and two comparisons
  -- of neighbours. Two more are made for each pair that is told, and one for each that is met.
  abbrev pub FindsComparing : S → S → List Edge → List Asked → List (ℕ × ℕ) → List (ℕ × ℕ) → Type 0
  FindsComparing old new edges asked crossed met =
      let events = 2 * length edges + length asked in
      Compares old new (length edges) events (2 * events + 2 * length crossed + length met)
