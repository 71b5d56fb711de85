-- The rebalancing after a removal, step by step: what is known of the first tree once the present node's short side is whole again.
use Rattle.std.proofs.Common.{◌≡◌, ◌≢◌, ℕ, ◌+◌, ◌*◌, ◌≤◌, ◌⊎◌, inl, inr, true, List, [], ◌∷◌, ◌++◌, append-nil, refl, sym, ap, ◌∙◌, subst, append_assoc, arith}
use Rattle.i_tree.specs.declared.TheConstants.{EMPTY_REF}
use Rattle.i_tree.specs.declared.rb.links.Colour.{Colour}
use Rattle.i_tree.specs.declared.rb.links.Colour.TheVariants.{Red, Black}
use Rattle.i_tree.specs.declared.rb.links.Side.{Side}
use Rattle.i_tree.specs.Rb.Balance.{is_black, level_of, Fits, IsShort}
use Rattle.i_tree.specs.Rb.Context.{Frame, fork_on, fill, plug}
use Rattle.i_tree.specs.Rb.Rebalancing.{one_if_red}
use Rattle.i_tree.specs.Rb.Removal.{KeepsSubtree, RebalancesSubtree}
use Rattle.i_tree.specs.Rb.ShortSides.{IsEnded, IsRisen}
use Rattle.i_tree.specs.Rb.Shape.{Shape, entries, black_levels, rank, AreHandles}
use Rattle.i_tree.proofs.RbLemmas.Balance.Ranks.{rank-black, rank-at_most, red_stands}
use Rattle.i_tree.proofs.RbLemmas.Shape.Contexts.{plug-append}
use Rattle.i_tree.proofs.RbLemmas.Balance.Insertion.{IsParent, IsSide}
use Rattle.i_tree.proofs.RbLemmas.Removal.Step.{KeepsSubtree-inside, entries-same_near}
use Rattle.i_tree.proofs.RbLemmas.Removal.Rebalancing.{some_not_none, cut_last, levels-far, rank-fork_on, levels-same_near, rank-same_near, RebalancesSubtree-inside, at_frame, frame_above, side_found}

module _ {T : Type 0} where
  module _ (start : Shape T) (parent : ℕ) (short : Side) (first : IsShort start parent short) where
    -- the subtree of the first node, and as it was before the removal
    abbrev base : Shape T
    base = fork_on short first.colour first.near parent first.item first.far

    abbrev full : Shape T → Shape T
    full fuller = fork_on short first.colour fuller parent first.item first.far

    -- the subtree has taken the place of what these frames make of the first node's subtree
    pub record Rebalances (passed : List (Frame T)) (subtree : Shape T) : Type 0 where
      pub own : KeepsSubtree subtree parent short first.near first.item
      pub entries_are : entries subtree ≡ entries (plug passed base)
      pub outer : (inner : List (Frame T)) (frame : Frame T) (outer : List (Frame T)) (fuller : Shape T) → passed ≡ inner ++ frame ∷ outer → black_levels fuller ≡ black_levels first.near + 1
          → RebalancesSubtree subtree frame.handle frame.side frame.item (entries (plug inner base)) (rank (plug inner (full fuller)))
      pub whole : (fuller : Shape T) → black_levels fuller ≡ black_levels first.near + 1 → rank subtree ≤ rank (plug passed (full fuller))

    -- one frame more
    Rebalances-more : (passed : List (Frame T)) (frame : Frame T) (subtree more : Shape T) → Rebalances passed subtree → KeepsSubtree more frame.handle frame.side subtree frame.item
        → entries more ≡ entries (fill frame subtree)
        → ((fuller : Shape T) → black_levels fuller ≡ black_levels first.near + 1 → rank more ≤ rank (fill frame (plug passed (full fuller))))
        → Rebalances (passed ++ frame ∷ []) more
    Rebalances-more passed frame subtree more rebalances kept same ranks =
        record {
          own =
              let P : Shape T → Type 0 = λ tree. KeepsSubtree tree parent short first.near first.item in
              subst P (sym kept.is) (KeepsSubtree-inside frames subtree parent short first.near first.item rebalances.own);
          entries_are =
              same
              ∙ entries-same_near frame.side frame.colour subtree (plug passed base) frame.handle frame.item frame.sibling rebalances.entries_are
              ∙ sym (ap entries (plug-append passed (frame ∷ []) base));
          outer = λ inner place outer fuller split deep. by_place inner place fuller deep (cut_last passed frame inner place outer split);
          whole = λ fuller deep.
              let Q : Shape T → Type 0 = λ tree. rank more ≤ rank tree in
              subst Q (sym (plug-append passed (frame ∷ []) (full fuller))) (ranks fuller deep);
        }
      where
        frames : List (Frame T)
        frames = record { side = frame.side; colour = kept.colour; handle = frame.handle; item = frame.item; sibling = kept.far } ∷ kept.around

        by_place : (inner : List (Frame T)) (place : Frame T) (fuller : Shape T) → black_levels fuller ≡ black_levels first.near + 1
            → ((passed ≡ inner) × (frame ≡ place)) ⊎ ((rest : List (Frame T)) × (passed ≡ inner ++ place ∷ rest))
            → RebalancesSubtree more place.handle place.side place.item (entries (plug inner base)) (rank (plug inner (full fuller)))
        by_place inner place fuller deep (inl (here, frame_is)) =
            let At : Frame T → List (Frame T) → Type 0 = λ other list. RebalancesSubtree more other.handle other.side other.item (entries (plug list base)) (rank (plug list (full fuller))) in
            let own_place : At frame passed = record { around = kept.around; colour = kept.colour; subtree = subtree; far = kept.far; is = kept.is; entries_are = rebalances.entries_are; ranks = rebalances.whole fuller deep } in
            let P : List (Frame T) → Type 0 = λ list. At frame list in
            let Q : Frame T → Type 0 = λ other. At other inner in
            subst Q frame_is (subst P here own_place)
        by_place inner place fuller deep (inr (rest, split)) =
            let P : Shape T → Type 0 = λ tree. RebalancesSubtree tree place.handle place.side place.item (entries (plug inner base)) (rank (plug inner (full fuller))) in
            subst P (sym kept.is)
            (RebalancesSubtree-inside frames subtree place.handle place.side place.item (entries (plug inner base)) (rank (plug inner (full fuller))) (rebalances.outer inner place rest fuller split deep))

    -- all frames around, where the subtree has as many levels as before
    Rebalances-around : (around passed : List (Frame T)) (subtree : Shape T) → Rebalances passed subtree
        → ((fuller : Shape T) → black_levels fuller ≡ black_levels first.near + 1 → black_levels subtree ≡ black_levels (plug passed (full fuller)))
        → Rebalances (passed ++ around) (plug around subtree)
    Rebalances-around [] passed subtree rebalances levels =
        let P : List (Frame T) → Type 0 = λ list. Rebalances list subtree in
        subst P (sym (append-nil passed)) rebalances
    Rebalances-around (frame ∷ around) passed subtree rebalances levels =
        let more = Rebalances-more passed frame subtree (fill frame subtree) rebalances (record { around = []; colour = frame.colour; far = frame.sibling; is = refl }) refl
        (λ fuller deep.
        let same = rank-same_near frame.side frame.colour subtree (plug passed (full fuller)) frame.handle frame.item frame.sibling (levels fuller deep) in
        omega arith) in
        let rest = Rebalances-around around (passed ++ frame ∷ []) (fill frame subtree) more
        (λ fuller deep.
        levels-same_near frame.side frame.colour subtree (plug passed (full fuller)) frame.handle frame.item frame.sibling (levels fuller deep)
        ∙ sym (ap black_levels (plug-append passed (frame ∷ []) (full fuller)))) in
        let P : List (Frame T) → Type 0 = λ list. Rebalances list (plug around (fill frame subtree)) in
        subst P (append_assoc passed (frame ∷ []) around) rest

    -- the node that is reached, and what a subtree in the place of its subtree would rebalance
    pub record Progress (tree : Shape T) (node : ℕ) (side : Side) : Type 0 where
      pub present : IsShort tree node side
      pub passed : List (Frame T)
      pub frames : first.around ≡ passed ++ present.around
      pub levels : (fuller : Shape T) → black_levels fuller ≡ black_levels first.near + 1 → black_levels (plug passed (full fuller)) ≡ black_levels present.far + level_of present.colour
      pub ranks : (fuller : Shape T) → black_levels fuller ≡ black_levels first.near + 1
          → rank (plug passed (full fuller)) ≡ 2 * (black_levels present.far + level_of present.colour) + one_if_red present.colour
      pub rebalances : (subtree : Shape T) → KeepsSubtree subtree node side present.near present.item → entries subtree ≡ entries (fork_on side present.colour present.near node present.item present.far)
          → rank subtree ≤ 2 * (black_levels present.far + level_of present.colour) + one_if_red present.colour → Rebalances passed subtree

    pub Progress-start : Progress start parent short
    Progress-start =
        record {
          present = first;
          passed = [];
          frames = refl;
          levels = λ fuller deep. levels-far short first.colour fuller parent first.item first.far (deep ∙ sym first.one_less);
          ranks = λ fuller deep. rank-fork_on short first.colour fuller parent first.item first.far (deep ∙ sym first.one_less);
          rebalances = λ subtree kept same low. record {
            own = kept;
            entries_are = same;
            outer = λ inner frame outer fuller split deep. absurd (some_not_none inner frame outer split);
            whole = λ fuller deep.
                omega (arith, rank-fork_on short first.colour fuller parent first.item first.far (deep ∙ sym first.one_less));
          };
        }

    module _ (tree new : Shape T) (node : ℕ) (side : Side) (progress : Progress tree node side) where
      pub Rebalances-ended : IsEnded tree node side progress.present new → Rebalances first.around new
      Rebalances-ended ended =
          let cut = progress.present in
          let rebalances = progress.rebalances ended.subtree ended.kept ended.entries_are (low cut.colour ended.levels ended.black) in
          let all = Rebalances-around cut.around progress.passed ended.subtree rebalances (λ fuller deep. ended.levels ∙ sym (progress.levels fuller deep)) in
          let P : Shape T → Type 0 = λ whole. Rebalances (progress.passed ++ cut.around) whole in
          let Q : List (Frame T) → Type 0 = λ list. Rebalances list new in
          subst Q (sym progress.frames) (subst P (sym ended.is) all)
        where
          low : (colour : Colour) → black_levels ended.subtree ≡ black_levels progress.present.far + level_of colour → (colour ≡ Black → is_black ended.subtree ≡ true)
              → rank ended.subtree ≤ 2 * (black_levels progress.present.far + level_of colour) + one_if_red colour
          low Red levels black = omega (arith, rank-at_most ended.subtree)
          low Black levels black = omega (arith, rank-black ended.subtree (black refl))

      module _ (risen : IsRisen tree node side progress.present new) where
        Rebalances-risen : Rebalances progress.passed risen.subtree
        Rebalances-risen =
            let level = ap level_of risen.was_black in
            let rank_is = rank-black risen.subtree risen.black in
            progress.rebalances risen.subtree risen.kept risen.entries_are (omega (arith, risen.levels))

        pub Rebalances-root : progress.present.around ≡ [] → Rebalances first.around new
        Rebalances-root root =
            let P : Shape T → Type 0 = λ whole. Rebalances progress.passed whole in
            let Q : List (Frame T) → Type 0 = λ list. Rebalances list new in
            subst Q (sym (progress.frames ∙ ap (λ list. progress.passed ++ list) root ∙ append-nil progress.passed))
            (subst P (sym (risen.is ∙ ap (λ (around : List (Frame T)). plug around risen.subtree) root)) Rebalances-risen)

        module _ (frame : Frame T) (rest : List (Frame T)) (around_is : progress.present.around ≡ frame ∷ rest) where
          fits : Fits (frame ∷ rest) (black_levels progress.present.far + level_of progress.present.colour)
          fits =
              let P : List (Frame T) → Type 0 = λ list. Fits list (black_levels progress.present.far + level_of progress.present.colour) in
              subst P around_is progress.present.fits

          short_above : IsShort new frame.handle frame.side
          short_above =
              let P : ℕ → Type 0 = λ levels. Fits rest (levels + level_of frame.colour) in
              record {
                around = rest;
                colour = frame.colour;
                near = risen.subtree;
                item = frame.item;
                far = frame.sibling;
                is = at_frame tree new node side progress.present risen frame rest around_is;
                near_balanced = risen.balanced;
                far_balanced = fits.0;
                one_less = omega (arith, ap level_of risen.was_black, fits.1, risen.levels);
                red_holds = red_stands frame.colour frame.sibling rest fits.2;
                fits = subst P (sym fits.1) fits.3;
              }

          even : (fuller : Shape T) → black_levels fuller ≡ black_levels first.near + 1 → black_levels (plug progress.passed (full fuller)) ≡ black_levels frame.sibling
          even fuller deep = progress.levels fuller deep ∙ sym fits.1

          Progress-above : Progress new frame.handle frame.side
          unfolding short_above
          Progress-above =
              record {
                present = short_above;
                passed = progress.passed ++ frame ∷ [];
                frames = progress.frames ∙ ap (λ list. progress.passed ++ list) around_is ∙ sym (append_assoc progress.passed (frame ∷ []) rest);
                levels = λ fuller deep.
                    ap black_levels (plug-append progress.passed (frame ∷ []) (full fuller))
                    ∙ levels-far frame.side frame.colour (plug progress.passed (full fuller)) frame.handle frame.item frame.sibling (even fuller deep);
                ranks = λ fuller deep.
                    ap rank (plug-append progress.passed (frame ∷ []) (full fuller))
                    ∙ rank-fork_on frame.side frame.colour (plug progress.passed (full fuller)) frame.handle frame.item frame.sibling (even fuller deep);
                rebalances = λ subtree kept same low. Rebalances-more progress.passed frame risen.subtree subtree Rebalances-risen kept same
                    (λ fuller deep.
                    let is = rank-fork_on frame.side frame.colour (plug progress.passed (full fuller)) frame.handle frame.item frame.sibling (even fuller deep) in
                    omega arith);
              }

        pub Progress-next : AreHandles new → (above : ℕ) → IsParent new node above → above ≢ EMPTY_REF → (found : Side) → IsSide new above node found → Progress new above found
        Progress-next handles above above_is some found found_is =
            let (frame, rest, around_is, same) = frame_above tree new node side progress.present risen above above_is some in
            let side_is = side_found tree new node side progress.present risen above above_is handles found found_is frame rest around_is same in
            let P : ℕ → Type 0 = λ handle. Progress new handle found in
            let Q : Side → Type 0 = λ way. Progress new frame.handle way in
            subst P (sym same) (subst Q (sym side_is) (Progress-above frame rest around_is))
