-- The graph of contacts, one contact after another.
use Rattle.std.proofs.Common.{◌≡◌, ◌≢◌, ◌⊎◌, inl, inr, ℕ, ◌+◌, ◌-◌, ◌<◌, ◌≤◌, List, [], ◌∷◌, ◌++◌, Some, get_or, length, refl, ap, sym, subst, ◌∙◌, arith}
use Rattle.std.specs.Prelude.{◌↔◌}
use Rattle.std.specs.List.{slice_get}
use Rattle.std.proofs.lemmas.List.{get_or_append_left, get_or_default, length-append}
use Rattle.std.proofs.Math.Seq.{get_or-append_seam}
use Rattle.std.proofs.lemmas.Option.{slice_get-get_or}
use Rattle.forest.specs.Circles.{ends_at}
use Rattle.validity.specs.declared.one_piece.Contact.{Contact}
use Rattle.validity.specs.Contacts.{AreTogether, GoesOn, IsGraphOf, no_contact}
use Rattle.validity.proofs.Meetings.{by_order}

-- The contact at a place.
abbrev pub at : List Contact → ℕ → Contact
at contacts k = get_or contacts k no_contact

-- The edges of the first so many contacts are there, and the node is that of the last of these.
pub record IsGrowing (count : ℕ) (contacts : List Contact) (place node : ℕ) (graph : List (ℕ × ℕ)) : Type 0 where
  pub as_many : length graph ≡ place
  pub from : count ≤ node
  pub upto : node ≤ count + place
  pub ring : (k : ℕ) → k < place → (ends_at graph k).0 ≡ (at contacts k).ring
  pub behind : (k : ℕ) → k < place → count ≤ (ends_at graph k).1
  pub before : (k : ℕ) → k < place → (ends_at graph k).1 ≤ node
  pub below : (k : ℕ) → k < place → (ends_at graph k).1 < count + place
  pub last : 0 < place → (ends_at graph (place - 1)).1 ≡ node
  pub same : (j k : ℕ) → j < place → k < place → (ends_at graph j).1 ≡ (ends_at graph k).1 ↔ (at contacts j).point ≡ (at contacts k).point

pub growing-none : (count : ℕ) (contacts : List Contact) → IsGrowing count contacts 0 count []
growing-none count contacts = record {
  as_many = refl;
  from = omega arith;
  upto = omega arith;
  ring = λ k within. absurd (omega (arith, within));
  behind = λ k within. absurd (omega (arith, within));
  before = λ k within. absurd (omega (arith, within));
  below = λ k within. absurd (omega (arith, within));
  last = λ some. absurd (omega (arith, some));
  same = λ j k within. absurd (omega (arith, within));
}

module _ (count : ℕ) (contacts : List Contact) (together : AreTogether contacts) (place node : ℕ) (graph : List (ℕ × ℕ)) (inside : place < length contacts) (is : IsGrowing count contacts place node graph) where
  -- one before, or the next one
  before-or : (k : ℕ) → k < place + 1 → (k < place) ⊎ (k ≡ place)
  before-or k within = by_order k place (λ less. inl less) (λ same. inr same) (λ more. absurd (omega (arith, more, within)))

  module _ (next : ℕ) (edge : ℕ × ℕ) (own : edge.0 ≡ (at contacts place).ring) (to : edge.1 ≡ next) (from : count ≤ next) (after : node ≤ next) (upto : next ≤ count + place)
      (met : (j : ℕ) → j < place → (ends_at graph j).1 ≡ next ↔ (at contacts j).point ≡ (at contacts place).point) where
    abbrev now : List (ℕ × ℕ)
    now = graph ++ edge ∷ []

    still : (k : ℕ) → k < place → ends_at (graph ++ edge ∷ []) k ≡ ends_at graph k
    still k within = let size = is.as_many in get_or_append_left graph (edge ∷ []) (0, 0) k (omega (arith, within, size))

    there : (k : ℕ) → k ≡ place → ends_at (graph ++ edge ∷ []) k ≡ edge
    there k same = ap (λ (n : ℕ). ends_at (graph ++ edge ∷ []) n) (same ∙ sym is.as_many) ∙ get_or-append_seam graph edge [] (0, 0)

    node-of : (k : ℕ) → k < place + 1 → ((k < place) × ((ends_at (graph ++ edge ∷ []) k).1 ≡ (ends_at graph k).1)) ⊎ ((k ≡ place) × ((ends_at (graph ++ edge ∷ []) k).1 ≡ next))
    node-of k within = elim (before-or k within) [
      | inl less ↦ inl (less, ap (λ (e : ℕ × ℕ). e.1) (still k less))
      | inr same ↦ inr (same, ap (λ (e : ℕ × ℕ). e.1) (there k same) ∙ to)
    ]

    same-now : (j k : ℕ) → j < place + 1 → k < place + 1 → (ends_at (graph ++ edge ∷ []) j).1 ≡ (ends_at (graph ++ edge ∷ []) k).1 ↔ (at contacts j).point ≡ (at contacts k).point
    same-now j k j_in k_in = by (node-of j j_in) (node-of k k_in)
      where
        by : ((j < place) × ((ends_at (graph ++ edge ∷ []) j).1 ≡ (ends_at graph j).1)) ⊎ ((j ≡ place) × ((ends_at (graph ++ edge ∷ []) j).1 ≡ next))
            → ((k < place) × ((ends_at (graph ++ edge ∷ []) k).1 ≡ (ends_at graph k).1)) ⊎ ((k ≡ place) × ((ends_at (graph ++ edge ∷ []) k).1 ≡ next))
            → (ends_at (graph ++ edge ∷ []) j).1 ≡ (ends_at (graph ++ edge ∷ []) k).1 ↔ (at contacts j).point ≡ (at contacts k).point
        by (inl (less, a)) (inl (less_too, b)) = let old = is.same j k less less_too in (λ e. old.0 (sym a ∙ e ∙ b), λ e. a ∙ old.1 e ∙ sym b)
        by (inl (less, a)) (inr (here, b)) = (
          λ e. (met j less).0 (sym a ∙ e ∙ b) ∙ ap (λ (n : ℕ). (at contacts n).point) (sym here),
          λ e. a ∙ (met j less).1 (e ∙ ap (λ (n : ℕ). (at contacts n).point) here) ∙ sym b,
        )
        by (inr (here, a)) (inl (less, b)) = (
          λ e. ap (λ (n : ℕ). (at contacts n).point) here ∙ sym ((met k less).0 (sym b ∙ sym e ∙ a)),
          λ e. a ∙ sym (b ∙ (met k less).1 (sym e ∙ ap (λ (n : ℕ). (at contacts n).point) here)),
        )
        by (inr (here, a)) (inr (here_too, b)) = (λ e. ap (λ (n : ℕ). (at contacts n).point) (here ∙ sym here_too), λ e. a ∙ sym b)

    grown : IsGrowing count contacts (place + 1) next (graph ++ edge ∷ [])
    grown = record {
      as_many = length-append graph (edge ∷ []) ∙ (let size = is.as_many in omega (arith, size));
      from = from;
      upto = omega (arith, upto);
      ring = λ k within. elim (before-or k within) [
        | inl less ↦ ap (λ (e : ℕ × ℕ). e.0) (still k less) ∙ is.ring k less
        | inr same ↦ ap (λ (e : ℕ × ℕ). e.0) (there k same) ∙ own ∙ ap (λ (n : ℕ). (at contacts n).ring) (sym same)
      ];
      behind = λ k within. elim (node-of k within) [
        | inl (less, a) ↦ let old = is.behind k less in omega (arith, old, a)
        | inr (same, a) ↦ omega (arith, from, a)
      ];
      before = λ k within. elim (node-of k within) [
        | inl (less, a) ↦ let old = is.before k less in omega (arith, old, a, after)
        | inr (same, a) ↦ omega (arith, a)
      ];
      below = λ k within. elim (node-of k within) [
        | inl (less, a) ↦ let old = is.below k less in omega (arith, old, a)
        | inr (same, a) ↦ omega (arith, upto, a)
      ];
      last = λ some. elim (node-of ((place + 1) - 1) (omega arith)) [
        | inl (less, a) ↦ absurd (omega (arith, less))
        | inr (same, a) ↦ a
      ];
      same = same-now;
    }

  -- a contact in the point of the last one, or the first one
  pub growing-same : (edge : ℕ × ℕ) → edge.0 ≡ (at contacts place).ring → edge.1 ≡ node → ((place ≡ 0) ⊎ ((at contacts (place - 1)).point ≡ (at contacts place).point)) → IsGrowing count contacts (place + 1) node (graph ++ edge ∷ [])
  growing-same edge own to with_last = grown node edge own to is.from (omega arith) is.upto (λ j less. met j less with_last)
    where
      met : (j : ℕ) → j < place → ((place ≡ 0) ⊎ ((at contacts (place - 1)).point ≡ (at contacts place).point)) → (ends_at graph j).1 ≡ node ↔ (at contacts j).point ≡ (at contacts place).point
      met j less (inl none) = absurd (omega (arith, none, less))
      met j less (inr same) =
          let last = is.last (omega (arith, less)) in
          let old = is.same j (place - 1) less (omega (arith, less)) in
          (λ e. old.0 (e ∙ sym last) ∙ same, λ e. old.1 (e ∙ sym same) ∙ last)

  -- or one in another point
  pub growing-other : (edge : ℕ × ℕ) → edge.0 ≡ (at contacts place).ring → edge.1 ≡ node + 1 → 0 < place → ((at contacts (place - 1)).point ≢ (at contacts place).point) → IsGrowing count contacts (place + 1) (node + 1) (graph ++ edge ∷ [])
  growing-other edge own to some apart =
      let from = is.from in
      let last = is.last some in
      let below = is.below (place - 1) (omega (arith, some)) in
      grown (node + 1) edge own to (omega (arith, from)) (omega arith) (omega (arith, last, below)) met
    where
      stands : (k : ℕ) → k < length contacts → slice_get contacts k ≡ Some (at contacts k)
      stands k within = slice_get-get_or contacts k no_contact within

      met : (j : ℕ) → j < place → (ends_at graph j).1 ≡ node + 1 ↔ (at contacts j).point ≡ (at contacts place).point
      met j less = (
        λ e. absurd (let before = is.before j less in omega (arith, before, e)),
        λ e. absurd (by_order j (place - 1)
            (λ sooner. apart (sym (together j (place - 1) place (at contacts j) (at contacts (place - 1)) (at contacts place) sooner (omega (arith, some)) (stands j (omega (arith, less, inside))) (stands (place - 1) (omega (arith, inside))) (stands place inside) e) ∙ e))
            (λ same. apart (ap (λ (n : ℕ). (at contacts n).point) (sym same) ∙ e))
            (λ later. omega (arith, later, less))),
      )

  -- so with the node that comes next
  pub growing-next : (next : ℕ) (edge : ℕ × ℕ) → edge.0 ≡ (at contacts place).ring → edge.1 ≡ next → GoesOn contacts place node next → IsGrowing count contacts (place + 1) next (graph ++ edge ∷ [])
  growing-next next edge own to (inl (more, some, apart)) = subst (λ (n : ℕ). IsGrowing count contacts (place + 1) n (graph ++ edge ∷ [])) (sym more) (growing-other edge own (to ∙ more) some apart)
  growing-next next edge own to (inr (same, with_last)) = subst (λ (n : ℕ). IsGrowing count contacts (place + 1) n (graph ++ edge ∷ [])) (sym same) (growing-same edge own (to ∙ same) with_last)

-- all of them are the graph
pub growing-all : (count : ℕ) (contacts : List Contact) (place node : ℕ) (graph : List (ℕ × ℕ)) → IsGrowing count contacts place node graph → place ≡ length contacts → IsGraphOf count contacts graph
growing-all count contacts place node graph is all = record {
  as_many = is.as_many ∙ all;
  ring = λ k contact within stands. is.ring k (omega (arith, within, all)) ∙ ap (λ (c : Contact). c.ring) (read k contact within stands);
  behind = λ k within. is.behind k (omega (arith, within, all));
  same = λ j k one other j_in k_in first second.
      let a = ap (λ (c : Contact). c.point) (read j one j_in first) in
      let b = ap (λ (c : Contact). c.point) (read k other k_in second) in
      let old = is.same j k (omega (arith, j_in, all)) (omega (arith, k_in, all)) in
      (λ e. sym a ∙ old.0 e ∙ b, λ e. old.1 (a ∙ e ∙ sym b));
}
  where
    read : (k : ℕ) (contact : Contact) → k < length contacts → get_or contacts k contact ≡ contact → at contacts k ≡ contact
    read k contact within stands = get_or_default contacts k no_contact contact within ∙ stands
