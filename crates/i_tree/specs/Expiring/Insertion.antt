-- What an insertion adds that may find its key there already, where its pair stands, and between which.
use Rattle.std.specs.Prelude.{◌≡◌, ◌≢◌, ◌<◌, ℕ, Bool, true, false, if◌then◌else◌, List, ◌∷◌, ◌++◌, All, Any, Option, None, Some, IfSome, Result, Ok, Err, IsOk, IfOk, OnErr, MatchBool, is_some, length, ⊤}
use Rattle.std.specs.declared.cmp.Ordering.{Ordering}
use Rattle.std.specs.declared.cmp.Ordering.TheVariants.{Less, Equal, Greater}
use Rattle.i_tree.specs.Expiring.Descent.{MayCall}
use Rattle.i_tree.specs.Expiring.SearchPath.{path_by}
use Rattle.i_tree.specs.Expiring.Tree.{items, slots_for}
use Rattle.i_tree.specs.Root.Along.{AreNeighbours, ByEachOrder}
use Rattle.i_tree.specs.Root.Causes.{RefusedFor}
use Rattle.i_tree.specs.Root.Change.{Without}
use Rattle.i_tree.specs.Root.Ends.{EndsIn, StartsIn}
use Rattle.i_tree.specs.Rb.Balance.{IsCore}
use Rattle.i_tree.specs.Rb.RbTree.{Contents, slots}
use Rattle.i_tree.specs.Rb.SearchPath.{AnswersAs}
use Rattle.i_tree.specs.Rb.Shape.{Shape, entries, IsHandle}
use Rattle.i_tree.specs.declared.Refusal.{Refusal}
use Rattle.i_tree.specs.declared.Refusal.TheVariants.{OutOfMemory, NoHandle}
use Rattle.i_tree.specs.declared.TheConstants.{EMPTY_REF}

-- what an insertion adds where its pair joins or is refused, and what a query adds where the key is there already
abbrev pub InsertsOrLeaves : (Result ⊤ Refusal → Type 0) → Type 0 → Result Bool Refusal → Type 0
InsertsOrLeaves Inserts Leaves (Ok true) = Inserts (Ok tt)
InsertsOrLeaves Inserts Leaves (Ok false) = Leaves
InsertsOrLeaves Inserts Leaves (Err cause) = Inserts (Err cause)

-- whether the pair has joined, of an insertion that tells something just where it has
abbrev pub has_joined : {N : Type 0} → Result (Option N) Refusal → Result Bool Refusal
has_joined (Ok told) = Ok (is_some told)
has_joined (Err cause) = Err cause

-- what is told of these pairs, if anything: by each order that a closure's answers follow, the last pair that it doesn't
-- call Greater, and the first that it does
abbrev pub TellsNeighbours : {K V : Type 0} → (K → Ordering → Type 0) → List (K × V)
    → Option (Option (K × V) × Option (K × V)) → Type 0
TellsNeighbours may_answer pairs told =
    IfSome told (λ found. ByEachOrder may_answer pairs (λ order. AreNeighbours order pairs found))

-- an entry of the tree has the handle, or it is the one that is none
abbrev pub IsHandleOrNone : {T : Type 0} → Shape T → ℕ → Type 0
IsHandleOrNone tree handle = handle ≢ EMPTY_REF → IsHandle tree handle

-- what is found at a handle: the item there, or nothing at the handle that is none
pub record IsFoundAt {T : Type 0} (tree : Shape T) (handle : ℕ) (found : Option T) : Type 0 where
  pub none : handle ≡ EMPTY_REF → found ≡ None
  pub some : handle ≢ EMPTY_REF → (front : List (ℕ × T)) (item : T) (back : List (ℕ × T)) →
      entries tree ≡ front ++ (handle, item) ∷ back → found ≡ Some item

-- what is found at two handles
abbrev pub AreFoundAt : {T : Type 0} → Shape T → ℕ → ℕ → Option T × Option T → Type 0
AreFoundAt tree last next found = IsFoundAt tree last found.0 × IsFoundAt tree next found.1

-- two handles hold the neighbours among these pairs: by each order that a closure's answers follow, what is found at the one is the
-- last pair that it doesn't call Greater, and at the other the first that it does
abbrev pub HoldNeighbours : {K V : Type 0} → (K → Ordering → Type 0) → List (K × V) → Shape (K × V) → ℕ → ℕ → Type 0
HoldNeighbours {K} {V} may_answer pairs tree last next =
    (found : Option (K × V) × Option (K × V)) → AreFoundAt tree last next found
    → ByEachOrder may_answer pairs (λ order. AreNeighbours order pairs found)

-- For the private contracts of `KeyExpTree`. `is_live` says which keys are live, and `MayAnswer` how a key may be called by what
-- is sought.
module _ {K V : Type 0} (is_live : K → Bool) (MayAnswer : K → Ordering → Type 0) where
  -- some pair's key is live, and may be called Equal
  abbrev pub CallsEqual : List (K × V) → Type 0
  CallsEqual pairs = Any (λ pair. MayCall is_live MayAnswer pair Equal) pairs

  -- a place between two lists: behind a live pair that was called Less and before a live one that was called Greater, if there
  -- are such
  pub record IsBetween (front back : List (K × V)) : Type 0 where
    pub last : EndsIn (λ pair. MayCall is_live MayAnswer pair Less) front
    pub first : StartsIn (λ pair. MayCall is_live MayAnswer pair Greater) back

  -- the list has such a place
  abbrev pub HasPlace : List (K × V) → Type 0
  HasPlace pairs = (front : List (K × V)) × (back : List (K × V)) × (pairs ≡ front ++ back) × IsBetween front back

  -- some pairs are gone that were not live, and the pair has joined the others at such a place
  abbrev pub JoinsBetween : K × V → List (K × V) → List (K × V) → Type 0
  JoinsBetween pair before after =
      (front : List (K × V)) × (back : List (K × V)) × Without (λ other. is_live other.0 ≡ false) before (front ++ back)
      × IsBetween front back × (after ≡ front ++ pair ∷ back)

  -- The pairs after an insertion, by whether its pair has joined. Where it has, it stands at such a place; where it hasn't, only
  -- pairs are gone that were not live, and a live key may be called Equal; where it is refused, there is such a place.
  pub record JoinsUnlessEqual (pair : K × V) (before : List (K × V)) (joined : Result Bool Refusal) (after : List (K × V)) : Type 0 where
    pub joins : IfOk joined (λ is_new. MatchBool is_new
        (JoinsBetween pair before after)
        (Without (λ other. is_live other.0 ≡ false) before after))
    pub equal : IfOk joined (λ is_new. is_new ≡ false → CallsEqual after)
    pub refused : OnErr joined (HasPlace before)

  -- all pairs on the search path to the place are live, by each test that says which keys aren't called Greater
  abbrev pub IsPathLiveBy : Contents (K × V) → Type 0
  IsPathLiveBy contents =
      (passes : K → Bool) → AnswersAs MayAnswer passes → All (λ pair. is_live pair.0 ≡ true) (path_by passes contents.shape)

  -- An insertion succeeds where a slot is free after its search path, else the slots double. A refusal changes nothing, and means
  -- that all on the path is live. Where it finds a key that is called Equal, it keeps the slots.
  pub record InsertsByPath (old : Contents (K × V)) (joined : Result Bool Refusal) (new : Contents (K × V)) : Type 0 where
    pub core : IsCore new.shape
    pub err : OnErr joined (new ≡ old)
    pub with_spare : 0 < old.spare → IsOk joined
    pub err_way : OnErr joined (IsPathLiveBy old)
    pub full : old.spare ≡ 0 → slots old ≡ EMPTY_REF → (passes : K → Bool) → AnswersAs MayAnswer passes
        → All (λ pair. is_live pair.0 ≡ true) (path_by passes old.shape) → IfOk joined (λ is_new. is_new ≡ false)
    pub no_handle : slots old ≡ EMPTY_REF → RefusedFor NoHandle joined
    pub refused : slots old ≢ EMPTY_REF → RefusedFor OutOfMemory joined
    pub slots : IfOk joined (λ is_new. slots new ≡ (if is_new then slots_for old (length (items new.shape)) else slots old))
