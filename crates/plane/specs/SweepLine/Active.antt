-- The order along the status of the sweep. How an edge stands to another, to a point and to one that ends.
use Rattle.std.specs.Prelude.{⊤, ℕ, ℤ, pos, ◌-ℤ◌, ◌*ℤ◌, ◌<ℤ◌, Bool, List, All, Option, Some}
use Rattle.std.specs.Int.{int_max}
use Rattle.std.specs.Ordering.{int_cmp, nat_cmp}
use Rattle.std.specs.declared.cmp.Ordering.{Ordering}
use Rattle.std.specs.declared.cmp.Ordering.TheVariants.{Less, Equal, Greater}
use Rattle.plane.specs.declared.sweep_line.active.ActiveEdge.{ActiveEdge}
use Rattle.i_tree.specs.Expiring.Live.{live_pairs, IsExpired}
use Rattle.i_tree.specs.Root.Live.{is_live}
use Rattle.plane.specs.declared.point.Point.{Point}
use Rattle.plane.specs.Ends.{end_of}
use Rattle.plane.specs.SweepLine.Crossings.{Cross}
use Rattle.plane.specs.SweepLine.Heights.{run, height_by_run, height_by_runs, rise_by_run}

-- the active edge of these numbers
abbrev pub active_edge : ℤ → ℤ → ℤ → ℤ → ℕ → ActiveEdge
active_edge x0 y0 x1 y1 place = record {
  edge = record { x0 = x0; y0 = y0; x1 = x1; y1 = y1 };
  place = place;
}

-- the first comparison, or the second where the first says Equal
abbrev pub then_cmp : Ordering → Ordering → Ordering
then_cmp Less second = Less
then_cmp Equal second = second
then_cmp Greater second = Greater

-- the first x that both edges span, where they span one
abbrev pub common_start : ActiveEdge → ActiveEdge → ℤ
common_start one other = int_max one.edge.x0 other.edge.x0

-- by the slopes, then by where they begin, then by place
abbrev pub cmp_behind : ActiveEdge → ActiveEdge → Ordering
cmp_behind one other =
    then_cmp (int_cmp (rise_by_run one.edge other.edge) (rise_by_run other.edge one.edge))
    (then_cmp (int_cmp one.edge.x0 other.edge.x0) (nat_cmp one.place other.place))

-- by the heights at the first common x, and where these are equal by what comes behind them
abbrev pub cmp_active : ActiveEdge → ActiveEdge → Ordering
cmp_active one other =
    let start = common_start one other in
    then_cmp (int_cmp (height_by_runs one.edge other.edge start) (height_by_runs other.edge one.edge start)) (cmp_behind one other)

-- how an edge's height at the point's x stands to the point's
abbrev pub cmp_to_point : Point → ActiveEdge → Ordering
cmp_to_point point active = int_cmp (height_by_run active.edge point.x) (point.y *ℤ run active.edge)

-- how another stands to an edge that ends: by its height there, then along the status
abbrev pub cmp_to_ending : ActiveEdge → ActiveEdge → Ordering
cmp_to_ending ending other = then_cmp (cmp_to_point (end_of ending.edge) other) (cmp_active other ending)

-- what the status stores: active edges, with no value
abbrev pub Entry : Type 0
Entry = ActiveEdge × ⊤

-- the entries that are live at an x, and whether one has expired there
abbrev pub expiration : ActiveEdge → ℤ
expiration active = active.edge.x1 -ℤ pos 1

abbrev pub is_live_at : ℤ → Entry → Bool
is_live_at x entry = is_live expiration int_cmp x entry.0

-- The entries that are live at x.
abbrev pub live_entries : ℤ → List Entry → List Entry
live_entries x entries = live_pairs expiration int_cmp x entries

abbrev pub IsExpiredAt : ℤ → Entry → Type 0
IsExpiredAt x entry = IsExpired expiration int_cmp x entry

-- all the entries' edges go to the right
abbrev pub AllRight : List Entry → Type 0
AllRight entries = All (λ entry. entry.0.edge.x0 <ℤ entry.0.edge.x1) entries

-- two entries, where both are there, don't cross
abbrev pub NotCross : Option Entry → Option Entry → Type 0
NotCross (Some one) (Some other) = ¬ (Cross one.0.edge other.0.edge)
NotCross _ _ = ⊤
