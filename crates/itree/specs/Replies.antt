-- The text of replies.
use Rattle.std.specs.Prelude.{ℕ, ℤ, Bool, true, false, List, [], ◌∷◌, ◌++◌, Option, Some, None, codes, flat_map}
use Rattle.std.specs.Fmt.{decimal, signed_decimal}
use Rattle.runs.specs.SegMachine.{Reply}
use Rattle.runs.specs.SegMachine.{Reply as seg_reply}
use Rattle.runs.specs.declared.keys.KeyReply.{KeyReply}
use Rattle.runs.specs.declared.keys.KeyReply.TheVariants as key_reply
use Rattle.runs.specs.declared.sets.SetReply.{SetReply}
use Rattle.runs.specs.declared.sets.SetReply.TheVariants as set_reply
use Rattle.itree.specs.declared.lines.crossings.CrossingsLine.{CrossingsLine}
use Rattle.itree.specs.declared.lines.crossings.CrossingsLine.TheVariants as crossings_line
use Rattle.itree.specs.declared.set_key.SetKey.{SetKey}
use Rattle.itree.specs.declared.timed_val.TimedVal.{TimedVal}
use Rattle.plane.specs.declared.point.Point.{Point}

-- the words of a reply to a command of keys that expire
abbrev pub key_reply_words : KeyReply ℤ → List ℕ
key_reply_words key_reply.Inserted = codes "inserted"
key_reply_words key_reply.Present = codes "present"
key_reply_words key_reply.Late = codes "late"
key_reply_words (key_reply.Refused cause) = codes "refused"
key_reply_words key_reply.Cleared = codes "cleared"
key_reply_words (key_reply.Value val) = codes "value " ++ signed_decimal val

-- the words of a reply to a command of a set
abbrev pub set_reply_words : SetReply ℤ SetKey → List ℕ
set_reply_words set_reply.Inserted = codes "inserted"
set_reply_words (set_reply.Present value) = codes "present"
set_reply_words (set_reply.Refused value cause) = codes "refused"
set_reply_words set_reply.Deleted = codes "deleted"
set_reply_words set_reply.Absent = codes "absent"
set_reply_words (set_reply.Key key) = codes "key " ++ signed_decimal key
set_reply_words set_reply.None = codes "none"

-- the words of the values that a query found
abbrev pub value_words : List TimedVal → List ℕ
value_words values = codes "values" ++ flat_map (λ value. codes " " ++ signed_decimal value.val) values

-- the words of a reply to a command of segments
abbrev pub seg_reply_words : Reply TimedVal → List ℕ
seg_reply_words seg_reply.Inserted = codes "inserted"
seg_reply_words seg_reply.Outside = codes "outside"
seg_reply_words seg_reply.Late = codes "late"
seg_reply_words seg_reply.Refused = codes "refused"
seg_reply_words seg_reply.Cleared = codes "cleared"
seg_reply_words (seg_reply.Values values) = value_words values

-- the words of the reply to a point of a sweep: the height below it, if there is one
abbrev pub height_words : Option ℤ → List ℕ
height_words (Some y) = codes "below " ++ signed_decimal y
height_words None = codes "none"

-- a name, and numbers behind it
abbrev pub number_words : List ℕ → List ℕ → List ℕ
number_words name numbers = name ++ flat_map (λ number. codes " " ++ decimal number) numbers

-- the words of the reply to an edge: the numbers of the lines that say the earlier edges which it meets
abbrev pub met_words : List ℕ → List ℕ
met_words numbers = number_words (codes "meets") numbers

-- the word of the reply to an edge, which tells the earlier edges that cross it; and to a range, which tells the edges that reach it
abbrev pub crossing_word : CrossingsLine → List ℕ
crossing_word (crossings_line.Edge edge) = codes "crosses"
crossing_word (crossings_line.Range range) = codes "reached"

-- the lines of the replies that list these numbers, a list for each line that is said
abbrev pub crossing_lines : List CrossingsLine → List (List ℕ) → List ℕ
crossing_lines [] lists = []
crossing_lines (line ∷ said) [] = []
crossing_lines (line ∷ said) (numbers ∷ lists) = (number_words (crossing_word line) numbers ++ 10 ∷ []) ++ crossing_lines said lists

-- the words of the reply to a point among edges: the number of the line that says the edge below it, if there is one
abbrev pub edge_words : Option ℕ → List ℕ
edge_words (Some number) = codes "edge " ++ decimal number
edge_words None = codes "none"

-- a name, and points behind it, each by its x and its y
abbrev pub point_words : List ℕ → List Point → List ℕ
point_words name points =
    name ++ flat_map (λ point. codes " " ++ (signed_decimal point.x ++ (codes " " ++ signed_decimal point.y))) points

-- the words of the reply to an edge that is snapped: the points of its chain
abbrev pub chain_words : List Point → List ℕ
chain_words chain = point_words (codes "chain") chain

-- the lines of the replies, each of which ends with a line feed
abbrev pub reply_lines : {Reply : Type 0} → (Reply → List ℕ) → List Reply → List ℕ
reply_lines words replies = flat_map (λ reply. words reply ++ 10 ∷ []) replies

-- the line of a ring, which is the outer one of its polygon, or a hole
abbrev pub ring_line : Bool → List Point → List ℕ
ring_line true ring = point_words (codes "polygon") ring ++ 10 ∷ []
ring_line false ring = point_words (codes "hole") ring ++ 10 ∷ []

-- the lines of a polygon: its outer ring, and behind it its holes
abbrev pub polygon_lines : List (List Point) → List ℕ
polygon_lines [] = []
polygon_lines (outer ∷ holes) = ring_line true outer ++ flat_map (ring_line false) holes
