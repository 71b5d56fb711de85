-- A fill rule, an operation, a form, what becomes of a border, which side is kept and how corners are joined, as C names them: by
-- numbers.
use Rattle.std.specs.Prelude.{◌≡◌, ◌≢◌, ⊤, ℕ, ℤ, Option, Some, None}
use Rattle.layers.specs.declared.points.Border.{Border}
use Rattle.layers.specs.declared.points.Border.TheVariants.{Closed, Open, HalfOpen}
use Rattle.layers.specs.declared.lines.Keep.{Keep}
use Rattle.layers.specs.declared.lines.Keep.TheVariants.{Inside, Outside}
use Rattle.offset.specs.declared.joins.Join.{Join}
use Rattle.offset.specs.declared.joins.Join.TheVariants.{Round, Bevel, Mitre}
use Rattle.overlay.specs.declared.fill.rules.FillRule.{FillRule}
use Rattle.overlay.specs.declared.fill.rules.FillRule.TheVariants.{EvenOdd, NonZero, Positive, Negative}
use Rattle.overlay.specs.declared.fill.rules.Operation.{Operation}
use Rattle.overlay.specs.declared.fill.rules.Operation.TheVariants.{Union, Intersection, Difference, Xor}
use Rattle.wkb.specs.declared.writing.Form.{Form}
use Rattle.wkb.specs.declared.writing.Form.TheVariants.{MultiPolygon, EachPolygon}
use Rattle.itree_c.specs.declared.choices.TheConstants.{EVEN_ODD, NON_ZERO, POSITIVE, NEGATIVE, UNION, INTERSECTION, DIFFERENCE, XOR, MULTIPOLYGON, EACH_POLYGON, CLOSED, OPEN, HALF_OPEN, INSIDE, OUTSIDE, ROUND, BEVEL, MITRE}

-- the number of each rule
abbrev pub number_of_rule : FillRule → ℤ
number_of_rule EvenOdd = EVEN_ODD
number_of_rule NonZero = NON_ZERO
number_of_rule Positive = POSITIVE
number_of_rule Negative = NEGATIVE

-- the number of each operation
abbrev pub number_of_operation : Operation → ℤ
number_of_operation Union = UNION
number_of_operation Intersection = INTERSECTION
number_of_operation Difference = DIFFERENCE
number_of_operation Xor = XOR

-- it is the rule that has the number, or no rule has it
abbrev pub IsRule : ℤ → Option FillRule → Type 0
IsRule number (Some rule) = number ≡ number_of_rule rule
IsRule number None = (rule : FillRule) → number ≢ number_of_rule rule

-- it is the operation that has the number, or no operation has it
abbrev pub IsOperation : ℤ → Option Operation → Type 0
IsOperation number (Some operation) = number ≡ number_of_operation operation
IsOperation number None = (operation : Operation) → number ≢ number_of_operation operation

-- a rule has the number
abbrev pub IsNumberOfRule : ℤ → Type 0
IsNumberOfRule number = (rule : FillRule) × (number ≡ number_of_rule rule)

-- a rule has the one number, and an operation the other
abbrev pub AreChoices : ℤ → ℤ → Type 0
AreChoices rule operation =
    ((named : FillRule) × (rule ≡ number_of_rule named)) × ((chosen : Operation) × (operation ≡ number_of_operation chosen))

-- the number of each form
abbrev pub number_of_form : Form → ℤ
number_of_form MultiPolygon = MULTIPOLYGON
number_of_form EachPolygon = EACH_POLYGON

-- it is the form that has the number, or no form has it
abbrev pub IsForm : ℤ → Option Form → Type 0
IsForm number (Some form) = number ≡ number_of_form form
IsForm number None = (form : Form) → number ≢ number_of_form form

-- a form has the number
abbrev pub IsNumberOfForm : ℤ → Type 0
IsNumberOfForm number = (form : Form) × (number ≡ number_of_form form)

-- the number of what becomes of a border
abbrev pub number_of_border : Border → ℤ
number_of_border Closed = CLOSED
number_of_border Open = OPEN
number_of_border HalfOpen = HALF_OPEN

-- it is what has the number, or nothing has it
abbrev pub IsBorder : ℤ → Option Border → Type 0
IsBorder number (Some border) = number ≡ number_of_border border
IsBorder number None = (border : Border) → number ≢ number_of_border border

-- the number of each side
abbrev pub number_of_keep : Keep → ℤ
number_of_keep Inside = INSIDE
number_of_keep Outside = OUTSIDE

-- it is the side that has the number, or no side has it
abbrev pub IsKeep : ℤ → Option Keep → Type 0
IsKeep number (Some keep) = number ≡ number_of_keep keep
IsKeep number None = (keep : Keep) → number ≢ number_of_keep keep

-- a rule has the one number, and something that becomes of a border the other
abbrev pub AreRuleAndBorder : ℤ → ℤ → Type 0
AreRuleAndBorder rule border =
    ((named : FillRule) × (rule ≡ number_of_rule named)) × ((chosen : Border) × (border ≡ number_of_border chosen))

-- a rule has the one number, and a side the other
abbrev pub AreRuleAndKeep : ℤ → ℤ → Type 0
AreRuleAndKeep rule keep =
    ((named : FillRule) × (rule ≡ number_of_rule named)) × ((chosen : Keep) × (keep ≡ number_of_keep chosen))

-- the number of each way to join corners
abbrev pub number_of_join : Join → ℤ
number_of_join Round = ROUND
number_of_join Bevel = BEVEL
number_of_join (Mitre limit) = MITRE

-- this is the limit of a mitre; the other ways have none
abbrev pub HasLimit : ℕ → Join → Type 0
HasLimit limit Round = ⊤
HasLimit limit Bevel = ⊤
HasLimit limit (Mitre hundredths) = hundredths ≡ limit

-- the number names this way, and where it is a mitre, this is the limit
abbrev pub NamesJoin : ℤ → ℕ → Join → Type 0
NamesJoin number limit join = (number ≡ number_of_join join) × HasLimit limit join

-- it is the way that is named, or none has the number
abbrev pub IsJoin : ℤ → ℕ → Option Join → Type 0
IsJoin number limit (Some join) = NamesJoin number limit join
IsJoin number limit None = (join : Join) → number ≢ number_of_join join

-- a rule has the one number, and a way to join corners the other
abbrev pub AreRuleAndJoin : ℤ → ℤ → Type 0
AreRuleAndJoin rule join =
    ((named : FillRule) × (rule ≡ number_of_rule named)) × ((chosen : Join) × (join ≡ number_of_join chosen))
