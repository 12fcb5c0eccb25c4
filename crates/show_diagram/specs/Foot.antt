-- The foot of a diagram, below its bands: the decisions and the verdict (TOPLAS 1982, IC1 and IC2), and the legend.
use Rattle.std.specs.Prelude.{ℕ, ◌-◌, ◌==◌, nat_lt, Bool, true, false, if◌then◌else◌, List, [], ◌++◌, flat_map, codes, slice_get, Option, None, Some}
use Rattle.std.specs.Fmt.{decimal}
use Rattle.std.specs.List.{range_with_len}
use Rattle.round.specs.Scenario.{Scenario, is_traitor}
use Rattle.world.specs.Chronicle.{Chronicle}
use Rattle.world.specs.declared.verdict.Verdict.{Verdict}
use Rattle.show_diagram.specs.declared.mark.DiagramMarks.{DiagramMarks}
use Rattle.show_diagram.specs.Layout.{column}
use Rattle.show_diagram.specs.Legend.{legend}
use Rattle.show_diagram.specs.Shapes.{group_at, line, mark, shape_of, sort_of, text_at}

-- Writes a decision in words, such as `decides 1`.
unfoldable pub decides_words : ℕ → List ℕ
decides_words order = codes "decides " ++ decimal order

-- Writes the decision of general g in his column, next to his shape.
abbrev pub decided_at : ℕ → Bool → ℕ → List ℕ
decided_at g traitor order = group_at (column g) 24
    (mark (sort_of traitor) (shape_of traitor) ++ text_at (codes "name") 12 4 (decides_words order))

-- Returns the index of the decision of g in a list that has an entry for each general but the commander c.
abbrev pub place_of : ℕ → ℕ → ℕ
place_of c g = if nat_lt g c then g else g - 1

-- Writes the decision of general g in his column, or nothing if there is no decision.
abbrev pub decided_if : ℕ → Bool → Option ℕ → List ℕ
decided_if g traitor None = []
decided_if g traitor (Some order) = decided_at g traitor order

-- Writes the decision of general g from the list of decisions, or nothing if he is the commander.
abbrev pub decided : Scenario → List ℕ → ℕ → List ℕ
decided s ds g = if g == s.commander then [] else decided_if g (is_traitor s g) (slice_get ds (place_of s.commander g))

-- Writes the decisions of all lieutenants, each in his column.
abbrev pub decided_all : Scenario → List ℕ → List ℕ
decided_all s ds = flat_map (decided s ds) (range_with_len 0 s.generals)

-- Writes whether the loyal lieutenants decide alike (IC1).
abbrev pub alike_words : Bool → List ℕ
alike_words true = codes "The loyal lieutenants decide alike."
alike_words false = codes "The loyal lieutenants do not decide alike."

-- Writes whether the loyal lieutenants obey a loyal commander (IC2). None means that the commander is a traitor.
abbrev pub obeyed_words : Option Bool → List ℕ
obeyed_words (Some true) = codes "They obey the loyal commander."
obeyed_words (Some false) = codes "They do not obey the loyal commander."
obeyed_words None = codes "The commander is a traitor, so nobody has to obey him."

-- Writes whether the bound for oral messages holds.
abbrev pub bound_words : Bool → List ℕ
bound_words true = codes "The bound holds: there are few enough traitors."
bound_words false = codes "The bound does not hold: too few generals or too many traitors. No promise."

-- Writes a verdict in three lines of a diagram.
abbrev pub verdict_lines : Verdict → List ℕ
verdict_lines v =
    text_at (codes "name") 120 64 (alike_words v.alike) ++ text_at (codes "name") 120 84 (obeyed_words v.obeyed)
    ++ text_at (codes "name") 120 104 (bound_words v.bound)

-- Writes the foot of a diagram for oral messages: a rule up to the x coordinate `wide`, the decisions, the verdict
-- and the legend. It begins at the y coordinate `top`.
abbrev pub foot : Chronicle → DiagramMarks → ℕ → ℕ → List ℕ
foot c marks wide top =
    group_at 0 top
    (line (codes "rule") 16 0 wide 0 ++ text_at (codes "round") 16 28 (codes "decisions")
    ++ decided_all c.scenario c.decisions ++ verdict_lines c.verdict ++ legend marks)
