-- The foot of a signed campaign's diagram, which is below the bands: the decisions, the verdict (TOPLAS 1982, IC1 and
-- IC2) and the legend.
use Rattle.std.specs.Prelude.{ℕ, Bool, true, false, List, ◌++◌, codes}
use Rattle.world.specs.Chronicle.{Chronicle}
use Rattle.world.specs.declared.verdict.Verdict.{Verdict}
use Rattle.show_diagram.specs.Foot.{alike_words, decided_all, obeyed_words, bound_words as oral_bound}
use Rattle.show_diagram.specs.Shapes.{group_at, line, text_at}
use Rattle.show_diagram.specs.declared.mark.DiagramMarks.{DiagramMarks}
use Rattle.show_chains.specs.Legend.{legend}

abbrev pub bound_words : Bool → List ℕ
bound_words true = oral_bound true
bound_words false = codes "The bound does not hold: too many traitors. No promise."

abbrev pub verdict_lines : Verdict → List ℕ
verdict_lines v =
    text_at (codes "name") 120 64 (alike_words v.alike)
    ++ text_at (codes "name") 120 84 (obeyed_words v.obeyed)
    ++ text_at (codes "name") 120 104 (bound_words v.bound)

abbrev pub foot : Chronicle → DiagramMarks → ℕ → ℕ → List ℕ
foot c marks wide top =
    group_at 0 top
    (line (codes "rule") 16 0 wide 0
    ++ text_at (codes "round") 16 28 (codes "decisions")
    ++ decided_all c.scenario c.decisions
    ++ verdict_lines c.verdict
    ++ legend marks)
