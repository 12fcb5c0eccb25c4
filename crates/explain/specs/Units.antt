-- How a unit is written: its number, its place in the source text if that is known, and its instruction (own).
use Rattle.std.specs.Prelude.{ℕ, List, [], ◌∷◌, ◌++◌, Option, Some, None, String, codes, decimal, slice_get, string_bytes}
use Rattle.std.specs.declared.alloc.Global.{Global}
use Rattle.insn.specs.declared.insn.Insn.{Insn}
use Rattle.asm.specs.Printing.{insn_text}
use Rattle.explain.specs.declared.units.UnitTexts.{UnitTexts}

-- For each unit, its place in the source text and its instruction as written there. A text is empty if it is not known.
abbrev pub Writing : Type 0
Writing = ℕ → List ℕ × List ℕ

-- Returns the text, or an empty one if there is none.
abbrev pub text_or_none : Option (String Global) → List ℕ
text_or_none None = []
text_or_none (Some text) = string_bytes text

-- Returns the places and instructions in two lists, by unit. They are not known after the ends of the lists.
abbrev pub in_lists : List (String Global) → List (String Global) → Writing
in_lists places statements unit = (text_or_none (slice_get places unit), text_or_none (slice_get statements unit))

-- Returns the places and instructions that a `UnitTexts` has.
abbrev pub written_in : UnitTexts → Writing
written_in w = in_lists w.places.now w.statements.now

-- Returns a text in brackets, if it is not empty.
abbrev pub in_brackets : List ℕ → List ℕ
in_brackets [] = []
in_brackets (c ∷ cs) = codes " (" ++ (c ∷ cs) ++ codes ")"

-- Writes the number of a unit and, if it is known, its place in brackets.
abbrev pub unit_text : Writing → ℕ → List ℕ
unit_text written unit = decimal unit ++ in_brackets (written unit).0

-- Writes an instruction as its source text has it or, if that is not known, as printed from the bytecode.
abbrev pub statement_text : List ℕ → Insn → List ℕ
statement_text [] i = insn_text i
statement_text (c ∷ cs) i = c ∷ cs

-- Writes `UNIT INSTRUCTION` or, if the place is known, `UNIT (PLACE) INSTRUCTION`.
abbrev pub insn_at : Writing → ℕ → Insn → List ℕ
insn_at written unit i = unit_text written unit ++ codes " " ++ statement_text (written unit).1 i
