-- The lines with units grow with the instructions.
use Rattle.std.proofs.Common.{◌≡◌, ◌∙◌, ℕ, ◌+◌, ◌<◌, List, [], ◌∷◌, ◌++◌, ap, append_assoc, append-nil, arith, codes, decimal, get_or, length, sym, take}
use Rattle.std.proofs.lemmas.List.{take_more}
use Rattle.insn.specs.declared.insn.Insn.{Insn}
use Rattle.insn.specs.Insn.{units_of}
use Rattle.insn.specs.Program.{slots_of}
use Rattle.insn.proofs.SlotLemmas.{length-slots_of-cons}
use Rattle.asm.specs.Printing.{line_text, unit_lines}

-- One more line.
unit_lines-push : (unit : ℕ) (xs : List Insn) (i : Insn) → unit_lines unit (xs ++ i ∷ []) ≡ unit_lines unit xs ++ (decimal (unit + length (slots_of xs)) ++ codes " " ++ line_text i)
unit_lines-push unit [] i =
    let e : unit ≡ unit + 0 = omega arith in
    append-nil (decimal unit ++ codes " " ++ line_text i) ∙ ap (λ n. decimal n ++ codes " " ++ line_text i) e
unit_lines-push unit (j ∷ xs) i =
    let e : unit + units_of j + length (slots_of xs) ≡ unit + length (slots_of (j ∷ xs)) = omega (arith, length-slots_of-cons j xs) in
    let line : List ℕ = decimal unit ++ codes " " ++ line_text j in
    ap (λ l. line ++ l) (unit_lines-push (unit + units_of j) xs i ∙ ap (λ n. unit_lines (unit + units_of j) xs ++ (decimal n ++ codes " " ++ line_text i)) e)
    ∙ sym (append_assoc line (unit_lines (unit + units_of j) xs) (decimal (unit + length (slots_of (j ∷ xs))) ++ codes " " ++ line_text i))

-- The text so far, and one more unit and instruction after it.
pub unit_lines_so_far : (before out numbered new : List ℕ) (xs : List Insn) (k unit : ℕ) (i : Insn) → k < length xs → i ≡ get_or xs k i → unit ≡ length (slots_of (take k xs))
    → out ≡ before ++ unit_lines 0 (take k xs) → numbered ≡ out ++ decimal unit ++ codes " " → new ≡ numbered ++ line_text i
    → new ≡ before ++ unit_lines 0 (take (k + 1) xs)
unit_lines_so_far before out numbered new xs k unit i lt at here so_far number line =
    let e : unit ≡ 0 + length (slots_of (take k xs)) = omega arith in
    rw (take_more xs k i lt, ← at, unit_lines-push 0 (take k xs) i, ← e, line, number, so_far) (simp append_assoc)
