-- The lines of the units grow instruction by instruction.
use Rattle.std.proofs.Common.{◌≡◌, ◌∙◌, ℕ, ◌+◌, ◌<◌, List, [], ◌∷◌, ◌++◌, ap, append_assoc, append-nil, arith, get_or, length, sym, take}
use Rattle.std.proofs.lemmas.List.{take_more}
use Rattle.insn.specs.declared.insn.Insn.{Insn}
use Rattle.insn.specs.Insn.{units_of}
use Rattle.insn.specs.Program.{slots_of}
use Rattle.insn.proofs.SlotLemmas.{length-slots_of-cons}
use Rattle.std.specs.Prelude.{Option}
use Rattle.verify.specs.declared.error.VerifyError.{VerifyError}
use Rattle.reaching.specs.Marks.{KnownByUnit}
use Rattle.explain.specs.Units.{Writing}
use Rattle.explain.specs.Explained.{line_if, known_lines}

-- One more line.
known_lines-push : (written : Writing) (program : List Insn) (survey : KnownByUnit) (fault : Option VerifyError) (unit : ℕ) (xs : List Insn) (i : Insn)
    → known_lines written program survey fault unit (xs ++ i ∷ []) ≡ known_lines written program survey fault unit xs ++ line_if written program survey fault (unit + length (slots_of xs)) i (survey (unit + length (slots_of xs)))
known_lines-push written program survey fault unit [] i =
    let e : unit ≡ unit + 0 = omega arith in
    append-nil (line_if written program survey fault unit i (survey unit)) ∙ ap (λ n. line_if written program survey fault n i (survey n)) e
known_lines-push written program survey fault unit (j ∷ xs) i =
    let e : unit + units_of j + length (slots_of xs) ≡ unit + length (slots_of (j ∷ xs)) = omega (arith, length-slots_of-cons j xs) in
    let line : List ℕ = line_if written program survey fault unit j (survey unit) in
    ap (λ l. line ++ l) (known_lines-push written program survey fault (unit + units_of j) xs i ∙ ap (λ n. known_lines written program survey fault (unit + units_of j) xs ++ line_if written program survey fault n i (survey n)) e)
    ∙ sym (append_assoc line (known_lines written program survey fault (unit + units_of j) xs) (line_if written program survey fault (unit + length (slots_of (j ∷ xs))) i (survey (unit + length (slots_of (j ∷ xs))))))

-- The text so far, and one more instruction after it.
pub known_lines_so_far : (written : Writing) (program : List Insn) (before out new : List ℕ) (xs : List Insn) (survey : KnownByUnit) (fault : Option VerifyError) (k unit : ℕ) (i : Insn) → k < length xs → i ≡ get_or xs k i → unit ≡ length (slots_of (take k xs))
    → out ≡ before ++ known_lines written program survey fault 0 (take k xs) → new ≡ out ++ line_if written program survey fault unit i (survey unit)
    → new ≡ before ++ known_lines written program survey fault 0 (take (k + 1) xs)
known_lines_so_far written program before out new xs survey fault k unit i lt at here so_far line =
    let e : unit ≡ 0 + length (slots_of (take k xs)) = omega arith in
    rw (take_more xs k i lt, ← at, known_lines-push written program survey fault 0 (take k xs) i, ← e, line, so_far) (simp append_assoc)
