-- The text of a program is assembled to this program.
use Rattle.std.proofs.Common.{◌≡◌, ℕ, ◌+◌, ◌<◌, ◌≤◌, true, List, [], ◌∷◌, ◌++◌, Some, length, refl, sym, ap, ◌∙◌, arith, append_assoc, append-nil}
use Rattle.std.specs.Prelude.{Ok, nat_lt, nat_le}
use Rattle.std.specs.Result.{result_ok}
use Rattle.std.specs.List.{AllByRecursion, sum_by}
use Rattle.std.proofs.lemmas.Bool.Decides.{nat_tests}
use Rattle.std.proofs.lemmas.List.Sums.{sum_by-cons}
use Rattle.text.specs.Stop.{feed}
use Rattle.text.proofs.CutLemmas.{pieces-append}
use Rattle.insn.specs.declared.insn.Insn.{Insn}
use Rattle.insn.specs.Insn.{IsInsn}
use Rattle.insn.specs.Program.{slots_of}
use Rattle.insn.proofs.SlotLemmas.{length-slots_of-cons}
use Rattle.asm.specs.Program.{Placed, Read, lines_of, read_on, source_units, placed_units, insns_on, nothing, program_in, said, program_of}
use Rattle.asm.specs.Printing.{insn_text, text_of}
use Rattle.asm.proofs.KeepingLemmas.{lines_first}
use Rattle.asm.proofs.SourceLemmas.{source_for, insn_of-source, source_units-source}
use Rattle.asm.proofs.OutlineLemmas.{insn_lacks_feed, without_return-insn, line_read-insn}

lines_of-text : (i : Insn) (is : List Insn) → IsInsn i → lines_of (text_of (i ∷ is)) ≡ insn_text i ∷ lines_of (text_of is)
lines_of-text i is well =
    ap lines_of (append_assoc (insn_text i) (10 ∷ []) (text_of is))
    ∙ lines_first (insn_text i ++ 10 ∷ text_of is) (insn_text i) (text_of is) (insn_text i) (pieces-append feed (insn_text i) 10 (text_of is) (insn_lacks_feed i well) refl) (sym (without_return-insn i well))

-- The instructions of a program's text, from this line on.
abbrev placed : ℕ → List Insn → List Placed
placed line [] = []
placed line (i ∷ is) = (record { source = source_for i; line = line }) ∷ placed (line + 1) is

read_on-text : (is : List Insn) (line : ℕ) (r : Read) → AllByRecursion IsInsn is → read_on r line (lines_of (text_of is)) ≡ Ok (record r { sources = r.sources ++ placed line is })
read_on-text [] line r well = ap (λ s. Ok (record r { sources = s })) (sym (append-nil r.sources))
read_on-text (i ∷ is) line r well =
    let p : Placed = record { source = source_for i; line = line } in
    ap (read_on r line) (lines_of-text i is well.0)
    ∙ (rw (line_read-insn r line i well.0) (read_on-text is (line + 1) (record r { sources = r.sources ++ p ∷ [] }) well.1)
    ∙ ap (λ s. Ok (record r { sources = s })) (append_assoc r.sources (p ∷ []) (placed (line + 1) is)))

insns_on-text : (is done : List Insn) (line unit : ℕ) → AllByRecursion IsInsn is → insns_on [] unit done (placed line is) ≡ Ok (done ++ is)
insns_on-text [] done line unit well = ap Ok (sym (append-nil done))
insns_on-text (i ∷ is) done line unit well =
    rw (insn_of-source unit i well.0) (insns_on-text is (done ++ i ∷ []) (line + 1) (unit + source_units (source_for i)) well.1)
    ∙ ap Ok (append_assoc done (i ∷ []) is)

units_in-text : (is : List Insn) (line : ℕ) → sum_by placed_units (placed line is) ≡ length (slots_of is)
units_in-text [] line = refl
units_in-text (i ∷ is) line =
    let ih : sum_by placed_units (placed (line + 1) is) ≡ length (slots_of is) = units_in-text is (line + 1) in
    sum_by-cons placed_units (record { source = source_for i; line = line }) (placed (line + 1) is) ∙ omega (arith, length-slots_of-cons i is, source_units-source i)

program_in-text : (is : List Insn) (lines : ℕ) → AllByRecursion IsInsn is → 0 < length (slots_of is) → length (slots_of is) ≤ 4096 → program_in lines (record { names = []; sources = placed 1 is }) ≡ Ok is
program_in-text is lines well some few =
    let low : nat_lt 0 (length (slots_of is)) ≡ true = grind (arith, nat_tests) in
    let high : nat_le (length (slots_of is)) 4096 ≡ true = grind (arith, nat_tests) in
    rw (units_in-text is 1, low, high) (insns_on-text is [] 1 0 well)

said-text : (is : List Insn) → AllByRecursion IsInsn is → 0 < length (slots_of is) → length (slots_of is) ≤ 4096 → said (text_of is) ≡ Ok is
unfolding said
said-text is well some few = rw (read_on-text is 1 nothing well) (program_in-text is (length (lines_of (text_of is))) well some few)

pub program_of-text : (is : List Insn) → AllByRecursion IsInsn is → 0 < length (slots_of is) → length (slots_of is) ≤ 4096 → program_of (text_of is) ≡ Some is
program_of-text is well some few = ap result_ok (said-text is well some few)

pub says_again : (is : List Insn) (text : List ℕ) (units : ℕ) → text ≡ text_of is → units ≡ length (slots_of is) → 0 < units → units ≤ 4096 → AllByRecursion IsInsn is → program_of text ≡ Some is
says_again is text units e u some few well = ap program_of e ∙ program_of-text is well (omega arith) (omega arith)
