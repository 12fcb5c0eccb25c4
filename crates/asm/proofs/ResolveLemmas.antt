-- One more jump gets its distance.
use Rattle.std.proofs.Common.{◌≡◌, ℕ, ◌+◌, ◌<◌, List, [], ◌∷◌, ◌++◌, refl, sym, ap, map, length, get_or, drop, arith, add-one}
use Rattle.std.proofs.Math.Seq.{drop-cons}
use Rattle.std.proofs.lemmas.List.Sums.{sum_by-drop_more}
use Rattle.insn.specs.declared.insn.Insn.{Insn}
use Rattle.insn.specs.Insn.{units_of}
use Rattle.insn.specs.Program.{slots_of}
use Rattle.insn.proofs.SlotLemmas.{length-slots_of-push}
use Rattle.asm.specs.declared.fault.AsmError.{AsmError}
use Rattle.asm.specs.declared.draft.Kept.{Kept}
use Rattle.std.specs.Prelude.{Result, Ok}
use Rattle.asm.specs.Views.{kept_view}
use Rattle.asm.specs.Program.{Placed, placed_units, insn_of, insns_on}
use Rattle.asm.specs.Keeping.{units_kept}

-- The units so far are those of the instructions so far.
pub slots_pushed : (insns new : List Insn) (i : Insn) (unit units n : ℕ) → unit ≡ length (slots_of insns) → new ≡ insns ++ i ∷ [] → units_of i ≡ n → units ≡ n → unit + units ≡ length (slots_of new)
slots_pushed insns new i unit units n so_far e is_n units_n = rw e (omega (arith, length-slots_of-push insns i))

-- The units that remain.
pub units_left : (sources : List Kept) (i unit units : ℕ) (k : Kept) → i < length sources → k ≡ get_or sources i k → units ≡ placed_units (kept_view k)
    → unit + units_kept (drop i sources) ≡ units_kept sources → unit + units + units_kept (drop (i + 1) sources) ≡ units_kept sources
units_left sources i unit units k lt at units_k h =
    let more : units_kept (drop i sources) ≡ placed_units (kept_view (get_or sources i k)) + units_kept (drop (i + 1) sources) = sum_by-drop_more (λ x. placed_units (kept_view x)) sources i k lt in
    let same : placed_units (kept_view (get_or sources i k)) ≡ placed_units (kept_view k) = ap (λ x. placed_units (kept_view x)) (sym at) in
    omega arith

-- The instructions that remain.
pub kepts_left : (sources : List Kept) (i : ℕ) (k : Kept) → i < length sources → k ≡ get_or sources i k → map kept_view (drop i sources) ≡ kept_view k ∷ map kept_view (drop (i + 1) sources)
kepts_left sources i k lt at = rw (add-one, drop-cons sources i k lt, ← at) refl

-- The remaining instructions complete the program.
pub insns_left : (names : List (List ℕ × ℕ)) (insns new : List Insn) (insn : Insn) (unit units : ℕ) (p : Placed) (all rest : List Placed) (whole : Result (List Insn) AsmError)
    → all ≡ p ∷ rest → insn_of names unit p.source ≡ Ok insn → new ≡ insns ++ insn ∷ [] → units ≡ placed_units p
    → insns_on names unit insns all ≡ whole → insns_on names (unit + units) new rest ≡ whole
insns_left names insns new insn unit units p all rest whole split said e units_s h = rw (e, units_s) (rw (split, said) at h)
