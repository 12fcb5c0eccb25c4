-- Lemmas about the helpers that a program calls.
use Rattle.std.proofs.Common.{◌≡◌, ◌≤◌, ◌<◌, ⊎_elim, ℕ, List, Option, None, length, ap, sym, subst, arith}
use Rattle.std.specs.Prelude.{IfSome, true}
use Rattle.std.proofs.lemmas.Option.{slice_get_cases, slice_get_past}
use Rattle.insn.specs.declared.insn.Insn.{Insn}
use Rattle.insn.specs.Program.{instruction_at, joined, slots_of}
use Rattle.capi.specs.Helpers.{called_by, is_allowed, IsAllowedAt}

-- No helper is called at a unit after the end of the program.
pub none_past : (mask : ℕ) (program : List Insn) (unit : ℕ) → length (slots_of program) ≤ unit → IsAllowedAt mask program unit
none_past mask program unit past =
    let none : called_by (instruction_at program unit) ≡ None = ap (λ (s : Option (Option Insn)). called_by (joined s)) (slice_get_past (slots_of program) unit past) in
    subst (λ (n : Option ℕ). IfSome n (λ number. is_allowed mask number ≡ true)) (sym none) tt

-- If the call at each unit of the program is allowed, it is allowed at every unit.
pub each_below : (mask : ℕ) (program : List Insn) (units : ℕ) → units ≡ length (slots_of program) → ((unit : ℕ) → unit < units → IsAllowedAt mask program unit) → (unit : ℕ) → IsAllowedAt mask program unit
each_below mask program units all below unit =
    ⊎_elim (λ h. below unit (let less : unit < length (slots_of program) = h.1 in omega arith)) (λ h. none_past mask program unit h.0) (slice_get_cases (slots_of program) unit).1
