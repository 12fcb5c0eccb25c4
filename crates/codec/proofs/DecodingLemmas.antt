-- What follows for the fields from reading a kind of instruction.
use Rattle.std.proofs.Common.{◌≡◌, Bool, ◌≤◌, ◌<◌, ◌+◌, ◌*◌, ℕ, drop, take, get_or, List, [], ◌∷◌, Some, Result, Ok, Err, length, refl, sym, ap, subst, ◌∙◌, arith}
use Rattle.std.proofs.lemmas.List.{length-drop}
use Rattle.std.specs.Prelude.{IfOk, IfErr, IsErrAnd, MatchResult}
use Rattle.insn.specs.declared.insn.Insn.{Insn}
use Rattle.insn.specs.Insn.{IsInsn, units_of}
use Rattle.codec.specs.declared.fault.CodecFault.{CodecFault}
use Rattle.codec.specs.declared.fields.Fields.{Fields}
use Rattle.codec.specs.declared.form.Form.{Form}
use Rattle.codec.specs.Spelling.{spelling, instruction_bytes}
use Rattle.codec.specs.Form.{form_of}
use Rattle.codec.proofs.FrontLemmas.{insn_written, length-spelling}
use Rattle.codec.specs.Reading.{fields_of, checks_of, first_fault, fault_in, fault_at, AreUnits}

-- The units of an instruction are within the bytes.
units_inside : (fs : List Fields) (f : Fields) (behind : List ℕ) → AreUnits fs f behind → 8 * length fs ≤ 8 + length behind
units_inside [] f behind units = absurd units
units_inside (first ∷ []) f behind units = omega arith
units_inside (first ∷ second ∷ []) f behind units = omega (arith, units.1)
units_inside (first ∷ second ∷ third ∷ more) f behind units = absurd units

-- The instruction that was read is stored, or the fault is returned.
abbrev pub IsPut : Result ℕ CodecFault → Result Insn CodecFault → Insn → Type 0
IsPut o r place = MatchResult o (λ n. (r ≡ Ok place) × (n ≡ units_of place)) (λ e. r ≡ Err e)

-- The stored instruction has these units.
abbrev pub IsMeant : Result ℕ CodecFault → Insn → Fields → List ℕ → Type 0
IsMeant o place f behind = IfOk o (λ n. (n ≡ units_of place) × IsInsn place × AreUnits (spelling place) f behind)

meant_once : (o : Result ℕ CodecFault) (r : Result Insn CodecFault) (place : Insn) (f : Fields) (behind : List ℕ) → IsPut o r place → IfOk r (λ i. IsInsn i × (spelling i ≡ f ∷ [])) → IsMeant o place f behind
meant_once (Ok n) r place f behind put s =
    let t : IsInsn place × (spelling place ≡ f ∷ []) = subst (λ (x : Result Insn CodecFault). IfOk x (λ i. IsInsn i × (spelling i ≡ f ∷ []))) put.0 s in
    (put.1, t.0, subst (λ (us : List Fields). AreUnits us f behind) (sym t.1) refl)
meant_once (Err e) r place f behind put s = tt

meant_wide : (o : Result ℕ CodecFault) (r : Result Insn CodecFault) (place : Insn) (f : Fields) (behind : List ℕ) → IsPut o r place →
    IfOk r (λ i. IsInsn i × (8 ≤ length behind) × (spelling i ≡ f ∷ fields_of behind ∷ [])) → IsMeant o place f behind
meant_wide (Ok n) r place f behind put s =
    let t : IsInsn place × (8 ≤ length behind) × (spelling place ≡ f ∷ fields_of behind ∷ []) =
    subst (λ (x : Result Insn CodecFault). IfOk x (λ i. IsInsn i × (8 ≤ length behind) × (spelling i ≡ f ∷ fields_of behind ∷ []))) put.0 s in
    (put.1, t.0, subst (λ (us : List Fields). AreUnits us f behind) (sym t.2) (refl, t.1, refl))
meant_wide (Err e) r place f behind put s = tt

-- An instruction of one unit.
pub one_unit : (o : Result ℕ CodecFault) (r : Result Insn CodecFault) (place : Insn) (f : Fields) (bytes : List ℕ) → f ≡ fields_of bytes → IsPut o r place → IfOk r (λ i. IsInsn i × (spelling i ≡ f ∷ [])) →
    IsMeant o place (fields_of bytes) (drop 8 bytes)
one_unit o r place f bytes are put s =
    subst (λ (g : Fields). IsMeant o place g (drop 8 bytes)) are (meant_once o r place f (drop 8 bytes) put s)

-- The wide instruction.
pub two_units : (o : Result ℕ CodecFault) (r : Result Insn CodecFault) (place : Insn) (f : Fields) (tail bytes : List ℕ) → f ≡ fields_of bytes → tail ≡ drop 8 bytes → IsPut o r place →
    IfOk r (λ i. IsInsn i × (8 ≤ length tail) × (spelling i ≡ f ∷ fields_of tail ∷ [])) → IsMeant o place (fields_of bytes) (drop 8 bytes)
two_units o r place f tail bytes are behind put s =
    subst (λ (t : List ℕ). IsMeant o place (fields_of bytes) t) behind (subst (λ (g : Fields). IsMeant o place g tail) are (meant_wide o r place f tail put s))

same_form : (form : Form) (o : Result ℕ CodecFault) (r : Result Insn CodecFault) (place : Insn) (f : Fields) (behind : List ℕ) → form_of f.opcode ≡ form → IsPut o r place →
    IfErr r (λ e. first_fault (checks_of form f behind) ≡ Some e) → IfErr o (λ e. fault_in f behind ≡ Some e)
same_form form (Ok n) r place f behind same put found = tt
same_form form (Err e) r place f behind same put found =
    let t : first_fault (checks_of form f behind) ≡ Some e = subst (λ (x : Result Insn CodecFault). IfErr x (λ y. first_fault (checks_of form f behind) ≡ Some y)) put found in
    subst (λ (g : Form). first_fault (checks_of g f behind) ≡ Some e) (sym same) t

-- The checks are those of the opcode's kind of instruction.
pub form_fault : (form given : Form) (o : Result ℕ CodecFault) (r : Result Insn CodecFault) (place : Insn) (first f : Fields) (tail bytes : List ℕ) → given ≡ form → given ≡ form_of first.opcode →
    first ≡ fields_of bytes → f ≡ fields_of bytes → tail ≡ drop 8 bytes → IsPut o r place → IfErr r (λ e. first_fault (checks_of form f tail) ≡ Some e) → IfErr o (λ e. fault_at bytes ≡ Some e)
form_fault form given o r place first f tail bytes is same begins are behind put found =
    let here : form_of (fields_of bytes).opcode ≡ form = ap (λ g. form_of g.opcode) (sym begins) ∙ (sym same ∙ is) in
    let checked : IfErr r (λ e. first_fault (checks_of form (fields_of bytes) tail) ≡ Some e) = subst (λ (g : Fields). IfErr r (λ e. first_fault (checks_of form g tail) ≡ Some e)) are found in
    same_form form o r place (fields_of bytes) (drop 8 bytes) here put (subst (λ (t : List ℕ). IfErr r (λ e. first_fault (checks_of form (fields_of bytes) t) ≡ Some e)) behind checked)

-- The bytes begin with those of the units.
pub all_written : (o : Result ℕ CodecFault) (place : Insn) (bytes : List ℕ) → 8 ≤ length bytes → ((k : ℕ) → get_or bytes k 0 < 256) → IsMeant o place (fields_of bytes) (drop 8 bytes) →
    IfOk o (λ _. take (8 * units_of place) bytes ≡ instruction_bytes place)
all_written (Ok n) place bytes long small meant = insn_written place bytes long small meant.2
all_written (Err e) place bytes long small meant = tt

-- The bytes have as many units as the instruction.
pub all_inside : (o : Result ℕ CodecFault) (place : Insn) (bytes : List ℕ) → 8 ≤ length bytes → IsMeant o place (fields_of bytes) (drop 8 bytes) → IfOk o (λ _. 8 * units_of place ≤ length bytes)
all_inside (Ok n) place bytes long meant =
    omega (arith, units_inside (spelling place) (fields_of bytes) (drop 8 bytes) meant.2, length-spelling place, length-drop 8 bytes)
all_inside (Err e) place bytes long meant = tt

-- A fault that is passed on is the first of the checks.
pub handed_on : (r : Result Insn CodecFault) (e : CodecFault) (checks : List (Bool × CodecFault)) → IsErrAnd r (λ f. f ≡ e) → first_fault checks ≡ Some e → IfErr r (λ f. first_fault checks ≡ Some f)
handed_on (Ok i) e checks told found = tt
handed_on (Err f) e checks told found = found ∙ ap Some (sym told)
