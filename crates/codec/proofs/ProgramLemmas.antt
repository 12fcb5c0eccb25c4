-- The bytes of programs, unit by unit.
use Rattle.std.proofs.Common.{◌≡◌, ◌≤◌, ◌<◌, ◌+◌, ◌-◌, ◌*◌, ℕ, List, [], ◌∷◌, ◌++◌, Some, length, take, drop, set, length-set, refl, sym, ap, subst, ◌∙◌, arith, inl, inr, append_assoc, length-append}
use Rattle.std.proofs.lemmas.List.{length-drop, take_all, append-nil}
use Rattle.std.proofs.lemmas.Grind.{take-set_at}
use Rattle.std.proofs.Math.Seq.{take-add}
use Rattle.std.specs.List.{AllByRecursion}
use Rattle.insn.specs.declared.insn.Insn.{Insn}
use Rattle.insn.specs.Insn.{IsInsn, units_of}
use Rattle.insn.specs.Program.{slots_of}
use Rattle.insn.proofs.WellLemmas.{all_push}
use Rattle.insn.proofs.SlotLemmas.{length-slots_of-push, length-slots_of-cons}
use Rattle.codec.specs.declared.fault.CodecFault.{CodecFault}
use Rattle.codec.specs.Spelling.{instruction_bytes, program_bytes}
use Rattle.codec.specs.Reading.{fault_at}
use Rattle.codec.specs.Program.{SpellsProgram, IsFirstFault}
use Rattle.codec.proofs.FrontLemmas.{length-instruction_bytes, units_few}

pub program_bytes-append : (xs ys : List Insn) → program_bytes (xs ++ ys) ≡ program_bytes xs ++ program_bytes ys
program_bytes-append [] ys = refl
program_bytes-append (x ∷ xs) ys = ap (λ (b : List ℕ). instruction_bytes x ++ b) (program_bytes-append xs ys) ∙ sym (append_assoc (instruction_bytes x) (program_bytes xs) (program_bytes ys))

-- A unit has eight bytes.
pub length-program_bytes : (xs : List Insn) → length (program_bytes xs) ≡ 8 * length (slots_of xs)
length-program_bytes [] = refl
length-program_bytes (x ∷ xs) = omega (arith, length-append (instruction_bytes x) (program_bytes xs), length-instruction_bytes x, length-program_bytes xs, length-slots_of-cons x xs)

-- The instructions are those of the units before `unit`.
pub record IsReadTo (bytes : List ℕ) (is : List Insn) (unit units : ℕ) : Type 0 where
  pub counted : length (slots_of is) ≡ unit
  pub spelled : take (8 * unit) bytes ≡ program_bytes is
  pub well_formed : AllByRecursion IsInsn is
  pub inside : unit ≤ units

-- A range up to the end of a list.
pub tail_is : (bytes : List ℕ) (n : ℕ) → take (length bytes - n) (drop n bytes) ≡ drop n bytes
tail_is bytes n = take_all _ _ (omega (arith, length-drop n bytes))

pub program_bytes-push : (is : List Insn) (i : Insn) → program_bytes (is ++ i ∷ []) ≡ program_bytes is ++ instruction_bytes i
program_bytes-push is i = program_bytes-append is (i ∷ []) ∙ ap (λ (b : List ℕ). program_bytes is ++ b) (append-nil (instruction_bytes i))

-- One more instruction.
pub read_more : (bytes : List ℕ) (is new : List Insn) (unit next units : ℕ) (i : Insn) (tail : List ℕ) → length bytes ≡ 8 * units → IsReadTo bytes is unit units → tail ≡ take (length bytes - 8 * unit) (drop (8 * unit) bytes) →
    IsInsn i → 8 * units_of i ≤ length tail → take (8 * units_of i) tail ≡ instruction_bytes i → new ≡ is ++ i ∷ [] → next ≡ unit + units_of i → IsReadTo bytes new next units
read_more bytes is new unit next units i tail whole r tail-is fits long found new-is next-is = record {
  counted = ap (λ (x : List Insn). length (slots_of x)) new-is ∙ (length-slots_of-push is i ∙ omega (arith, r.counted, next-is));
  spelled = ap (λ (n : ℕ). take n bytes) onwards ∙ (take-add (8 * unit) (8 * units_of i) bytes ∙ (ap (λ (b : List ℕ). b ++ take (8 * units_of i) (drop (8 * unit) bytes)) r.spelled
      ∙ (ap (λ (b : List ℕ). program_bytes is ++ b) here ∙ (sym (program_bytes-push is i) ∙ ap program_bytes (sym new-is)))));
  well_formed = subst (λ (x : List Insn). AllByRecursion IsInsn x) (sym new-is) (all_push IsInsn is i r.well_formed fits);
  inside = omega (arith, r.inside, long, next-is, ap length same, length-drop (8 * unit) bytes);
}
  where
    same : tail ≡ drop (8 * unit) bytes
    same = tail-is ∙ tail_is bytes (8 * unit)

    onwards : 8 * next ≡ 8 * unit + 8 * units_of i
    onwards = omega (arith, next-is)

    here : take (8 * units_of i) (drop (8 * unit) bytes) ≡ instruction_bytes i
    here = ap (λ (b : List ℕ). take (8 * units_of i) b) (sym same) ∙ found

-- The first places have the instructions of the units so far, so there is a place for the next one.
pub record IsFilledTo (bytes : List ℕ) (places : List Insn) (count unit units : ℕ) : Type 0 where
  pub read : IsReadTo bytes (take count places) unit units
  pub behind : count ≤ unit
  pub same : length places ≡ units

-- One more place.
pub fill_more : (bytes : List ℕ) (places new : List Insn) (count unit next units : ℕ) (i : Insn) (tail : List ℕ) → length bytes ≡ 8 * units → IsFilledTo bytes places count unit units → unit < units →
    tail ≡ take (length bytes - 8 * unit) (drop (8 * unit) bytes) → IsInsn i → 8 * units_of i ≤ length tail → take (8 * units_of i) tail ≡ instruction_bytes i → new ≡ set places count i → next ≡ unit + units_of i →
    IsFilledTo bytes new (count + 1) next units
fill_more bytes places new count unit next units i tail whole r more tail-is fits long found new-is next-is =
    let inside : count < length places = omega (arith, r.behind, r.same, more) in record {
      read = read_more bytes (take count places) (take (count + 1) new) unit next units i tail whole r.read tail-is fits long found
          (ap (λ (x : List Insn). take (count + 1) x) new-is ∙ take-set_at places count (count + 1) i refl inside) next-is;
      behind = omega (arith, r.behind, next-is, (units_few i).0);
      same = ap length new-is ∙ (length-set places count i ∙ r.same);
    }

-- No unit remains.
pub read_all : (bytes : List ℕ) (is : List Insn) (unit units : ℕ) → length bytes ≡ 8 * units → 0 < units → units ≤ 4096 → units ≤ unit → IsReadTo bytes is unit units → SpellsProgram bytes is
read_all bytes is unit units whole some few done r = record {
  spelled = sym (take_all (8 * unit) bytes (omega arith)) ∙ r.spelled;
  well_formed = r.well_formed;
  some = omega arith;
  bound = omega arith;
}

-- The fault is at the next unit.
pub first_fault_here : (bytes : List ℕ) (is : List Insn) (unit units : ℕ) (tail : List ℕ) (fault : CodecFault) → length bytes ≡ 8 * units → 0 < units → units ≤ 4096 → unit < units → IsReadTo bytes is unit units →
    tail ≡ take (length bytes - 8 * unit) (drop (8 * unit) bytes) → fault_at tail ≡ Some fault → IsFirstFault bytes fault unit
first_fault_here bytes is unit units tail fault whole some few more r tail-is e = record {
  by_length = λ odd. absurd (odd (omega arith));
  by_count = λ h over. elim over [ inl none ↦ absurd (omega arith) | inr much ↦ absurd (omega arith) ];
  by_instruction = λ h k l. (is, record { spelled = r.spelled; well_formed = r.well_formed; inside = omega arith; found = ap fault_at (sym (tail-is ∙ tail_is bytes (8 * unit))) ∙ e });
}

-- The bytes of a program encode it.
pub spells_program : (bytes : List ℕ) (program : List Insn) (units : ℕ) → bytes ≡ program_bytes program → units ≡ length (slots_of program) → 0 < units → units ≤ 4096 → AllByRecursion IsInsn program → SpellsProgram bytes program
spells_program bytes program units spelled counted some few well_formed = record {
  spelled = spelled;
  well_formed = well_formed;
  some = omega (arith, ap length spelled, length-program_bytes program);
  bound = omega (arith, ap length spelled, length-program_bytes program);
}
