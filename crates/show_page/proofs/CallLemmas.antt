-- The helper calls of a program with the helpers' names.
use Rattle.std.proofs.Common.{ℕ, zero, suc, ◌+◌, ◌<◌, ◌≡◌, List, [], ◌∷◌, ◌++◌, length, length-append, refl, sym, ap, ◌∙◌, arith, inl, inr, Option, Some, String, string_bytes}
use Rattle.std.specs.declared.alloc.Global.{Global}
use Rattle.std.specs.Prelude.{slice_get}
use Rattle.std.proofs.lemmas.Bool.{cases_lt}
use Rattle.std.proofs.lemmas.Option.{slice_get_past}
use Rattle.insn.specs.declared.insn.Insn.{Insn}
use Rattle.insn.specs.Program.{instruction_at, joined, slots_of}
use Rattle.explain.specs.Units.{in_lists, text_or_none}
use Rattle.show_page.specs.Calls.{call_if, named_calls}

-- The texts of the first `count` units are those of their calls.
pub record AreNamed (program : List Insn) (texts : List (String Global)) (count : ℕ) : Type 0 where
  pub long : length texts ≡ count
  pub each : (k : ℕ) → k < count → text_or_none (slice_get texts k) ≡ call_if (instruction_at program k)

pub none_named : (program : List Insn) (texts : List (String Global)) → texts ≡ [] → AreNamed program texts 0
none_named program texts e = record { long = ap length e; each = λ k l. absurd (omega arith) }

-- One more unit.
pub one_named : (program : List Insn) (old new : List (String Global)) (count : ℕ) (text : String Global) → AreNamed program old count
    → string_bytes text ≡ call_if (instruction_at program count) → new ≡ old ++ text ∷ [] → AreNamed program new (count + 1)
one_named program old new count text is so e =
    let size = is.long in
    let more : length (old ++ text ∷ []) ≡ length old + 1 = length-append old (text ∷ []) in
    record {
      long = ap length e ∙ (let whole : length (old ++ text ∷ []) ≡ count + 1 = omega arith in whole);
      each = λ k l. ap (λ (xs : List (String Global)). text_or_none (slice_get xs k)) e ∙ elim (cases_lt k count) [
        | inl below ↦ ap text_or_none (before old k (omega arith)) ∙ is.each k below
        | inr last ↦
            (let same : k ≡ length old = omega arith in
            let at : k ≡ count = omega arith in
            ap (λ (i : ℕ). text_or_none (slice_get (old ++ text ∷ []) i)) same ∙ (ap text_or_none (behind old) ∙ (so ∙ ap (λ (i : ℕ). call_if (instruction_at program i)) (sym at))))
      ];
    }
  where
    before : (xs : List (String Global)) (k : ℕ) → k < length xs → slice_get (xs ++ text ∷ []) k ≡ slice_get xs k
    before [] k l = absurd (omega arith)
    before (x ∷ xs) zero l = refl
    before (x ∷ xs) (suc k) l = before xs k (omega arith)

    behind : (xs : List (String Global)) → slice_get (xs ++ text ∷ []) (length xs) ≡ Some text
    behind [] = refl
    behind (x ∷ xs) = behind xs

-- All units.
pub all_named : (program : List Insn) (texts : List (String Global)) (count : ℕ) → AreNamed program texts count → count ≡ length (slots_of program) → in_lists [] texts ≡ named_calls program
unfolding named_calls
all_named program texts count is whole = λ i unit. (nothing unit i, told unit i)
  where
    nothing : (unit : ℕ) → text_or_none (slice_get [] unit) ≡ []
    nothing unit = ap text_or_none (slice_get_past {X = String Global} [] unit (omega arith))

    told : (unit : ℕ) → text_or_none (slice_get texts unit) ≡ call_if (instruction_at program unit)
    told unit =
        let long = is.long in
        elim (cases_lt unit count) [
          | inl inside ↦ is.each unit inside
          | inr outside ↦
              ap text_or_none (slice_get_past texts unit (omega arith))
              ∙ sym (ap (λ (s : Option (Option Insn)). call_if (joined s)) (slice_get_past (slots_of program) unit (omega arith)))
        ]

-- The texts, from the first unit to the last.
pub ruleset naming = (all_named, none_named, one_named)
