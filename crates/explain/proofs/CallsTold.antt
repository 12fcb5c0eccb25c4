-- Each rejection of a call has a sentence: about the number, an argument, the board, or the memory that the call
-- accesses.
use Rattle.std.proofs.Common.{◌≡◌, ◌∙◌, ℕ, ◌+◌, ◌-◌, ◌*◌, ◌≤◌, List, [], ◌∷◌, length, arith, Bool, true, false, Option, Some, None, refl, sym, ap, ap₂, subst}
use Rattle.std.specs.Prelude.{ℤ, pos, not, nat_lt, nat_le, IsSome, option_and_then, if◌then◌else◌}
use Rattle.std.specs.Option.{option_or}
use Rattle.std.proofs.lemmas.Bool.{le-leb, and_from}
use Rattle.insn.specs.declared.insn.Insn.TheVariants.{Call}
use Rattle.insn.specs.declared.insn.Size.{Size}
use Rattle.insn.specs.declared.insn.Size.TheVariants as size
use Rattle.insn.specs.Insn.{bytes_of}
use Rattle.semantics.specs.declared.request.Helper.{Helper}
use Rattle.semantics.specs.declared.request.Helper.TheVariants.{BoardGet, BoardCopy, SendRow}
use Rattle.semantics.specs.Call.{helper_of}
use Rattle.helper.specs.declared.argument.Argument.{Argument}
use Rattle.helper.specs.declared.argument.Argument.TheVariants.{Slot, StackPointer, Words}
use Rattle.helper.specs.Table.{bound_of, arguments_of}
use Rattle.absval.specs.NumberSets.{greatest}
use Rattle.absval.specs.declared.number_set.NumberSet.{NumberSet}
use Rattle.absval.specs.declared.value.AbsVal.{AbsVal}
use Rattle.absval.specs.declared.value.AbsVal.TheVariants.{Unset, Number, Pointer}
use Rattle.verify.specs.declared.reason.Reason.{Reason}
use Rattle.verify.specs.declared.reason.Reason.TheVariants as reason
use Rattle.verify.specs.declared.state.AbsState.{AbsState}
use Rattle.verify.specs.Registers.{known_at}
use Rattle.verify.specs.MemoryTable.{write_refused}
use Rattle.verify.specs.Calls.{reason_if, argument_reason, taken_reason, arguments_reason, IsBelow, window_from, copy_reason, row_reason, window_reason, helper_reason}
use Rattle.verify.proofs.CallArguments.{copy_arguments, row_arguments}
use Rattle.explain.specs.declared.sentence.Sentence.{Sentence}
use Rattle.explain.specs.declared.sentence.Sentence.TheVariants as sentence
use Rattle.explain.specs.declared.sentence.Misfit.TheVariants as misfit
use Rattle.helper.specs.Reads.{of_argument, of_arguments, of_helper}
use Rattle.explain.specs.Shortfalls.{unset_if, unset_at, first_unset, counted, call_reach, misfit_of, misfit_at, past_board, arguments_misfit, shortfall}
use Rattle.explain.proofs.RegistersTold.{or_first, or_second, Told}
use Rattle.explain.proofs.ReachesTold.{Accesses, source_told, write_told}

-- ---- arguments

-- If there is a reason, one of these two sentences exists.
abbrev Says : Option Sentence → Option Sentence → Option Reason → Type 0
Says unset other None = Unit {0}
Says unset other (Some reason.Unset) = IsSome unset
Says unset other (Some reason.Argument) = IsSome other
Says unset other (Some r) = ⊥

or_says : (u v m n : Option Sentence) (x y : Option Reason) → Says u m x → Says v n y → Says (option_or u v) (option_or m n) (option_or x y)
or_says u v m n None y h k = by_second y k
  where
    by_second : (z : Option Reason) → Says v n z → Says (option_or u v) (option_or m n) z
    by_second None k = tt
    by_second (Some reason.Unset) k = or_second u v k
    by_second (Some reason.Argument) k = or_second m n k
    by_second (Some r) k = absurd k
or_says u v m n (Some reason.Unset) y h k = or_first u v h
or_says u v m n (Some reason.Argument) y h k = or_first m n h
or_says u v m n (Some r) y h k = absurd h

last_says : (u m n : Option Sentence) (x : Option Reason) → Says u m x → Says u (option_or m n) (option_or x None)
last_says u m n None h = tt
last_says u m n (Some reason.Unset) h = h
last_says u m n (Some reason.Argument) h = or_first m n h
last_says u m n (Some r) h = absurd h

argument_says : (helper : Helper) (r : ℕ) (bound : Option ℕ) (value : AbsVal) → Says (unset_if r value) (misfit_of helper r bound value) (argument_reason bound value)
argument_says helper r bound Unset = refl
argument_says helper r (Some bound) (Number n) = by_test (nat_lt (greatest n) bound)
  where
    by_test : (t : Bool) → Says None (if t then None else Some (sentence.Call (misfit.Above helper r (Number n) (bound - 1)))) (reason_if (not t) reason.Argument)
    by_test true = tt
    by_test false = refl
argument_says helper r (Some bound) (Pointer region o) = refl
argument_says helper r None (Number n) = refl
argument_says helper r None (Pointer region o) = tt

taken_says : (helper : Helper) (registers : List AbsVal) (r : ℕ) (argument : Option Argument) →
    Says (unset_at registers (of_argument r argument)) (misfit_at helper registers r argument) (taken_reason argument (known_at registers r))
taken_says helper registers r None = tt
taken_says helper registers r (Some argument) = argument_says helper r (bound_of argument) (known_at registers r)

three_say : (helper : Helper) (registers : List AbsVal) (arguments : List (Option Argument)) → length arguments ≡ 3 →
    Says (first_unset registers (of_arguments arguments)) (arguments_misfit helper registers arguments) (arguments_reason arguments 1 registers)
three_say helper registers [] e = absurd (omega arith)
three_say helper registers (first ∷ []) e = absurd (omega arith)
three_say helper registers (first ∷ second ∷ []) e = absurd (omega arith)
three_say helper registers (first ∷ second ∷ third ∷ []) e =
    or_says _ _ _ _ _ _ (taken_says helper registers 1 first) (or_says _ _ _ _ _ _ (taken_says helper registers 2 second) (last_says _ _ (past_board (known_at registers 1) (known_at registers 3)) _ (taken_says helper registers 3 third)))
three_say helper registers (first ∷ second ∷ third ∷ more ∷ others) e = absurd (omega arith)

three_taken : (helper : Helper) → length (arguments_of helper) ≡ 3
three_taken BoardGet = refl
three_taken helper = refl

-- ---- what a call accesses

counted_told : (s : Size) (n : NumberSet) → greatest n ≤ 64 → counted s (Number n) ≡ Some (record { base = 2; distance = pos 0; size = bytes_of s * greatest n })
counted_told s n le = ap (λ (t : Bool). if t then Some (record { base = 2; distance = pos 0; size = bytes_of s * greatest n }) else None) (le-leb (greatest n) 64 le)

past_found : (slots counts : NumberSet) → greatest slots ≤ 64 → greatest counts ≤ 64 → IsSome (past_board (Number slots) (Number counts))
past_found slots counts le few =
    subst (λ (t : Bool). IsSome (if t then Some (sentence.Call (misfit.Board (greatest slots + greatest counts))) else None))
    (sym (and_from (nat_le (greatest slots) 64) (nat_le (greatest counts) 64) (le-leb (greatest slots) 64 le) (le-leb (greatest counts) 64 few))) refl

board_says : (helper : Helper) (registers : List AbsVal) (first second third : Option Argument) → IsSome (past_board (known_at registers 1) (known_at registers 3)) →
    IsSome (arguments_misfit helper registers (first ∷ second ∷ third ∷ []))
board_says helper registers first second third h =
    let past : Option Sentence = past_board (known_at registers 1) (known_at registers 3) in
    let last : Option Sentence = option_or (misfit_at helper registers 3 third) past in
    or_second (misfit_at helper registers 1 first) (option_or (misfit_at helper registers 2 second) last)
    (or_second (misfit_at helper registers 2 second) last (or_second (misfit_at helper registers 3 third) past h))

board_told : (number : ℤ) (a : AbsState) (slots counts : NumberSet) → helper_of number ≡ Some BoardCopy → known_at a.registers 1 ≡ Number slots → known_at a.registers 3 ≡ Number counts →
    greatest slots ≤ 64 → greatest counts ≤ 64 → IsSome (shortfall reason.Argument (Call number) a)
board_told number a slots counts e one three le few =
    subst (λ (o : Option Helper). IsSome (option_and_then (λ (helper : Helper). arguments_misfit helper a.registers (arguments_of helper)) o)) (sym e)
    (board_says BoardCopy a.registers (Some Slot) (Some StackPointer) (Some Words) past)
  where
    past : IsSome (past_board (known_at a.registers 1) (known_at a.registers 3))
    past =
        subst (λ (v : AbsVal). IsSome (past_board v (known_at a.registers 3))) (sym one)
        (subst (λ (v : AbsVal). IsSome (past_board (Number slots) v)) (sym three) (past_found slots counts le few))

copy_told : (number : ℤ) (a : AbsState) (x y z : AbsVal) → helper_of number ≡ Some BoardCopy → known_at a.registers 1 ≡ x → known_at a.registers 2 ≡ y → known_at a.registers 3 ≡ z →
    IsBelow 64 x → IsBelow 65 z → Told (Call number) a (copy_reason x y z)
copy_told number a (Number slots) (Pointer region o) (Number counts) e one two three few_slots few = by_test (nat_lt 64 (greatest slots + greatest counts))
  where
    access : Accesses (Call number) a (record { base = 2; distance = pos 0; size = 8 * greatest counts }) region o
    access = record {
      by = ap₂ call_reach e three ∙ counted_told size.Double counts (omega (arith, few));
      base_is = two;
    }

    by_test : (t : Bool) → Told (Call number) a (option_or (reason_if t reason.Argument) (write_refused region (window_from region o (8 * greatest counts))))
    by_test true = board_told number a slots counts e one three (omega (arith, few_slots)) (omega (arith, few))
    by_test false = write_told (Call number) a (record { base = 2; distance = pos 0; size = 8 * greatest counts }) region o (window_from region o (8 * greatest counts)) access
copy_told number a x y z e one two three few_slots few = tt

row_told : (number : ℤ) (a : AbsState) (y z : AbsVal) → helper_of number ≡ Some SendRow → known_at a.registers 2 ≡ y → known_at a.registers 3 ≡ z → IsBelow 14 z →
    Told (Call number) a (row_reason a.stack y z)
row_told number a (Pointer region o) (Number counts) e two three few =
    source_told (Call number) a (record { base = 2; distance = pos 0; size = 4 * greatest counts }) region o (window_from region o (4 * greatest counts))
    (record {
      by = ap₂ call_reach e three ∙ counted_told size.Word counts (omega (arith, few));
      base_is = two;
    })
    refl
row_told number a y z e two three few = tt

window_told : (number : ℤ) (a : AbsState) (helper : Helper) → helper_of number ≡ Some helper → arguments_reason (arguments_of helper) 1 a.registers ≡ None → Told (Call number) a (window_reason helper a)
window_told number a BoardCopy e f =
    let taken = copy_arguments a.registers f in
    copy_told number a (known_at a.registers 1) (known_at a.registers 2) (known_at a.registers 3) e refl refl refl taken.0 taken.2
window_told number a SendRow e f =
    let taken = row_arguments a.registers f in
    row_told number a (known_at a.registers 2) (known_at a.registers 3) e refl refl taken.1
window_told number a helper e f = tt

-- ---- a call

pub call_told : (number : ℤ) (a : AbsState) (o : Option Helper) → helper_of number ≡ o → Told (Call number) a (helper_reason o a)
call_told number a None e = refl
call_told number a (Some helper) e = by_arguments (arguments_reason (arguments_of helper) 1 a.registers) refl (three_say helper a.registers (arguments_of helper) (three_taken helper))
  where
    by_arguments : (x : Option Reason) → arguments_reason (arguments_of helper) 1 a.registers ≡ x →
        Says (first_unset a.registers (of_arguments (arguments_of helper))) (arguments_misfit helper a.registers (arguments_of helper)) x → Told (Call number) a (option_or x (window_reason helper a))
    by_arguments None f h = window_told number a helper e f
    by_arguments (Some reason.Unset) f h = subst (λ (o : Option Helper). IsSome (first_unset a.registers (of_helper o))) (sym e) h
    by_arguments (Some reason.Argument) f h =
        subst (λ (o : Option Helper). IsSome (option_and_then (λ (taken : Helper). arguments_misfit taken a.registers (arguments_of taken)) o)) (sym e) h
    by_arguments (Some r) f h = absurd h
