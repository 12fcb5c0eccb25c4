-- Proves that `left` gives the same state as the verifier for every instruction that may run.
use Rattle.std.proofs.Common.{◌≡◌, ◌+◌, ◌*◌, ◌≤◌, Bool, true, false, Option, Some, None, refl, ap, arith}
use Rattle.std.specs.Prelude.{ℤ, nat_lt, if◌then◌else◌}
use Rattle.std.proofs.lemmas.Bool.{le-leb}
use Rattle.insn.specs.declared.insn.Insn.TheVariants.{Store, Call}
use Rattle.insn.specs.declared.insn.Size.{Size}
use Rattle.semantics.specs.declared.value.Region.{Region}
use Rattle.semantics.specs.declared.value.Region.TheVariants.{Stack, Context}
use Rattle.semantics.specs.declared.request.Helper.{Helper}
use Rattle.semantics.specs.declared.request.Helper.TheVariants.{BoardCopy}
use Rattle.semantics.specs.Call.{helper_of}
use Rattle.absval.specs.NumberSets.{greatest}
use Rattle.absval.specs.declared.number_set.NumberSet.{NumberSet}
use Rattle.absval.specs.declared.value.Offsets.{Offsets}
use Rattle.absval.specs.declared.value.AbsVal.{AbsVal}
use Rattle.absval.specs.declared.value.AbsVal.TheVariants.{Unset, Number, Pointer}
use Rattle.absval.specs.Windows.{window_known}
use Rattle.absmem.specs.Known.{Known}
use Rattle.helper.specs.Table.{arguments_of}
use Rattle.verify.specs.declared.reason.Reason.TheVariants as reason
use Rattle.verify.specs.declared.state.AbsState.{AbsState}
use Rattle.verify.specs.Registers.{known_at, operand_known}
use Rattle.verify.specs.MemoryTable.{is_storable, write_refused, store_refused, unset_or}
use Rattle.verify.specs.Calls.{reason_if, arguments_reason, IsBelow, window_from, copy_reason, helper_reason}
use Rattle.verify.specs.Transfer.{stored, copied, called, transfer}
use Rattle.verify.proofs.CallArguments.{or_parts, copy_arguments}
use Rattle.reaching.specs.Left.{stored_in_stack, copied_to_stack, behind_call}
use Rattle.reaching.specs.Laws.{LeftIsTransfer}

-- ---- stores

kept_out : (size : Size) (at kept : Offsets) (distance : ℤ) (other : Region) (known : Known) (t : Bool) →
    (if t then write_refused Context (window_known Context at.0 at.1 distance 8) else Some reason.PointerUse) ≡ None →
    known ≡ stored size (Pointer Context at) distance (Pointer other kept) known
kept_out size at kept distance other known true h = absurd cc
kept_out size at kept distance other known false h = absurd cc

store_case : (size : Size) (v w : AbsVal) (distance : ℤ) (known : Known) → unset_or v (unset_or w (store_refused size v distance w)) ≡ None →
    stored_in_stack size v distance w known ≡ stored size v distance w known
store_case size Unset w distance known h = absurd cc
store_case size (Number n) Unset distance known h = refl
store_case size (Number n) (Number m) distance known h = refl
store_case size (Number n) (Pointer other kept) distance known h = refl
store_case size (Pointer Stack at) w distance known h = refl
store_case size (Pointer Context at) Unset distance known h = refl
store_case size (Pointer Context at) (Number n) distance known h = absurd cc
store_case size (Pointer Context at) (Pointer other kept) distance known h = kept_out size at kept distance other known (is_storable size at kept) h

-- ---- copies

few_copied : (at : Offsets) (counts : NumberSet) (known : Known) → greatest counts ≤ 64 → copied_to_stack (Pointer Stack at) (Number counts) known ≡ copied (Pointer Stack at) (Number counts) known
few_copied at counts known le =
    ap (λ (t : Bool). if t then copied (Pointer Stack at) (Number counts) known else known) (le-leb (greatest counts) 64 le)

copy_case : (slots target counts : AbsVal) (known : Known) → IsBelow 64 slots → IsBelow 65 counts → copy_reason slots target counts ≡ None →
    copied_to_stack target counts known ≡ copied target counts known
copy_case Unset target counts known low few h = absurd low
copy_case (Pointer region at) target counts known low few h = absurd low
copy_case (Number slots) target Unset known low few h = absurd few
copy_case (Number slots) target (Pointer region at) known low few h = absurd few
copy_case (Number slots) Unset (Number counts) known low few h = refl
copy_case (Number slots) (Number n) (Number counts) known low few h = refl
copy_case (Number slots) (Pointer Stack at) (Number counts) known low few h = few_copied at counts known (omega (arith, few))
copy_case (Number slots) (Pointer Context at) (Number counts) known low few h =
    let parts = or_parts (reason_if (nat_lt 64 (greatest slots + greatest counts)) reason.Argument) (write_refused Context (window_from Context at (8 * greatest counts))) h in
    let never = parts.1 in
    absurd cc

call_case : (o : Option Helper) (a : AbsState) → helper_reason o a ≡ None → behind_call o (known_at a.registers 2) (known_at a.registers 3) a.stack ≡ (called o a).stack
call_case None a h = absurd cc
call_case (Some BoardCopy) a h =
    let parts = or_parts (arguments_reason (arguments_of BoardCopy) 1 a.registers) (copy_reason (known_at a.registers 1) (known_at a.registers 2) (known_at a.registers 3)) h in
    let taken = copy_arguments a.registers parts.0 in
    copy_case (known_at a.registers 1) (known_at a.registers 2) (known_at a.registers 3) a.stack taken.0 taken.2 parts.1
call_case (Some helper) a h = refl

-- ---- instructions

pub left_law : LeftIsTransfer
left_law (Store size base offset source) a h =
    ap (λ (stack : Known). record { registers = a.registers; stack = stack }) (store_case size (known_at a.registers base) (operand_known a.registers source) offset a.stack h)
left_law (Call number) a h =
    ap (λ (stack : Known). record { registers = (transfer (Call number) a).registers; stack = stack }) (call_case (helper_of number) a h)
left_law i a h = refl
