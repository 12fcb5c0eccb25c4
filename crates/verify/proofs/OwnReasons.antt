-- The reasons of the pass are never those of the structure.
use Rattle.std.proofs.Common.{◌≡◌, ℕ, ◌+◌, List, [], ◌∷◌, Bool, true, false, Option, Some, None, Result, subst}
use Rattle.std.specs.Prelude.{ℤ, ◌*◌, ◌==◌, if◌then◌else◌}
use Rattle.std.specs.Option.{option_or}
use Rattle.std.specs.Result.{result_err}
use Rattle.word.specs.declared.Narrow.{Narrow}
use Rattle.insn.specs.declared.insn.Insn.{Insn}
use Rattle.insn.specs.declared.insn.Insn.TheVariants.{Arithmetic, Negate, SignExtend, Swap, LoadImmediate, Load, LoadSigned, Store, Call, Jump, LongJump, Branch, Exit}
use Rattle.insn.specs.declared.insn.Size.{Size}
use Rattle.insn.specs.Insn.{bytes_of, part_bytes}
use Rattle.semantics.specs.declared.value.Region.{Region}
use Rattle.semantics.specs.declared.value.Region.TheVariants.{Stack, Context}
use Rattle.semantics.specs.declared.request.Helper.{Helper}
use Rattle.semantics.specs.declared.request.Helper.TheVariants.{BoardCopy, SendRow}
use Rattle.semantics.specs.Call.{helper_of}
use Rattle.helper.specs.declared.argument.Argument.{Argument}
use Rattle.helper.specs.Table.{bound_of, arguments_of}
use Rattle.absval.specs.declared.value.AbsVal.{AbsVal}
use Rattle.absval.specs.declared.windows.Window.{Window}
use Rattle.absval.specs.NumberSets.{greatest}
use Rattle.absval.specs.Table.{loaded_known, negated_known, extended_known, swapped_known}
use Rattle.absval.specs.Windows.{window_known}
use Rattle.absmem.specs.Known.{Known}
use Rattle.verify.specs.declared.reason.Reason.{Reason}
use Rattle.verify.specs.declared.reason.Reason.TheVariants as reason
use Rattle.verify.specs.declared.state.AbsState.{AbsState}
use Rattle.verify.specs.Structure.{IsOwn}
use Rattle.verify.specs.Registers.{known_at, operand_known}
use Rattle.verify.specs.Reasons.{Check, first_reason, arithmetic_checks, made_checks, write_checks, compare_checks, exit_checks, unless}
use Rattle.verify.specs.MemoryTable.{all_bytes, unset_in, spilled, pointer_or, load_from, load_given, all_numbers, signed_from, signed_load_given, is_storable, write_refused, store_refused, unset_or, frame_or}
use Rattle.verify.specs.Calls.{reason_if, argument_reason, arguments_reason, window_from, source_reason, copy_reason, row_reason, window_reason, helper_reason}
use Rattle.verify.specs.Instructions.{straight_reason, reason_of}
use Rattle.absval.specs.declared.value.AbsVal.TheVariants.{Unset, Number, Pointer}

abbrev pub Own : Option Reason → Type 0
Own None = Unit {0}
Own (Some reason) = IsOwn reason

-- ---- checks in order

abbrev EachOwn : List Check → Type 0
EachOwn [] = Unit {0}
EachOwn (check ∷ checks) = IsOwn check.1 × EachOwn checks

first_own : (checks : List Check) → EachOwn checks → Own (first_reason checks)
first_own [] h = tt
first_own (check ∷ checks) h = by_test check.0 (first_own checks h.1)
  where
    by_test : (t : Bool) → Own (first_reason checks) → Own (if t then Some check.1 else first_reason checks)
    by_test true next = h.0
    by_test false next = next

or_own : (a b : Option Reason) → Own a → Own b → Own (option_or a b)
or_own None b h k = k
or_own (Some reason) b h k = h

if_own : (t : Bool) (r : Reason) → IsOwn r → Own (reason_if t r)
if_own true r h = h
if_own false r h = tt

set_own : (e : AbsVal) (next : Option Reason) → Own next → Own (unset_or e next)
set_own Unset next h = tt
set_own (Number n) next h = h
set_own (Pointer region at) next h = h

frame_own : (dst : ℕ) (next : Option Reason) → Own next → Own (frame_or dst next)
frame_own dst next h = by_test (dst == 10)
  where
    by_test : (t : Bool) → Own (if t then Some reason.FrameWrite else next)
    by_test true = tt
    by_test false = h

-- ---- loads and stores

unset_own : (known : Known) (region : Region) (w : Window) → Own (unset_in known region w)
unset_own known Context w = tt
unset_own known Stack w = by_test (all_bytes known.bytes w.place w.size)
  where
    by_test : (t : Bool) → Own (if t then None else Some reason.StackUnset)
    by_test true = tt
    by_test false = tt

unless_own : (u : Option Reason) (numbers : AbsVal) → Own u → Own (result_err (unless u numbers))
unless_own None numbers h = tt
unless_own (Some reason) numbers h = h

given_own : (p : Option AbsVal) (given : Result AbsVal Reason) → Own (result_err given) → Own (result_err (pointer_or p given))
given_own None given h = h
given_own (Some pointer) given h = tt

from_own : (known : Known) (size : Size) (region : Region) (o : Option Window) → Own (result_err (load_from known size region o))
from_own known size region None = tt
from_own known size Context (Some w) = tt
from_own known size Stack (Some w) = given_own (spilled known size w) (unless (unset_in known Stack w) (loaded_known size)) (unless_own (unset_in known Stack w) (loaded_known size) (unset_own known Stack w))

load_own : (known : Known) (size : Size) (e : AbsVal) (distance : ℤ) → Own (result_err (load_given known size e distance))
load_own known size Unset distance = tt
load_own known size (Number n) distance = tt
load_own known size (Pointer region at) distance = from_own known size region (window_known region at.0 at.1 distance (bytes_of size))

signed_from_own : (known : Known) (region : Region) (o : Option Window) → Own (result_err (signed_from known region o))
signed_from_own known region None = tt
signed_from_own known region (Some w) = unless_own (unset_in known region w) all_numbers (unset_own known region w)

signed_own : (known : Known) (part : Narrow) (e : AbsVal) (distance : ℤ) → Own (result_err (signed_load_given known part e distance))
signed_own known part Unset distance = tt
signed_own known part (Number n) distance = tt
signed_own known part (Pointer region at) distance = signed_from_own known region (window_known region at.0 at.1 distance (part_bytes part))

write_own : (region : Region) (o : Option Window) → Own (write_refused region o)
write_own Context o = tt
write_own Stack None = tt
write_own Stack (Some w) = tt

store_own : (size : Size) (base : AbsVal) (distance : ℤ) (source : AbsVal) → Own (store_refused size base distance source)
store_own size Unset distance source = tt
store_own size (Number n) distance source = tt
store_own size (Pointer region at) distance Unset = tt
store_own size (Pointer region at) distance (Number n) = write_own region (window_known region at.0 at.1 distance (bytes_of size))
store_own size (Pointer region at) distance (Pointer other kept) = by_test (is_storable size at kept)
  where
    by_test : (t : Bool) → Own (if t then write_refused region (window_known region at.0 at.1 distance 8) else Some reason.PointerUse)
    by_test true = write_own region (window_known region at.0 at.1 distance 8)
    by_test false = tt

-- ---- calls

argument_own : (bound : Option ℕ) (a : AbsVal) → Own (argument_reason bound a)
argument_own bound Unset = tt
argument_own (Some bound) (Number numbers) = if_own _ reason.Argument tt
argument_own (Some bound) (Pointer region offsets) = tt
argument_own None (Number numbers) = tt
argument_own None (Pointer region offsets) = tt

arguments_own : (arguments : List (Option Argument)) (r : ℕ) (known : List AbsVal) → Own (arguments_reason arguments r known)
arguments_own [] r known = tt
arguments_own (None ∷ arguments) r known = arguments_own arguments (r + 1) known
arguments_own (Some taken ∷ arguments) r known =
    or_own (argument_reason (bound_of taken) (known_at known r)) (arguments_reason arguments (r + 1) known) (argument_own (bound_of taken) (known_at known r)) (arguments_own arguments (r + 1) known)

source_own : (known : Known) (region : Region) (o : Option Window) → Own (source_reason known region o)
source_own known region None = tt
source_own known region (Some w) = unset_own known region w

copy_own : (slots target counts : AbsVal) → Own (copy_reason slots target counts)
copy_own (Number slots) (Pointer region offsets) (Number counts) =
    or_own _ (write_refused region (window_from region offsets (8 * greatest counts))) (if_own _ reason.Argument tt) (write_own region (window_from region offsets (8 * greatest counts)))
copy_own slots target counts = tt

row_own : (known : Known) (source counts : AbsVal) → Own (row_reason known source counts)
row_own known (Pointer region offsets) (Number counts) = source_own known region (window_from region offsets (4 * greatest counts))
row_own known source counts = tt

window_own : (helper : Helper) (a : AbsState) → Own (window_reason helper a)
window_own BoardCopy a = copy_own (known_at a.registers 1) (known_at a.registers 2) (known_at a.registers 3)
window_own SendRow a = row_own a.stack (known_at a.registers 2) (known_at a.registers 3)
window_own helper a = tt

call_own : (o : Option Helper) (a : AbsState) → Own (helper_reason o a)
call_own None a = tt
call_own (Some helper) a = or_own (arguments_reason (arguments_of helper) 1 a.registers) (window_reason helper a) (arguments_own (arguments_of helper) 1 a.registers) (window_own helper a)

-- ---- instructions

straight_own : (i : Insn) (a : AbsState) → Own (straight_reason i a)
straight_own (Arithmetic w operation dst operand) a = first_own (arithmetic_checks a.registers w operation dst operand) (tt, (tt, (tt, (tt, tt))))
straight_own (Negate w dst) a = first_own (made_checks dst (known_at a.registers dst) (negated_known w (known_at a.registers dst))) (tt, (tt, (tt, tt)))
straight_own (SignExtend w part dst src) a = first_own (made_checks dst (known_at a.registers src) (extended_known w part (known_at a.registers src))) (tt, (tt, (tt, tt)))
straight_own (Swap order size dst) a = first_own (made_checks dst (known_at a.registers dst) (swapped_known order size (known_at a.registers dst))) (tt, (tt, (tt, tt)))
straight_own (LoadImmediate dst number) a = first_own (write_checks dst) (tt, tt)
straight_own (Load size dst base offset) a =
    set_own (known_at a.registers base) _ (frame_own dst _ (load_own a.stack size (known_at a.registers base) offset))
straight_own (LoadSigned part dst base offset) a =
    set_own (known_at a.registers base) _ (frame_own dst _ (signed_own a.stack part (known_at a.registers base) offset))
straight_own (Store size base offset source) a =
    set_own (known_at a.registers base) _ (set_own (operand_known a.registers source) _ (store_own size (known_at a.registers base) offset (operand_known a.registers source)))
straight_own (Call number) a = call_own (helper_of number) a
straight_own (Jump distance) a = tt
straight_own (LongJump distance) a = tt
straight_own (Branch w condition dst operand distance) a = tt
straight_own Exit a = tt

pub instruction_own : (i : Insn) (a : AbsState) → Own (reason_of i a)
instruction_own (Branch w condition dst operand distance) a = first_own (compare_checks (known_at a.registers dst) (operand_known a.registers operand)) (tt, (tt, (tt, (tt, tt))))
instruction_own Exit a = first_own (exit_checks (known_at a.registers 0)) (tt, (tt, tt))
instruction_own i a = straight_own i a

-- So is the reason that is returned.
pub reason_own : (o : Option Reason) (r : Reason) → Some r ≡ o → Own o → IsOwn r
reason_own None r e h = absurd cc
reason_own (Some reason) r e h = let same : reason ≡ r = cc in subst (λ (x : Reason). IsOwn x) same h
