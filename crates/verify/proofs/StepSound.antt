-- An accepted instruction continues with the next one, from each described state to a described one.
use Rattle.std.proofs.Common.{◌≡◌, ◌∙◌, ℕ, ℤ, ◌+◌, ◌^◌, ◌<◌, [], ◌∷◌, length, Bool, true, false, Option, Some, None, Result, Ok, Err, IfOk, refl, sym, subst, arith, length-set}
use Rattle.std.specs.Prelude.{◌==◌, if◌then◌else◌, is_none, slice_set, FitsSigned, pos, negsuc}
use Rattle.std.specs.Int.{w32, w64, cast_unsigned}
use Rattle.std.specs.Result.{result_ok, result_err}
use Rattle.insn.specs.declared.insn.Insn.{Insn}
use Rattle.insn.specs.declared.insn.Insn.TheVariants.{Arithmetic, Negate, SignExtend, Swap, LoadImmediate, Load, LoadSigned, Store, Call, Jump, LongJump, Branch, Exit}
use Rattle.insn.specs.declared.insn.Operand.{Operand}
use Rattle.insn.specs.declared.insn.Operand.TheVariants.{Register, Immediate}
use Rattle.insn.specs.Insn.{bytes_of, IsInsn, IsOperand}
use Rattle.semantics.specs.declared.value.Value.{Value}
use Rattle.semantics.specs.declared.value.Value.TheVariants as value
use Rattle.semantics.specs.State.{Cause, FrameWrite, State, Outcome, Next, Trap, value_at, operand_value}
use Rattle.semantics.specs.Step as semantics
use Rattle.semantics.specs.Memory as memory
use Rattle.semantics.specs.Call.{helper_of}
use Rattle.absval.specs.NumberSets.{single}
use Rattle.absval.specs.Contains.{Contains}
use Rattle.absval.specs.Table.{computed, negated_known, extended_known, swapped_known}
use Rattle.absmem.specs.Known.{Known}
use Rattle.absval.specs.declared.windows.Window.{Window}
use Rattle.absval.specs.Windows.{window_known}
use Rattle.semantics.specs.declared.value.Region.{Region}
use Rattle.semantics.specs.declared.request.Helper.{Helper}
use Rattle.insn.specs.declared.insn.Size.{Size}
use Rattle.std.proofs.lemmas.List.{length-drop}
use Rattle.range.proofs.RangeRows.{by_test}
use Rattle.verify.specs.declared.reason.Reason.{Reason}
use Rattle.verify.specs.declared.reason.Reason.TheVariants as reason
use Rattle.word.specs.Arithmetic.{negated, sign_extended, swapped}
use Rattle.verify.specs.declared.state.AbsState.{AbsState}
use Rattle.verify.specs.Describes.{Describes}
use Rattle.verify.specs.Registers.{known_at, operand_known, first_known}
use Rattle.verify.specs.Reasons.{first_reason, made_checks, is_unset}
use Rattle.verify.specs.MemoryTable.{unset_or, frame_or, load_given, signed_load_given, store_refused}
use Rattle.verify.proofs.Outcomes.{GoesOn, Follows}
use Rattle.verify.specs.Instructions.{IsStraight, reason_of}
use Rattle.verify.specs.Transfer.{assigned, number_stored, pointer_stored, stored, called, transfer}
use Rattle.verify.proofs.StoreLemmas.{store_goes}
use Rattle.absmem.proofs.TableLaws.{length-table}
use Rattle.verify.proofs.Zips.{AllZip-set}
use Rattle.absval.proofs.SetRows.{single_set, single_of}
use Rattle.verify.proofs.Meanings.{IsWord, AllWell, all_set, meant_at, stands_at, operand_meant, operand_stands, first_meant, first_stands}
use Rattle.absval.proofs.ValueRows.{IsWell, Makes, MeantIf, computed_makes, computed_meant, negated_makes, negated_meant, extended_makes, extended_meant, swapped_makes, swapped_meant}
use Rattle.verify.proofs.LoadRows.{load_loads, load_meant, signed_loads, signed_meant}
use Rattle.verify.proofs.StoreRows.{store_leads}
use Rattle.verify.proofs.CallRows.{call_goes, call_well, behind_flags}
use Rattle.absval.specs.declared.value.AbsVal.TheVariants.{Unset, Number, Pointer}
use Rattle.absval.specs.declared.value.AbsVal.{AbsVal}

-- Eleven registers whose numbers are sets, and 512 cells.
pub record IsMeant (a : AbsState) : Type 0 where
  pub count : length a.registers ≡ 11
  pub well : AllWell a.registers
  pub flags : length a.stack.bytes ≡ 512

-- ---- stacks keep their cells

number_flags : (n : ℕ) (o : Option Window) (known : Known) → length known.bytes ≡ 512 → length (number_stored n o known).bytes ≡ 512
number_flags n None known flags = flags
number_flags n (Some w) known flags = by_test (λ (k : Known). length k.bytes ≡ 512) (w.size == n) _ _ (λ t. length-table 512 _) (λ f. length-table 512 _)

pointer_flags : (region : Region) (offset : ℤ) (o : Option Window) (known : Known) → length known.bytes ≡ 512 → length (pointer_stored region offset o known).bytes ≡ 512
pointer_flags region offset None known flags = flags
pointer_flags region offset (Some w) known flags = length-table 512 _

stored_flags : (size : Size) (base : AbsVal) (distance : ℤ) (value : AbsVal) (known : Known) → length known.bytes ≡ 512 → length (stored size base distance value known).bytes ≡ 512
stored_flags size Unset distance value known flags = flags
stored_flags size (Number n) distance value known flags = flags
stored_flags size (Pointer region at) distance Unset known flags = flags
stored_flags size (Pointer region at) distance (Number n) known flags = number_flags (bytes_of size) (window_known region at.0 at.1 distance (bytes_of size)) known flags
stored_flags size (Pointer region at) distance (Pointer other kept) known flags = pointer_flags other kept.0 (window_known region at.0 at.1 distance 8) known flags

call_meant : (o : Option Helper) (a : AbsState) → IsMeant a → IsMeant (called o a)
call_meant None a m = m
call_meant (Some helper) a m = record {
  count = let rest = length-drop 6 a.registers in omega (arith, m.count, rest);
  well = call_well (Some helper) a m.well;
  flags = behind_flags helper a m.flags;
}

-- ---- numbers of instructions

immediate_word : (n : ℤ) → FitsSigned w32 n → cast_unsigned w64 n < 2 ^ 64
immediate_word (pos n) h = omega (arith, h)
immediate_word (negsuc n) h = omega arith

pub is_word : (operand : Operand) → IsOperand operand → IsWord operand
is_word (Register r) h = tt
is_word (Immediate n) h = immediate_word n h

-- ---- checks that are passed

check_passed : (t : Bool) (r : Reason) (next : Option Reason) → (if t then Some r else next) ≡ None → (t ≡ false) × (next ≡ None)
check_passed true r next e = cc
check_passed false r next e = (refl, e)

frame_passed : (dst : ℕ) (next : Option Reason) → frame_or dst next ≡ None → ((dst == 10) ≡ false) × (next ≡ None)
frame_passed dst next e = check_passed (dst == 10) reason.FrameWrite next e

made_passed : (dst : ℕ) (value : AbsVal) (made : Option AbsVal) → first_reason (made_checks dst value made) ≡ None → ((dst == 10) ≡ false) × (is_none made ≡ false)
made_passed dst value made e =
    let first = check_passed (is_unset value) reason.Unset (first_reason ((dst == 10, reason.FrameWrite) ∷ (is_none made, reason.PointerUse) ∷ [])) e in
    let frame = check_passed (dst == 10) reason.FrameWrite (first_reason ((is_none made, reason.PointerUse) ∷ [])) first.1 in
    (frame.0, (check_passed (is_none made) reason.PointerUse None frame.1).0)

set_passed : (e : AbsVal) (next : Option Reason) → unset_or e next ≡ None → next ≡ None
set_passed Unset next e = cc
set_passed (Number n) next e = e
set_passed (Pointer region at) next e = e

-- ---- registers that are assigned

not_frame : (t : Bool) (a b : Outcome) → t ≡ false → (if t then a else b) ≡ b
not_frame true a b e = cc
not_frame false a b e = refl

assigned_goes : (a : AbsState) (s : State) (dst units : ℕ) (o : Option AbsVal) (r : Result Value Cause) → (dst == 10) ≡ false → is_none o ≡ false → Describes a s → Makes o r →
    GoesOn (assigned a dst o) (s.unit + units) (semantics.assigned s dst units r)
assigned_goes a s dst units None r frame some d makes = cc
assigned_goes a s dst units (Some e) (Err cause) frame some d makes = absurd makes
assigned_goes a s dst units (Some e) (Ok v) frame some d makes =
    subst (λ (o : Outcome). GoesOn (assigned a dst (Some e)) (s.unit + units) o)
    (sym (not_frame (dst == 10) (Trap FrameWrite) (Next (record s { unit = s.unit + units; registers = slice_set s.registers dst v; steps = s.steps + 1 })) frame))
    (refl, record { registers = AllZip-set Contains a.registers s.registers dst e v d.registers makes; stack = d.stack; size = d.size })

pub assigned_meant : (a : AbsState) (dst : ℕ) (o : Option AbsVal) → IsMeant a → MeantIf o → IsMeant (assigned a dst o)
assigned_meant a dst None m h = m
assigned_meant a dst (Some e) m h =
    record { count = length-set a.registers dst e ∙ m.count; well = all_set a.registers dst e m.well h; flags = m.flags }

-- A load that is not rejected has a result.
some_given : (r : Result AbsVal Reason) → result_err r ≡ None → is_none (result_ok r) ≡ false
some_given (Ok e) h = refl
some_given (Err reason) h = cc

given_makes : (r : Result AbsVal Reason) (q : Result Value Cause) → IfOk r (λ e. Makes (Some e) q) → Makes (result_ok r) q
given_makes (Ok e) q h = h
given_makes (Err reason) q h = tt

given_meant : (r : Result AbsVal Reason) → IfOk r IsWell → MeantIf (result_ok r)
given_meant (Ok e) h = h
given_meant (Err reason) h = tt

-- ---- instructions

pub straight_goes : (i : Insn) (a : AbsState) → IsStraight i → IsInsn i → IsMeant a → reason_of i a ≡ None → Follows a i (transfer i a)
straight_goes (Arithmetic w operation dst operand) a straight insn m none context relay s setting d =
    let made : Option AbsVal = computed w operation (first_known a.registers operation dst) (operand_known a.registers operand) in
    let first = check_passed (is_unset (first_known a.registers operation dst)) reason.Unset (first_reason (made_checks dst (operand_known a.registers operand) made)) none in
    let checks = made_passed dst (operand_known a.registers operand) made first.1 in
    let fits = is_word operand insn.1 in
    assigned_goes a s dst 1 made (semantics.result_of w operation (value_at s.registers dst) (operand_value s.registers operand)) checks.0 checks.1 d
    (computed_makes w operation (first_known a.registers operation dst) (operand_known a.registers operand) (value_at s.registers dst) (operand_value s.registers operand)
    (first_meant a.registers operation dst m.well) (operand_meant a.registers operand fits m.well)
    (first_stands a.registers s.registers operation dst d.registers) (operand_stands a.registers s.registers operand fits d.registers))
straight_goes (Negate w dst) a straight insn m none context relay s setting d =
    let checks = made_passed dst (known_at a.registers dst) (negated_known w (known_at a.registers dst)) none in
    assigned_goes a s dst 1 (negated_known w (known_at a.registers dst)) (semantics.mapped (negated w) (value_at s.registers dst)) checks.0 checks.1 d
    (negated_makes w (known_at a.registers dst) (value_at s.registers dst) (meant_at a.registers dst m.well) (stands_at a.registers s.registers dst d.registers))
straight_goes (SignExtend w part dst src) a straight insn m none context relay s setting d =
    let checks = made_passed dst (known_at a.registers src) (extended_known w part (known_at a.registers src)) none in
    assigned_goes a s dst 1 (extended_known w part (known_at a.registers src)) (semantics.mapped (sign_extended w part) (value_at s.registers src)) checks.0 checks.1 d
    (extended_makes w part (known_at a.registers src) (value_at s.registers src) (meant_at a.registers src m.well) (stands_at a.registers s.registers src d.registers))
straight_goes (Swap order size dst) a straight insn m none context relay s setting d =
    let checks = made_passed dst (known_at a.registers dst) (swapped_known order size (known_at a.registers dst)) none in
    assigned_goes a s dst 1 (swapped_known order size (known_at a.registers dst)) (semantics.mapped (swapped order size) (value_at s.registers dst)) checks.0 checks.1 d
    (swapped_makes order size (known_at a.registers dst) (value_at s.registers dst) (meant_at a.registers dst m.well) (stands_at a.registers s.registers dst d.registers))
straight_goes (LoadImmediate dst number) a straight insn m none context relay s setting d =
    let frame = check_passed (dst == 10) reason.FrameWrite None none in
    assigned_goes a s dst 2 (Some (Number (single number))) (Ok (value.Number number)) frame.0 refl d (single_of number insn.1)
straight_goes (Load size dst base offset) a straight insn m none context relay s setting d =
    let given = load_given a.stack size (known_at a.registers base) offset in
    let frame = frame_passed dst (result_err given) (set_passed (known_at a.registers base) (frame_or dst (result_err given)) none) in
    assigned_goes a s dst 1 (result_ok given) (memory.loaded context s.cells (bytes_of size) (value_at s.registers base) offset) frame.0 (some_given given frame.1) d
    (given_makes given (memory.loaded context s.cells (bytes_of size) (value_at s.registers base) offset) (load_loads a.stack size (known_at a.registers base) offset context s.cells (value_at s.registers base) setting.is_context d.stack d.size
    (stands_at a.registers s.registers base d.registers)))
straight_goes (LoadSigned part dst base offset) a straight insn m none context relay s setting d =
    let given = signed_load_given a.stack part (known_at a.registers base) offset in
    let frame = frame_passed dst (result_err given) (set_passed (known_at a.registers base) (frame_or dst (result_err given)) none) in
    assigned_goes a s dst 1 (result_ok given) (memory.loaded_signed context s.cells part (value_at s.registers base) offset) frame.0 (some_given given frame.1) d
    (given_makes given (memory.loaded_signed context s.cells part (value_at s.registers base) offset) (signed_loads a.stack part (known_at a.registers base) offset context s.cells (value_at s.registers base) setting.is_context d.stack d.size
    (stands_at a.registers s.registers base d.registers)))
straight_goes (Store size base offset source) a straight insn m none context relay s setting d =
    let refused : store_refused size (known_at a.registers base) offset (operand_known a.registers source) ≡ None =
    set_passed (operand_known a.registers source) (store_refused size (known_at a.registers base) offset (operand_known a.registers source))
    (set_passed (known_at a.registers base) (unset_or (operand_known a.registers source) (store_refused size (known_at a.registers base) offset (operand_known a.registers source))) none) in
    store_goes (transfer (Store size base offset source) a) s (memory.stored s.cells (bytes_of size) (value_at s.registers base) offset (operand_value s.registers source)) d.registers
    (store_leads a.stack size (known_at a.registers base) offset (operand_known a.registers source) s.cells (value_at s.registers base) (operand_value s.registers source) refused
    d.stack d.size m.flags (stands_at a.registers s.registers base d.registers) (operand_stands a.registers s.registers source (is_word source insn.2) d.registers))
straight_goes (Call number) a straight insn m none context relay s setting d = call_goes (helper_of number) a context relay s setting d m.flags none
straight_goes (Jump distance) a straight insn m none context relay s setting d = absurd straight
straight_goes (LongJump distance) a straight insn m none context relay s setting d = absurd straight
straight_goes (Branch w condition dst operand distance) a straight insn m none context relay s setting d = absurd straight
straight_goes Exit a straight insn m none context relay s setting d = absurd straight

pub follows_meant : (i : Insn) (a : AbsState) → IsInsn i → IsMeant a → IsMeant (transfer i a)
follows_meant (Arithmetic w operation dst operand) a insn m =
    assigned_meant a dst _ m (computed_meant w operation (first_known a.registers operation dst) (operand_known a.registers operand)
    (first_meant a.registers operation dst m.well) (operand_meant a.registers operand (is_word operand insn.1) m.well))
follows_meant (Negate w dst) a insn m = assigned_meant a dst _ m (negated_meant w (known_at a.registers dst) (meant_at a.registers dst m.well))
follows_meant (SignExtend w part dst src) a insn m = assigned_meant a dst _ m (extended_meant w part (known_at a.registers src) (meant_at a.registers src m.well))
follows_meant (Swap order size dst) a insn m = assigned_meant a dst _ m (swapped_meant order size (known_at a.registers dst) (meant_at a.registers dst m.well))
follows_meant (LoadImmediate dst number) a insn m = assigned_meant a dst (Some (Number (single number))) m (single_set number insn.1)
follows_meant (Load size dst base offset) a insn m =
    assigned_meant a dst _ m (given_meant (load_given a.stack size (known_at a.registers base) offset) (load_meant a.stack size (known_at a.registers base) offset))
follows_meant (LoadSigned part dst base offset) a insn m =
    assigned_meant a dst _ m (given_meant (signed_load_given a.stack part (known_at a.registers base) offset) (signed_meant a.stack part (known_at a.registers base) offset))
follows_meant (Store size base offset source) a insn m = record {
  count = m.count;
  well = m.well;
  flags = stored_flags size (known_at a.registers base) offset (operand_known a.registers source) a.stack m.flags;
}
follows_meant (Call number) a insn m = call_meant (helper_of number) a m
follows_meant (Jump distance) a insn m = m
follows_meant (LongJump distance) a insn m = m
follows_meant (Branch w condition dst operand distance) a insn m = m
follows_meant Exit a insn m = m
