-- A store: its checks in order, and what is stored.
use Rattle.std.proofs.Common.{◌≡◌, ◌∙◌, ℕ, List, [], ◌∷◌, Bool, true, false, Option, Some, None, Ok, Err, refl, sym, ap}
use Rattle.std.specs.Prelude.{ℤ, Result, ◌==◌, if◌then◌else◌, slice_set}
use Rattle.std.specs.Result.{result_err, result_ok}
use Rattle.insn.specs.declared.insn.Size.{Size}
use Rattle.insn.specs.Insn.{bytes_of}
use Rattle.semantics.specs.declared.value.Region.{Region}
use Rattle.absval.specs.declared.value.Offsets.{Offsets}
use Rattle.absval.specs.Table.{immediate_known}
use Rattle.absval.specs.Windows.{window_known}
use Rattle.absmem.specs.Known.{Known}
use Rattle.verify.specs.declared.reason.Reason.{Reason}
use Rattle.verify.specs.declared.reason.Reason.TheVariants as reason
use Rattle.verify.specs.declared.reason.Reason.TheVariants.{FrameWrite, PointerUse}
use Rattle.verify.specs.declared.state.AbsState.{AbsState}
use Rattle.verify.specs.Reasons.{Check, first_reason, is_unset, write_checks, unless, outcome}
use Rattle.verify.specs.MemoryTable.{unset_or, frame_or, pointer_in, load_from, load_given, write_refused, store_refused}
use Rattle.verify.specs.Transfer.{assigned, number_stored, stored}
use Rattle.verify.proofs.CallChecks.{lifted}
use Rattle.verify.proofs.MemoryRows.{pointer_found}
use Rattle.absval.specs.declared.value.AbsVal.TheVariants.{Unset, Number, Pointer}
use Rattle.absval.specs.declared.value.AbsVal.{AbsVal}

abbrev unset_check : AbsVal → List Check
unset_check a = (is_unset a, reason.Unset) ∷ []

set_next : (a : AbsVal) (next : Option Reason) → None ≡ first_reason (unset_check a) → next ≡ unset_or a next
set_next Unset next h = absurd cc
set_next (Number n) next h = refl
set_next (Pointer region at) next h = refl

-- After a value that is set, the next reason remains.
pub set_passes : (a b : AbsVal) (next : Option Reason) → a ≡ b → None ≡ first_reason (unset_check a) → next ≡ unset_or b next
set_passes a b next same h = set_next a next h ∙ ap (λ (x : AbsVal). unset_or x next) same

-- What is known after a store, or why it is rejected.
pub value_left : (size : Size) (base value : AbsVal) (x offset : ℤ) (known new : Known) (r : Result (Unit {0}) Reason) → x ≡ offset →
    None ≡ first_reason (unset_check base) → None ≡ first_reason (unset_check value) → outcome r new ≡ unless (store_refused size base x value) (stored size base x value known) →
    outcome r new ≡ unless (unset_or base (unset_or value (store_refused size base offset value))) (stored size base offset value known)
value_left size base value x offset known new r f set also h =
    let why : Option Reason = store_refused size base offset value in
    h ∙ ((λ i. unless (store_refused size base (f i) value) (stored size base (f i) value known))
    ∙ ap (λ (o : Option Reason). unless o (stored size base offset value known))
    (set_passes value value why refl also ∙ set_passes base base (unset_or value why) refl set))

-- The same with what is known of each register.
pub store_left : (size : Size) (base pointer value operand : AbsVal) (x offset : ℤ) (a : AbsState) (r : Result (Unit {0}) Reason) (new : Known) → base ≡ pointer → value ≡ operand → x ≡ offset →
    outcome r new ≡ unless (unset_or base (unset_or value (store_refused size base x value))) (stored size base x value a.stack) →
    outcome r (record a { stack = new }) ≡ unless (unset_or pointer (unset_or operand (store_refused size pointer offset operand))) (record a { stack = stored size pointer offset operand a.stack })
store_left size base pointer value operand x offset a r new e g f h =
    let why : Option Reason = unset_or pointer (unset_or operand (store_refused size pointer offset operand)) in
    lifted (λ (known : Known). record a { stack = known }) r why new (stored size pointer offset operand a.stack)
    (h ∙ (λ i. unless (unset_or (e i) (unset_or (g i) (store_refused size (e i) (f i) (g i)))) (stored size (e i) (f i) (g i) a.stack)))

-- The same for an immediate number.
pub number_left : (size : Size) (base known value : AbsVal) (found : Region × Offsets) (x offset n : ℤ) (a : AbsState) (r : Result (Unit {0}) Reason) (new : Known) → base ≡ known → value ≡ immediate_known n →
    Ok found ≡ pointer_in base → x ≡ offset →
    outcome r new ≡ unless (write_refused found.0 (window_known found.0 found.1.0 found.1.1 x (bytes_of size))) (number_stored (bytes_of size) (window_known found.0 found.1.0 found.1.1 x (bytes_of size)) a.stack) →
    outcome r (record a { stack = new }) ≡ unless (unset_or known (unset_or value (store_refused size known offset value))) (record a { stack = stored size known offset value a.stack })
number_left size base known value found x offset n a r new e v p f h =
    let pointer : known ≡ Pointer found.0 found.1 = sym e ∙ pointer_found base found.0 found.1 p in
    rw (pointer, v) (lifted (λ (stack : Known). record a { stack = stack }) r (write_refused found.0 (window_known found.0 found.1.0 found.1.1 offset (bytes_of size))) new
    (number_stored (bytes_of size) (window_known found.0 found.1.0 found.1.1 offset (bytes_of size)) a.stack) (rw f at h))

-- ---- loads

-- r10 is not written.
frame_passes : (dst : ℕ) (next : Option Reason) → None ≡ first_reason (write_checks dst) → next ≡ frame_or dst next
frame_passes dst next h = by_test (dst == 10) h
  where
    by_test : (b : Bool) → None ≡ (if b then Some FrameWrite else None) → next ≡ (if b then Some FrameWrite else next)
    by_test false h = refl
    by_test true h = absurd cc

-- The value that a register gets, or why it gets none.
taken : (r : Result (Unit {0}) Reason) (value : AbsVal) (given : Result AbsVal Reason) (dst : ℕ) (a : AbsState) → outcome r value ≡ given →
    outcome r (assigned a dst (Some value)) ≡ unless (result_err given) (assigned a dst (result_ok given))
taken (Ok u) value (Ok other) dst a h = let same : value ≡ other = cc in ap (λ (v : AbsVal). Ok (assigned a dst (Some v))) same
taken (Ok u) value (Err reason) dst a h = absurd cc
taken (Err reason) value (Ok other) dst a h = absurd cc
taken (Err reason) value (Err other) dst a h = let same : reason ≡ other = cc in ap Err same

pub load_left : (size : Size) (base known : AbsVal) (region : Region) (offsets : Offsets) (dst place : ℕ) (x offset : ℤ) (a : AbsState) (r : Result (Unit {0}) Reason) (value : AbsVal) → base ≡ known →
    Ok (region, offsets) ≡ pointer_in base → x ≡ offset → place ≡ dst → None ≡ first_reason (write_checks dst) →
    outcome r value ≡ load_from a.stack size region (window_known region offsets.0 offsets.1 x (bytes_of size)) →
    outcome r (record a { registers = slice_set a.registers place value }) ≡ unless (unset_or known (frame_or dst (result_err (load_given a.stack size known offset)))) (assigned a dst (result_ok (load_given a.stack size known offset)))
load_left size base known region offsets dst place x offset a r value e p f there set h =
    let pointer : known ≡ Pointer region offsets = sym e ∙ pointer_found base region offsets p in
    let given : Result AbsVal Reason = load_from a.stack size region (window_known region offsets.0 offsets.1 offset (bytes_of size)) in
    rw (pointer, there) (taken r value given dst a (rw f at h) ∙ ap (λ (o : Option Reason). unless o (assigned a dst (result_ok given))) (frame_passes dst (result_err given) set))
