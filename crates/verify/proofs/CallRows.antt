-- If a call is not rejected, it continues to what is known after it.
use Rattle.std.proofs.Common.{◌≡◌, ◌∙◌, ℕ, zero, suc, ℤ, pos, ◌+◌, ◌*◌, ◌^◌, ◌<◌, ◌≤◌, List, [], ◌∷◌, drop, length, Bool, true, false, Option, Some, None, IfSome, refl, sym, subst, arith}
use Rattle.std.specs.Prelude.{nat_lt, if◌then◌else◌}
use Rattle.std.specs.List.{AllZip}
use Rattle.std.proofs.lemmas.Bool.{ltb-false}
use Rattle.semantics.specs.declared.value.Region.{Region}
use Rattle.semantics.specs.declared.value.Region.TheVariants.{Stack, Context}
use Rattle.semantics.specs.declared.value.Value.{Value}
use Rattle.semantics.specs.declared.value.Cell.{Cell}
use Rattle.semantics.specs.declared.request.Helper.{Helper}
use Rattle.semantics.specs.declared.request.Helper.TheVariants.{BoardCopy, SendRow}
use Rattle.semantics.specs.Relay.{IsSetting, Relay}
use Rattle.semantics.specs.State.{State}
use Rattle.semantics.specs.Memory.{overwritten, room_of}
use Rattle.semantics.specs.Call as semantics
use Rattle.absval.specs.declared.number_set.NumberSet.{NumberSet}
use Rattle.absval.specs.NumberSets.{Has, within, greatest}
use Rattle.absval.specs.declared.value.Offsets.{Offsets}
use Rattle.absval.specs.declared.value.AbsVal.{AbsVal}
use Rattle.absval.specs.declared.windows.Window.{Window}
use Rattle.absval.specs.Contains.{Contains, IsPointerIn}
use Rattle.absval.specs.Windows.{window_known}
use Rattle.absmem.specs.Known.{Known}
use Rattle.absmem.specs.Describes.{Describes as StackDescribes}
use Rattle.helper.specs.Table.{arguments_of}
use Rattle.helper.specs.Results.{returned_range}
use Rattle.helper.proofs.Accepts.{calls_accept}
use Rattle.helper.proofs.Answered.{calls_return}
use Rattle.verify.specs.declared.reason.Reason.{Reason}
use Rattle.verify.specs.declared.reason.Reason.TheVariants as reason
use Rattle.verify.specs.declared.state.AbsState.{AbsState}
use Rattle.verify.specs.Describes.{RegistersDescribe, Describes}
use Rattle.verify.proofs.Outcomes.{GoesOn}
use Rattle.verify.specs.MemoryTable.{all_bytes, write_refused}
use Rattle.verify.specs.Calls.{IsBelow, IsPointer, window_from, source_reason, copy_reason, row_reason, reason_if, arguments_reason, window_reason, helper_reason, is_certain, known_behind}
use Rattle.verify.proofs.CallStates.{Puts, WordsStand, CopyStands, RowStands, WindowStands}
use Rattle.absmem.specs.Stacks.{put_bytes, spread_bytes}
use Rattle.verify.specs.Transfer.{written, copied, stack_behind, called}
use Rattle.absmem.proofs.TableLaws.{length-table}
use Rattle.verify.proofs.CallArguments.{or_parts, copy_arguments, row_arguments}
use Rattle.verify.proofs.CallWindows.{orders_found, words_found, certain_place}
use Rattle.verify.proofs.CallLemmas.{called_goes}
use Rattle.absval.proofs.SetRows.{within_has, within_set}
use Rattle.verify.proofs.Meanings.{AllWell}
use Rattle.verify.proofs.LoadRows.{bytes_there}
use Rattle.absval.proofs.WindowRows.{IsWindow, window_is}
use Rattle.absmem.proofs.StackRows.{put_described, spread_described}
use Rattle.verify.proofs.StoreRows.{written_of, there_is}
use Rattle.absval.specs.declared.value.AbsVal.TheVariants.{Unset, Number, Pointer}
use Rattle.verify.specs.Registers.{known_at}

-- ---- registers

AllZip-drop : {A B : Type 0} (R : A → B → Type 0) (n : ℕ) (xs : List A) (ys : List B) → AllZip R xs ys → AllZip R (drop n xs) (drop n ys)
AllZip-drop R zero xs ys z = z
AllZip-drop R (suc n) [] [] z = tt
AllZip-drop R (suc n) [] (y ∷ ys) z = absurd z
AllZip-drop R (suc n) (x ∷ xs) [] z = absurd z
AllZip-drop R (suc n) (x ∷ xs) (y ∷ ys) z = AllZip-drop R n xs ys z.1

all_drop : (n : ℕ) (known : List AbsVal) → AllWell known → AllWell (drop n known)
all_drop zero known all = all
all_drop (suc n) [] all = tt
all_drop (suc n) (a ∷ known) all = all_drop n known all.1

pub behind_puts : (p : ℕ × ℕ) (known : List AbsVal) (vs : List Value) → p.1 < 2 ^ 64 → RegistersDescribe known vs → Puts p.0 p.1 (known_behind (within p) known) vs
behind_puts p known vs small d n inside = (within_has p n small inside, (tt, (tt, (tt, (tt, (tt, AllZip-drop Contains 6 known vs d))))))

pub behind_well : (p : ℕ × ℕ) (known : List AbsVal) → p.0 ≤ p.1 → p.1 < 2 ^ 64 → AllWell known → AllWell (known_behind (within p) known)
behind_well p known le small all = (within_set p le small, (tt, (tt, (tt, (tt, (tt, all_drop 6 known all))))))

-- Results are 64-bit numbers.
results_fit : (helper : Helper) → ((returned_range helper).0 ≤ (returned_range helper).1) × ((returned_range helper).1 < 2 ^ 64)
results_fit BoardCopy = (omega arith, omega arith)
results_fit helper = (omega arith, omega arith)

-- ---- words that are copied

window_there : (region : Region) (low high distance : ℤ) (n : ℕ) (w : Window) → window_known region low high distance n ≡ Some w → IsWindow region low high distance n w
window_there region low high distance n w f = subst (λ (o : Option Window). IfSome o (IsWindow region low high distance n)) f (window_is region low high distance n)

words_stand : (known : Known) (offsets : Offsets) (counts : NumberSet) (w : Window) (cells : List Cell) (p : Value) (words : List ℕ) → length known.bytes ≡ 512 → StackDescribes known cells → length cells ≡ 512 →
    IsPointerIn Stack offsets.0 offsets.1 p → Has counts (length words) → IsWindow Stack offsets.0 offsets.1 (pos 0) (8 * greatest counts) w →
    WordsStand (written (is_certain offsets counts) (Some w) known) cells p words
words_stand known offsets counts w cells p words flags d long target has there = by_test (is_certain offsets counts) refl
  where
    few : 8 * length words ≤ 8 * greatest counts
    few = omega (arith, has.range.1)

    fits : w.place + w.size ≤ 512
    fits = there.fits

    by_test : (t : Bool) → t ≡ is_certain offsets counts → WordsStand (written t (Some w) known) cells p words
    by_test true e =
        words_found (put_bytes w.place w.size known) offsets.0 offsets.1 w.place w.size (8 * greatest counts) cells p words long target few fits there.lies
        (λ at bytes are size ge le.
        let here = certain_place offsets.0 offsets.1 counts.range.0 counts.range.1 w.place w.size (length words) at (sym e) has.range there.least there.greatest ge le in
        subst (λ (k : ℕ). StackDescribes (put_bytes w.place w.size known) (overwritten cells k bytes)) here.0 (put_described known w cells bytes fits flags long are (size ∙ here.1) d))
    by_test false e =
        words_found (spread_bytes w.place w.size known) offsets.0 offsets.1 w.place w.size (8 * greatest counts) cells p words long target few fits there.lies
        (λ at bytes are size ge le. spread_described known w cells bytes at fits flags long are ge (omega (arith, size, le)) d)

not_more : (n m : ℕ) (r : Reason) → reason_if (nat_lt n m) r ≡ None → m ≤ n
not_more n m r e = by_answer (nat_lt n m) refl e
  where
    by_answer : (t : Bool) → t ≡ nat_lt n m → reason_if t r ≡ None → m ≤ n
    by_answer true f g = cc
    by_answer false f g = ltb-false n m (sym f)

copy_stands : (slots target counts : AbsVal) (known : Known) → length known.bytes ≡ 512 → IsBelow 64 slots → IsPointer target → IsBelow 65 counts → copy_reason slots target counts ≡ None →
    CopyStands slots target counts known (copied target counts known)
copy_stands (Number slots) (Pointer region offsets) (Number counts) known flags b p c none cells slot v words d long at target has =
    let parts = or_parts (reason_if (nat_lt 64 (greatest slots + greatest counts)) reason.Argument) (write_refused region (window_from region offsets (8 * greatest counts))) none in
    let few : greatest slots + greatest counts ≤ 64 = not_more 64 (greatest slots + greatest counts) reason.Argument parts.0 in
    let found = written_of region (window_from region offsets (8 * greatest counts)) parts.1 in
    let there = there_is region offsets.0 offsets.1 (pos 0) (8 * greatest counts) found.1 found.0 found.2 in
    let stack : IsPointerIn Stack offsets.0 offsets.1 v = subst (λ (r : Region). IsPointerIn r offsets.0 offsets.1 v) found.0 target in
    let most : slot ≤ greatest slots = at.range.1 in
    let count : length words ≤ greatest counts = has.range.1 in (
      omega arith,
      subst (λ (o : Option Window). WordsStand (written (is_certain offsets counts) o known) cells v words) (sym found.2)
          (words_stand known offsets counts found.1 cells v words flags d long stack has there),
    )
copy_stands Unset target counts known flags b p c none cells slot v words d long at there has = absurd b
copy_stands (Pointer region offsets) target counts known flags b p c none cells slot v words d long at there has = absurd b
copy_stands (Number s) Unset counts known flags b p c none cells slot v words d long at there has = absurd p
copy_stands (Number s) (Number n) counts known flags b p c none cells slot v words d long at there has = absurd p
copy_stands (Number s) (Pointer region offsets) Unset known flags b p c none cells slot v words d long at there has = absurd c
copy_stands (Number s) (Pointer region offsets) (Pointer other from) known flags b p c none cells slot v words d long at there has = absurd c

-- ---- orders that are sent

abbrev Source : Known → Region → Option Window → Type 0
Source known region o = (w : Window) × (o ≡ Some w) × (region ≡ Stack → all_bytes known.bytes w.place w.size ≡ true)

is_tested : (t : Bool) → (if t then None else Some reason.StackUnset) ≡ None → t ≡ true
is_tested true e = refl
is_tested false e = cc

source_of : (known : Known) (region : Region) (o : Option Window) → source_reason known region o ≡ None → Source known region o
source_of known Context None e = cc
source_of known Stack None e = cc
source_of known Context (Some w) e = (w, refl, λ same. absurd cc)
source_of known Stack (Some w) e = (w, refl, λ same. is_tested (all_bytes known.bytes w.place w.size) e)

row_stands : (source counts : AbsVal) (known : Known) → IsPointer source → IsBelow 14 counts → row_reason known source counts ≡ None → RowStands source counts known
row_stands (Pointer region offsets) (Number counts) known p c none context cells v count ctx d long target has =
    let found = source_of known region (window_from region offsets (4 * greatest counts)) none in
    let there = window_there region offsets.0 offsets.1 (pos 0) (4 * greatest counts) found.0 found.1 in
    let room : found.0.place + found.0.size ≤ room_of region = there.fits in
    orders_found region offsets.0 offsets.1 found.0.place found.0.size (4 * greatest counts) count context cells v ctx target (omega (arith, has.range.1)) room there.lies
    (λ e at n ge le. let fits : found.0.place + found.0.size ≤ 512 = subst (λ (r : Region). found.0.place + found.0.size ≤ room_of r) e room in
    bytes_there known cells found.0 at n d long fits (found.2 e) ge le)
row_stands Unset counts known p c none context cells v count ctx d long there has = absurd p
row_stands (Number n) counts known p c none context cells v count ctx d long there has = absurd p
row_stands (Pointer region offsets) Unset known p c none context cells v count ctx d long there has = absurd c
row_stands (Pointer region offsets) (Pointer other from) known p c none context cells v count ctx d long there has = absurd c

-- ---- calls

windows_stand : (helper : Helper) (a : AbsState) → length a.stack.bytes ≡ 512 → arguments_reason (arguments_of helper) 1 a.registers ≡ None → window_reason helper a ≡ None →
    WindowStands helper a (stack_behind helper a)
windows_stand BoardCopy a flags e f =
    let known = copy_arguments a.registers e in
    copy_stands (known_at a.registers 1) (known_at a.registers 2) (known_at a.registers 3) a.stack flags known.0 known.1 known.2 f
windows_stand SendRow a flags e f =
    let known = row_arguments a.registers e in
    (refl, row_stands (known_at a.registers 2) (known_at a.registers 3) a.stack known.0 known.1 f)
windows_stand helper a flags e f = refl

pub call_goes : (o : Option Helper) (a : AbsState) (context : List ℕ) (relay : Relay) (s : State) → IsSetting context relay → Describes a s → length a.stack.bytes ≡ 512 → helper_reason o a ≡ None →
    GoesOn (called o a) (s.unit + 1) (semantics.called context relay s o)
call_goes None a context relay s setting d flags none = absurd cc
call_goes (Some helper) a context relay s setting d flags none =
    let parts = or_parts (arguments_reason (arguments_of helper) 1 a.registers) (window_reason helper a) none in
    called_goes helper a (called (Some helper) a) (returned_range helper).0 (returned_range helper).1 context relay s setting d parts.0 (calls_accept helper) (calls_return helper)
    (windows_stand helper a flags parts.0 parts.1) (behind_puts (returned_range helper) a.registers s.registers (results_fit helper).1 d.registers)

-- ---- what is known is well-formed

written_flags : (certain : Bool) (o : Option Window) (known : Known) → length known.bytes ≡ 512 → length (written certain o known).bytes ≡ 512
written_flags certain None known flags = flags
written_flags true (Some w) known flags = length-table 512 _
written_flags false (Some w) known flags = length-table 512 _

copied_flags : (target counts : AbsVal) (known : Known) → length known.bytes ≡ 512 → length (copied target counts known).bytes ≡ 512
copied_flags Unset counts known flags = flags
copied_flags (Number n) counts known flags = flags
copied_flags (Pointer region offsets) Unset known flags = flags
copied_flags (Pointer region offsets) (Pointer other from) known flags = flags
copied_flags (Pointer region offsets) (Number counts) known flags = written_flags (is_certain offsets counts) (window_from region offsets (8 * greatest counts)) known flags

pub behind_flags : (helper : Helper) (a : AbsState) → length a.stack.bytes ≡ 512 → length (stack_behind helper a).bytes ≡ 512
behind_flags BoardCopy a flags = copied_flags (known_at a.registers 2) (known_at a.registers 3) a.stack flags
behind_flags helper a flags = flags

pub call_well : (o : Option Helper) (a : AbsState) → AllWell a.registers → AllWell (called o a).registers
call_well None a all = all
call_well (Some helper) a all = let fit = results_fit helper in behind_well (returned_range helper) a.registers fit.0 fit.1 all
