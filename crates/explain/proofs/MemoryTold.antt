-- Each rejection of a load or a store has a sentence.
use Rattle.std.proofs.Common.{◌≡◌, ℕ, List, [], ◌∷◌, Bool, true, false, Option, Some, None, Result, refl, sym, ap, subst}
use Rattle.std.specs.Prelude.{ℤ, IsSome, if◌then◌else◌}
use Rattle.std.specs.Result.{result_err}
use Rattle.word.specs.declared.Narrow.{Narrow}
use Rattle.insn.specs.declared.insn.Insn.{Insn}
use Rattle.insn.specs.declared.insn.Insn.TheVariants.{Load, LoadSigned, Store}
use Rattle.insn.specs.declared.insn.Operand.{Operand}
use Rattle.insn.specs.declared.insn.Operand.TheVariants.{Register, Immediate}
use Rattle.insn.specs.declared.insn.Size.{Size}
use Rattle.insn.specs.Insn.{bytes_of, part_bytes}
use Rattle.semantics.specs.declared.value.Region.{Region}
use Rattle.semantics.specs.declared.value.Region.TheVariants.{Stack, Context}
use Rattle.absval.specs.declared.number_set.NumberSet.{NumberSet}
use Rattle.absval.specs.declared.value.Offsets.{Offsets}
use Rattle.absval.specs.declared.value.AbsVal.{AbsVal}
use Rattle.absval.specs.declared.value.AbsVal.TheVariants.{Unset, Number, Pointer}
use Rattle.absval.specs.declared.windows.Window.{Window}
use Rattle.absval.specs.Table.{loaded_known}
use Rattle.absval.specs.Windows.{window_known}
use Rattle.verify.specs.declared.reason.Reason.{Reason}
use Rattle.verify.specs.declared.reason.Reason.TheVariants as reason
use Rattle.verify.specs.declared.state.AbsState.{AbsState}
use Rattle.verify.specs.Registers.{known_at, operand_known}
use Rattle.verify.specs.Reasons.{is_unset, is_pointer, unless}
use Rattle.verify.specs.MemoryTable.{unset_in, spilled, pointer_or, load_from, load_given, all_numbers, signed_from, signed_load_given, is_storable, write_refused, store_refused, unset_or, frame_or, load_reason, signed_load_reason, store_reason}
use Rattle.explain.specs.declared.reach.Reach.{Reach}
use Rattle.helper.specs.Reads.{of_operand}
use Rattle.explain.specs.Shortfalls.{unset_at, first_unset, stored_at, store_misuse}
use Rattle.explain.proofs.RegistersTold.{or_first, or_second, Told, one_unset, register_unset, operand_unset}
use Rattle.explain.proofs.ReachesTold.{Accesses, bounds_told, cells_told, write_told, frame_told, unless_told}

-- ---- loads

given_told : (i : Insn) (a : AbsState) (p : Option AbsVal) (given : Result AbsVal Reason) → Told i a (result_err given) → Told i a (result_err (pointer_or p given))
given_told i a None given h = h
given_told i a (Some pointer) given h = tt

from_told : (i : Insn) (a : AbsState) (size : Size) (reach : Reach) (region : Region) (o : Offsets) (window : Option Window) → Accesses i a reach region o →
    window_known region o.0 o.1 reach.distance reach.size ≡ window → Told i a (result_err (load_from a.stack size region window))
from_told i a size reach region o None h f = bounds_told i a reach region o h
from_told i a size reach Context o (Some w) h f = tt
from_told i a size reach Stack o (Some w) h f =
    given_told i a (spilled a.stack size w) (unless (unset_in a.stack Stack w) (loaded_known size))
    (unless_told i a (unset_in a.stack Stack w) (loaded_known size) (cells_told i a reach Stack o w h f))

pub load_told : (a : AbsState) (size : Size) (dst base : ℕ) (offset : ℤ) → Told (Load size dst base offset) a (load_reason a size dst base offset)
load_told a size dst base offset = by_value (known_at a.registers base) refl
  where
    by_value : (v : AbsVal) → known_at a.registers base ≡ v →
        Told (Load size dst base offset) a (unset_or v (frame_or dst (result_err (load_given a.stack size v offset))))
    by_value Unset e = one_unset a.registers base (ap is_unset e)
    by_value (Number n) e = frame_told (Load size dst base offset) a dst (Some reason.PointerUse) refl
    by_value (Pointer region o) e =
        frame_told (Load size dst base offset) a dst (result_err (load_from a.stack size region (window_known region o.0 o.1 offset (bytes_of size))))
        (from_told (Load size dst base offset) a size (record { base = base; distance = offset; size = bytes_of size }) region o (window_known region o.0 o.1 offset (bytes_of size))
        (record { by = refl; base_is = e }) refl)

signed_from_told : (i : Insn) (a : AbsState) (reach : Reach) (region : Region) (o : Offsets) (window : Option Window) → Accesses i a reach region o →
    window_known region o.0 o.1 reach.distance reach.size ≡ window → Told i a (result_err (signed_from a.stack region window))
signed_from_told i a reach region o None h f = bounds_told i a reach region o h
signed_from_told i a reach region o (Some w) h f = unless_told i a (unset_in a.stack region w) all_numbers (cells_told i a reach region o w h f)

pub signed_load_told : (a : AbsState) (part : Narrow) (dst base : ℕ) (offset : ℤ) → Told (LoadSigned part dst base offset) a (signed_load_reason a part dst base offset)
signed_load_told a part dst base offset = by_value (known_at a.registers base) refl
  where
    by_value : (v : AbsVal) → known_at a.registers base ≡ v →
        Told (LoadSigned part dst base offset) a (unset_or v (frame_or dst (result_err (signed_load_given a.stack part v offset))))
    by_value Unset e = one_unset a.registers base (ap is_unset e)
    by_value (Number n) e = frame_told (LoadSigned part dst base offset) a dst (Some reason.PointerUse) refl
    by_value (Pointer region o) e =
        frame_told (LoadSigned part dst base offset) a dst (result_err (signed_from a.stack region (window_known region o.0 o.1 offset (part_bytes part))))
        (signed_from_told (LoadSigned part dst base offset) a (record { base = base; distance = offset; size = part_bytes part }) region o
        (window_known region o.0 o.1 offset (part_bytes part)) (record { by = refl; base_is = e }) refl)

-- ---- stores

-- A pointer that is stored is in a register.
stored_told : (registers : List AbsVal) (base : ℕ) (source : Operand) → is_pointer (operand_known registers source) ≡ true → IsSome (stored_at registers base (of_operand source))
stored_told registers base (Register r) h = refl
stored_told registers base (Immediate n) h = absurd cc

pub store_told : (a : AbsState) (size : Size) (base : ℕ) (offset : ℤ) (source : Operand) → Told (Store size base offset source) a (store_reason a size base offset source)
store_told a size base offset source = by_values (known_at a.registers base) (operand_known a.registers source) refl refl
  where
    source_unset : operand_known a.registers source ≡ Unset → IsSome (first_unset a.registers (Some base ∷ of_operand source ∷ None ∷ []))
    source_unset f =
        or_second (unset_at a.registers (Some base)) _ (or_first (unset_at a.registers (of_operand source)) None (operand_unset a.registers source (ap is_unset f)))

    no_base_told : (n : NumberSet) → known_at a.registers base ≡ Number n → IsSome (store_misuse a.registers base (of_operand source) (known_at a.registers base))
    no_base_told n e = subst (λ (v : AbsVal). IsSome (store_misuse a.registers base (of_operand source) v)) (sym e) refl

    by_values : (v u : AbsVal) → known_at a.registers base ≡ v → operand_known a.registers source ≡ u →
        Told (Store size base offset source) a (unset_or v (unset_or u (store_refused size v offset u)))
    by_values Unset u e f = or_first (unset_at a.registers (Some base)) _ (register_unset a.registers base (ap is_unset e))
    by_values (Number n) Unset e f = source_unset f
    by_values (Number n) (Number m) e f = no_base_told n e
    by_values (Number n) (Pointer region o) e f = no_base_told n e
    by_values (Pointer region o) Unset e f = source_unset f
    by_values (Pointer region o) (Number n) e f =
        write_told (Store size base offset source) a (record { base = base; distance = offset; size = bytes_of size }) region o (window_known region o.0 o.1 offset (bytes_of size))
        (record { by = refl; base_is = e })
    by_values (Pointer region o) (Pointer other kept) e f = by_test (is_storable size o kept)
      where
        by_test : (t : Bool) → Told (Store size base offset source) a (if t then write_refused region (window_known region o.0 o.1 offset 8) else Some reason.PointerUse)
        by_test true =
            write_told (Store size base offset source) a (record { base = base; distance = offset; size = bytes_of size }) region o (window_known region o.0 o.1 offset 8)
            (record { by = refl; base_is = e })
        by_test false =
            subst (λ (v : AbsVal). IsSome (store_misuse a.registers base (of_operand source) v)) (sym e) (stored_told a.registers base source (ap is_pointer f))
