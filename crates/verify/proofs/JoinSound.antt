-- A join describes each state that one of its two parts describes. Also what is known at the entry.
use Rattle.std.proofs.Common.{◌≡◌, ◌∙◌, ℕ, suc, ℤ, pos, ◌<◌, ◌≤◌, List, [], ◌∷◌, length, get_or, replicate, Bool, true, false, refl, sym, subst, arith, ⊎_elim}
use Rattle.std.specs.Prelude.{◌≤ℤ◌, ◌==◌, ◌&&◌, if◌then◌else◌}
use Rattle.std.specs.Ordering.{int_eq}
use Rattle.std.proofs.lemmas.Int.{ints}
use Rattle.std.proofs.lemmas.List.{length-replicate}
use Rattle.std.proofs.lemmas.Bool.{eqb-true, cases_lt}
use Rattle.std.proofs.lemmas.Bool.Decides.{Decides-int_eq}
use Rattle.std.proofs.Math.ListN.{get_or-eq_default}
use Rattle.semantics.specs.declared.value.Region.{Region}
use Rattle.semantics.specs.declared.value.Value.{Value}
use Rattle.semantics.specs.declared.value.Cell.{Cell}
use Rattle.semantics.specs.declared.value.Cell.TheVariants.{Empty}
use Rattle.semantics.specs.State.{State, Outbox, entry, value_at}
use Rattle.semantics.specs.Memory.{is_same_region}
use Rattle.absval.specs.Contains.{Contains}
use Rattle.absval.specs.Table.{joined}
use Rattle.absmem.proofs.Keeping.{is_byte_and_right}
use Rattle.absmem.specs.declared.spill.Spill.{Spill}
use Rattle.absmem.specs.declared.spill.Spill.TheVariants.{Free, Whole}
use Rattle.absmem.specs.Known.{byte_at, spill_at, joined_spill}
use Rattle.absmem.specs.Describes.{IsByteIf, cell_at, StandsAt}
use Rattle.absmem.proofs.Keeping.{described_left}
use Rattle.verify.specs.declared.state.AbsState.{AbsState}
use Rattle.verify.specs.Describes.{RegistersDescribe, Describes}
use Rattle.verify.specs.Registers.{known_at, joined_all}
use Rattle.verify.specs.Knowledge.{at_entry, met}
use Rattle.absmem.proofs.TableLaws.{length-table, table_at}
use Rattle.verify.proofs.Zips.{AllZip-length}
use Rattle.verify.proofs.Meanings.{AllWell, meant_at, stands_at}
use Rattle.absval.proofs.ValueRows.{IsWell, joined_meant, left_stands, right_stands, same_region}
use Rattle.verify.proofs.StepSound.{IsMeant}
use Rattle.absval.specs.declared.value.AbsVal.TheVariants.{Unset}
use Rattle.absval.specs.declared.value.AbsVal.{AbsVal}

-- ---- registers, by what is known of each

pub values_well : (es : List AbsVal) → ((k : ℕ) → k < length es → IsWell (get_or es k Unset)) → AllWell es
values_well [] f = tt
values_well (e ∷ es) f = (f 0 (omega arith), values_well es (λ k lt. f (suc k) (omega arith)))

pub values_describe : (es : List AbsVal) (vs : List Value) → length es ≡ length vs → ((k : ℕ) → k < length es → Contains (get_or es k Unset) (value_at vs k)) → RegistersDescribe es vs
values_describe [] [] long f = tt
values_describe [] (v ∷ vs) long f = absurd (omega arith)
values_describe (e ∷ es) [] long f = absurd (omega arith)
values_describe (e ∷ es) (v ∷ vs) long f = (f 0 (omega arith), values_describe es vs (omega arith) (λ k lt. f (suc k) (omega arith)))

abbrev both_known : AbsState → AbsState → ℕ → AbsVal
both_known a b r = joined (known_at a.registers r) (known_at b.registers r)

all_count : (a b : AbsState) → length (joined_all a.registers b.registers) ≡ 11
all_count a b = length-table 11 (both_known a b)

all_at : (a b : AbsState) (k : ℕ) → k < 11 → get_or (joined_all a.registers b.registers) k Unset ≡ both_known a b k
all_at a b k lt = table_at 11 (both_known a b) k Unset lt

eleven : (a : AbsState) (s : State) → IsMeant a → Describes a s → length s.registers ≡ 11
eleven a s m d = sym (AllZip-length Contains a.registers s.registers d.registers) ∙ m.count

-- ---- stacks

and_first : (s t : Bool) → s ≡ false → (s && t) ≡ false
and_first true t e = cc
and_first false t e = refl

stands_right : (cells : List Cell) (b : ℕ) (one other : Spill) → StandsAt cells b other → StandsAt cells b (joined_spill one other)
stands_right cells b Free other h = tt
stands_right cells b (Whole shift region offset) Free h = tt
stands_right cells b (Whole shift region offset) (Whole s r o) h = by_tests (shift == s) (is_same_region region r) (int_eq offset o) refl refl refl
  where
    by_tests : (t u v : Bool) → t ≡ (shift == s) → u ≡ is_same_region region r → v ≡ int_eq offset o → StandsAt cells b (if t && u && v then Whole shift region offset else Free)
    by_tests true true true e f g =
        let same : shift ≡ s = eqb-true shift s (sym e) in
        let there : region ≡ r = same_region region r (sym f) in
        let at : offset ≡ o = (Decides-int_eq offset o).0 (sym g) in
        subst (λ (n : ℕ). StandsAt cells b (Whole n region offset)) (sym same)
        (subst (λ (q : Region). StandsAt cells b (Whole s q offset)) (sym there) (subst (λ (z : ℤ). StandsAt cells b (Whole s r z)) (sym at) h))
    by_tests true true false e f g = tt
    by_tests true false v e f g = tt
    by_tests false u v e f g = tt

met_bytes : (a b : AbsState) (k : ℕ) → length a.stack.bytes ≡ 512 → byte_at (met a b).stack.bytes k ≡ (byte_at a.stack.bytes k && byte_at b.stack.bytes k)
met_bytes a b k flags = ⊎_elim
    (λ room. table_at 512 (λ (i : ℕ). byte_at a.stack.bytes i && byte_at b.stack.bytes i) k false room)
    (λ over. let out : length a.stack.bytes ≤ k = omega arith in
    let also : length (met a b).stack.bytes ≤ k = omega (arith, length-table 512 (λ (i : ℕ). byte_at a.stack.bytes i && byte_at b.stack.bytes i)) in
    get_or-eq_default (met a b).stack.bytes false also ∙ sym (and_first (byte_at a.stack.bytes k) (byte_at b.stack.bytes k) (get_or-eq_default a.stack.bytes false out)))
    (cases_lt k 512)

met_spills : (a b : AbsState) (n : ℕ) → n < 64 → spill_at (met a b).stack.spills n ≡ joined_spill (spill_at a.stack.spills n) (spill_at b.stack.spills n)
met_spills a b n lt = table_at 64 (λ (i : ℕ). joined_spill (spill_at a.stack.spills i) (spill_at b.stack.spills i)) n Free lt

-- ---- states

pub met_meant : (a b : AbsState) → IsMeant a → IsMeant b → IsMeant (met a b)
met_meant a b m n = record {
  count = all_count a b;
  well = values_well (joined_all a.registers b.registers)
      (λ k lt. let less : k < 11 = omega (arith, all_count a b) in
      subst IsWell (sym (all_at a b k less)) (joined_meant (known_at a.registers k) (known_at b.registers k) (meant_at a.registers k m.well) (meant_at b.registers k n.well)));
  flags = length-table 512 _;
}

pub met_left : (a b : AbsState) (s : State) → IsMeant a → IsMeant b → Describes a s → Describes (met a b) s
met_left a b s m n d = record {
  registers = values_describe (joined_all a.registers b.registers) s.registers (all_count a b ∙ sym (eleven a s m d))
      (λ k lt. let less : k < 11 = omega (arith, all_count a b) in
      subst (λ (e : AbsVal). Contains e (value_at s.registers k)) (sym (all_at a b k less))
      (left_stands (known_at a.registers k) (known_at b.registers k) (value_at s.registers k) (meant_at a.registers k m.well) (meant_at b.registers k n.well)
      (stands_at a.registers s.registers k d.registers)));
  stack = described_left a.stack b.stack (met a b).stack s.cells (λ k. met_bytes a b k m.flags) (met_spills a b) d.stack;
  size = d.size;
}

pub met_right : (a b : AbsState) (s : State) → IsMeant a → IsMeant b → Describes b s → Describes (met a b) s
met_right a b s m n d = record {
  registers = values_describe (joined_all a.registers b.registers) s.registers (all_count a b ∙ sym (eleven b s n d))
      (λ k lt. let less : k < 11 = omega (arith, all_count a b) in
      subst (λ (e : AbsVal). Contains e (value_at s.registers k)) (sym (all_at a b k less))
      (right_stands (known_at a.registers k) (known_at b.registers k) (value_at s.registers k) (meant_at a.registers k m.well) (meant_at b.registers k n.well)
      (stands_at b.registers s.registers k d.registers)));
  stack = record {
    bytes = λ k. subst (λ (t : Bool). IsByteIf t (cell_at s.cells k)) (sym (met_bytes a b k m.flags)) (is_byte_and_right (byte_at a.stack.bytes k) (byte_at b.stack.bytes k) (cell_at s.cells k) (d.stack.bytes k));
    spills = λ i lt. subst (λ (p : Spill). StandsAt s.cells i p) (sym (met_spills a b i lt)) (stands_right s.cells i (spill_at a.stack.spills i) (spill_at b.stack.spills i) (d.stack.spills i lt));
  };
  size = d.size;
}

-- ---- the entry

here_at : (z : ℤ) → z ≤ℤ z
here_at z = omega (arith, ints)

pub entry_meant : IsMeant at_entry
entry_meant = record {
  count = refl;
  well = (tt, (tt, (tt, (tt, (tt, (tt, (tt, (tt, (tt, (tt, (tt, tt)))))))))));
  flags = length-table 512 (λ (k : ℕ). false);
}

unnoted : (k : ℕ) → byte_at at_entry.stack.bytes k ≡ false
unnoted k = ⊎_elim (λ room. table_at 512 (λ (i : ℕ). false) k false room)
    (λ over. let also : length at_entry.stack.bytes ≤ k = omega (arith, length-table 512 (λ (i : ℕ). false)) in get_or-eq_default at_entry.stack.bytes false also) (cases_lt k 512)

pub entry_described : (outbox : Outbox) → Describes at_entry (entry outbox)
entry_described outbox = record {
  registers = (tt, ((refl, here_at (pos 0), here_at (pos 0)), (tt, (tt, (tt, (tt, (tt, (tt, (tt, (tt, ((refl, here_at (pos 0), here_at (pos 0)), tt)))))))))));
  stack = record {
    bytes = λ k. subst (λ (t : Bool). IsByteIf t (cell_at (replicate 512 Empty) k)) (sym (unnoted k)) tt;
    spills = λ b lt. subst (λ (p : Spill). StandsAt (replicate 512 Empty) b p) (sym (table_at 64 (λ (i : ℕ). Free) b Free lt)) tt;
  };
  size = length-replicate 512 Empty;
}
